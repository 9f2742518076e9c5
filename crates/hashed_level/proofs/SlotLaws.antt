-- Lemmas about what specs/SlotLaws.antt defines.
use Rattle.std.specs.Prelude.{◌≡◌, ◌≢◌, ℕ, zero, suc, ◌+◌, ◌≤◌, ◌<◌, ◌==◌, true, false, if◌then◌else◌, List, [], ◌∷◌, length, None, refl}
use Rattle.std.proofs.Common.{◌∙◌, sym, ap, subst, arith, inl, inr}
use Rattle.std.proofs.lemmas.Bool.Decides.{nat_tests, eqb_tells}
use Rattle.level_core.specs.declared.span.Entry.{Entry}
use Rattle.level_core.specs.Entries.{one, Lacks, StandsAt, position_of}
use Rattle.hashed_level.specs.Slots.{empty_slot, with_slot, filled}
use Rattle.hashed_level.specs.SlotLaws.{entry_at, slot_cases, position_past, filled_lacks, Free, filled_same, Puts}

lacks_none : (x : ℕ) (es : List Entry) → Lacks x es → position_of es x ≡ None
lacks_none x [] h = refl
lacks_none x (e ∷ es) h = position_past e es x h.0 ∙ lacks_none x es h.1

pub filled_none : (f : ℕ → ℕ) (x count pos : ℕ) → ((q : ℕ) → pos ≤ q → q < pos + count → f q ≢ empty_slot → f q ≢ x)
    → position_of (filled f count pos) x ≡ None
filled_none f x count pos h = lacks_none x (filled f count pos) (filled_lacks f x count pos h)

free_next : (f : ℕ → ℕ) (count pos : ℕ) → Free f (pos + 1) (pos + 1 + count) → Free f pos (pos + suc count)
free_next f count pos r = let l = r.from in let m =
    r.below in record { slot = r.slot; from = omega (arith, l); below = omega (arith, m); empty = r.empty }

-- fewer entries than slots leave one empty
pub filled_free : (f : ℕ → ℕ) (count pos : ℕ) → length (filled f count pos) < count → Free f pos (pos + count)
filled_free f zero pos h = absurd (omega (arith, h))
filled_free f (suc count) pos h = slot_cases (λ es. length es < suc count
    → Free f pos (pos + suc count)) (f pos) pos (filled f count (pos + 1))
    (λ e _. record { slot = pos; from = omega arith; below = omega arith; empty = e })
    (λ _ l. free_next f count pos (filled_free f count (pos + 1) (omega (arith, l)))) h

pub filled_child : (f : ℕ → ℕ) (count pos q : ℕ) (e : Entry) → StandsAt q e (filled f count pos)
    → (e.child ≡ one q) × (pos ≤ q) × (q < pos + count)
filled_child f zero pos q e h = absurd h
filled_child f (suc count) pos q e h = slot_cases (λ es. StandsAt q e es
    → (e.child ≡ one q) × (pos ≤ q) × (q < pos + suc count)) (f pos) pos (filled f count (pos + 1))
    (λ _ s. let k = filled_child f count (pos + 1) q e s in (k.0, omega (arith, k.1), omega (arith, k.2)))
    (λ _. elim [
      | inl s ↦ (sym (ap (λ g. g.child) s.1) ∙ ap one s.0, omega (arith, s.0), omega (arith, s.0))
      | inr s ↦ let k = filled_child f count (pos + 1) q e s in (k.0, omega (arith, k.1), omega (arith, k.2))
    ]) h

pub is_empty_yes : (x : ℕ) → (x == empty_slot) ≡ true → x ≡ empty_slot
is_empty_yes x is = grind (arith, nat_tests, is)

pub is_empty_no : (x : ℕ) → (x == empty_slot) ≡ false → x ≢ empty_slot
is_empty_no x is = grind (arith, nat_tests, is)

longer_slot : (v u pos : ℕ) (es : List Entry) → length (with_slot v pos es) ≤ length (with_slot u pos es) + 1
longer_slot v u pos es = slot_cases (λ fs. length fs ≤ length (with_slot u pos es) + 1) v pos es
    (λ _. slot_cases (λ gs. length es ≤ length gs + 1) u pos es (λ _. omega arith) (λ _. omega arith))
    (λ _. slot_cases (λ gs. length (entry_at v pos ∷ es) ≤ length gs + 1) u pos es (λ _. omega arith) (λ _. omega arith))

longer_behind : (v pos : ℕ) (es fs : List Entry) → length es ≤ length fs + 1 → length (with_slot v pos es) ≤ length (with_slot v pos fs) + 1
longer_behind v pos es fs h =
    elim (v == empty_slot) as (λ b. length (if b then es else entry_at v pos ∷ es) ≤ length (if b then fs else entry_at v pos ∷ fs) + 1) [
      | true ↦ h
      | false ↦ omega (arith, h)
    ]

-- at most one entry more
pub filled_longer : (f g : ℕ → ℕ) (slot x count pos : ℕ) → Puts f g slot x → length (filled g count pos) ≤ length (filled f count pos) + 1
filled_longer f g slot x zero pos p = omega arith
filled_longer f g slot x (suc count) pos p = elim (eqb_tells pos slot) [
  | inl k ↦
      let here = k.1 in
      let rest : filled g count (pos + 1) ≡ filled f count (pos + 1) =
      filled_same f g count (pos + 1) (λ q l m. p.others q (λ is. omega (arith, l, is, here))) in
      subst (λ es. length (with_slot (g pos) pos es) ≤ length (with_slot (f pos) pos (filled f count (pos + 1))) + 1) (sym rest)
      (longer_slot (g pos) (f pos) pos (filled f count (pos + 1)))
  | inr k ↦
      subst (λ v. length (with_slot v pos (filled g count (pos + 1))) ≤ length (with_slot (f pos) pos (filled f count (pos + 1))) + 1)
      (sym (p.others pos k.1))
      (longer_behind (f pos) pos (filled g count (pos + 1)) (filled f count (pos + 1)) (filled_longer f g slot x count (pos + 1) p))
]
