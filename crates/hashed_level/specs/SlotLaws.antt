-- Laws of slots and of the search for a coordinate in a block.
use Rattle.std.specs.Prelude.{◌≡◌, ◌≢◌, ℕ, zero, suc, ◌+◌, ◌≤◌, ◌<◌, ◌==◌}
use Rattle.std.specs.Prelude.{Bool, true, false, if◌then◌else◌, List, [], ◌∷◌, Some, None}
use Rattle.std.specs.Prelude.{refl}
use Rattle.std.proofs.Common.{◌∙◌, sym, ap, subst, arith, inl, inr}
use Rattle.std.proofs.lemmas.Bool.Decides.{nat_tests, eqb_tells}
use Rattle.level_core.specs.declared.span.Entry.{Entry}
use Rattle.level_core.specs.Entries.{one, Placed, AllBelow, Lacks, Distinct, Single, coord_at, position_of}
use Rattle.level_core.proofs.EntryLaws.{coord_here, coord_past, coord_before}
use Rattle.hashed_level.specs.Slots.{empty_slot, with_slot, filled, coord_of}

abbrev pub entry_at : ℕ → ℕ → Entry
entry_at x pos = record { coord = x; child = one pos }

pub slot_cases : (P : List Entry → Type 0) (x pos : ℕ) (es : List Entry) → (x ≡ empty_slot → P es)
    → (x ≢ empty_slot → P (entry_at x pos ∷ es)) → P (with_slot x pos es)
slot_cases P x pos es f g = by_test (x == empty_slot) refl
  where
    by_test : (b : Bool) → (x == empty_slot) ≡ b → P (if b then es else entry_at x pos ∷ es)
    by_test true is = f (grind (arith, nat_tests, is))
    by_test false is = g (grind (arith, nat_tests, is))

pub coord_none : (x : ℕ) → x ≡ empty_slot → coord_of x ≡ None
coord_none x h = let is : (x == empty_slot) ≡ true = grind (arith, nat_tests) in ap (λ b. if b then None else Some x) is

pub coord_some : (x : ℕ) → x ≢ empty_slot → coord_of x ≡ Some x
coord_some x h = let is : (x == empty_slot) ≡ false = grind (arith, nat_tests) in ap (λ b. if b then None else Some x) is

-- a slot without a coordinate is empty
pub none_is_empty : (y : ℕ) → coord_of y ≡ None → y ≡ empty_slot
none_is_empty y h = by_test (y == empty_slot) refl h
  where
    some_none : (z : ℕ) → Some z ≡ None → ⊥
    some_none z e = cc

    by_test : (b : Bool) → (y == empty_slot) ≡ b → (if b then None else Some y) ≡ None → y ≡ empty_slot
    by_test true is h = grind (arith, nat_tests, is)
    by_test false is h = absurd (some_none y h)

-- a slot's coordinate tells its word
pub same_words : (x y : ℕ) → coord_of x ≡ coord_of y → x ≡ y
same_words x y h = by_tests (x == empty_slot) (y == empty_slot) refl refl h
  where
    some_none : (z : ℕ) → Some z ≡ None → ⊥
    some_none z e = cc

    some_same : (y z : ℕ) → Some y ≡ Some z → y ≡ z
    some_same y z e = cc

    by_tests : (a b : Bool) → (x == empty_slot) ≡ a → (y == empty_slot) ≡ b → (if a then None else Some x) ≡ (if b then None else Some y)
        → x ≡ y
    by_tests true true is at h = grind (arith, nat_tests, is, at)
    by_tests true false is at h = absurd (some_none y (sym h))
    by_tests false true is at h = absurd (some_none x h)
    by_tests false false is at h = some_same x y h

position_here : (e : Entry) (es : List Entry) (x : ℕ) → e.coord ≡ x → position_of (e ∷ es) x ≡ Some e.child.lo
position_here e es x h = let is : (e.coord == x) ≡ true = grind (arith, nat_tests) in
    ap (λ b. if b then Some e.child.lo else position_of es x) is

pub position_past : (e : Entry) (es : List Entry) (x : ℕ) → e.coord ≢ x → position_of (e ∷ es) x ≡ position_of es x
position_past e es x h = let is : (e.coord == x) ≡ false = grind (arith, nat_tests) in
    ap (λ b. if b then Some e.child.lo else position_of es x) is

next_end : (count pos : ℕ) → pos + 1 + count ≡ pos + suc count
next_end count pos = omega arith

pub filled_placed : (f : ℕ → ℕ) (lo count pos : ℕ) → lo ≤ pos → Placed lo (pos + count) (filled f count pos)
filled_placed f lo zero pos h = omega (arith, h)
filled_placed f lo (suc count) pos h = slot_cases (Placed lo (pos + suc count)) (f pos) pos (filled f count (pos + 1))
    (λ _. subst (λ hi. Placed lo hi (filled f count (pos + 1))) (next_end count pos)
    (filled_placed f lo count (pos + 1) (omega (arith, h))))
    (λ _. (
      h,
      omega arith,
      subst (λ hi. Placed (pos + 1) hi (filled f count (pos + 1))) (next_end count pos)
          (filled_placed f (pos + 1) count (pos + 1) (omega arith)),
    ))

pub filled_single : (f : ℕ → ℕ) (count pos : ℕ) → Single (filled f count pos)
filled_single f zero pos = tt
filled_single f (suc count) pos = slot_cases Single (f pos) pos (filled f count (pos + 1)) (λ _. filled_single f count (pos + 1))
    (λ _. (refl, filled_single f count (pos + 1)))

pub filled_below : (f : ℕ → ℕ) (n count pos : ℕ) → ((q : ℕ) → pos ≤ q → q < pos + count → f q ≢ empty_slot → f q < n)
    → AllBelow n (filled f count pos)
filled_below f n zero pos h = tt
filled_below f n (suc count) pos h =
    let again = filled_below f n count (pos + 1) (λ q l m. h q (omega (arith, l)) (omega (arith, m))) in
    slot_cases (AllBelow n) (f pos) pos (filled f count (pos + 1)) (λ _. again) (λ e. (h pos (omega arith) (omega arith) e, again))

pub filled_lacks : (f : ℕ → ℕ) (x count pos : ℕ) → ((q : ℕ) → pos ≤ q → q < pos + count → f q ≢ empty_slot → f q ≢ x)
    → Lacks x (filled f count pos)
filled_lacks f x zero pos h = tt
filled_lacks f x (suc count) pos h =
    let again = filled_lacks f x count (pos + 1) (λ q l m. h q (omega (arith, l)) (omega (arith, m))) in
    slot_cases (Lacks x) (f pos) pos (filled f count (pos + 1)) (λ _. again) (λ e. (h pos (omega arith) (omega arith) e, again))

-- slots that are filled with one coordinate are one slot
abbrev pub Once : (ℕ → ℕ) → ℕ → ℕ → Type 0
Once f pos hi = (q r : ℕ) → pos ≤ q → q < hi → pos ≤ r → r < hi → f q ≢ empty_slot → f q ≡ f r → q ≡ r

pub filled_distinct : (f : ℕ → ℕ) (count pos : ℕ) → Once f pos (pos + count) → Distinct (filled f count pos)
filled_distinct f zero pos h = tt
filled_distinct f (suc count) pos h =
    let again = filled_distinct f count (pos + 1)
    (λ q r l m n o. h q r (omega (arith, l)) (omega (arith, m)) (omega (arith, n)) (omega (arith, o))) in
    slot_cases Distinct (f pos) pos (filled f count (pos + 1)) (λ _. again)
    (λ e. (
      filled_lacks f (f pos) count (pos + 1)
          (λ q l m _ same. let k = h pos q (omega arith) (omega arith) (omega (arith, l)) (omega (arith, m)) e (sym same) in
          omega (arith, k, l)),
      again,
    ))

filled_before : (f : ℕ → ℕ) (count pos q : ℕ) → q < pos → coord_at (filled f count pos) q ≡ None
filled_before f zero pos q h = refl
filled_before f (suc count) pos q h =
    let again = filled_before f count (pos + 1) q (omega (arith, h)) in
    slot_cases (λ es. coord_at es q ≡ None) (f pos) pos (filled f count (pos + 1)) (λ _. again)
    (λ _. coord_before (entry_at (f pos) pos) (filled f count (pos + 1)) q h ∙ again)

pub filled_coord : (f : ℕ → ℕ) (count pos q : ℕ) → pos ≤ q → q < pos + count → coord_at (filled f count pos) q ≡ coord_of (f q)
filled_coord f zero pos q h g = absurd (omega (arith, h, g))
filled_coord f (suc count) pos q h g = elim (eqb_tells q pos) [
  | inl k ↦ slot_cases (λ es. coord_at es q ≡ coord_of (f q)) (f pos) pos (filled f count (pos + 1))
      (λ e. filled_before f count (pos + 1) q (omega (arith, k.1)) ∙ sym (coord_none (f q) (ap f k.1 ∙ e)))
      (λ e. coord_here (entry_at (f pos) pos) (filled f count (pos + 1)) q h (omega (arith, k.1))
      ∙ sym (ap coord_of (ap f k.1) ∙ coord_some (f pos) e))
  | inr k ↦ slot_cases (λ es. coord_at es q ≡ coord_of (f q)) (f pos) pos (filled f count (pos + 1))
      (λ _. filled_coord f count (pos + 1) q (omega (arith, h, k.1)) (omega (arith, g)))
      (λ _. coord_past (entry_at (f pos) pos) (filled f count (pos + 1)) q (omega (arith, h, k.1))
      ∙ filled_coord f count (pos + 1) q (omega (arith, h, k.1)) (omega (arith, g)))
]

pub filled_position : (f : ℕ → ℕ) (count pos q x : ℕ) → pos ≤ q → q < pos + count → f q ≡ x → x ≢ empty_slot → Once f pos (pos + count)
    → position_of (filled f count pos) x ≡ Some q
filled_position f zero pos q x h g is e o = absurd (omega (arith, h, g))
filled_position f (suc count) pos q x h g is e o = elim (eqb_tells q pos) [
  | inl k ↦ slot_cases (λ es. position_of es x ≡ Some q) (f pos) pos (filled f count (pos + 1))
      (λ z. absurd (e (sym is ∙ ap f k.1 ∙ z)))
      (λ _. position_here (entry_at (f pos) pos) (filled f count (pos + 1)) x (sym (ap f k.1) ∙ is) ∙ ap Some (sym k.1))
  | inr k ↦
      let again = filled_position f count (pos + 1) q x (omega (arith, h, k.1)) (omega (arith, g)) is e
      (λ q r l m n t. o q r (omega (arith, l)) (omega (arith, m)) (omega (arith, n)) (omega (arith, t))) in
      slot_cases (λ es. position_of es x ≡ Some q) (f pos) pos (filled f count (pos + 1))
      (λ _. again)
      (λ z. position_past (entry_at (f pos) pos) (filled f count (pos + 1)) x
      (λ same. k.1 (sym (o pos q (omega arith) (omega arith) h g z (same ∙ sym is)))) ∙ again)
]

-- where no entry has a coordinate, no slot is filled with it
pub filled_without : (f : ℕ → ℕ) (x count pos : ℕ) → Lacks x (filled f count pos) → (q : ℕ) → pos ≤ q → q < pos + count
    → f q ≢ empty_slot → f q ≢ x
filled_without f x zero pos lacks q h g = absurd (omega (arith, h, g))
filled_without f x (suc count) pos lacks q h g = elim (eqb_tells q pos) [
  | inl k ↦ slot_cases (λ es. Lacks x es → f q ≢ empty_slot → f q ≢ x) (f pos) pos (filled f count (pos + 1))
      (λ z _ e. absurd (e (ap f k.1 ∙ z))) (λ _ l _ same. l.0 (sym (ap f k.1) ∙ same)) lacks
  | inr k ↦ slot_cases (λ es. Lacks x es → f q ≢ empty_slot → f q ≢ x) (f pos) pos (filled f count (pos + 1))
      (λ _ l. filled_without f x count (pos + 1) l q (omega (arith, h, k.1)) (omega (arith, g)))
      (λ _ l. filled_without f x count (pos + 1) l.1 q (omega (arith, h, k.1)) (omega (arith, g))) lacks
]

-- an empty slot
pub record Free (f : ℕ → ℕ) (pos hi : ℕ) : Type 0 where
  pub slot : ℕ
  pub from : pos ≤ slot
  pub below : slot < hi
  pub empty : f slot ≡ empty_slot

pub filled_same : (f g : ℕ → ℕ) (count pos : ℕ) → ((q : ℕ) → pos ≤ q → q < pos + count → g q ≡ f q)
    → filled g count pos ≡ filled f count pos
filled_same f g zero pos h = refl
filled_same f g (suc count) pos h = ap (λ x. with_slot x pos (filled g count (pos + 1))) (h pos (omega arith) (omega arith))
    ∙ ap (with_slot (f pos) pos) (filled_same f g count (pos + 1) (λ q l m. h q (omega (arith, l)) (omega (arith, m))))

pub filled_nothing : (f : ℕ → ℕ) (count pos : ℕ) → ((q : ℕ) → pos ≤ q → q < pos + count → f q ≡ empty_slot) → filled f count pos ≡ []
filled_nothing f zero pos h = refl
filled_nothing f (suc count) pos h = slot_cases (λ es. es ≡ []) (f pos) pos (filled f count (pos + 1))
    (λ _. filled_nothing f count (pos + 1) (λ q l m. h q (omega (arith, l)) (omega (arith, m))))
    (λ e. absurd (e (h pos (omega arith) (omega arith))))

-- one slot is given a coordinate
pub record Puts (f g : ℕ → ℕ) (slot x : ℕ) : Type 0 where
  pub at : g slot ≡ x
  pub others : (q : ℕ) → q ≢ slot → g q ≡ f q

skip_slot : (v pos y : ℕ) (es : List Entry) → v ≢ y → position_of (with_slot v pos es) y ≡ position_of es y
skip_slot v pos y es h = slot_cases (λ fs. position_of fs y ≡ position_of es y) v pos es (λ _. refl)
    (λ _. position_past (entry_at v pos) es y h)

no_slot : (v pos : ℕ) (es : List Entry) → v ≡ empty_slot → with_slot v pos es ≡ es
no_slot v pos es h = slot_cases (λ fs. fs ≡ es) v pos es (λ _. refl) (λ e. absurd (e h))

same_behind : (v pos y : ℕ) (es fs : List Entry) → position_of es y ≡ position_of fs y
    → position_of (with_slot v pos es) y ≡ position_of (with_slot v pos fs) y
same_behind v pos y es fs h = elim (v == empty_slot) as
    (λ b. position_of (if b then es else entry_at v pos ∷ es) y ≡ position_of (if b then fs else entry_at v pos ∷ fs) y) [
      | true ↦ h
      | false ↦ ap (λ o. if v == y then Some pos else o) h
    ]

-- other coordinates stand where they stood
pub filled_others : (f g : ℕ → ℕ) (slot x y count pos : ℕ) → Puts f g slot x → f slot ≡ empty_slot → y ≢ x
    → position_of (filled g count pos) y ≡ position_of (filled f count pos) y
filled_others f g slot x y zero pos p e n = refl
filled_others f g slot x y (suc count) pos p e n =
    let again = filled_others f g slot x y count (pos + 1) p e n in
    elim (eqb_tells pos slot) [
      | inl k ↦
          skip_slot (g pos) pos y (filled g count (pos + 1)) (λ same. n (sym same ∙ ap g k.1 ∙ p.at))
          ∙ again
          ∙ ap (λ es. position_of es y) (sym (no_slot (f pos) pos (filled f count (pos + 1)) (ap f k.1 ∙ e)))
      | inr k ↦
          ap (λ v. position_of (with_slot v pos (filled g count (pos + 1))) y) (p.others pos k.1)
          ∙ same_behind (f pos) pos y (filled g count (pos + 1)) (filled f count (pos + 1)) again
    ]
