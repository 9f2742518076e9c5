-- Lemmas about what specs/SearchLaws.antt defines.
use Rattle.std.specs.Prelude.{◌≡◌, ◌≢◌, ◌⊎◌, ℕ, ◌+◌, ◌-◌, ◌%◌, ◌≤◌, ◌<◌, Some, None, refl}
use Rattle.std.proofs.Common.{◌∙◌, sym, ap, subst, arith, inl, inr}
use Rattle.std.proofs.Math.Nat.{mod-add-mod, mod-eq_of_lt, add-mod_left}
use Rattle.std.proofs.lemmas.Nat.{mod_below}
use Rattle.std.proofs.lemmas.Bool.Decides.{eqb_tells}
use Rattle.level_core.specs.Entries.{position_of}
use Rattle.hashed_level.specs.Slots.{empty_slot, filled, place, FilledBefore, KeepsBlock, Stops, Passes, FirstEmpty}
use Rattle.hashed_level.specs.SlotLaws.{Free, filled_position}
use Rattle.hashed_level.proofs.SlotLaws.{filled_none}
use Rattle.hashed_level.specs.SearchLaws.{Met, place_inside, inside_is, block_once}

-- a step of the search
pub place_next : (w x k : ℕ) → ((x + k) % w + 1) % w ≡ (x + (k + 1)) % w
place_next w x k = mod-add-mod (x + k) w 1 ∙ ap (λ n. n % w) (omega arith)

pub place_first : (w x : ℕ) → x % w ≡ (x + 0) % w
place_first w x = ap (λ n. n % w) (omega arith)

above_or_not : (a b : ℕ) → (a ≤ b) ⊎ (b < a)
above_or_not a b = grind arith

met_by : (w x j r : ℕ) → j < w → r < w → x % w ≡ r → (r ≤ j) ⊎ (j < r) → Met w x j
met_by w x j r h small is (inl le) = record {
  steps = j - r;
  few = omega (arith, h, le);
  at = sym (mod-add-mod x w (j - r)) ∙ ap (λ n. (n + (j - r)) % w) is ∙ ap (λ n. n % w) (omega (arith, le)) ∙ mod-eq_of_lt h;
}
met_by w x j r h small is (inr lt) = record {
  steps = w - r + j;
  few = omega (arith, h, lt, small);
  at =
      sym (mod-add-mod x w (w - r + j))
      ∙ ap (λ n. (n + (w - r + j)) % w) is
      ∙ ap (λ n. n % w) (omega (arith, small))
      ∙ add-mod_left w j
      ∙ mod-eq_of_lt h;
}

pub met : (w x j : ℕ) → j < w → Met w x j
met w x j h = let small : x % w < w = mod_below x w (omega (arith, h)) in met_by w x j (x % w) h small refl (above_or_not (x % w) j)

-- a search that stops at the coordinate has found its position
pub found_there : (f : ℕ → ℕ) (n w base x slot : ℕ) → KeepsBlock f n w base → Stops f w base x slot → f slot ≡ x → x ≢ empty_slot
    → position_of (filled f w base) x ≡ Some slot
found_there f n w base x slot b s is e =
    let few = s.few in
    let inside = place_inside w base x s.steps (omega (arith, few)) in
    let at = s.at in
    filled_position f w base slot x (omega (arith, at, inside.0)) (omega (arith, at, inside.1)) is e (block_once f n w base b)

no_two : (f : ℕ → ℕ) (w base x slot j s d : ℕ) → f (base + j) ≡ x → x ≢ empty_slot → (x + s) % w ≡ j → FilledBefore f w base x s
    → slot ≡ place w base x d → f slot ≡ empty_slot → ((k : ℕ) → k < d → f (place w base x k) ≢ x) → (s < d) ⊎ ((s ≡ d) ⊎ (d < s)) → ⊥
no_two f w base x slot j s d is e at filled stop empty passed (inl less) = passed s less (ap (λ k. f (base + k)) at ∙ is)
no_two f w base x slot j s d is e at filled stop empty passed (inr (inl same)) = e (sym is
    ∙ ap (λ k. f (base + k)) (sym at ∙ ap (λ k. (x + k) % w) same) ∙ ap f (sym stop) ∙ empty)
no_two f w base x slot j s d is e at filled stop empty passed (inr (inr more)) = filled d more (ap f (sym stop) ∙ empty)

three_ways : (a b : ℕ) → (a < b) ⊎ ((a ≡ b) ⊎ (b < a))
three_ways a b = grind arith

-- a search that stops at an empty slot shows that the coordinate isn't in the block
pub not_there : (f : ℕ → ℕ) (n w base x slot : ℕ) → KeepsBlock f n w base → Stops f w base x slot → f slot ≡ empty_slot
    → position_of (filled f w base) x ≡ None
not_there f n w base x slot b s empty = filled_none f x w base (λ q l m e same.
    let at = inside_is base q l in
    let is : f (base + (q - base)) ≡ x = ap f at ∙ same in
    let r = b.reached (q - base) (omega (arith, l, m)) (λ z. e (ap f (sym at) ∙ z)) in
    no_two f w base x slot (q - base) r.steps s.steps is (λ z. e (same ∙ z)) (ap (λ y. (y + r.steps) % w) (sym is)
    ∙ r.at) (subst (λ y. FilledBefore f w base y r.steps) is r.filled) s.at empty s.passed (three_ways r.steps s.steps))

-- one that has passed all slots, too
pub nowhere : (f : ℕ → ℕ) (w base x : ℕ) → Passes f w base x w → position_of (filled f w base) x ≡ None
nowhere f w base x p = filled_none f x w base (λ q l m e same.
    let r = met w x (q - base) (omega (arith, l, m)) in
    p.passed r.steps r.few (ap (λ k. f (base + k)) r.at ∙ ap f (inside_is base q l) ∙ same))

-- the word of empty slots is no coordinate
pub empty_is_none : (f : ℕ → ℕ) (w base x : ℕ) → x ≡ empty_slot → position_of (filled f w base) x ≡ None
empty_is_none f w base x is = filled_none f x w base (λ q l m e same. e (same ∙ is))

-- not all slots are filled where one is empty
pub free_stops : (f : ℕ → ℕ) (w base x : ℕ) → Free f base (base + w) → FilledBefore f w base x w → ⊥
free_stops f w base x r filled =
    let l = r.from in
    let m = r.below in
    let s = met w x (r.slot - base) (omega (arith, l, m)) in
    filled s.steps s.few (ap (λ k. f (base + k)) s.at ∙ ap f (inside_is base r.slot l) ∙ r.empty)

-- one more step without an end
pub passes_more : (f : ℕ → ℕ) (w base x d : ℕ) → Passes f w base x d → f (place w base x d) ≢ empty_slot → f (place w base x d) ≢ x
    → Passes f w base x (d + 1)
passes_more f w base x d p e n = record {
  filled = λ k h. elim (eqb_tells k d) [
    | inl m ↦ λ z. e (ap (λ j. f (place w base x j)) (sym m.1)
        ∙ z)
    | inr m ↦ p.filled k (omega (arith, h, m.1))
  ];
  passed = λ k h. elim (eqb_tells k d) [
    | inl m ↦ λ z. n (ap (λ j. f (place w base x j)) (sym m.1)
        ∙ z)
    | inr m ↦ p.passed k (omega (arith, h, m.1))
  ];
}

stops_filled : (f : ℕ → ℕ) (x slot : ℕ) → (f slot ≡ empty_slot) ⊎ (f slot ≡ x) → f slot ≢ empty_slot → f slot ≡ x
stops_filled f x slot (inl z) e = absurd (e z)
stops_filled f x slot (inr is) e = is

-- a search that stops at a filled slot has found the coordinate
pub found_filled : (f : ℕ → ℕ) (n w base x slot : ℕ) → KeepsBlock f n w base → Stops f w base x slot → f slot ≢ empty_slot
    → position_of (filled f w base) x ≡ Some slot
found_filled f n w base x slot b s e = let is = stops_filled f x slot s.stop e in found_there f n w base x slot b s is (λ z. e (is ∙ z))

stops_empty : (f : ℕ → ℕ) (x slot : ℕ) → (f slot ≡ empty_slot) ⊎ (f slot ≡ x) → f slot ≢ x → f slot ≡ empty_slot
stops_empty f x slot (inl z) n = z
stops_empty f x slot (inr is) n = absurd (n is)

-- the search for a coordinate that isn't in the block ends at the first empty slot
pub absent_first : (f : ℕ → ℕ) (w base x slot : ℕ) → Stops f w base x slot → x ≢ empty_slot
    → ((q : ℕ) → base ≤ q → q < base + w → f q ≢ empty_slot → f q ≢ x) → FirstEmpty f w base x slot
absent_first f w base x slot s e absent =
    let few = s.few in
    let inside = place_inside w base x s.steps (omega (arith, few)) in
    let at = s.at in
    let other : f slot ≢ x = λ is. absent slot (omega (arith, at, inside.0)) (omega (arith, at, inside.1)) (λ z. e (sym is ∙ z)) is in
    record { steps = s.steps; few = s.few; at = s.at; empty = stops_empty f x slot s.stop other; filled = s.filled }
