-- Lists of places of which one is set.
use Rattle.std.specs.Prelude.{◌≡◌, ◌⊎◌, ℕ, zero, suc, ◌+◌, ◌≤◌, List, [], ◌∷◌, length, Option, Some, None, slice_get, slice_set}
use Rattle.std.specs.Prelude.{slice_index_or, refl}
use Rattle.std.proofs.Common.{sym, ap, arith, inl, inr}
use Rattle.std.proofs.lemmas.List.{length-set}
use Rattle.operand_arrays.specs.Apart.{AreOutside}
use Rattle.term_code.specs.declared.places.Places.{Places}
use Rattle.term_code.specs.declared.places.AccessPlace.{AccessPlace}
use Rattle.term_code.specs.Places.{AreBelow, at_cursor, kept_at, no_access}
use Rattle.loop_flags.specs.Pruned.{unplaced}
use Rattle.loop_flags.specs.PrunedSteps.{with_cursor}

abbrev option_cursor : Option AccessPlace → ℕ
option_cursor None = 0
option_cursor (Some p) = p.cursor

-- a place is the one that was set, or was there before
set_cases : (ps : List AccessPlace) (k j : ℕ) (q p : AccessPlace) → slice_get (slice_set ps k q) j ≡ Some p
    → (p.cursor ≡ q.cursor) ⊎ (slice_get ps j ≡ Some p)
set_cases [] k j q p h = inr h
set_cases (r ∷ ps) zero zero q p h = inl (sym (ap option_cursor h))
set_cases (r ∷ ps) zero (suc j) q p h = inr h
set_cases (r ∷ ps) (suc k) zero q p h = inr h
set_cases (r ∷ ps) (suc k) (suc j) q p h = set_cases ps k j q p h

-- each access stays
pub accesses_set : (ps : List AccessPlace) (k cursor : ℕ) → unplaced (at_cursor ps k cursor) ≡ unplaced ps
accesses_set [] k cursor = refl
accesses_set (r ∷ ps) zero cursor = refl
accesses_set (r ∷ ps) (suc k) cursor = ap (λ rest. kept_at 0 r ∷ rest) (accesses_set ps k cursor)

pub length_set : (ps : List AccessPlace) (k cursor : ℕ) → length (at_cursor ps k cursor) ≡ length ps
length_set ps k cursor =
    length-set ps k (kept_at cursor (slice_index_or ps k no_access))

pub below_set : (free more : ℕ) (places : Places) (k cursor : ℕ) → free ≤ more → cursor + 3 ≤ more → AreBelow free places
    → AreBelow more (with_cursor places k cursor)
below_set free more places k cursor le low are = record {
  variables = λ j d l. let b = are.variables j d l in omega (arith, b, le);
  accesses = λ j p at. elim (set_cases places.accesses k j
      (kept_at cursor (slice_index_or places.accesses k no_access)) p at) [
        | inl is ↦ omega (arith, is, low)
        | inr old ↦ let b = are.accesses j p old in omega (arith, b, le)
      ];
}

pub from_set : (least low : ℕ) (places : Places) (k cursor : ℕ) → low ≤ cursor → AreOutside least low places
    → AreOutside least low (with_cursor places k cursor)
from_set least low places k cursor le are = record {
  variables = are.variables;
  accesses = λ j p at. elim (set_cases places.accesses k j
      (kept_at cursor (slice_index_or places.accesses k no_access)) p at) [
        | inl is ↦ inr (omega (arith, is, le))
        | inr old ↦ are.accesses j p old
      ];
}
