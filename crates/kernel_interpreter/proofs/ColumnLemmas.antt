-- The columns of a workspace while they are replaced.
use Rattle.std.specs.Prelude.{◌≡◌, ◌⊎◌, ℕ, zero, suc, ◌<◌, List, Option, Some, None, refl}
use Rattle.std.proofs.Common.{◌∙◌, ap, arith, inl, inr}
use Rattle.kernel_code.specs.declared.syntax.Arr.TheVariants.{Key, Sums}
use Rattle.kernel_code.specs.Rows.{Row}
use Rattle.kernel_code.specs.Meaning.{State, one_more_column, key_columns, set_columns}

-- key columns that are replaced leave the values as they are
pub sums_kept : (s : State) (w : ℕ) (rows : List Row) (n : ℕ) → (set_columns s w rows n).arrays (Sums w) ≡ s.arrays (Sums w)
sums_kept s w rows zero = refl
sums_kept s w rows (suc n) = sums_kept s w rows n

-- what the columns are made of
record OneMore (old : Option (List (List ℕ))) (xs : Option (List ℕ)) : Type 0 where
  before : List (List ℕ)
  last : List ℕ
  old_is : old ≡ Some before
  last_is : xs ≡ Some last

one_more : (count : ℕ) (old : Option (List (List ℕ))) (xs : Option (List ℕ)) (columns : List (List ℕ))
    → one_more_column count old xs ≡ Some columns → OneMore old xs
one_more count None xs columns h = absurd (cc)
one_more count (Some before) None columns h = absurd (cc)
one_more count (Some before) (Some last) columns h = record { before = before; last = last; old_is = refl; last_is = refl }

below_or_here : (j i : ℕ) → j < suc i → (j < i) ⊎ (j ≡ i)
below_or_here j i h = grind arith

-- each of the columns is there
pub column_there : (s : State) (w count n : ℕ) (columns : List (List ℕ)) (k : ℕ) → key_columns s w count n ≡ Some columns → k < n
    → (xs : List ℕ) × (s.arrays (Key w k) ≡ Some xs)
column_there s w count zero columns k h l = absurd (omega arith)
column_there s w count (suc n) columns k h l =
    let m = one_more count (key_columns s w count n) (s.arrays (Key w n)) columns h in
    elim (below_or_here k n l) [
      | inl below ↦ column_there s w count n m.before k m.old_is below
      | inr here ↦ (m.last, ap (λ j. s.arrays (Key w j)) here ∙ m.last_is)
    ]
