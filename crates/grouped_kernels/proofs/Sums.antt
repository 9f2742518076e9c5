-- Sums of rows are rows, and are their own sums.
use Rattle.std.specs.Prelude.{◌≡◌, ℕ, List, [], ◌∷◌, refl}
use Rattle.std.specs.declared.cmp.Ordering.{Ordering}
use Rattle.std.specs.declared.cmp.Ordering.TheVariants.{Less, Equal, Greater}
use Rattle.std.specs.Ordering.{nat_cmp, MatchOrdering}
use Rattle.std.specs.Cmp.Lexicographic.{slice_cmp}
use Rattle.std.proofs.Common.{◌∙◌, ap, subst}
use Rattle.numbers.specs.Arithmetic.{Arithmetic, Laws}
use Rattle.lists.specs.Each.{Each}
use Rattle.tensor_map.specs.Entries.{Entry, coords_of, StrictlyIncreasing}
use Rattle.tensor_map.specs.Order.{IsBefore, IsBeforeAll}
use Rattle.tensor_map.proofs.OrderLaws.{before_irreflexive, before_trans, compared_as}
use Rattle.concrete_notation.specs.Contributions.{put_by, put_pair, sums_of}
use Rattle.concrete_notation.proofs.SumsOf.{sums_increasing}
use Rattle.sparse_results.specs.Tables.{IsRow}

-- a list that comes before another compares as less
before_is_less : (xs ys : List ℕ) → IsBefore xs ys → slice_cmp nat_cmp xs ys ≡ Less
before_is_less xs ys h = by (slice_cmp nat_cmp xs ys) refl (compared_as xs ys (slice_cmp nat_cmp xs ys) refl)
  where
    by : (r : Ordering) → slice_cmp nat_cmp xs ys ≡ r → MatchOrdering r (IsBefore xs ys) (xs ≡ ys) (IsBefore ys xs)
        → slice_cmp nat_cmp xs ys ≡ Less
    by Less e is = e
    by Equal e is = absurd (before_irreflexive ys (subst (λ zs. IsBefore zs ys) is h))
    by Greater e is = absurd (before_irreflexive xs (before_trans xs ys xs h is))

-- a pair that comes before each of a row stands in front of it
put_front : (a : Arithmetic) (pair : Entry) (row : List Entry) → IsBeforeAll pair.coords (coords_of row) → put_pair a pair row ≡ pair ∷ row
put_front a pair [] h = refl
put_front a pair (first ∷ others) h =
    ap (λ r. put_by a r pair first others (put_pair a pair others)) (before_is_less pair.coords first.coords h.0)

-- rows that increase are their own sums
increasing_sums : (a : Arithmetic) (rows : List Entry) → StrictlyIncreasing rows → sums_of a rows ≡ rows
increasing_sums a [] up = refl
increasing_sums a (row ∷ rows) up = ap (put_pair a row) (increasing_sums a rows up.1) ∙ put_front a row rows up.0

pub sums_again : (a : Arithmetic) (rows : List Entry) → sums_of a (sums_of a rows) ≡ sums_of a rows
sums_again a rows = increasing_sums a (sums_of a rows) (sums_increasing a rows)

-- sums of rows of so many coordinates are such rows
put_rows : (a : Arithmetic) → Laws a → (keys : ℕ) (pair : Entry) (row : List Entry) → IsRow keys pair → Each (IsRow keys) row
    → Each (IsRow keys) (put_pair a pair row)
put_rows a laws keys pair [] is each = (is, tt)
put_rows a laws keys pair (first ∷ others) is each =
    by (slice_cmp nat_cmp pair.coords first.coords) (put_rows a laws keys pair others is each.1)
  where
    by : (r : Ordering) → Each (IsRow keys) (put_pair a pair others)
        → Each (IsRow keys) (put_by a r pair first others (put_pair a pair others))
    by Less later = (is, each)
    by Equal later = (record { many = each.0.many; word = laws.plus_fits pair.value first.value }, each.1)
    by Greater later = (each.0, later)

pub sums_rows : (a : Arithmetic) → Laws a → (keys : ℕ) (rows : List Entry) → Each (IsRow keys) rows → Each (IsRow keys) (sums_of a rows)
sums_rows a laws keys [] each = tt
sums_rows a laws keys (row ∷ rows) each = put_rows a laws keys row (sums_of a rows) each.0 (sums_rows a laws keys rows each.1)
