-- There are no more sums than rows.
use Rattle.std.specs.Prelude.{suc, ◌≤◌, List, [], ◌∷◌, length}
use Rattle.std.specs.declared.cmp.Ordering.{Ordering}
use Rattle.std.specs.declared.cmp.Ordering.TheVariants.{Less, Equal, Greater}
use Rattle.std.specs.Ordering.{nat_cmp}
use Rattle.std.specs.Cmp.Lexicographic.{slice_cmp}
use Rattle.std.proofs.Common.{arith}
use Rattle.numbers.specs.Arithmetic.{Arithmetic}
use Rattle.tensor_map.specs.Entries.{Entry}
use Rattle.concrete_notation.specs.Contributions.{put_by, put_pair, sums_of}
use Rattle.sparse_results.specs.Stored.{SumsAreNoMore}

put_many : (a : Arithmetic) (pair : Entry) (row : List Entry) → length (put_pair a pair row) ≤ suc (length row)
put_many a pair [] = omega arith
put_many a pair (first ∷ others) = by (slice_cmp nat_cmp pair.coords first.coords) (put_many a pair others)
  where
    by : (r : Ordering) → length (put_pair a pair others) ≤ suc (length others)
        → length (put_by a r pair first others (put_pair a pair others)) ≤ suc (suc (length others))
    by Less h = omega arith
    by Equal h = omega arith
    by Greater h = omega (arith, h)

pub sums_are_no_more : SumsAreNoMore
sums_are_no_more a [] = omega arith
sums_are_no_more a (row ∷ rows) =
    let first = put_many a row (sums_of a rows) in
    let rest = sums_are_no_more a rows in
    omega (arith, first, rest)
