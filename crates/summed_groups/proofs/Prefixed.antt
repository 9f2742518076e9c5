-- The sums of rows that have coordinates in front in common.
use Rattle.std.specs.Prelude.{◌≡◌, ℕ, ◌<◌, List, [], ◌∷◌, ◌++◌, refl}
use Rattle.std.specs.declared.cmp.Ordering.{Ordering}
use Rattle.std.specs.declared.cmp.Ordering.TheVariants.{Less, Equal, Greater}
use Rattle.std.specs.Ordering.{nat_cmp, ordering_then, MatchOrdering}
use Rattle.std.specs.Cmp.Lexicographic.{slice_cmp}
use Rattle.std.proofs.Common.{◌∙◌, ap, arith}
use Rattle.std.proofs.lemmas.Cmp.{ranked}
use Rattle.numbers.specs.Arithmetic.{Arithmetic}
use Rattle.tensor_map.specs.Entries.{Entry}
use Rattle.concrete_notation.specs.Contributions.{put_by, put_pair, sums_of}
use Rattle.summed_groups.specs.Groups.{with_front, with_fronts}

same_ranked : (x : ℕ) → nat_cmp x x ≡ Equal
same_ranked x = by (nat_cmp x x) refl (ranked x x (nat_cmp x x) refl)
  where
    by : (r : Ordering) → nat_cmp x x ≡ r → MatchOrdering r (x < x) (x ≡ x) (x < x) → nat_cmp x x ≡ Equal
    by Less e is = absurd (omega (arith, is))
    by Equal e is = e
    by Greater e is = absurd (omega (arith, is))

-- what lists have in front in common makes no difference to how they compare
compared_behind : (front xs ys : List ℕ) → slice_cmp nat_cmp (front ++ xs) (front ++ ys) ≡ slice_cmp nat_cmp xs ys
compared_behind [] xs ys = refl
compared_behind (x ∷ front) xs ys =
    ap (λ r. ordering_then r (slice_cmp nat_cmp (front ++ xs) (front ++ ys))) (same_ranked x) ∙ compared_behind front xs ys

put_behind : (a : Arithmetic) (front : List ℕ) (pair : Entry) (row : List Entry)
    → put_pair a (with_front front pair) (with_fronts front row) ≡ with_fronts front (put_pair a pair row)
put_behind a front pair [] = refl
put_behind a front pair (first ∷ others) =
    ap (λ r. put_by a r (with_front front pair) (with_front front first) (with_fronts front others)
    (put_pair a (with_front front pair) (with_fronts front others))) (compared_behind front pair.coords first.coords)
    ∙ ap (put_by a (slice_cmp nat_cmp pair.coords first.coords) (with_front front pair) (with_front front first) (with_fronts front others))
    (put_behind a front pair others)
    ∙ by (slice_cmp nat_cmp pair.coords first.coords)
  where
    by : (r : Ordering)
        → put_by a r (with_front front pair) (with_front front first) (with_fronts front others)
        (with_fronts front (put_pair a pair others))
        ≡ with_fronts front (put_by a r pair first others (put_pair a pair others))
    by Less = refl
    by Equal = refl
    by Greater = refl

pub sums_behind : (a : Arithmetic) (front : List ℕ) (rows : List Entry)
    → sums_of a (with_fronts front rows) ≡ with_fronts front (sums_of a rows)
sums_behind a front [] = refl
sums_behind a front (row ∷ rows) = ap (put_pair a (with_front front row)) (sums_behind a front rows)
    ∙ put_behind a front row (sums_of a rows)
