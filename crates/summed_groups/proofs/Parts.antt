-- The sums of two groups of rows, of which one comes before the other.
use Rattle.std.specs.Prelude.{◌≡◌, ℕ, zero, suc, List, [], ◌∷◌, ◌++◌, refl}
use Rattle.std.specs.declared.cmp.Ordering.{Ordering}
use Rattle.std.specs.declared.cmp.Ordering.TheVariants.{Less, Equal, Greater}
use Rattle.std.specs.Ordering.{nat_cmp, MatchOrdering}
use Rattle.std.specs.Cmp.Lexicographic.{slice_cmp}
use Rattle.std.proofs.Common.{◌∙◌, ap, subst, inl, inr}
use Rattle.numbers.specs.Arithmetic.{Arithmetic}
use Rattle.lists.specs.Each.{Each}
use Rattle.tensor_map.specs.Entries.{Entry}
use Rattle.tensor_map.specs.Order.{IsBefore}
use Rattle.tensor_map.proofs.OrderLaws.{before_irreflexive, before_trans, compared_as}
use Rattle.concrete_notation.specs.Contributions.{put_by, put_pair, sums_of}
use Rattle.concrete_notation.proofs.SumsOf.{sums_each}
use Rattle.summed_groups.specs.Groups.{ComesBefore, GroupsBefore}

-- what comes before by the first coordinates comes before
pub whole_before : (n : ℕ) (xs ys : List ℕ) → ComesBefore n xs ys → IsBefore xs ys
whole_before zero xs ys h = absurd h
whole_before (suc n) [] [] h = absurd h
whole_before (suc n) [] (y ∷ ys) h = tt
whole_before (suc n) (x ∷ xs) [] h = absurd h
whole_before (suc n) (x ∷ xs) (y ∷ ys) h = elim h [
  | inl less ↦ inl less
  | inr rest ↦ inr (rest.0, whole_before n xs ys rest.1)
]

-- a list that comes before another compares as less
before_is_less : (xs ys : List ℕ) → IsBefore xs ys → slice_cmp nat_cmp xs ys ≡ Less
before_is_less xs ys h = by (slice_cmp nat_cmp xs ys) refl (compared_as xs ys (slice_cmp nat_cmp xs ys) refl)
  where
    by : (r : Ordering) → slice_cmp nat_cmp xs ys ≡ r → MatchOrdering r (IsBefore xs ys) (xs ≡ ys) (IsBefore ys xs)
        → slice_cmp nat_cmp xs ys ≡ Less
    by Less e is = e
    by Equal e is = absurd (before_irreflexive ys (subst (λ zs. IsBefore zs ys) is h))
    by Greater e is = absurd (before_irreflexive xs (before_trans xs ys xs h is))

-- a pair that comes before each of a row stands in front of it
put_front : (a : Arithmetic) (pair : Entry) (row : List Entry) → Each (λ (other : Entry). IsBefore pair.coords other.coords) row
    → put_pair a pair row ≡ pair ∷ row
put_front a pair [] h = refl
put_front a pair (first ∷ others) h =
    ap (λ r. put_by a r pair first others (put_pair a pair others)) (before_is_less pair.coords first.coords h.0)

-- and so it is put into the first of two rows, where it comes before each of the second
put_in_first : (a : Arithmetic) (pair : Entry) (row later : List Entry) → Each (λ (other : Entry). IsBefore pair.coords other.coords) later
    → put_pair a pair (row ++ later) ≡ put_pair a pair row ++ later
put_in_first a pair [] later h = put_front a pair later h
put_in_first a pair (first ∷ others) later h =
    ap (put_by a (slice_cmp nat_cmp pair.coords first.coords) pair first (others ++ later)) (put_in_first a pair others later h)
    ∙ by (slice_cmp nat_cmp pair.coords first.coords)
  where
    by : (r : Ordering) → put_by a r pair first (others ++ later) (put_pair a pair others ++ later)
        ≡ put_by a r pair first others (put_pair a pair others) ++ later
    by Less = refl
    by Equal = refl
    by Greater = refl

each_first : (n : ℕ) (row : Entry) (rows others : List Entry) → GroupsBefore n (row ∷ rows) others
    → Each (λ (other : Entry). ComesBefore n row.coords other.coords) others × GroupsBefore n rows others
each_first n row rows [] h = (tt, tt)
each_first n row rows (other ∷ others) h =
    let rest = each_first n row rows others h.1 in
    ((h.0.0, rest.0), (h.0.1, rest.1))

each_whole : (n : ℕ) (xs : List ℕ) (others : List Entry) → Each (λ (other : Entry). ComesBefore n xs other.coords) others
    → Each (λ (other : Entry). IsBefore xs other.coords) others
each_whole n xs [] h = tt
each_whole n xs (other ∷ others) h = (whole_before n xs other.coords h.0, each_whole n xs others h.1)

-- the sums of both are those of the first and then those of the second
pub sums_of_both : (n : ℕ) (a : Arithmetic) (rows others : List Entry) → GroupsBefore n rows others
    → sums_of a (rows ++ others) ≡ sums_of a rows ++ sums_of a others
sums_of_both n a [] others h = refl
sums_of_both n a (row ∷ rows) others h =
    let parts = each_first n row rows others h in
    ap (put_pair a row) (sums_of_both n a rows others parts.1)
    ∙ put_in_first a row (sums_of a rows) (sums_of a others)
    (sums_each (λ coords. IsBefore row.coords coords) a others (each_whole n row.coords others parts.0))
