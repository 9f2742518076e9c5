-- What follows from the definition of the order of coordinate lists.
use Rattle.std.specs.Prelude.{◌≡◌, ◌≢◌, ℕ, zero, suc, ◌<◌, nat_lt, List, [], ◌∷◌, length, drop, slice_index, refl}
use Rattle.std.specs.declared.cmp.Ordering.{Ordering}
use Rattle.std.specs.declared.cmp.Ordering.TheVariants.{Less, Equal, Greater}
use Rattle.std.specs.Ordering.{is_lt, nat_cmp, ordering_then, MatchOrdering}
use Rattle.std.specs.Cmp.Lexicographic.{slice_cmp}
use Rattle.std.proofs.Common.{arith, subst, sym, ◌∙◌, inl, inr}
use Rattle.std.proofs.lemmas.Bool.Decides.{nat_tests}
use Rattle.std.proofs.lemmas.Cmp.{ranked}
use Rattle.tensor_map.specs.Order.{IsBefore, IsBeforeAll}

-- none is before itself
pub before_irreflexive : (xs : List ℕ) → IsBefore xs xs → ⊥
before_irreflexive [] h = h
before_irreflexive (x ∷ xs) (inl less) = absurd (omega arith)
before_irreflexive (x ∷ xs) (inr rest) = before_irreflexive xs rest.1

pub before_trans : (xs ys zs : List ℕ) → IsBefore xs ys → IsBefore ys zs → IsBefore xs zs
before_trans [] [] zs h g = absurd h
before_trans [] (y ∷ ys) [] h g = absurd g
before_trans [] (y ∷ ys) (z ∷ zs) h g = tt
before_trans (x ∷ xs) [] zs h g = absurd h
before_trans (x ∷ xs) (y ∷ ys) [] h g = absurd g
before_trans (x ∷ xs) (y ∷ ys) (z ∷ zs) (inl p) (inl q) = inl (omega arith)
before_trans (x ∷ xs) (y ∷ ys) (z ∷ zs) (inl p) (inr q) = inl (omega (arith, q.0))
before_trans (x ∷ xs) (y ∷ ys) (z ∷ zs) (inr p) (inl q) = inl (omega (arith, p.0))
before_trans (x ∷ xs) (y ∷ ys) (z ∷ zs) (inr p) (inr q) = inr (p.0 ∙ q.0, before_trans xs ys zs p.1 q.1)

compared_step : (x y : ℕ) (xs ys : List ℕ) (r s : Ordering) → MatchOrdering r (x < y) (x ≡ y) (y < x)
    → MatchOrdering s (IsBefore xs ys) (xs ≡ ys) (IsBefore ys xs)
    → MatchOrdering (ordering_then r s) (IsBefore (x ∷ xs) (y ∷ ys)) (x ∷ xs ≡ y ∷ ys) (IsBefore (y ∷ ys) (x ∷ xs))
compared_step x y xs ys Less s h g = inl h
compared_step x y xs ys Greater s h g = inl h
compared_step x y xs ys Equal Less h g = inr (h, g)
compared_step x y xs ys Equal Equal h g = λ i. h i ∷ g i
compared_step x y xs ys Equal Greater h g = inr (sym h, g)

-- one of two lists is before the other, or they are the same: as a comparison of slices answers
pub compared : (xs ys : List ℕ) → MatchOrdering (slice_cmp nat_cmp xs ys) (IsBefore xs ys) (xs ≡ ys) (IsBefore ys xs)
compared [] [] = refl
compared [] (y ∷ ys) = tt
compared (x ∷ xs) [] = tt
compared (x ∷ xs) (y ∷ ys) =
    compared_step x y xs ys (nat_cmp x y) (slice_cmp nat_cmp xs ys) (ranked x y (nat_cmp x y) refl) (compared xs ys)

pub compared_as : (xs ys : List ℕ) (r : Ordering) → slice_cmp nat_cmp xs ys ≡ r
    → MatchOrdering r (IsBefore xs ys) (xs ≡ ys) (IsBefore ys xs)
compared_as xs ys r e = subst (λ o. MatchOrdering o (IsBefore xs ys) (xs ≡ ys) (IsBefore ys xs)) e (compared xs ys)

-- before a list that is before, or is, each of the others
pub before_all_trans : (xs ys : List ℕ) (others : List (List ℕ)) → IsBefore xs ys → IsBeforeAll ys others → IsBeforeAll xs others
before_all_trans xs ys [] h g = tt
before_all_trans xs ys (zs ∷ others) h g = (before_trans xs ys zs h g.0, before_all_trans xs ys others h g.1)

-- from a place on, lists whose numbers there are equal stand as from the next place on
pub compared_more : (xs ys : List ℕ) (k : ℕ) → k < length xs → k < length ys → slice_index xs k ≡ slice_index ys k
    → slice_cmp nat_cmp (drop k xs) (drop k ys) ≡ slice_cmp nat_cmp (drop (suc k) xs) (drop (suc k) ys)
compared_more [] ys k h g e = absurd (omega arith)
compared_more (x ∷ xs) [] k h g e = absurd (omega arith)
compared_more (x ∷ xs) (y ∷ ys) zero h g e = grind (arith, nat_tests)
compared_more (x ∷ xs) (y ∷ ys) (suc k) h g e = compared_more xs ys k (omega arith) (omega arith) e

-- and where they differ, as the numbers do
pub compared_here : (xs ys : List ℕ) (k : ℕ) → k < length xs → k < length ys → slice_index xs k ≢ slice_index ys k
    → is_lt (slice_cmp nat_cmp (drop k xs) (drop k ys)) ≡ nat_lt (slice_index xs k) (slice_index ys k)
compared_here [] ys k h g n = absurd (omega arith)
compared_here (x ∷ xs) [] k h g n = absurd (omega arith)
compared_here (x ∷ xs) (y ∷ ys) zero h g n = grind (arith, nat_tests)
compared_here (x ∷ xs) (y ∷ ys) (suc k) h g n = compared_here xs ys k (omega arith) (omega arith) n
