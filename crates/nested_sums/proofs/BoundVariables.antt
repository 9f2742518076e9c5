-- The variables that sums of a statement bind, told of each sum by its inside.
use Rattle.std.specs.Prelude.{◌≡◌, ℕ, zero, suc, ◌+◌, ◌<◌, List, [], ◌∷◌, ◌++◌, length, map, take, Some, slice_get, refl}
use Rattle.std.proofs.Common.{◌∙◌, sym, ap, subst, arith}
use Rattle.index_notation.specs.Statement.{AccessesUnder, AccessesUnder_in, AreSums, IsNumberedWithSums}
use Rattle.index_notation.specs.declared.syntax.Access.{Access}
use Rattle.index_notation.specs.declared.syntax.Expr.{Expr, Num, Access as AccessOf, Binary', Neg', Row_of-Expr, end_of-Expr, more_of-Expr}
use Rattle.index_notation.specs.declared.syntax.NestedSum.{NestedSum}
use Rattle.index_notation.specs.declared.syntax.Statement.{Statement}
use Rattle.nested_sums.specs.Bound.{list_or_none, bound_in, bound_inside, bound_by, none_bound, bounds}
use Rattle.nested_sums.specs.Told.{told_with}
use Rattle.nested_sums.proofs.Told.{told_final}

-- what is told of the first accesses and sums tells what is bound within an expression of those
module _ (told other : List (List ℕ)) (n : ℕ) (same : (k : ℕ) → k < n → slice_get told k ≡ slice_get other k) where
  mutual
    bound_same : (e : Expr) → AccessesUnder n e → bound_in told e ≡ bound_in other e
    bound_same (Num k) h = refl
    bound_same (AccessOf k) h = ap list_or_none (same k h)
    bound_same (Binary' o p e q f) h = λ i. bound_same_in e h.0 i ++ bound_same_in f h.1 i
    bound_same (Neg' p e) h = bound_same_in e h

    bound_same_in : {m : _} (e : Row_of-Expr m) → AccessesUnder_in n e → bound_inside told e ≡ bound_inside other e
    bound_same_in end_of-Expr h = refl
    bound_same_in (more_of-Expr e rest) h = bound_same e h

-- the inside of each sum has accesses and earlier sums
pub inside_under : (vars n : ℕ) (sums : List NestedSum) (i : ℕ) (sum : NestedSum) → AreSums vars n sums → slice_get sums i ≡ Some sum
    → AccessesUnder (n + i) sum.inside
inside_under vars n [] i sum are at = cc
inside_under vars n (first ∷ sums) zero sum are at =
    let same : first ≡ sum = cc in
    let here : n + 0 ≡ n = omega arith in
    subst (λ (s : NestedSum). AccessesUnder (n + 0) s.inside) same (subst (λ k. AccessesUnder k first.inside) (sym here) are.1)
inside_under vars n (first ∷ sums) (suc i) sum are at =
    let there : n + 1 + i ≡ n + suc i = omega arith in
    subst (λ k. AccessesUnder k sum.inside) there (inside_under vars (n + 1) sums i sum are.2 at)

none_long : (accesses : List Access) → length (map none_bound accesses) ≡ length accesses
none_long [] = refl
none_long (a ∷ accesses) = ap suc (none_long accesses)

pub bound_by_sum : (s : Statement) → IsNumberedWithSums s → (i : ℕ) (sum : NestedSum) → slice_get s.sums i ≡ Some sum
    → bound_in (bounds s) (AccessOf (length s.accesses + i)) ≡ sum.var ∷ bound_in (bounds s) sum.inside
bound_by_sum s h i sum at =
    let none : List (List ℕ) = map none_bound s.accesses in
    let long : length none ≡ length s.accesses = none_long s.accesses in
    let final = told_final bound_by s.sums none i sum at in
    let place : length s.accesses + i ≡ length none + i = omega (arith, long) in
    ap (λ k. list_or_none (slice_get (bounds s) k)) place ∙ ap list_or_none final.0
    ∙ ap (λ vs. sum.var ∷ vs) (bound_same (told_with bound_by none (take i s.sums)) (bounds s) (length none + i) final.1 sum.inside
    (subst (λ k. AccessesUnder k sum.inside) place (inside_under (length s.vars) (length s.accesses) s.sums i sum h.sums at)))
