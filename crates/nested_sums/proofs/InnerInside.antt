-- Inside of an inner sum stand inner sums alone.
use Rattle.std.specs.Prelude.{◌≡◌, ℕ, zero, suc, ◌+◌, ◌<◌, ◌≤◌, Bool, true, false}
use Rattle.std.specs.Prelude.{not, ◌||◌, ◌&&◌, nat_eq, List, [], ◌∷◌, length, map, take}
use Rattle.std.specs.Prelude.{Some, slice_get, refl}
use Rattle.std.specs.List.{list_all}
use Rattle.std.proofs.Common.{◌∙◌, sym, ap, arith}
use Rattle.std.proofs.lemmas.Bool.{eqb-true, eqb-false}
use Rattle.lists.proofs.Tests.{both_true}
use Rattle.index_notation.specs.Statement.{AccessesUnder, AccessesUnder_in, IsNumberedWithSums, numbers_from}
use Rattle.index_notation.specs.declared.syntax.Expr.{Expr, Num, Access as AccessOf, Binary', Neg', Row_of-Expr, end_of-Expr, more_of-Expr}
use Rattle.index_notation.specs.declared.syntax.NestedSum.{NestedSum}
use Rattle.index_notation.specs.declared.syntax.Statement.{Statement}
use Rattle.nested_sums.specs.Inner.{Standing, standing_or_none, standing_in, standing_inside, standing_of, standings, sum_standing}
use Rattle.nested_sums.specs.Inner.{access_standing, is_inner}
use Rattle.nested_sums.specs.Pieces.{AreInner}
use Rattle.nested_sums.proofs.BoundVariables.{inside_under}
use Rattle.nested_sums.proofs.Leaves.{EachLeaf, EachLeaf_in, leaves_inner}
use Rattle.nested_sums.proofs.Standings.{standing_whole}
use Rattle.nested_sums.proofs.Told.{told_final}

-- a test that numbers pass, one by one
pub all_pass : (p : ℕ → Bool) (n count : ℕ) → ((k : ℕ) → n ≤ k → k < n + count → p k ≡ true) → list_all p (numbers_from n count) ≡ true
all_pass p n zero each = refl
all_pass p n (suc count) each =
    ap (λ b. b && list_all p (numbers_from (n + 1) count)) (each n (omega arith) (omega arith))
    ∙ all_pass p (n + 1) count (λ k above below. each k (omega (arith, above)) (omega (arith, below)))

pub each_passes : (p : ℕ → Bool) (n count : ℕ) → list_all p (numbers_from n count) ≡ true → (k : ℕ) → n ≤ k → k < n + count → p k ≡ true
each_passes p n zero all k above below = absurd (omega (arith, above, below))
each_passes p n (suc count) all k above below =
    let both = both_true (p n) (list_all p (numbers_from (n + 1) count)) all in
    by (nat_eq n k) refl both.0 (λ apart. each_passes p (n + 1) count both.1 k (omega (arith, above, apart)) (omega (arith, below)))
  where
    by : (b : Bool) → nat_eq n k ≡ b → p n ≡ true → ((n ≡ k → ⊥) → p k ≡ true) → p k ≡ true
    by true e here rest = ap p (sym (eqb-true n k e)) ∙ here
    by false e here rest = rest (eqb-false n k e)

abbrev fits_at : List Standing → ℕ → Bool
fits_at told k = (standing_or_none (slice_get told k)).fits

module _ (told : List Standing) (n : ℕ) where
  mutual
    fits_leaves : (e : Expr) → AccessesUnder n e → (standing_in told e).fits ≡ true → EachLeaf (λ k. (k < n) × (fits_at told k ≡ true)) e
    fits_leaves (Num k) under fits = tt
    fits_leaves (AccessOf k) under fits = (under, fits)
    fits_leaves (Binary' o p e q f) under fits =
        let both = both_true (standing_inside told e).fits (standing_inside told f).fits fits in
        (fits_leaves_in e under.0 both.0, fits_leaves_in f under.1 both.1)
    fits_leaves (Neg' p e) under fits = fits_leaves_in e under fits

    fits_leaves_in : {m : _} (e : Row_of-Expr m) → AccessesUnder_in n e → (standing_inside told e).fits ≡ true
        → EachLeaf_in (λ k. (k < n) × (fits_at told k ≡ true)) e
    fits_leaves_in end_of-Expr under fits = tt
    fits_leaves_in (more_of-Expr e rest) under fits = fits_leaves e under fits

-- what is so of each leaf for each variable
module _ (vars : ℕ) (P : ℕ → ℕ → Type 0) where
  mutual
    all_leaves : (e : Expr) → ((v : ℕ) → v < vars → EachLeaf (P v) e) → EachLeaf (λ k. (v : ℕ) → v < vars → P v k) e
    all_leaves (Num k) h = tt
    all_leaves (AccessOf k) h = h
    all_leaves (Binary' o p e q f) h = (all_leaves_in e (λ v l. (h v l).0), all_leaves_in f (λ v l. (h v l).1))
    all_leaves (Neg' p e) h = all_leaves_in e h

    all_leaves_in : {m : _} (e : Row_of-Expr m) → ((v : ℕ) → v < vars → EachLeaf_in (P v) e)
        → EachLeaf_in (λ k. (v : ℕ) → v < vars → P v k) e
    all_leaves_in end_of-Expr h = tt
    all_leaves_in (more_of-Expr e rest) h = all_leaves e h

map_long : {A B : Type 0} (f : A → B) (xs : List A) → length (map f xs) ≡ length xs
map_long f [] = refl
map_long f (x ∷ xs) = ap suc (map_long f xs)

pub inner_inside : (s : Statement) (order : List ℕ) → IsNumberedWithSums s → (n : ℕ) (sum : NestedSum) → slice_get s.sums n ≡ Some sum
    → is_inner s order n ≡ true → AreInner (is_inner s order) (length s.accesses) sum.inside
inner_inside s order h n sum at inner =
    leaves_inner (λ k. (v : ℕ) → v < length s.vars → IsFit v k) (is_inner s order) (length s.accesses)
    (λ k fits i is. all_pass (λ v. fits_at (standings s s.sums order v) (length s.accesses + i)) 0 (length s.vars)
    (λ v above below. told v k i is (fits v (omega (arith, below)))))
    sum.inside
    (all_leaves (length s.vars) IsFit sum.inside (λ v below. fits_leaves (standings s (take n s.sums) order v) (length s.accesses + n)
    sum.inside (inside_under (length s.vars) (length s.accesses) s.sums n sum h.sums at) (inside_fits v below)))
  where
    IsFit : ℕ → ℕ → Type 0
    IsFit v k = (k < length s.accesses + n) × (fits_at (standings s (take n s.sums) order v) k ≡ true)

    told : (v k i : ℕ) → k ≡ length s.accesses + i → IsFit v k → fits_at (standings s s.sums order v) (length s.accesses + i) ≡ true
    told v k i is fit =
        let base = map (access_standing v) s.accesses in
        let long = map_long (access_standing v) s.accesses in
        ap (fits_at (standings s s.sums order v)) (sym is)
        ∙ ap (λ o. (standing_or_none o).fits) (sym ((told_final (standing_of order v) s.sums base n sum at).1 k
        (let under = fit.0 in omega (arith, under, long))))
        ∙ fit.1

    inside_fits : (v : ℕ) → v < length s.vars → (standing_in (standings s (take n s.sums) order v) sum.inside).fits ≡ true
    inside_fits v below =
        let x : Standing = standing_in (standings s (take n s.sums) order v) sum.inside in
        let whole : Standing = sum_standing order v sum.var x in
        let all : whole.fits ≡ true =
        sym (ap (λ (y : Standing). y.fits) (standing_whole s order v n sum at))
        ∙ each_passes (λ w. fits_at (standings s s.sums order w) (length s.accesses + n)) 0 (length s.vars) inner v (omega arith)
        (omega (arith, below)) in
        (both_true x.fits (not whole.free || whole.behind) all).0
