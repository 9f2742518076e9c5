-- Every sum of a statement that is multiplied out is inner.
use Rattle.std.specs.Prelude.{◌≡◌, ◌⊎◌, ℕ, zero, suc, ◌+◌, ◌-◌, ◌<◌, ◌≤◌, Bool, true, false, cond, if◌then◌else◌}
use Rattle.std.specs.Prelude.{List, [], ◌∷◌, ◌++◌, length, map, take, Some, slice_get, refl}
use Rattle.std.specs.List.{list_all}
use Rattle.std.proofs.Common.{◌∙◌, sym, ap, subst, arith, inl, inr}
use Rattle.index_notation.specs.Statement.{AccessesUnder, AccessesUnder_in, IsNumberedWithSums, numbers_from}
use Rattle.index_notation.specs.declared.syntax.Expr.{Expr, Num, Access as AccessOf, Binary', Neg', Row_of-Expr, end_of-Expr, more_of-Expr}
use Rattle.index_notation.specs.declared.syntax.NestedSum.{NestedSum}
use Rattle.index_notation.specs.declared.syntax.Statement.{Statement}
use Rattle.expr_terms.specs.Nested.{flat}
use Rattle.nested_sums.specs.Bound.{HasNoBadSum}
use Rattle.nested_sums.specs.Inner.{Standing, standing_or_none, standing_in, standing_inside, standing_of, standings, sum_standing}
use Rattle.nested_sums.specs.Inner.{access_standing, both_standing, is_inner}
use Rattle.nested_sums.specs.Multiplied.{unit_sum, kept_sums, missing, with_sums, term_pieces, all_sums, multiplied_out, multiplied}
use Rattle.nested_sums.specs.Multiplied.{HasInnerSums}
use Rattle.nested_sums.specs.Pieces.{AreInner, AreInner_in}
use Rattle.nested_sums.proofs.BoundVariables.{inside_under}
use Rattle.nested_sums.proofs.InnerInside.{all_pass, each_passes, inner_inside}
use Rattle.nested_sums.proofs.KeptSums.{kept_first}
use Rattle.nested_sums.proofs.MultipliedValue.{out_numbered}
use Rattle.nested_sums.proofs.SameSums.{get_some, before_or_behind}
use Rattle.nested_sums.proofs.Standings.{standing_whole}
use Rattle.nested_sums.proofs.Told.{told_access, told_final}

map_long : {A B : Type 0} (f : A → B) (xs : List A) → length (map f xs) ≡ length xs
map_long f [] = refl
map_long f (x ∷ xs) = ap suc (map_long f xs)

-- what is told of the leaves of an expression tells of it
module _ (told other : List Standing) (n : ℕ) (same : (k : ℕ) → k < n → slice_get told k ≡ slice_get other k) where
  mutual
    standing_same : (e : Expr) → AccessesUnder n e → standing_in told e ≡ standing_in other e
    standing_same (Num k) h = refl
    standing_same (AccessOf k) h = ap standing_or_none (same k h)
    standing_same (Binary' o p e q f) h = λ i. both_standing (standing_same_in e h.0 i) (standing_same_in f h.1 i)
    standing_same (Neg' p e) h = standing_same_in e h

    standing_same_in : {m : _} (e : Row_of-Expr m) → AccessesUnder_in n e → standing_inside told e ≡ standing_inside other e
    standing_same_in end_of-Expr h = refl
    standing_same_in (more_of-Expr e rest) h = standing_same e h

standing_within : (xs : List NestedSum) (k : ℕ) (x : NestedSum) → slice_get xs k ≡ Some x → k < length xs
standing_within [] k x h = cc
standing_within (y ∷ xs) zero x h = omega arith
standing_within (y ∷ xs) (suc k) x h = let rest = standing_within xs k x h in omega (arith, rest)

-- what is told of a whole sum, by what is told of its inside
standing_there : (s : Statement) → IsNumberedWithSums s → (order : List ℕ) (var n : ℕ) (sum : NestedSum) → slice_get s.sums n ≡ Some sum
    → standing_in (standings s s.sums order var) (AccessOf (length s.accesses + n))
    ≡ sum_standing order var sum.var (standing_in (standings s s.sums order var) sum.inside)
standing_there s h order var n sum at =
    let base = map (access_standing var) s.accesses in
    let long = map_long (access_standing var) s.accesses in
    let final = told_final (standing_of order var) s.sums base n sum at in
    standing_whole s order var n sum at
    ∙ ap (sum_standing order var sum.var) (standing_same (standings s (take n s.sums) order var) (standings s s.sums order var)
    (length s.accesses + n) (λ k below. final.1 k (omega (arith, below, long))) sum.inside
    (inside_under (length s.vars) (length s.accesses) s.sums n sum h.sums at))

module _ (s : Statement) (sums : List NestedSum) (expr : Expr) (numbered : IsNumberedWithSums s)
    (other : IsNumberedWithSums (with_sums s sums expr)) (order : List ℕ)
    (kept : (n : ℕ) (sum : NestedSum) → slice_get s.sums n ≡ Some sum → is_inner s order n ≡ true → slice_get sums n ≡ Some sum)
    (var : ℕ) where
  abbrev before : List Standing
  before = standings s s.sums order var

  abbrev after : List Standing
  after = standings (with_sums s sums expr) sums order var

  abbrev IsSame : Expr → Type 0
  IsSame e = standing_in after e ≡ standing_in before e

  abbrev IsSameRow : {m : _} → Row_of-Expr m → Type 0
  IsSameRow e = standing_inside after e ≡ standing_inside before e

  access_same : (k : ℕ) → k < length s.accesses → IsSame (AccessOf k)
  access_same k below =
      let base = map (access_standing var) s.accesses in
      let long = map_long (access_standing var) s.accesses in
      ap standing_or_none (told_access (standing_of order var) sums base k (omega (arith, below, long))
      ∙ sym (told_access (standing_of order var) s.sums base k (omega (arith, below, long))))

  module _ (bound : ℕ) (few : bound ≤ length s.sums) (below : (n : ℕ) (sum : NestedSum) → n < bound → slice_get s.sums n ≡ Some sum
      → is_inner s order n ≡ true → IsSame sum.inside) where
    there_same : (n : ℕ) → n < bound → is_inner s order n ≡ true → IsSame (AccessOf (length s.accesses + n))
    there_same n under inner =
        let found = get_some s.sums n (omega (arith, under, few)) in
        standing_there (with_sums s sums expr) other order var n found.0 (kept n found.0 found.1 inner)
        ∙ ap (sum_standing order var found.0.var) (below n found.0 under found.1 inner)
        ∙ sym (standing_there s numbered order var n found.0 found.1)

    leaf_same : (k : ℕ) → k < length s.accesses + bound → AreInner (is_inner s order) (length s.accesses) (AccessOf k) → IsSame (AccessOf k)
    leaf_same k under inner = elim (before_or_behind k (length s.accesses)) [
      | inl h ↦ access_same k h
      | inr h ↦ subst (λ j. IsSame (AccessOf j)) (sym h)
          (there_same (k - length s.accesses) (omega (arith, under, h)) (inner (k - length s.accesses) h))
    ]

    mutual
      expr_same : (e : Expr) → AccessesUnder (length s.accesses + bound) e → AreInner (is_inner s order) (length s.accesses) e → IsSame e
      expr_same (Num k) under inner = refl
      expr_same (AccessOf k) under inner = leaf_same k under inner
      expr_same (Binary' o q e r f) under inner =
          (λ i. both_standing (row_same e under.0 inner.0 i) (row_same f under.1 inner.1 i))
      expr_same (Neg' q e) under inner = row_same e under inner

      row_same : {r : _} (e : Row_of-Expr r) → AccessesUnder_in (length s.accesses + bound) e
          → AreInner_in (is_inner s order) (length s.accesses) e → IsSameRow e
      row_same end_of-Expr under inner = refl
      row_same (more_of-Expr e rest) under inner = expr_same e under inner

  insides_same : (bound : ℕ) → bound ≤ length s.sums → (n : ℕ) (sum : NestedSum) → n < bound → slice_get s.sums n ≡ Some sum
      → is_inner s order n ≡ true → IsSame sum.inside
  insides_same zero few n sum below at inner = absurd (omega (arith, below))
  insides_same (suc bound) few n sum below at inner =
      let fewer : bound ≤ length s.sums = omega (arith, few) in
      by (within n bound below) (λ l. insides_same bound fewer n sum l at inner)
      (λ e. expr_same bound fewer (insides_same bound fewer) sum.inside
      (subst (λ k. AccessesUnder (length s.accesses + k) sum.inside) e
      (inside_under (length s.vars) (length s.accesses) s.sums n sum numbered.sums at)) (inner_inside s order numbered n sum at inner))
    where
      within : (n bound : ℕ) → n < suc bound → (n < bound) ⊎ (n ≡ bound)
      within n bound h = grind (arith, h)

      by : (n < bound) ⊎ (n ≡ bound) → (n < bound → IsSame sum.inside) → (n ≡ bound → IsSame sum.inside) → IsSame sum.inside
      by (inl h) first second = first h
      by (inr h) first second = second h

  -- a sum that stayed fits as it did
  stayed_fits : var < length s.vars → (n : ℕ) (sum : NestedSum) → slice_get s.sums n ≡ Some sum → is_inner s order n ≡ true
      → (standing_in after (AccessOf (length s.accesses + n))).fits ≡ true
  stayed_fits below n sum at inner =
      let found = standing_within s.sums n sum at in
      ap (λ (x : Standing). x.fits) (there_same (length s.sums) (omega arith) (insides_same (length s.sums) (omega arith)) n found inner)
      ∙ each_passes (λ v. (standing_or_none (slice_get (standings s s.sums order v) (length s.accesses + n))).fits) 0
      (length s.vars) inner var
      (omega arith) (omega (arith, below))

  -- and a unit does
  unit_fits : (one n v : ℕ) → slice_get sums n ≡ Some (unit_sum one v) → (standing_in after (AccessOf (length s.accesses + n))).fits ≡ true
  unit_fits one n v at = ap (λ (x : Standing). x.fits) (standing_there (with_sums s sums expr) other order var n (unit_sum one v) at)

-- what stands in a place: an inner sum that stayed, or a unit
module _ (is_inner : ℕ → Bool) (one : ℕ) where
  abbrev IsIn : List NestedSum → ℕ → ℕ → NestedSum → Type 0
  IsIn sums n i x = ((slice_get sums i ≡ Some x) × (is_inner (n + i) ≡ true)) ⊎ ((v : ℕ) × (x ≡ unit_sum one v))

  in_units : (vs : List ℕ) (i : ℕ) (x : NestedSum) → slice_get (map (unit_sum one) vs) i ≡ Some x → (v : ℕ) × (x ≡ unit_sum one v)
  in_units [] i x at = cc
  in_units (v ∷ vs) zero x at = (v, let same : unit_sum one v ≡ x = cc in sym same)
  in_units (v ∷ vs) (suc i) x at = in_units vs i x at

  in_kept : (n : ℕ) (sums : List NestedSum) (more : List NestedSum)
      → ((i : ℕ) (x : NestedSum) → slice_get more i ≡ Some x → (v : ℕ) × (x ≡ unit_sum one v))
      → (i : ℕ) (x : NestedSum) → slice_get (kept_sums is_inner one n sums ++ more) i ≡ Some x → IsIn sums n i x
  in_kept n [] more units i x at = inr (units i x at)
  in_kept n (sum ∷ sums) more units zero x at = by (is_inner n) refl at
    where
      by : (b : Bool) → is_inner n ≡ b → Some (cond b sum (unit_sum one sum.var)) ≡ Some x → IsIn (sum ∷ sums) n zero x
      by true e same = let here : n + 0 ≡ n = omega arith in inl (same, ap is_inner here ∙ e)
      by false e same = let is : unit_sum one sum.var ≡ x = cc in inr (sum.var, sym is)
  in_kept n (sum ∷ sums) more units (suc i) x at = moved (in_kept (n + 1) sums more units i x at)
    where
      moved : IsIn sums (n + 1) i x → IsIn (sum ∷ sums) n (suc i) x
      moved (inl h) = let there : n + suc i ≡ n + 1 + i = omega arith in inl (h.0, ap is_inner there ∙ h.1)
      moved (inr h) = inr h

pub out_inner : (one : ℕ) (s : Statement) (order : List ℕ) → IsNumberedWithSums s → HasNoBadSum s
    → HasInnerSums order (multiplied_out one s order)
out_inner one s order numbered clear =
    λ n below. all_pass (test n) 0 (length s.vars) (λ var above under. passes n below var (omega (arith, under)))
  where
    sums : List NestedSum
    sums = all_sums one s order

    expr : Expr
    expr = (multiplied_out one s order).expr

    test : ℕ → ℕ → Bool
    test n var = (standing_or_none (slice_get (standings (with_sums s sums expr) sums order var) (length s.accesses + n))).fits

    passes : (n : ℕ) → n < length sums → (var : ℕ) → var < length s.vars → test n var ≡ true
    passes n below var under =
        let found = get_some sums n below in
        let vs : List ℕ = missing (length s.vars) (flat s).accesses one (kept_sums (is_inner s order) one 0 s.sums) (term_pieces s order) in
        let here : 0 + n ≡ n = omega arith in
        let other : IsNumberedWithSums (with_sums s sums expr) = out_numbered one s order numbered clear in
        elim (in_kept (is_inner s order) one 0 s.sums (map (unit_sum one) vs) (in_units (is_inner s order) one vs) n found.0 found.1) [
          | inl h ↦ stayed_fits s sums expr numbered other order
              (λ k sum at inner. kept_first (is_inner s order) one s.sums (map (unit_sum one) vs) k sum at inner) var under n found.0 h.0
              (sym (ap (is_inner s order) here) ∙ h.1)
          | inr h ↦ unit_fits s sums expr numbered other order
              (λ k sum at inner. kept_first (is_inner s order) one s.sums (map (unit_sum one) vs) k sum at inner) var one n h.0
              (found.1 ∙ ap Some h.1)
        ]

pub keeps_inner : (one : ℕ) (s : Statement) (order : List ℕ) → IsNumberedWithSums s → HasNoBadSum s
    → HasInnerSums order (multiplied one s order)
keeps_inner one s order numbered clear = by (list_all (is_inner s order) (numbers_from 0 (length s.sums))) refl
  where
    by : (b : Bool) → list_all (is_inner s order) (numbers_from 0 (length s.sums)) ≡ b
        → HasInnerSums order (if b then s else multiplied_out one s order)
    by true e = λ n below. each_passes (is_inner s order) 0 (length s.sums) e n (omega arith) (omega (arith, below))
    by false e = out_inner one s order numbered clear
