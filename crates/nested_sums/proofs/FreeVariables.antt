-- The variables that stand in expressions which read nested sums.
use Rattle.std.specs.Prelude.{◌≡◌, ◌≢◌, ℕ, zero, suc, ◌+◌, ◌<◌, ◌≤◌, Bool, true, false, nat_eq, not, ◌||◌, ◌&&◌, cond, List, [], ◌∷◌, ◌++◌}
use Rattle.std.specs.Prelude.{length, filter, Some, slice_get, refl}
use Rattle.std.proofs.Common.{◌∙◌, sym, ap, subst, arith, append_assoc, length-append, inl, inr}
use Rattle.std.proofs.lemmas.Bool.{eqb-true, eqb-false}
use Rattle.lists.specs.Each.{Each}
use Rattle.index_notation.specs.Statement.{IsRead, AccessesUnder, AccessesUnder_in, AreSums, IsNumberedWithSums, numbers_from}
use Rattle.index_notation.specs.declared.syntax.Access.{Access}
use Rattle.index_notation.specs.declared.syntax.Expr.{Expr, Num, Access as AccessOf, Binary', Neg', Row_of-Expr, end_of-Expr, more_of-Expr}
use Rattle.index_notation.specs.declared.syntax.NestedSum.{NestedSum}
use Rattle.index_notation.specs.declared.syntax.Statement.{Statement}
use Rattle.expr_terms.specs.Nested.{is_free, sum_access, accesses_with, flat}
use Rattle.expr_terms.specs.Terms.{contains, is_at_access, stands_in, stands_inside}
use Rattle.expr_terms.proofs.NestedLaws.{accesses_kept, flat_numbered}
use Rattle.expr_terms.proofs.PointLaws.{unequal}
use Rattle.nested_sums.proofs.AddedPieces.{either, each_of}
use Rattle.nested_sums.proofs.Told.{get_first, get_last}

-- a variable that stands in an expression is one of the statement's
abbrev pub HaveVariables : ℕ → List Access → Type 0
HaveVariables vars accesses = Each (λ (a : Access). Each (λ v. v < vars) a.vars) accesses

at_access_below : (vars v : ℕ) (accesses : List Access) (k : ℕ) → HaveVariables vars accesses
    → is_at_access v (slice_get accesses k) ≡ true → v < vars
at_access_below vars v [] k h at = cc
at_access_below vars v (access ∷ accesses) zero h at = each_of (λ w. w < vars) access.vars h.0 v at
at_access_below vars v (access ∷ accesses) (suc k) h at = at_access_below vars v accesses k h.1 at

module _ (vars v : ℕ) (accesses : List Access) (have : HaveVariables vars accesses) where
  mutual
    pub stands_below : (e : Expr) → stands_in accesses v e ≡ true → v < vars
    stands_below (Num n) h = cc
    stands_below (AccessOf k) h = at_access_below vars v accesses k have h
    stands_below (Binary' o p e q f) h = elim (either (stands_inside accesses v e) (stands_inside accesses v f) h) [
      | inl first ↦ stands_below_in e first
      | inr second ↦ stands_below_in f second
    ]
    stands_below (Neg' p e) h = stands_below_in e h

    stands_below_in : {m : _} (e : Row_of-Expr m) → stands_inside accesses v e ≡ true → v < vars
    stands_below_in end_of-Expr h = cc
    stands_below_in (more_of-Expr e rest) h = stands_below e h

-- a variable stands in an expression over the first of some accesses as it does over them alone
module _ (v : ℕ) (accesses more : List Access) where
  mutual
    first_stands : (e : Expr) → AccessesUnder (length accesses) e → stands_in (accesses ++ more) v e ≡ stands_in accesses v e
    first_stands (Num n) h = refl
    first_stands (AccessOf k) h = ap (is_at_access v) (get_first accesses more k h)
    first_stands (Binary' o p e q f) h = λ i. first_stands_in e h.0 i || first_stands_in f h.1 i
    first_stands (Neg' p e) h = first_stands_in e h

    first_stands_in : {m : _} (e : Row_of-Expr m) → AccessesUnder_in (length accesses) e
        → stands_inside (accesses ++ more) v e ≡ stands_inside accesses v e
    first_stands_in end_of-Expr h = refl
    first_stands_in (more_of-Expr e rest) h = first_stands e h

pub contains_filtered : (p : ℕ → Bool) (vs : List ℕ) (w : ℕ) → contains (filter p vs) w ≡ (p w && contains vs w)
contains_filtered p [] w = sym (and_false (p w))
  where
    and_false : (b : Bool) → (b && false) ≡ false
    and_false true = refl
    and_false false = refl
contains_filtered p (v ∷ vs) w = by (p v) refl (nat_eq v w) refl (p w) refl (contains_filtered p vs w)
  where
    by : (b : Bool) → p v ≡ b → (c : Bool) → nat_eq v w ≡ c → (d : Bool) → p w ≡ d → contains (filter p vs) w ≡ (p w && contains vs w)
        → contains (cond b (v ∷ filter p vs) (filter p vs)) w ≡ (p w && (nat_eq v w || contains vs w))
    by true e true f d g rest = ap (λ x. x || contains (filter p vs) w) f
        ∙ sym (ap (λ x. p w && (x || contains vs w)) f ∙ ap (λ x. x && true) (ap p (sym (eqb-true v w f)) ∙ e))
    by true e false f d g rest = ap (λ x. x || contains (filter p vs) w) f ∙ rest ∙ sym (ap (λ x. p w && (x || contains vs w)) f)
    by false e true f d g rest =
        let none : p w ≡ false = ap p (sym (eqb-true v w f)) ∙ e in
        rest ∙ ap (λ x. x && contains vs w) none ∙ sym (ap (λ x. x && (nat_eq v w || contains vs w)) none)
    by false e false f d g rest = rest ∙ sym (ap (λ x. p w && (x || contains vs w)) f)

pub contains_number : (n count v : ℕ) → n ≤ v → v < n + count → contains (numbers_from n count) v ≡ true
contains_number n zero v above below = absurd (omega (arith, above, below))
contains_number n (suc count) v above below =
    by (nat_eq n v) refl (λ apart. contains_number (n + 1) count v (omega (arith, above, apart)) (omega (arith, below)))
  where
    by : (b : Bool) → nat_eq n v ≡ b → ((n ≡ v → ⊥) → contains (numbers_from (n + 1) count) v ≡ true)
        → (b || contains (numbers_from (n + 1) count) v) ≡ true
    by true e rest = refl
    by false e rest = rest (eqb-false n v e)

module _ (vars v : ℕ) where
  -- a variable stands in a sum that is read where it stands inside and isn't the sum's own
  sum_stands : (accesses : List Access) (tensor : ℕ) (sums : List NestedSum) (i : ℕ) (sum : NestedSum) → slice_get sums i ≡ Some sum
      → AreSums vars (length accesses) sums
      → stands_in (accesses_with vars accesses tensor sums) v (AccessOf (length accesses + i))
      ≡ ((stands_in (accesses_with vars accesses tensor sums) v sum.inside && not (nat_eq v sum.var)) && contains (numbers_from 0 vars) v)
  sum_stands accesses tensor [] i sum at are = cc
  sum_stands accesses tensor (first ∷ sums) zero sum at are =
      let one = sum_access vars accesses tensor first in
      let all = accesses_with vars accesses tensor (first ∷ sums) in
      let same : first ≡ sum = cc in
      let long : length (accesses ++ (one ∷ [])) ≡ length accesses + 1 = length-append accesses (one ∷ []) in
      let kept = accesses_kept vars (accesses ++ (one ∷ [])) (tensor + 1) sums in
      let here : length accesses + 0 ≡ length accesses = omega arith in
      let found : slice_get all (length accesses) ≡ Some one =
      ap (λ (l : List Access). slice_get l (length accesses)) kept.1
      ∙ get_first (accesses ++ (one ∷ [])) kept.0 (length accesses) (omega (arith, long)) ∙ get_last accesses one in
      let before : stands_in all v first.inside ≡ stands_in accesses v first.inside =
      ap (λ (l : List Access). stands_in l v first.inside) (kept.1 ∙ append_assoc accesses (one ∷ []) kept.0)
      ∙ first_stands v accesses (one ∷ kept.0) first.inside are.1 in
      ap (λ k. is_at_access v (slice_get all k)) here ∙ ap (is_at_access v) found
      ∙ contains_filtered (is_free accesses first) (numbers_from 0 vars) v
      ∙ ap (λ b. (b && not (nat_eq v first.var)) && contains (numbers_from 0 vars) v) (sym before)
      ∙ ap (λ (s : NestedSum). (stands_in all v s.inside && not (nat_eq v s.var)) && contains (numbers_from 0 vars) v) same
  sum_stands accesses tensor (first ∷ sums) (suc i) sum at are =
      let one = sum_access vars accesses tensor first in
      let long : length (accesses ++ (one ∷ [])) ≡ length accesses + 1 = length-append accesses (one ∷ []) in
      let number : length accesses + suc i ≡ length (accesses ++ (one ∷ [])) + i = omega (arith, long) in
      ap (λ k. is_at_access v (slice_get (accesses_with vars (accesses ++ (one ∷ [])) (tensor + 1) sums) k)) number
      ∙ sum_stands (accesses ++ (one ∷ [])) (tensor + 1) sums i sum at (subst (λ n. AreSums vars n sums) (sym long) are.2)

haves : (tensors vars : ℕ) (accesses : List Access) → Each (IsRead tensors vars) accesses → HaveVariables vars accesses
haves tensors vars [] h = tt
haves tensors vars (access ∷ accesses) h = (h.0.vars_stand, haves tensors vars accesses h.1)

-- a variable that stands in an expression is one of the statement's
pub standing_below : (s : Statement) → IsNumberedWithSums s → (v : ℕ) (e : Expr) → stands_in (flat s).accesses v e ≡ true
    → v < length s.vars
standing_below s h v e stands =
    let flat_is = flat_numbered s h in
    stands_below (length s.vars) v (flat s).accesses (haves (length (flat s).tensors) (length s.vars)
    (flat s).accesses flat_is.right) e stands

pub stands_in_sum : (s : Statement) → IsNumberedWithSums s → (i : ℕ) (sum : NestedSum) → slice_get s.sums i ≡ Some sum → (v : ℕ)
    → stands_in (flat s).accesses v (AccessOf (length s.accesses + i))
    ≡ ((stands_in (flat s).accesses v sum.inside && not (nat_eq v sum.var)) && contains (numbers_from 0 (length s.vars)) v)
stands_in_sum s h i sum at v = sum_stands (length s.vars) v s.accesses (length s.tensors) s.sums i sum at h.sums

pub free_outside : (s : Statement) → IsNumberedWithSums s → (i : ℕ) (sum : NestedSum) → slice_get s.sums i ≡ Some sum → (v : ℕ)
    → stands_in (flat s).accesses v sum.inside ≡ true → v ≢ sum.var
    → stands_in (flat s).accesses v (AccessOf (length s.accesses + i)) ≡ true
free_outside s h i sum at v stands other =
    let below : v < length s.vars = standing_below s h v sum.inside stands in
    stands_in_sum s h i sum at v
    ∙ ap (λ b. (b && not (nat_eq v sum.var)) && contains (numbers_from 0 (length s.vars)) v) stands
    ∙ ap (λ b. (true && not b) && contains (numbers_from 0 (length s.vars)) v) (unequal v sum.var other)
    ∙ contains_number 0 (length s.vars) v (omega arith) (omega (arith, below))
