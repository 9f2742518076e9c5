-- What stands for a nested sum is present where the sum is: where what stands inside is for some coordinate of its variable.
use Rattle.std.specs.Prelude.{◌≡◌, ℕ, zero, suc, ◌+◌, ◌<◌, Bool, true, false}
use Rattle.std.specs.Prelude.{nat_eq, not, ◌||◌, ◌&&◌, cond, List, [], ◌∷◌, ◌++◌, length, map}
use Rattle.std.specs.Prelude.{Some, slice_get, refl}
use Rattle.std.specs.List.{list_any}
use Rattle.std.proofs.Common.{◌∙◌, sym, ap, subst, arith, length-append}
use Rattle.std.proofs.Math.Bool.{or-true}
use Rattle.std.proofs.lemmas.Bool.{eqb-true, eqb-false, eq-eqb}
use Rattle.lists.specs.Each.{Each}
use Rattle.lists.proofs.Each.{each_append}
use Rattle.index_notation.specs.Operators.{is_there}
use Rattle.index_notation.specs.Statement.{IsAccess, AccessesUnder, AccessesUnder_in, AreSums, IsNumberedWithSums, numbers_from}
use Rattle.index_notation.specs.declared.syntax.Access.{Access}
use Rattle.index_notation.specs.declared.syntax.Expr.{Expr, Num, Access as AccessOf, Binary', Neg', Row_of-Expr, end_of-Expr, more_of-Expr}
use Rattle.index_notation.specs.declared.syntax.NestedSum.{NestedSum}
use Rattle.index_notation.specs.declared.syntax.Statement.{Statement}
use Rattle.expr_terms.specs.Nested.{is_free, free_in, sum_access, accesses_with, flat, with_tensor}
use Rattle.expr_terms.specs.Points.{point_of, with_coordinate}
use Rattle.expr_terms.specs.Terms.{contains, is_at_access, stands_in, stands_inside}
use Rattle.expr_terms.proofs.NestedLaws.{accesses_kept}
use Rattle.expr_terms.proofs.PointLaws.{unequal}
use Rattle.expr_terms.proofs.TermLaws.{each_filtered, each_number}
use Rattle.expr_terms.proofs.ValueLaws.{map_same}
use Rattle.workspaces.specs.Nested.{any_over, sum_paths, paths_with, flat_paths}
use Rattle.workspaces.specs.Presence.{access_is_present, is_present, is_present_in}
use Rattle.nested_sums.proofs.FreeVariables.{HaveVariables, stands_below, contains_filtered, contains_number}
use Rattle.nested_sums.proofs.Told.{get_first, get_last}

abbrev Before : ℕ → List Access → Type 0
Before tensor accesses = Each (λ (a : Access). a.tensor < tensor) accesses

-- the tensors of an access have the same paths
abbrev AgreeOn : (ℕ → List ℕ → Bool) → (ℕ → List ℕ → Bool) → Access → Type 0
AgreeOn paths other access = (coords : List ℕ) → paths access.tensor coords ≡ other access.tensor coords

-- presence depends on the paths and on the coordinates of the variables that stand in an expression
module _ (paths other : ℕ → List ℕ → Bool) (p q : ℕ → ℕ) where
  access_there : (access : Access) → AgreeOn paths other access → ((v : ℕ) → contains access.vars v ≡ true → p v ≡ q v)
      → paths access.tensor (map p access.vars) ≡ other access.tensor (map q access.vars)
  access_there access agree same = ap (paths access.tensor) (map_same p q access.vars same) ∙ agree (map q access.vars)

  pub access_or_none_same : (accesses : List Access) (k : ℕ) → Each (AgreeOn paths other) accesses
      → ((v : ℕ) → is_at_access v (slice_get accesses k) ≡ true → p v ≡ q v)
      → access_is_present paths p (slice_get accesses k) ≡ access_is_present other q (slice_get accesses k)
  access_or_none_same [] k agree same = refl
  access_or_none_same (access ∷ accesses) zero agree same = access_there access agree.0 same
  access_or_none_same (access ∷ accesses) (suc k) agree same = access_or_none_same accesses k agree.1 same

  module _ (accesses : List Access) (agree : Each (AgreeOn paths other) accesses) where
    mutual
      pub present_same : (e : Expr) → ((v : ℕ) → stands_in accesses v e ≡ true → p v ≡ q v)
          → is_present paths accesses p e ≡ is_present other accesses q e
      present_same (Num n) same = refl
      present_same (AccessOf k) same = access_or_none_same accesses k agree same
      present_same (Binary' o m e n f) same =
          ap (λ x. is_there o x (is_present_in paths accesses p f))
          (present_in_same e (λ v h. same v (ap (λ b. b || stands_inside accesses v f) h)))
          ∙ ap (is_there o (is_present_in other accesses q e))
          (present_in_same f (λ v h. same v (ap (λ b. stands_inside accesses v e || b) h ∙ or-true (stands_inside accesses v e))))
      present_same (Neg' m e) same = present_in_same e same

      present_in_same : {m : _} (e : Row_of-Expr m) → ((v : ℕ) → stands_inside accesses v e ≡ true → p v ≡ q v)
          → is_present_in paths accesses p e ≡ is_present_in other accesses q e
      present_in_same end_of-Expr same = refl
      present_in_same (more_of-Expr e rest) same = present_same e same

pub agreeing_paths : (paths : ℕ → List ℕ → Bool) (accesses : List Access) → Each (AgreeOn paths paths) accesses
agreeing_paths paths [] = tt
agreeing_paths paths (access ∷ accesses) = ((λ coords. refl), agreeing_paths paths accesses)

-- an expression over the first of some accesses
module _ (paths : ℕ → List ℕ → Bool) (accesses more : List Access) (point : ℕ → ℕ) where
  mutual
    first_present : (e : Expr) → AccessesUnder (length accesses) e
        → is_present paths (accesses ++ more) point e ≡ is_present paths accesses point e
    first_present (Num n) h = refl
    first_present (AccessOf k) h = ap (access_is_present paths point) (get_first accesses more k h)
    first_present (Binary' o p e q f) h = λ i. is_there o (first_present_in e h.0 i) (first_present_in f h.1 i)
    first_present (Neg' p e) h = first_present_in e h

    first_present_in : {m : _} (e : Row_of-Expr m) → AccessesUnder_in (length accesses) e
        → is_present_in paths (accesses ++ more) point e ≡ is_present_in paths accesses point e
    first_present_in end_of-Expr h = refl
    first_present_in (more_of-Expr e rest) h = first_present e h

other_tensor : (paths : ℕ → List ℕ → Bool) (tensor : ℕ) (one : List ℕ → Bool) (other : ℕ) (coords : List ℕ) → other < tensor
    → with_tensor paths tensor one other coords ≡ paths other coords
other_tensor paths tensor one other coords below =
    ap (λ b. cond b (one coords) (paths other coords)) (unequal other tensor (λ same. absurd (omega (arith, below, same))))

this_tensor : (paths : ℕ → List ℕ → Bool) (tensor : ℕ) (one : List ℕ → Bool) (coords : List ℕ)
    → with_tensor paths tensor one tensor coords ≡ one coords
this_tensor paths tensor one coords = ap (λ b. cond b (one coords) (paths tensor coords)) (eq-eqb tensor tensor refl)

-- a test of the numbers of a range, at two points
any_same : (f g : ℕ → Bool) (n count : ℕ) → ((x : ℕ) → f x ≡ g x) → list_any f (numbers_from n count) ≡ list_any g (numbers_from n count)
any_same f g n zero same = refl
any_same f g n (suc count) same = λ i. same n i || any_same f g (n + 1) count same i

point_has : (p : ℕ → ℕ) (vs : List ℕ) (w : ℕ) → contains vs w ≡ true → point_of vs (map p vs) w ≡ p w
point_has p [] w h = cc
point_has p (v ∷ vs) w h = by (nat_eq v w) refl h (point_has p vs w)
  where
    by : (b : Bool) → nat_eq v w ≡ b → (b || contains vs w) ≡ true → (contains vs w ≡ true → point_of vs (map p vs) w ≡ p w)
        → cond b (p v) (point_of vs (map p vs) w) ≡ p w
    by true e k rest = ap p (eqb-true v w e)
    by false e k rest = rest k

module _ (ranges : ℕ → ℕ) (vars : ℕ) where
  pub paths_kept : (accesses : List Access) (tensor : ℕ) (sums : List NestedSum) (paths : ℕ → List ℕ → Bool) (other : ℕ) (coords : List ℕ)
      → other < tensor → paths_with ranges vars accesses tensor sums paths other coords ≡ paths other coords
  paths_kept accesses tensor [] paths other coords below = refl
  paths_kept accesses tensor (sum ∷ sums) paths other coords below =
      paths_kept (accesses ++ (sum_access vars accesses tensor sum ∷ [])) (tensor + 1) sums
      (with_tensor paths tensor (sum_paths ranges vars accesses paths sum)) other coords (omega (arith, below))
      ∙ other_tensor paths tensor (sum_paths ranges vars accesses paths sum) other coords below

  agree_before : (accesses all : List Access) (tensor : ℕ) (sums : List NestedSum) (paths : ℕ → List ℕ → Bool) → Before tensor accesses
      → Each (AgreeOn (paths_with ranges vars all tensor sums paths) paths) accesses
  agree_before [] all tensor sums paths h = tt
  agree_before (access ∷ accesses) all tensor sums paths h = (
    (λ coords. paths_kept all tensor sums paths access.tensor coords h.0),
    agree_before accesses all tensor sums paths h.1,
  )

  pub present_kept : (accesses : List Access) (tensor : ℕ) (sums : List NestedSum) (paths : ℕ → List ℕ → Bool) (point : ℕ → ℕ) (e : Expr)
      → Before tensor accesses → AccessesUnder (length accesses) e
      → is_present (paths_with ranges vars accesses tensor sums paths) (accesses_with vars accesses tensor sums) point e
      ≡ is_present paths accesses point e
  present_kept accesses tensor sums paths point e before under =
      let kept = accesses_kept vars accesses tensor sums in
      ap (λ (all : List Access). is_present (paths_with ranges vars accesses tensor sums paths) all point e) kept.1
      ∙ first_present (paths_with ranges vars accesses tensor sums paths) accesses kept.0 point e under
      ∙ present_same (paths_with ranges vars accesses tensor sums paths) paths point point accesses
      (agree_before accesses accesses tensor sums paths before) e (λ v h. refl)

  -- the paths of a sum depend on its free variables alone
  sum_local : (accesses : List Access) (paths : ℕ → List ℕ → Bool) (sum : NestedSum) (point : ℕ → ℕ) → HaveVariables vars accesses
      → sum_paths ranges vars accesses paths sum (map point (free_in vars accesses sum))
      ≡ any_over ranges sum.var (λ q. is_present paths accesses q sum.inside) point
  sum_local accesses paths sum point have =
      let free = free_in vars accesses sum in
      any_same (λ x. is_present paths accesses (with_coordinate (point_of free (map point free)) sum.var x) sum.inside)
      (λ x. is_present paths accesses (with_coordinate point sum.var x) sum.inside) 0 (ranges sum.var)
      (λ x. present_same paths paths (with_coordinate (point_of free (map point free)) sum.var x) (with_coordinate point sum.var x) accesses
      (agreeing_paths paths accesses) sum.inside (λ v stands. by x v stands (nat_eq sum.var v) refl))
    where
      by : (x v : ℕ) → stands_in accesses v sum.inside ≡ true → (b : Bool) → nat_eq sum.var v ≡ b
          → cond b x (point_of (free_in vars accesses sum) (map point (free_in vars accesses sum)) v) ≡ cond b x (point v)
      by x v stands true e = refl
      by x v stands false e =
          let below : v < vars = stands_below vars v accesses have sum.inside stands in
          let apart : nat_eq v sum.var ≡ false = unequal v sum.var (λ same. eqb-false sum.var v e (sym same)) in
          point_has point (free_in vars accesses sum) v
          (contains_filtered (is_free accesses sum) (numbers_from 0 vars) v
          ∙ ap (λ b. (b && not (nat_eq v sum.var)) && contains (numbers_from 0 vars) v) stands
          ∙ ap (λ b. (true && not b) && contains (numbers_from 0 vars) v) apart
          ∙ contains_number 0 vars v (omega arith) (omega (arith, below)))

  sum_of_number : (accesses : List Access) (tensor : ℕ) (sums : List NestedSum) (paths : ℕ → List ℕ → Bool) (i : ℕ) (sum : NestedSum)
      → slice_get sums i ≡ Some sum → Before tensor accesses → HaveVariables vars accesses → AreSums vars (length accesses) sums
      → (point : ℕ → ℕ)
      → is_present (paths_with ranges vars accesses tensor sums paths) (accesses_with vars accesses tensor sums) point
      (AccessOf (length accesses + i))
      ≡ any_over ranges sum.var
      (λ q. is_present (paths_with ranges vars accesses tensor sums paths) (accesses_with vars accesses tensor sums) q sum.inside) point
  sum_of_number accesses tensor [] paths i sum at before have are point = cc
  sum_of_number accesses tensor (first ∷ sums) paths zero sum at before have are point =
      let one = sum_access vars accesses tensor first in
      let all = accesses_with vars accesses tensor (first ∷ sums) in
      let told = paths_with ranges vars accesses tensor (first ∷ sums) paths in
      let same : first ≡ sum = cc in
      let long : length (accesses ++ (one ∷ [])) ≡ length accesses + 1 = length-append accesses (one ∷ []) in
      let kept = accesses_kept vars (accesses ++ (one ∷ [])) (tensor + 1) sums in
      let here : length accesses + 0 ≡ length accesses = omega arith in
      let found : slice_get all (length accesses) ≡ Some one =
      ap (λ (l : List Access). slice_get l (length accesses)) kept.1
      ∙ get_first (accesses ++ (one ∷ [])) kept.0 (length accesses) (omega (arith, long)) ∙ get_last accesses one in
      ap (λ k. access_is_present told point (slice_get all k)) here
      ∙ ap (access_is_present told point) found
      ∙ paths_kept (accesses ++ (one ∷ [])) (tensor + 1) sums
      (with_tensor paths tensor (sum_paths ranges vars accesses paths first)) tensor (map point (free_in vars accesses first)) (omega arith)
      ∙ this_tensor paths tensor (sum_paths ranges vars accesses paths first) (map point (free_in vars accesses first))
      ∙ sum_local accesses paths first point have
      ∙ any_same (λ x. is_present paths accesses (with_coordinate point first.var x) first.inside)
      (λ x. is_present told all (with_coordinate point first.var x) first.inside) 0 (ranges first.var)
      (λ x. sym (present_kept accesses tensor (first ∷ sums) paths (with_coordinate point first.var x) first.inside before are.1))
      ∙ ap (λ (s : NestedSum). any_over ranges s.var (λ q. is_present told all q s.inside) point) same
  sum_of_number accesses tensor (first ∷ sums) paths (suc i) sum at before have are point =
      let one = sum_access vars accesses tensor first in
      let all = accesses_with vars accesses tensor (first ∷ sums) in
      let told = paths_with ranges vars accesses tensor (first ∷ sums) paths in
      let long : length (accesses ++ (one ∷ [])) ≡ length accesses + 1 = length-append accesses (one ∷ []) in
      let number : length accesses + suc i ≡ length (accesses ++ (one ∷ [])) + i = omega (arith, long) in
      ap (λ k. access_is_present told point (slice_get all k)) number
      ∙ sum_of_number (accesses ++ (one ∷ [])) (tensor + 1) sums
      (with_tensor paths tensor (sum_paths ranges vars accesses paths first)) i sum at
      (each_append (λ (b : Access). b.tensor < tensor + 1) accesses (one ∷ []) (one_more accesses before) (omega arith, tt))
      (each_append (λ (b : Access). Each (λ v. v < vars) b.vars) accesses (one ∷ []) have (
        each_filtered (λ v. v < vars) (is_free accesses first) (numbers_from 0 vars)
            (each_number (λ v. v < vars) 0 vars (λ v above below. omega (arith, below))),
        tt,
      ))
      (subst (λ n. AreSums vars n sums) (sym long) are.2) point
    where
      one_more : (accesses : List Access) → Before tensor accesses → Before (tensor + 1) accesses
      one_more [] h = tt
      one_more (access ∷ accesses) h = ((let below = h.0 in omega (arith, below)), one_more accesses h.1)

befores : (tensors vars : ℕ) (accesses : List Access) → Each (IsAccess tensors vars) accesses → Before tensors accesses
befores tensors vars [] h = tt
befores tensors vars (access ∷ accesses) h = (h.0.tensor, befores tensors vars accesses h.1)

haves : (tensors vars : ℕ) (accesses : List Access) → Each (IsAccess tensors vars) accesses → HaveVariables vars accesses
haves tensors vars [] h = tt
haves tensors vars (access ∷ accesses) h = (h.0.vars_stand, haves tensors vars accesses h.1)

-- a statement's nested sum is present where what stands inside is, for some coordinate of its variable
pub sum_is_there : (s : Statement) → IsNumberedWithSums s → (paths : ℕ → List ℕ → Bool) (ranges : ℕ → ℕ) (i : ℕ)
    (sum : NestedSum) → slice_get s.sums i ≡ Some sum → (point : ℕ → ℕ)
    → is_present (flat_paths s paths ranges) (flat s).accesses point (AccessOf (length s.accesses + i))
    ≡ any_over ranges sum.var (λ q. is_present (flat_paths s paths ranges) (flat s).accesses q sum.inside) point
sum_is_there s h paths ranges i sum at point =
    sum_of_number ranges (length s.vars) s.accesses (length s.tensors) s.sums paths i sum at
    (befores (length s.tensors) (length s.vars) s.accesses h.right) (haves (length s.tensors) (length s.vars) s.accesses h.right) h.sums
    point

-- and what reads no sum is present where it was
pub read_is_there : (s : Statement) → IsNumberedWithSums s → (paths : ℕ → List ℕ → Bool) (ranges : ℕ → ℕ) (point : ℕ → ℕ)
    (e : Expr) → AccessesUnder (length s.accesses) e
    → is_present (flat_paths s paths ranges) (flat s).accesses point e ≡ is_present paths s.accesses point e
read_is_there s h paths ranges point e under =
    present_kept ranges (length s.vars) s.accesses (length s.tensors) s.sums paths point e
    (befores (length s.tensors) (length s.vars) s.accesses h.right) under
