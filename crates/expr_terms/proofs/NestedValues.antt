-- What stands for a nested sum has the sum's value: that of what stands inside, added up over the whole range of its variable.
use Rattle.std.specs.Prelude.{◌≡◌, ◌⊎◌, ℕ, zero, suc, ◌+◌, ◌<◌, ◌≤◌, Bool, true, false, nat_eq, not, ◌||◌, ◌&&◌, cond, List, [], ◌∷◌, ◌++◌}
use Rattle.std.specs.Prelude.{length, map}
use Rattle.std.specs.Prelude.{filter, Some, slice_get, refl}
use Rattle.std.proofs.Common.{◌∙◌, sym, ap, subst, arith, append_assoc, length-append, inl, inr}
use Rattle.std.proofs.Math.Bool.{or-true}
use Rattle.std.proofs.lemmas.Bool.{eqb-true, eqb-false, eq-eqb}
use Rattle.numbers.specs.Arithmetic.{Arithmetic}
use Rattle.lists.specs.Each.{Each}
use Rattle.lists.proofs.Each.{each_append}
use Rattle.index_notation.specs.declared.syntax.Access.{Access}
use Rattle.index_notation.specs.declared.syntax.Expr.{Expr, Num, Access as AccessOf, Binary', Neg', Row_of-Expr, end_of-Expr, more_of-Expr}
use Rattle.index_notation.specs.declared.syntax.NestedSum.{NestedSum}
use Rattle.index_notation.specs.declared.syntax.Statement.{Statement}
use Rattle.index_notation.specs.Statement.{IsAccess, AccessesUnder, AccessesUnder_in, AreSums, IsNumberedWithSums, numbers_from}
use Rattle.expr_terms.specs.Nested.{is_free, free_in, sum_access, accesses_with, flat, with_tensor, sum_value, values_with, flat_values}
use Rattle.expr_terms.specs.Points.{point_of, sum_over}
use Rattle.expr_terms.specs.Terms.{contains, is_at_access, stands_in, stands_inside}
use Rattle.expr_terms.specs.Value.{access_value_or_zero, applied, value_of, value_of_in, minus}
use Rattle.expr_terms.specs.ValueLaws.{AgreeAt}
use Rattle.expr_terms.proofs.ValueLaws.{value_of_same}
use Rattle.expr_terms.proofs.TermLaws.{sum_over_local, each_filtered, each_number}
use Rattle.expr_terms.proofs.PointLaws.{sum_over_same, unequal}
use Rattle.expr_terms.proofs.NestedLaws.{accesses_kept}

-- every access is to a tensor before one
abbrev Before : ℕ → List Access → Type 0
Before tensor accesses = Each (λ a. a.tensor < tensor) accesses

get_first : (xs ys : List Access) (k : ℕ) → k < length xs → slice_get (xs ++ ys) k ≡ slice_get xs k
get_first [] ys k h = absurd (omega (arith, h))
get_first (x ∷ xs) ys zero h = refl
get_first (x ∷ xs) ys (suc k) h = get_first xs ys k (omega (arith, h))

get_next : (xs : List Access) (y : Access) (ys : List Access) → slice_get (xs ++ (y ∷ ys)) (length xs) ≡ Some y
get_next [] y ys = refl
get_next (x ∷ xs) y ys = get_next xs y ys

-- an expression over the first of some accesses has its value over them alone
module _ (a : Arithmetic) (values : ℕ → List ℕ → ℕ) (accesses more : List Access) (point : ℕ → ℕ) where
  mutual
    first_value : (e : Expr) → AccessesUnder (length accesses) e
        → value_of a values (accesses ++ more) point e ≡ value_of a values accesses point e
    first_value (Num n) h = refl
    first_value (AccessOf k) h = ap (access_value_or_zero a values point) (get_first accesses more k h)
    first_value (Binary' o p e q f) h = λ i. applied a o (first_value_in e h.0 i) (first_value_in f h.1 i)
    first_value (Neg' p e) h = ap (minus a) (first_value_in e h)

    first_value_in : {m : _} (e : Row_of-Expr m) → AccessesUnder_in (length accesses) e
        → value_of_in a values (accesses ++ more) point e ≡ value_of_in a values accesses point e
    first_value_in end_of-Expr h = refl
    first_value_in (more_of-Expr e rest) h = first_value e h

-- a tensor before those of the sums keeps its values
other_tensor : (values : ℕ → List ℕ → ℕ) (tensor : ℕ) (one : List ℕ → ℕ) (other : ℕ) (coords : List ℕ) → other < tensor
    → with_tensor values tensor one other coords ≡ values other coords
other_tensor values tensor one other coords below =
    ap (λ b. cond b (one coords) (values other coords)) (unequal other tensor (λ same. absurd (omega (arith, below, same))))

this_tensor : (values : ℕ → List ℕ → ℕ) (tensor : ℕ) (one : List ℕ → ℕ) (coords : List ℕ)
    → with_tensor values tensor one tensor coords ≡ one coords
this_tensor values tensor one coords = ap (λ b. cond b (one coords) (values tensor coords)) (eq-eqb tensor tensor refl)

module _ (a : Arithmetic) (ranges : ℕ → ℕ) (vars : ℕ) where
  pub values_kept : (accesses : List Access) (tensor : ℕ) (sums : List NestedSum) (values : ℕ → List ℕ → ℕ) (other : ℕ) (coords : List ℕ)
      → other < tensor → values_with a ranges vars accesses tensor sums values other coords ≡ values other coords
  values_kept accesses tensor [] values other coords below = refl
  values_kept accesses tensor (sum ∷ sums) values other coords below =
      values_kept (accesses ++ (sum_access vars accesses tensor sum ∷ [])) (tensor + 1) sums
      (with_tensor values tensor (sum_value a ranges vars accesses values sum)) other coords (omega (arith, below))
      ∙ other_tensor values tensor (sum_value a ranges vars accesses values sum) other coords below

  agree_before : (accesses all : List Access) (tensor : ℕ) (sums : List NestedSum) (values : ℕ → List ℕ → ℕ) → Before tensor accesses
      → Each (AgreeAt (values_with a ranges vars all tensor sums values) values) accesses
  agree_before [] all tensor sums values h = tt
  agree_before (access ∷ accesses) all tensor sums values h = (
    (λ coords long. values_kept all tensor sums values access.tensor coords h.0),
    agree_before accesses all tensor sums values h.1,
  )

  -- so does an expression over accesses before those of the sums
  value_kept : (accesses : List Access) (tensor : ℕ) (sums : List NestedSum) (values : ℕ → List ℕ → ℕ) (point : ℕ → ℕ) (e : Expr)
      → Before tensor accesses → AccessesUnder (length accesses) e
      → value_of a (values_with a ranges vars accesses tensor sums values) (accesses_with vars accesses tensor sums) point e
      ≡ value_of a values accesses point e
  value_kept accesses tensor sums values point e before under =
      let kept = accesses_kept vars accesses tensor sums in
      ap (λ (all : List Access). value_of a (values_with a ranges vars accesses tensor sums values) all point e) kept.1
      ∙ first_value a (values_with a ranges vars accesses tensor sums values) accesses kept.0 point e under
      ∙ value_of_same a (values_with a ranges vars accesses tensor sums values) values point point accesses
      (agree_before accesses accesses tensor sums values before) e (λ v h. refl)

-- a variable that stands in an expression is one of the statement's
abbrev HaveVariables : ℕ → List Access → Type 0
HaveVariables vars accesses = Each (λ a. Each (λ v. v < vars) a.vars) accesses

agreeing : (values : ℕ → List ℕ → ℕ) (accesses : List Access) → Each (AgreeAt values values) accesses
agreeing values [] = tt
agreeing values (access ∷ accesses) = ((λ coords h. refl), agreeing values accesses)

each_contained : (P : ℕ → Type 0) (vs : List ℕ) → Each P vs → (w : ℕ) → contains vs w ≡ true → P w
each_contained P [] each w h = cc
each_contained P (v ∷ vs) each w h = by (nat_eq v w) refl h (each_contained P vs each.1 w)
  where
    by : (b : Bool) → nat_eq v w ≡ b → (b || contains vs w) ≡ true → (contains vs w ≡ true → P w) → P w
    by true e here rest = subst P (eqb-true v w e) each.0
    by false e here rest = rest here

at_access_below : (vars v : ℕ) (accesses : List Access) (k : ℕ) → HaveVariables vars accesses
    → is_at_access v (slice_get accesses k) ≡ true → v < vars
at_access_below vars v [] k h at = cc
at_access_below vars v (access ∷ accesses) zero h at = each_contained (λ w. w < vars) access.vars h.0 v at
at_access_below vars v (access ∷ accesses) (suc k) h at = at_access_below vars v accesses k h.1 at

either_true : (b c : Bool) → (b || c) ≡ true → (b ≡ true) ⊎ (c ≡ true)
either_true true c h = inl refl
either_true false c h = inr h

module _ (vars v : ℕ) (accesses : List Access) (have : HaveVariables vars accesses) where
  mutual
    stands_below : (e : Expr) → stands_in accesses v e ≡ true → v < vars
    stands_below (Num n) h = cc
    stands_below (AccessOf k) h = at_access_below vars v accesses k have h
    stands_below (Binary' o p e q f) h = elim (either_true (stands_inside accesses v e) (stands_inside accesses v f) h) [
      | inl first ↦ stands_below_in e first
      | inr second ↦ stands_below_in f second
    ]
    stands_below (Neg' p e) h = stands_below_in e h

    stands_below_in : {m : _} (e : Row_of-Expr m) → stands_inside accesses v e ≡ true → v < vars
    stands_below_in end_of-Expr h = cc
    stands_below_in (more_of-Expr e rest) h = stands_below e h

-- a number that passes a test is among those that do
contains_number : (n count v : ℕ) → n ≤ v → v < n + count → contains (numbers_from n count) v ≡ true
contains_number n zero v above below = absurd (omega (arith, above, below))
contains_number n (suc count) v above below =
    by (nat_eq n v) refl (λ apart. contains_number (n + 1) count v (omega (arith, above, apart)) (omega (arith, below)))
  where
    by : (b : Bool) → nat_eq n v ≡ b → ((n ≡ v → ⊥) → contains (numbers_from (n + 1) count) v ≡ true)
        → (b || contains (numbers_from (n + 1) count) v) ≡ true
    by true e rest = refl
    by false e rest = rest (eqb-false n v e)

contains_passing : (p : ℕ → Bool) (v : ℕ) (ns : List ℕ) → p v ≡ true → contains ns v ≡ true → contains (filter p ns) v ≡ true
contains_passing p v [] passes h = h
contains_passing p v (n ∷ ns) passes h = by (p n) refl (nat_eq n v) refl h (contains_passing p v ns passes)
  where
    by : (b : Bool) → p n ≡ b → (c : Bool) → nat_eq n v ≡ c → (c || contains ns v) ≡ true
        → (contains ns v ≡ true → contains (filter p ns) v ≡ true) → contains (cond b (n ∷ filter p ns) (filter p ns)) v ≡ true
    by true e true f k rest = ap (λ d. d || contains (filter p ns) v) f
    by true e false f k rest = ap (λ d. nat_eq n v || d) (rest k) ∙ or-true (nat_eq n v)
    by false e true f k rest = absurd (let none : true ≡ false = sym passes ∙ ap p (sym (eqb-true n v f)) ∙ e in cc)
    by false e false f k rest = rest k

-- the point of coordinates at some variables has them there
point_has : (p : ℕ → ℕ) (vs : List ℕ) (w : ℕ) → contains vs w ≡ true → point_of vs (map p vs) w ≡ p w
point_has p [] w h = cc
point_has p (v ∷ vs) w h = by (nat_eq v w) refl h (point_has p vs w)
  where
    by : (b : Bool) → nat_eq v w ≡ b → (b || contains vs w) ≡ true → (contains vs w ≡ true → point_of vs (map p vs) w ≡ p w)
        → cond b (p v) (point_of vs (map p vs) w) ≡ p w
    by true e k rest = ap p (eqb-true v w e)
    by false e k rest = rest k

module _ (a : Arithmetic) (ranges : ℕ → ℕ) (vars : ℕ) where
  -- the value of a sum depends on its free variables alone
  sum_local : (accesses : List Access) (values : ℕ → List ℕ → ℕ) (sum : NestedSum) (point : ℕ → ℕ) → HaveVariables vars accesses
      → sum_value a ranges vars accesses values sum (map point (free_in vars accesses sum))
      ≡ sum_over a ranges (sum.var ∷ []) (λ q. value_of a values accesses q sum.inside) point
  sum_local accesses values sum point have =
      let free = free_in vars accesses sum in
      sum_over_local a ranges (sum.var ∷ []) (λ q. value_of a values accesses q sum.inside) (λ v. stands_in accesses v sum.inside)
      (λ p q same. value_of_same a values values p q accesses (agreeing values accesses) sum.inside same)
      (point_of free (map point free)) point
      (λ v stands other. point_has point free v (contains_passing (is_free accesses sum) v (numbers_from 0 vars)
      (is_one v stands other)
      (contains_number 0 vars v (omega arith) (let below = stands_below vars v accesses have sum.inside stands in omega (arith, below)))))
    where
      is_one : (v : ℕ) → stands_in accesses v sum.inside ≡ true → contains (sum.var ∷ []) v ≡ false → is_free accesses sum v ≡ true
      is_one v stands other =
          let apart : nat_eq v sum.var ≡ false = unequal v sum.var (λ same. absurd
          (let here : contains (sum.var ∷ []) v ≡ true = ap (λ b. b || false) (eq-eqb sum.var v (sym same)) in
          let none : true ≡ false = sym here ∙ other in cc)) in
          ap (λ b. b && not (nat_eq v sum.var)) stands ∙ ap not apart

  sum_of_number : (accesses : List Access) (tensor : ℕ) (sums : List NestedSum) (values : ℕ → List ℕ → ℕ) (i : ℕ) (sum : NestedSum)
      → slice_get sums i ≡ Some sum → Before tensor accesses → HaveVariables vars accesses → AreSums vars (length accesses) sums
      → (point : ℕ → ℕ)
      → value_of a (values_with a ranges vars accesses tensor sums values) (accesses_with vars accesses tensor sums) point
      (AccessOf (length accesses + i))
      ≡ sum_over a ranges (sum.var ∷ [])
      (λ q. value_of a (values_with a ranges vars accesses tensor sums values) (accesses_with vars accesses tensor sums) q sum.inside) point
  sum_of_number accesses tensor [] values i sum at before have are point = cc
  sum_of_number accesses tensor (first ∷ sums) values zero sum at before have are point =
      let one = sum_access vars accesses tensor first in
      let all = accesses_with vars accesses tensor (first ∷ sums) in
      let told = values_with a ranges vars accesses tensor (first ∷ sums) values in
      let same : first ≡ sum = cc in
      let kept = accesses_kept vars (accesses ++ (one ∷ [])) (tensor + 1) sums in
      let here : length accesses + 0 ≡ length accesses = omega arith in
      let found : slice_get all (length accesses) ≡ Some one =
      ap (λ (l : List Access). slice_get l (length accesses)) (kept.1 ∙ append_assoc accesses (one ∷ []) kept.0)
      ∙ get_next accesses one kept.0 in
      ap (λ k. access_value_or_zero a told point (slice_get all k)) here
      ∙ ap (access_value_or_zero a told point) found
      ∙ values_kept a ranges vars (accesses ++ (one ∷ [])) (tensor + 1) sums
      (with_tensor values tensor (sum_value a ranges vars accesses values first)) tensor (map point (free_in vars accesses first))
      (omega arith)
      ∙ this_tensor values tensor (sum_value a ranges vars accesses values first) (map point (free_in vars accesses first))
      ∙ sum_local accesses values first point have
      ∙ sum_over_same a ranges (first.var ∷ []) (λ q. value_of a values accesses q first.inside) (λ q. value_of a told all q first.inside)
      (λ q. sym (value_kept a ranges vars accesses tensor (first ∷ sums) values q first.inside before are.1)) point
      ∙ ap (λ (s : NestedSum). sum_over a ranges (s.var ∷ []) (λ q. value_of a told all q s.inside) point) same
  sum_of_number accesses tensor (first ∷ sums) values (suc i) sum at before have are point =
      let one = sum_access vars accesses tensor first in
      let all = accesses_with vars accesses tensor (first ∷ sums) in
      let told = values_with a ranges vars accesses tensor (first ∷ sums) values in
      let long : length (accesses ++ (one ∷ [])) ≡ length accesses + 1 = length-append accesses (one ∷ []) in
      let number : length accesses + suc i ≡ length (accesses ++ (one ∷ [])) + i = omega (arith, long) in
      ap (λ k. access_value_or_zero a told point (slice_get all k)) number
      ∙ sum_of_number (accesses ++ (one ∷ [])) (tensor + 1) sums
      (with_tensor values tensor (sum_value a ranges vars accesses values first)) i sum at
      (each_append (λ b. b.tensor < tensor + 1) accesses (one ∷ []) (one_more accesses before) (omega arith, tt))
      (each_append (λ b. Each (λ v. v < vars) b.vars) accesses (one ∷ []) have (
        each_filtered (λ v. v < vars) (is_free accesses first) (numbers_from 0 vars)
            (each_number (λ v. v < vars) 0 vars (λ v above below. omega (arith, below))),
        tt,
      ))
      (subst (λ n. AreSums vars n sums) (sym long) are.2) point
    where
      one_more : (accesses : List Access) → Before tensor accesses → Before (tensor + 1) accesses
      one_more [] h = tt
      one_more (access ∷ accesses) h = ((let below = h.0 in omega (arith, below)), one_more accesses h.1)

befores : (tensors vars : ℕ) (accesses : List Access) → Each (IsAccess tensors vars) accesses → Before tensors accesses
befores tensors vars [] h = tt
befores tensors vars (access ∷ accesses) h = (h.0.tensor, befores tensors vars accesses h.1)

haves : (tensors vars : ℕ) (accesses : List Access) → Each (IsAccess tensors vars) accesses → HaveVariables vars accesses
haves tensors vars [] h = tt
haves tensors vars (access ∷ accesses) h = (h.0.vars_stand, haves tensors vars accesses h.1)

-- the value of a statement's nested sum at a point is the sum of what stands inside, over the whole range of its variable
pub sum_is_read : (a : Arithmetic) (s : Statement) → IsNumberedWithSums s → (values : ℕ → List ℕ → ℕ) (ranges : ℕ → ℕ) (i : ℕ)
    (sum : NestedSum) → slice_get s.sums i ≡ Some sum → (point : ℕ → ℕ)
    → value_of a (flat_values a s values ranges) (flat s).accesses point (AccessOf (length s.accesses + i))
    ≡ sum_over a ranges (sum.var ∷ []) (λ q. value_of a (flat_values a s values ranges) (flat s).accesses q sum.inside) point
sum_is_read a s h values ranges i sum at point =
    sum_of_number a ranges (length s.vars) s.accesses (length s.tensors) s.sums values i sum at
    (befores (length s.tensors) (length s.vars) s.accesses h.right) (haves (length s.tensors) (length s.vars) s.accesses h.right) h.sums
    point

-- and what reads no sum keeps its value
pub read_is_kept : (a : Arithmetic) (s : Statement) → IsNumberedWithSums s → (values : ℕ → List ℕ → ℕ) (ranges : ℕ → ℕ) (point : ℕ → ℕ)
    (e : Expr) → AccessesUnder (length s.accesses) e
    → value_of a (flat_values a s values ranges) (flat s).accesses point e ≡ value_of a values s.accesses point e
read_is_kept a s h values ranges point e under =
    value_kept a ranges (length s.vars) s.accesses (length s.tensors) s.sums values point e
    (befores (length s.tensors) (length s.vars) s.accesses h.right) under
