-- Lists of variables that are bound, and where accesses and sums stand.
use Rattle.std.specs.Prelude.{◌≡◌, ◌⊎◌, ℕ, zero, suc, ◌+◌, ◌-◌, ◌≤◌, ◌<◌, nat_eq, Bool, true, false, ◌||◌, if◌then◌else◌}
use Rattle.std.specs.Prelude.{List, [], ◌∷◌, length, Option, None, Some, slice_get, refl}
use Rattle.std.proofs.Common.{◌∙◌, ap, subst, arith, inl, inr}
use Rattle.std.proofs.lemmas.Bool.Decides.{nat_tests, eqb_tells}
use Rattle.format_spec.specs.declared.format.FormatLevel.{FormatLevel}
use Rattle.index_notation.specs.Statement.{numbers_from}
use Rattle.index_notation.specs.declared.syntax.Access.{Access}
use Rattle.index_notation.specs.declared.syntax.Expr.{Expr, Num, Access as AccessOf, Binary', Neg', Row_of-Expr, end_of-Expr, more_of-Expr}
use Rattle.index_notation.specs.declared.syntax.Statement.{Statement}
use Rattle.iteration_graph.specs.Edges.{by_level}
use Rattle.lists.specs.Each.{Each}
use Rattle.expr_terms.specs.Terms.{contains, is_at_access, stands_in, stands_inside, stands_before}
use Rattle.concrete_notation.proofs.Points.{each_contained}
use Rattle.loop_code.specs.Parts.{given}
use Rattle.lowering.specs.Layouts.{layout_of, levels_of, variables_of}
use Rattle.lowering.specs.Seeking.{has_access, has_access_in}
use Rattle.lowering.specs.Sums.{HasSums, are_bound, first_sum, vars_of}
use Rattle.lowering.proofs.Accesses.{or_left, or_right}
use Rattle.lowering.proofs.Through.{both_so, so_both}

pub self_test : (n : ℕ) → nat_eq n n ≡ true
self_test n = grind (arith, nat_tests)

pub same_by : (a b : ℕ) → nat_eq a b ≡ true → a ≡ b
same_by a b h = grind (arith, nat_tests, h)

pub given_kept : (P : ℕ → Bool) (j k : ℕ) → P k ≡ true → given P j true k ≡ true
given_kept P j k h = by (nat_eq j k)
  where
    by : (b : Bool) → (if b then true else P k) ≡ true
    by true = refl
    by false = h

pub each_as : {X : Type 0} (P Q : X → Type 0) (xs : List X) → ((x : X) → P x → Q x) → Each P xs → Each Q xs
each_as P Q [] f h = tt
each_as P Q (x ∷ xs) f h = (f x h.0, each_as P Q xs f h.1)

pub numbers_each : (P : ℕ → Type 0) (n count : ℕ) → ((k : ℕ) → n ≤ k → k < n + count → P k) → Each P (numbers_from n count)
numbers_each P n zero f = tt
numbers_each P n (suc count) f =
    (f n (omega arith) (omega arith), numbers_each P (n + 1) count (λ k low high. f k (omega (arith, low)) (omega (arith, high))))

pub number_in : (n count k : ℕ) → n ≤ k → k < n + count → contains (numbers_from n count) k ≡ true
number_in n zero k low high = absurd (omega (arith, low, high))
number_in n (suc count) k low high = elim (eqb_tells n k) [
  | inl e ↦ or_left (nat_eq n k) (contains (numbers_from (n + 1) count) k) e.0
  | inr e ↦ or_right (nat_eq n k) (contains (numbers_from (n + 1) count) k)
      (number_in (n + 1) count k (omega (arith, low, e.1)) (omega (arith, high)))
]

pub or_so : (b c : Bool) → (b || c) ≡ true → b ≡ false → c ≡ true
or_so true c h g = absurd (cc g)
or_so false c h g = h

-- all of some variables are bound where each is
pub all_bound : (bound ws : List ℕ) → ((w : ℕ) → contains ws w ≡ true → contains bound w ≡ true) → are_bound bound ws ≡ true
all_bound bound [] f = refl
all_bound bound (w ∷ ws) f =
    so_both (contains bound w) (are_bound bound ws) (f w (or_left (nat_eq w w) (contains ws w) (self_test w)))
    (all_bound bound ws (λ u h. f u (or_right (nat_eq w u) (contains ws u) h)))

pub one_bound : (bound ws : List ℕ) → are_bound bound ws ≡ true → (w : ℕ) → contains ws w ≡ true → contains bound w ≡ true
one_bound bound [] h w is = absurd (cc is)
one_bound bound (u ∷ ws) h w is = elim (eqb_tells u w) [
  | inl same ↦ subst (λ x. contains bound x ≡ true) same.1 (both_so (contains bound u) (are_bound bound ws) h).0
  | inr other ↦ one_bound bound ws (both_so (contains bound u) (are_bound bound ws) h).1 w (or_so (nat_eq u w) (contains ws w) is other.0)
]

-- a variable that isn't among them may be left out
pub bound_less : (v : ℕ) (bound ws : List ℕ) → are_bound (v ∷ bound) ws ≡ true → contains ws v ≡ false → are_bound bound ws ≡ true
bound_less v bound ws h apart = all_bound bound ws by
  where
    clash : (b : Bool) → b ≡ true → b ≡ false → ⊥
    clash b h g = cc

    by : (w : ℕ) → contains ws w ≡ true → contains bound w ≡ true
    by w is = elim (eqb_tells v w) [
      | inl same ↦ absurd (clash (contains ws v) (ap (contains ws) same.1 ∙ is) apart)
      | inr other ↦ or_so (nat_eq v w) (contains bound w) (one_bound (v ∷ bound) ws h w is) other.0
    ]

-- a variable behind all that are bound isn't bound
pub fresh_behind : (order bound : List ℕ) (v : ℕ) → stands_before order v v ≡ false → Each (λ w. stands_before order w v ≡ true) bound
    → contains bound v ≡ false
fresh_behind order bound v apart h = by (contains bound v) refl
  where
    clash : (b : Bool) → b ≡ true → b ≡ false → ⊥
    clash b h g = cc

    by : (b : Bool) → contains bound v ≡ b → contains bound v ≡ false
    by false is = is
    by true is = absurd (clash (stands_before order v v)
        (each_contained (λ w. stands_before order w v ≡ true) bound h v is) apart)

stands_either : (b c x y : Bool) → (b || c) ≡ true → (b ≡ true → x ≡ true) → (c ≡ true → y ≡ true) → (x || y) ≡ true
stands_either true c x y h f g = or_left x y (f refl)
stands_either false c x y h f g = or_right x y (g h)

mutual
  -- a variable of an access that stands in an expression stands there
  pub stands_by : (accesses : List Access) (v k : ℕ) (e : Expr) → has_access e k ≡ true → is_at_access v (slice_get accesses k) ≡ true
      → stands_in accesses v e ≡ true
  stands_by accesses v k (Num n) h is = absurd (cc h)
  stands_by accesses v k (AccessOf j) h is = ap (λ i. is_at_access v (slice_get accesses i)) (same_by j k h) ∙ is
  stands_by accesses v k (Binary' o p e q f) h is =
      stands_either (has_access_in e k) (has_access_in f k) (stands_inside accesses v e) (stands_inside accesses v f) h
      (λ g. stands_by_in accesses v k e g is) (λ g. stands_by_in accesses v k f g is)
  stands_by accesses v k (Neg' p e) h is = stands_by_in accesses v k e h is

  stands_by_in : {m : _} (accesses : List Access) (v k : ℕ) (row : Row_of-Expr m) → has_access_in row k ≡ true
      → is_at_access v (slice_get accesses k) ≡ true → stands_inside accesses v row ≡ true
  stands_by_in accesses v k end_of-Expr h is = absurd (cc h)
  stands_by_in accesses v k (more_of-Expr e rest) h is = stands_by accesses v k e h is

-- whether a variable is at an access is whether it is among its variables
pub at_access : (v : ℕ) (o : Option Access) → is_at_access v o ≡ contains (vars_of o) v
at_access v None = refl
at_access v (Some access) = refl

-- where the tensor of an access has no format it has no levels
none_level : (formats : List (List FormatLevel)) (o : Option Access) → levels_of formats o ≡ [] → length (variables_of formats o) ≡ 0
none_level formats None h = refl
none_level formats (Some access) h = ap (λ (f : List FormatLevel). length (by_level f access.vars)) h

pub sum_has_no_level : (s : Statement) (formats : List (List FormatLevel)) (k : ℕ) → levels_of formats (slice_get s.accesses k) ≡ []
    → (layout_of s formats).levels k ≡ 0
sum_has_no_level s formats k h = none_level formats (slice_get s.accesses k) h

get_none : (xs : List Access) (k : ℕ) → length xs ≤ k → slice_get xs k ≡ None
get_none [] k h = refl
get_none (x ∷ xs) zero h = absurd (omega (arith, h))
get_none (x ∷ xs) (suc k) h = get_none xs k (omega (arith, h))

-- behind the accesses of tensors none has a level
pub none_behind : (s : Statement) (formats : List (List FormatLevel)) → HasSums s formats → (k : ℕ) → first_sum s ≤ k
    → (layout_of s formats).levels k ≡ 0
none_behind s formats sums k low = by (less_or_not (k - first_sum s) (length s.sums))
  where
    less_or_not : (a b : ℕ) → (a < b) ⊎ (b ≤ a)
    less_or_not a b = grind arith

    by : (k - first_sum s < length s.sums) ⊎ (length s.sums ≤ k - first_sum s) → (layout_of s formats).levels k ≡ 0
    by (inl below) =
        let number : first_sum s + (k - first_sum s) ≡ k = omega (arith, low) in
        sum_has_no_level s formats k
        (subst (λ i. levels_of formats (slice_get s.accesses i) ≡ []) number (sums.levels (k - first_sum s) below))
    by (inr above) =
        let within = sums.count in
        ap (λ o. length (variables_of formats o)) (get_none s.accesses k (omega (arith, above, low, within)))
