-- What is summed over a variable that doesn't stand in it is a product with a one for each coordinate.
use Rattle.std.specs.Prelude.{◌≡◌, ℕ, ◌<◌, ◌^◌, Bool, true, false, nat_eq, ◌||◌, List, [], ◌∷◌, slice_get, refl}
use Rattle.std.proofs.Common.{◌∙◌, sym, ap}
use Rattle.std.proofs.Math.Bool.{or-true}
use Rattle.std.proofs.lemmas.Bool.{eq-eqb}
use Rattle.numbers.specs.Arithmetic.{Arithmetic}
use Rattle.numbers.specs.Sums.{sum_below}
use Rattle.numbers.proofs.Sums.{sum_same, sum_times}
use Rattle.lists.specs.Each.{Each}
use Rattle.index_notation.specs.declared.operator.Operator.TheVariants as op
use Rattle.index_notation.specs.declared.syntax.Expr.{Expr, Access as AccessOf}
use Rattle.expr_terms.specs.Points.{with_coordinate, sum_over}
use Rattle.expr_terms.specs.Signs.{signed_value}
use Rattle.expr_terms.specs.Terms.{contains, is_at_access, stands_in}
use Rattle.expr_terms.proofs.Equations.{stands_in_binary}
use Rattle.nested_sums.specs.Multiplied.{with_units}
use Rattle.nested_sums.proofs.CutPieces.{signed_over}
use Rattle.nested_sums.proofs.Meaning.{Meaning, meaning, meaning_binary, meaning_fits}

-- what the summed variables don't move is as at any point
pub unmoved_over : (a : Arithmetic) (ranges : ℕ → ℕ) (vs : List ℕ) (f : (ℕ → ℕ) → ℕ)
    → ((v : ℕ) → contains vs v ≡ true → (q : ℕ → ℕ) (x : ℕ) → f (with_coordinate q v x) ≡ f q) → (p : ℕ → ℕ)
    → sum_over a ranges vs f p ≡ sum_over a ranges vs (λ r. f p) p
unmoved_over a ranges [] f unmoved p = refl
unmoved_over a ranges (v ∷ vs) f unmoved p =
    sum_same a (ranges v) (λ x. sum_over a ranges vs f (with_coordinate p v x))
    (λ x. sum_over a ranges vs (λ r. f p) (with_coordinate p v x))
    (λ x h. unmoved_over a ranges vs f (λ w there. unmoved w (ap (λ b. nat_eq v w || b) there
    ∙ or-true (nat_eq v w))) (with_coordinate p v x)
    ∙ ap (λ y. sum_over a ranges vs (λ r. y) (with_coordinate p v x)) (unmoved v (ap (λ b. b || contains vs v) (eq-eqb v v refl)) p x))

module _ (m : Meaning) (unit : ℕ → ℕ) where
  -- a leaf is a one for each coordinate of a variable, and no variable stands in it
  pub record IsUnit (v : ℕ) : Type 0 where
    pub value : (p : ℕ → ℕ) → m.leaf p (unit v) ≡ sum_below m.a (m.ranges v) (λ x. m.a.one)
    pub closed : (w : ℕ) → is_at_access w (slice_get m.accesses (unit v)) ≡ false

  times_ones : (x n : ℕ) → x < 2 ^ 64 → m.a.times x (sum_below m.a n (λ y. m.a.one)) ≡ sum_below m.a n (λ y. x)
  times_ones x n word =
      sum_times m.a m.laws x n (λ y. m.a.one)
      ∙ sum_same m.a n (λ y. m.a.times x m.a.one) (λ y. x) (λ y h. m.laws.times_one x word)

  units_mean : (e : Expr) (vs : List ℕ) → Each IsUnit vs → (q p : ℕ → ℕ)
      → meaning m q (with_units unit e vs) ≡ sum_over m.a m.ranges vs (λ r. meaning m q e) p
  units_mean e [] each q p = refl
  units_mean e (v ∷ vs) each q p =
      meaning_binary m q op.Mul (with_units unit e vs) (AccessOf (unit v))
      ∙ ap (m.a.times (meaning m q (with_units unit e vs))) (each.0.value q)
      ∙ times_ones (meaning m q (with_units unit e vs)) (m.ranges v) (meaning_fits m q (with_units unit e vs))
      ∙ sum_same m.a (m.ranges v) (λ x. meaning m q (with_units unit e vs))
      (λ x. sum_over m.a m.ranges vs (λ r. meaning m q e) (with_coordinate p v x))
      (λ x h. units_mean e vs each.1 q (with_coordinate p v x))

  -- a sum over variables that don't stand in an expression
  pub units_value : (b : Bool) (e : Expr) (vs : List ℕ) → Each IsUnit vs
      → ((v : ℕ) → contains vs v ≡ true → (q : ℕ → ℕ) (x : ℕ) → meaning m (with_coordinate q v x) e ≡ meaning m q e) → (q : ℕ → ℕ)
      → sum_over m.a m.ranges vs (λ r. signed_value m.a b (meaning m r e)) q ≡ signed_value m.a b (meaning m q (with_units unit e vs))
  units_value b e vs each unmoved q =
      signed_over m.a m.laws m.ranges b vs (λ r. meaning m r e) q
      ∙ ap (signed_value m.a b) (unmoved_over m.a m.ranges vs (λ r. meaning m r e) unmoved q ∙ sym (units_mean e vs each q q))

  -- what stands in it with units
  pub units_stand : (e : Expr) (vs : List ℕ) → Each IsUnit vs → (w : ℕ)
      → stands_in m.accesses w (with_units unit e vs) ≡ stands_in m.accesses w e
  units_stand e [] each w = refl
  units_stand e (v ∷ vs) each w =
      stands_in_binary m.accesses w op.Mul (with_units unit e vs) (AccessOf (unit v))
      ∙ ap (λ b. stands_in m.accesses w (with_units unit e vs) || b) (each.0.closed w)
      ∙ or_none (stands_in m.accesses w (with_units unit e vs)) ∙ units_stand e vs each.1 w
    where
      or_none : (b : Bool) → (b || false) ≡ b
      or_none true = refl
      or_none false = refl
