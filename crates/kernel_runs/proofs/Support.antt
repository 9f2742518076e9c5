-- A statement has zero at each point outside its support.
use Rattle.std.specs.Prelude.{◌≡◌, ℕ, ◌<◌, Bool, true, false, ◌||◌, nat_eq, cond, if◌then◌else◌, List, [], ◌∷◌, map, refl}
use Rattle.std.proofs.Common.{◌∙◌, sym, ap, subst, arith, inl, inr}
use Rattle.std.proofs.lemmas.Bool.Decides.{nat_tests}
use Rattle.numbers.specs.Arithmetic.{Arithmetic, Laws}
use Rattle.numbers.specs.Sums.{total_of}
use Rattle.numbers.proofs.Sums.{sum_same, sum_zeros}
use Rattle.index_notation.specs.declared.syntax.Statement.{Statement}
use Rattle.expr_terms.specs.Points.{point_of, with_coordinate, sum_over}
use Rattle.expr_terms.specs.Result.{AreBelow}
use Rattle.expr_terms.specs.Terms.{terms, contains, own_variables, term_value, term_sum, statement_value}
use Rattle.expr_terms.specs.Value.{minus, value_of}
use Rattle.expr_terms.specs.declared.term.Term.{Term}
use Rattle.workspaces.specs.Presence.{is_present}
use Rattle.workspaces.specs.PresenceLaws.{AreZeroElsewhere}
use Rattle.workspaces.proofs.Absent.{absent_is_zero}
use Rattle.concrete_notation.specs.Contributions.{Inputs}
use Rattle.concrete_notation.specs.Right.{IsSome, IsPresentAt, IsInSupport}

-- a point whose coordinates of some variables are chosen below their ranges, and the others as in another point
record IsChosen (ranges : ℕ → ℕ) (vars : List ℕ) (point p : ℕ → ℕ) : Type 0 where
  chosen : (v : ℕ) → contains vars v ≡ true → p v < ranges v
  others : (v : ℕ) → contains vars v ≡ false → p v ≡ point v

-- the choice of one more variable
more_chosen : (ranges : ℕ → ℕ) (v : ℕ) (vs : List ℕ) (point p : ℕ → ℕ) (x : ℕ) → x < ranges v
    → IsChosen ranges vs (with_coordinate point v x) p → IsChosen ranges (v ∷ vs) point p
more_chosen ranges v vs point p x h c = record {
  chosen = λ w is. chosen w (contains vs w) (nat_eq v w) refl refl is;
  others = λ w is. others w (contains vs w) (nat_eq v w) refl refl is;
}
  where
    chosen : (w : ℕ) (b d : Bool) → contains vs w ≡ b → nat_eq v w ≡ d → (nat_eq v w || contains vs w) ≡ true → p w < ranges w
    chosen w true d in_vs first is = c.chosen w in_vs
    chosen w false true in_vs first is =
        let here : p w ≡ x = c.others w in_vs ∙ ap (λ t. if t then x else point w) first in
        let same : v ≡ w = grind (arith, nat_tests, first) in
        subst (λ u. p w < ranges u) same (omega (arith, here, h))
    chosen w false false in_vs first is = absurd (no first in_vs is)
      where
        no : nat_eq v w ≡ false → contains vs w ≡ false → (nat_eq v w || contains vs w) ≡ true → ⊥
        no f g t = clash (sym (ap (λ d. d || contains vs w) f ∙ g) ∙ t)
          where
            clash : false ≡ true → ⊥
            clash e = cc

    others : (w : ℕ) (b d : Bool) → contains vs w ≡ b → nat_eq v w ≡ d → (nat_eq v w || contains vs w) ≡ false → p w ≡ point w
    others w true true in_vs first is = absurd (clash (sym (ap (λ d. d || contains vs w) first) ∙ is))
      where
        clash : true ≡ false → ⊥
        clash e = cc
    others w true false in_vs first is = absurd (clash (sym (ap (λ d. d || contains vs w) first ∙ in_vs) ∙ is))
      where
        clash : true ≡ false → ⊥
        clash e = cc
    others w false true in_vs first is = absurd (clash (sym (ap (λ d. d || contains vs w) first) ∙ is))
      where
        clash : true ≡ false → ⊥
        clash e = cc
    others w false false in_vs first is = c.others w in_vs ∙ ap (λ t. if t then x else point w) first

module _ (a : Arithmetic) (laws : Laws a) where
  -- a sum of zeros
  zero_over : (ranges : ℕ → ℕ) (vars : List ℕ) (f : (ℕ → ℕ) → ℕ) (point : ℕ → ℕ)
      → ((p : ℕ → ℕ) → IsChosen ranges vars point p → f p ≡ a.zero) → sum_over a ranges vars f point ≡ a.zero
  zero_over ranges [] f point none = none point (record { chosen = λ v is. absurd (clash is); others = λ v is. refl })
    where
      clash : false ≡ true → ⊥
      clash e = cc
  zero_over ranges (v ∷ vs) f point none =
      sum_same a (ranges v) (λ x. sum_over a ranges vs f (with_coordinate point v x)) (λ x. a.zero)
      (λ x h. zero_over ranges vs f (with_coordinate point v x) (λ p c. none p (more_chosen ranges v vs point p x h c)))
      ∙ sum_zeros a laws (ranges v)

  zero_twice : a.plus a.zero a.zero ≡ a.zero
  zero_twice = laws.plus_zero a.zero laws.zero_fits

  zero_total : (f : Term → ℕ) (P : Term → Type 0) (ts : List Term) → (IsSome P ts → ⊥) → ((t : Term) → (P t → ⊥) → f t ≡ a.zero)
      → total_of a (map f ts) ≡ a.zero
  zero_total f P [] none each = refl
  zero_total f P (t ∷ ts) none each =
      ap (λ x. a.plus x (total_of a (map f ts))) (each t (λ p. none (inl p)))
      ∙ ap (a.plus a.zero) (zero_total f P ts (λ some. none (inr some)) each) ∙ zero_twice

  module _ (s : Statement) (inputs : Inputs) (zeros : AreZeroElsewhere a inputs.paths inputs.values) (coords : List ℕ) where
    absent_value : (t : Term) (p : ℕ → ℕ) → is_present inputs.paths s.accesses p t.expr ≡ false
        → term_value a inputs.values s.accesses p t ≡ a.zero
    absent_value t p absent = by t.negated (absent_is_zero a laws inputs.paths inputs.values zeros s.accesses p t.expr absent)
      where
        by : (b : Bool) → value_of a inputs.values s.accesses p t.expr ≡ a.zero
            → cond b (minus a (value_of a inputs.values s.accesses p t.expr)) (value_of a inputs.values s.accesses p t.expr) ≡ a.zero
        by true is = ap (minus a) is ∙ laws.times_zero a.minus_one
        by false is = is

    absent_term : (t : Term) → (IsPresentAt s inputs coords t → ⊥)
        → term_sum a s inputs.values inputs.ranges (point_of s.left.vars coords) t ≡ a.zero
    absent_term t none =
        zero_over inputs.ranges (own_variables s t) (λ p. term_value a inputs.values s.accesses p t) (point_of s.left.vars coords)
        (λ p c. absent_value t p (by p c (is_present inputs.paths s.accesses p t.expr) refl))
      where
        by : (p : ℕ → ℕ) → IsChosen inputs.ranges (own_variables s t) (point_of s.left.vars coords) p → (b : Bool)
            → is_present inputs.paths s.accesses p t.expr ≡ b → is_present inputs.paths s.accesses p t.expr ≡ false
        by p c true is = absurd (none (record { point = p; chosen = c.chosen; others = c.others; present = is }))
        by p c false is = is

    pub zero_outside : AreBelow coords (map inputs.ranges s.left.vars) → (IsInSupport s inputs coords → ⊥)
        → statement_value a s inputs.values inputs.ranges coords ≡ a.zero
    zero_outside below outside =
        zero_total (term_sum a s inputs.values inputs.ranges (point_of s.left.vars coords)) (IsPresentAt s inputs coords) (terms s.expr)
        (λ some. outside (below, some)) absent_term
