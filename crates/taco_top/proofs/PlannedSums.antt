-- A planned statement has no bad sum where the given one has none: the same variables stand in what they read.
use Rattle.std.specs.Prelude.{◌≡◌, ℕ, false, List, [], ◌∷◌, length, map, refl}
use Rattle.std.proofs.Common.{◌∙◌, sym, ap, subst, arith}
use Rattle.lists.specs.Each.{Each}
use Rattle.numbers.specs.Arithmetic.{Arithmetic}
use Rattle.format_spec.specs.declared.format.FormatLevel.{FormatLevel}
use Rattle.index_notation.specs.Statement.{IsNumberedWithSums}
use Rattle.index_notation.specs.declared.syntax.Access.{Access}
use Rattle.index_notation.specs.declared.syntax.Expr.{Expr, Num, Access as AccessOf, Binary', Neg', Row_of-Expr, end_of-Expr, more_of-Expr}
use Rattle.index_notation.specs.declared.syntax.NestedSum.{NestedSum}
use Rattle.index_notation.specs.declared.syntax.Statement.{Statement}
use Rattle.expr_terms.specs.Nested.{flat}
use Rattle.expr_terms.specs.Terms.{contains, stands_in, stands_inside}
use Rattle.mode_planner.specs.Planned.{IsPlanned}
use Rattle.mode_planner.specs.declared.planned.Planned.{Planned}
use Rattle.mode_planner.proofs.PlannedValues.{planned_stands}
use Rattle.nested_sums.specs.Bound.{AreApart, HasNoBadSum, IsClear, IsClear_in, IsClearSum, bound_by, bound_in}
use Rattle.nested_sums.specs.Bound.{bound_inside, bounds, none_bound}
use Rattle.nested_sums.specs.Told.{told_with}

-- accesses bind nothing, whichever they are
none_bound_same : (xs ys : List Access) → length xs ≡ length ys → map none_bound xs ≡ map none_bound ys
none_bound_same [] [] long = refl
none_bound_same (x ∷ xs) (y ∷ ys) long = ap (λ rest. [] ∷ rest) (none_bound_same xs ys (omega (arith, long)))
none_bound_same [] (y ∷ ys) long = absurd (omega (arith, long))
none_bound_same (x ∷ xs) [] long = absurd (omega (arith, long))

module _ (xs ys : List Access) (told : List (List ℕ))
    (same : (v : ℕ) (e : Expr) → stands_in xs v e ≡ stands_in ys v e) where
  same_inside : {m : _} (v : ℕ) (row : Row_of-Expr m) → stands_inside xs v row ≡ stands_inside ys v row
  same_inside v end_of-Expr = refl
  same_inside v (more_of-Expr e rest) = same v e

  apart_same : {m : _} (bound others : List ℕ) (row : Row_of-Expr m) → AreApart bound (λ v. stands_inside xs v row) others
      → AreApart bound (λ v. stands_inside ys v row) others
  apart_same [] others row h = tt
  apart_same (v ∷ bound) others row h = ((sym (same_inside v row) ∙ h.0.0, h.0.1), apart_same bound others row h.1)

  mutual
    clear_same : (e : Expr) → IsClear xs told e → IsClear ys told e
    clear_same (Num n) h = tt
    clear_same (AccessOf k) h = tt
    clear_same (Binary' o p e q f) h = (
      apart_same (bound_inside told e) (bound_inside told f) f h.0,
      apart_same (bound_inside told f) (bound_inside told e) e h.1,
      clear_in_same e h.2,
      clear_in_same f h.3,
    )
    clear_same (Neg' p e) h = clear_in_same e h

    clear_in_same : {m : _} (row : Row_of-Expr m) → IsClear_in xs told row → IsClear_in ys told row
    clear_in_same end_of-Expr h = tt
    clear_in_same (more_of-Expr e rest) h = clear_same e h

  sums_same : (sums : List NestedSum) → Each (IsClearSum xs told) sums → Each (IsClearSum ys told) sums
  sums_same [] h = tt
  sums_same (sum ∷ sums) h = (record { sides = clear_same sum.inside h.0.sides; own = h.0.own }, sums_same sums h.1)

  free_same : (e : Expr) (vs : List ℕ) → Each (λ v. stands_in xs v e ≡ false) vs → Each (λ v. stands_in ys v e ≡ false) vs
  free_same e [] h = tt
  free_same e (v ∷ vs) h = (sym (same v e) ∙ h.0, free_same e vs h.1)

pub planned_bound : (a : Arithmetic) (s : Statement) (formats : List (List FormatLevel)) (plan : Planned) → IsNumberedWithSums s
    → IsPlanned s formats plan → HasNoBadSum s → HasNoBadSum plan.statement
planned_bound a s formats plan numbered p h =
    let t = plan.statement in
    record {
      left = subst (λ (l : Access). Each (λ v. contains l.vars v ≡ false) (bound_in (bounds t) t.expr)) (sym p.left)
          (bounds_to (λ told e. Each (λ v. contains s.left.vars v ≡ false) (bound_in told e)) h.left);
      free = subst (λ e. Each (λ v. stands_in (flat t).accesses v e ≡ false) (bound_in (bounds t) e)) (sym p.expr)
          (free_same (flat s).accesses (flat t).accesses (bounds t) stand s.expr (bound_in (bounds t) s.expr)
          (subst (λ told. Each (λ v. stands_in (flat s).accesses v s.expr ≡ false) (bound_in told s.expr)) (sym bounds_are) h.free));
      sides = subst (IsClear (flat t).accesses (bounds t)) (sym p.expr)
          (clear_same (flat s).accesses (flat t).accesses (bounds t) stand s.expr
          (subst (λ told. IsClear (flat s).accesses told s.expr) (sym bounds_are) h.sides));
      inside = subst (Each (IsClearSum (flat t).accesses (bounds t))) (sym p.sums)
          (sums_same (flat s).accesses (flat t).accesses (bounds t) stand s.sums
          (subst (λ told. Each (IsClearSum (flat s).accesses told) s.sums) (sym bounds_are) h.inside));
    }
  where
    stand : (v : ℕ) (e : Expr) → stands_in (flat s).accesses v e ≡ stands_in (flat plan.statement).accesses v e
    stand v e = sym (planned_stands a s formats plan numbered p v e)

    bounds_are : bounds plan.statement ≡ bounds s
    bounds_are =
        ap (λ sums. told_with bound_by (map none_bound plan.statement.accesses) sums) p.sums
        ∙ ap (λ front. told_with bound_by front s.sums) (none_bound_same plan.statement.accesses s.accesses p.many)

    bounds_to : (P : List (List ℕ) → Expr → Type 0) → P (bounds s) s.expr → P (bounds plan.statement) plan.statement.expr
    bounds_to P is = subst (λ told. P told plan.statement.expr) (sym bounds_are) (subst (P (bounds s)) (sym p.expr) is)
