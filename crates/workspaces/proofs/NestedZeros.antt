-- Nested sums are zero where they have no path.
use Rattle.std.specs.Prelude.{◌≡◌, ℕ, zero, suc, ◌+◌, ◌≤◌, ◌<◌, Bool, true, false, nat_eq, cond, List, [], ◌∷◌, ◌++◌, length, refl}
use Rattle.std.specs.List.{list_any}
use Rattle.std.proofs.Common.{◌∙◌, sym, ap, arith}
use Rattle.std.proofs.lemmas.Bool.{eqb-true, eqb-false}
use Rattle.numbers.specs.Arithmetic.{Arithmetic, Laws}
use Rattle.numbers.specs.Sums.{sum_below}
use Rattle.index_notation.specs.Statement.{numbers_from}
use Rattle.index_notation.specs.declared.syntax.Access.{Access}
use Rattle.index_notation.specs.declared.syntax.NestedSum.{NestedSum}
use Rattle.index_notation.specs.declared.syntax.Statement.{Statement}
use Rattle.expr_terms.specs.Nested.{free_in, sum_access, with_tensor, sum_value, values_with, flat_values}
use Rattle.expr_terms.specs.Points.{point_of, with_coordinate}
use Rattle.expr_terms.specs.Value.{value_of}
use Rattle.expr_terms.proofs.Meanings.{neither}
use Rattle.workspaces.specs.Nested.{sum_paths, paths_with, flat_paths}
use Rattle.workspaces.specs.Presence.{is_present}
use Rattle.workspaces.specs.PresenceLaws.{AreZeroElsewhere}
use Rattle.workspaces.proofs.Absent.{absent_is_zero}

-- where something is so of none of some numbers, it isn't of any one
none_of : (is_so : ℕ → Bool) (n count : ℕ) → list_any is_so (numbers_from n count) ≡ false → (x : ℕ) → n ≤ x → x < n + count
    → is_so x ≡ false
none_of is_so n zero h x above below = absurd (omega (arith, above, below))
none_of is_so n (suc count) h x above below =
    let none = neither (is_so n) (list_any is_so (numbers_from (n + 1) count)) h in
    by (nat_eq n x) refl none.0 (λ apart. none_of is_so (n + 1) count none.1 x (omega (arith, above, apart)) (omega (arith, below)))
  where
    by : (b : Bool) → nat_eq n x ≡ b → is_so n ≡ false → ((n ≡ x → ⊥) → is_so x ≡ false) → is_so x ≡ false
    by true e here rest = ap is_so (sym (eqb-true n x e)) ∙ here
    by false e here rest = rest (eqb-false n x e)

module _ (a : Arithmetic) (laws : Laws a) (ranges : ℕ → ℕ) (vars : ℕ) where
  -- a sum of zeros is zero
  zeros : (n : ℕ) (f : ℕ → ℕ) → ((x : ℕ) → x < n → f x ≡ a.zero) → sum_below a n f ≡ a.zero
  zeros zero f none = refl
  zeros (suc n) f none =
      ap (λ y. a.plus y (sum_below a n f)) (none n (omega arith))
      ∙ ap (a.plus a.zero) (zeros n f (λ x h. none x (omega (arith, h))))
      ∙ laws.plus_zero a.zero laws.zero_fits

  sum_zero : (accesses : List Access) (paths : ℕ → List ℕ → Bool) (values : ℕ → List ℕ → ℕ) → AreZeroElsewhere a paths values
      → (sum : NestedSum) (coords : List ℕ) → sum_paths ranges vars accesses paths sum coords ≡ false
      → sum_value a ranges vars accesses values sum coords ≡ a.zero
  sum_zero accesses paths values elsewhere sum coords h =
      let point = point_of (free_in vars accesses sum) coords in
      zeros (ranges sum.var) (λ x. value_of a values accesses (with_coordinate point sum.var x) sum.inside)
      (λ x below. absent_is_zero a laws paths values elsewhere accesses (with_coordinate point sum.var x) sum.inside
      (none_of (λ y. is_present paths accesses (with_coordinate point sum.var y) sum.inside) 0 (ranges sum.var) h x (omega arith)
      (omega (arith, below))))

  zero_with : (accesses : List Access) (tensor : ℕ) (sums : List NestedSum) (paths : ℕ → List ℕ → Bool) (values : ℕ → List ℕ → ℕ)
      → AreZeroElsewhere a paths values
      → AreZeroElsewhere a (paths_with ranges vars accesses tensor sums paths) (values_with a ranges vars accesses tensor sums values)
  zero_with accesses tensor [] paths values h = h
  zero_with accesses tensor (sum ∷ sums) paths values h =
      zero_with (accesses ++ (sum_access vars accesses tensor sum ∷ [])) (tensor + 1) sums
      (with_tensor paths tensor (sum_paths ranges vars accesses paths sum))
      (with_tensor values tensor (sum_value a ranges vars accesses values sum))
      (λ other coords none. by other coords (nat_eq other tensor) none)
    where
      by : (other : ℕ) (coords : List ℕ) (b : Bool) → cond b (sum_paths ranges vars accesses paths sum coords) (paths other coords) ≡ false
          → cond b (sum_value a ranges vars accesses values sum coords) (values other coords) ≡ a.zero
      by other coords true none = sum_zero accesses paths values h sum coords none
      by other coords false none = h other coords none

-- so are tensors and sums of a statement, where the tensors are
pub flat_zero_elsewhere : (a : Arithmetic) → Laws a → (s : Statement) (paths : ℕ → List ℕ → Bool) (values : ℕ → List ℕ → ℕ)
    (ranges : ℕ → ℕ) → AreZeroElsewhere a paths values → AreZeroElsewhere a (flat_paths s paths ranges) (flat_values a s values ranges)
flat_zero_elsewhere a laws s paths values ranges h =
    zero_with a laws ranges (length s.vars) s.accesses (length s.tensors) s.sums paths values h
