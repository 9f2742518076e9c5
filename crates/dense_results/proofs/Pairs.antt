-- Counting over distinct variables doesn't depend on their order.
use Rattle.std.specs.Prelude.{◌≡◌, ◌≢◌, ℕ, zero, suc, ◌+◌, ◌≤◌, ◌<◌, nat_eq, Bool, true, false, ◌||◌, length}
use Rattle.std.specs.Prelude.{refl}
use Rattle.std.specs.List.{sum_by}
use Rattle.std.proofs.Common.{◌∙◌, sym, ap, arith}
use Rattle.std.proofs.lemmas.Bool.{eqb-false}
use Rattle.index_notation.specs.Statement.{numbers_from}
use Rattle.expr_terms.specs.Terms.{contains, terms, own_variables}
use Rattle.expr_terms.specs.declared.term.Term.{Term}
use Rattle.workspaces.specs.Presence.{is_present}
use Rattle.concrete_notation.specs.Nests.{IsOrderOf, loops_of, nest_of}
use Rattle.concrete_notation.proofs.Around.{loops_distinct, loops_contain}
use Rattle.concrete_notation.proofs.Points.{numbers_distinct}
use Rattle.lowering.specs.Right.{one_if, pairs_of}
use Rattle.lowering.proofs.Counts.{count_over_order}
use Rattle.kernel_correctness.specs.Kernels.{standing_order}
use Rattle.dense_results.specs.Loops.{PairsInAnyOrder}

-- the numbers below n, one after another
number_in : (from count v : ℕ) → from ≤ v → v < from + count → contains (numbers_from from count) v ≡ true
number_in from zero v least below = absurd (omega (arith, least, below))
number_in from (suc count) v least below = by (nat_eq from v) refl (number_in (from + 1) count v)
  where
    by : (b : Bool) → nat_eq from v ≡ b
        → (from + 1 ≤ v → v < from + 1 + count → contains (numbers_from (from + 1) count) v ≡ true)
        → (b || contains (numbers_from (from + 1) count) v) ≡ true
    by true e more = refl
    by false e more = let apart : from ≢ v = eqb-false from v e in more (omega (arith, least, apart)) (omega (arith, below))

standing_is_order : (n : ℕ) → IsOrderOf n (numbers_from 0 n)
standing_is_order n = record { once = numbers_distinct 0 n; all = λ v h. number_in 0 n v (omega arith) (omega (arith, h)) }

pub pairs_in_any_order : PairsInAnyOrder
pairs_in_any_order s numbered order ordered inputs =
    ap (λ (g : Term → ℕ). sum_by g (terms s.expr)) (λ i t. same t i)
  where
    same : (t : Term) → pairs_of inputs s.accesses (λ v. 0) (nest_of s order t)
        ≡ pairs_of inputs s.accesses (λ v. 0) (nest_of s (standing_order s) t)
    same t =
        let other = standing_is_order (length s.vars) in
        count_over_order inputs.ranges (λ p. one_if (is_present inputs.paths s.accesses p t.expr))
        (loops_of s order (own_variables s t)) (loops_of s (standing_order s) (own_variables s t))
        (loops_distinct s numbered order ordered t) (loops_distinct s numbered (standing_order s) other t)
        (λ u. loops_contain s numbered order ordered t u ∙ sym (loops_contain s numbered (standing_order s) other t u)) (λ v. 0)
