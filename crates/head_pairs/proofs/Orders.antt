-- Pairs at a head don't depend on the loop order, and are no more than those of all points.
use Rattle.std.specs.Prelude.{◌≡◌, ℕ, ◌≤◌, ◌&&◌, Bool, true, false}
use Rattle.std.specs.List.{sum_by}
use Rattle.std.proofs.Common.{◌∙◌, sym, ap, arith}
use Rattle.std.proofs.lemmas.List.Sums.{sum_by-le-sum_by}
use Rattle.expr_terms.specs.Terms.{terms, own_variables}
use Rattle.expr_terms.specs.declared.term.Term.{Term}
use Rattle.workspaces.specs.Presence.{is_present}
use Rattle.concrete_notation.specs.Nests.{loops_of, nest_of}
use Rattle.concrete_notation.proofs.Around.{loops_distinct, loops_contain}
use Rattle.lowering.specs.Right.{one_if, pairs_of}
use Rattle.head_pairs.specs.Heads.{HeadPairsAreFewer, HeadPairsInAnyOrder, is_at_head, pairs_of_at}
use Rattle.lowering.proofs.Counts.{count_over_order}
use Rattle.head_pairs.proofs.Sums.{count_over_more}

pub head_pairs_in_any_order : HeadPairsInAnyOrder
head_pairs_in_any_order s numbered order other ordered ordered' vars coords inputs =
    ap (λ (g : Term → ℕ). sum_by g (terms s.expr)) (λ i t. same t i)
  where
    same : (t : Term) → pairs_of_at inputs s.accesses vars coords (λ v. 0) (nest_of s order t)
        ≡ pairs_of_at inputs s.accesses vars coords (λ v. 0) (nest_of s other t)
    same t =
        count_over_order inputs.ranges (λ p. one_if (is_present inputs.paths s.accesses p t.expr && is_at_head vars coords p))
        (loops_of s order (own_variables s t)) (loops_of s other (own_variables s t))
        (loops_distinct s numbered order ordered t) (loops_distinct s numbered other ordered' t)
        (λ u. loops_contain s numbered order ordered t u ∙ sym (loops_contain s numbered other ordered' t u)) (λ v. 0)

one_if_both : (b c : Bool) → one_if (b && c) ≤ one_if b
one_if_both true true = omega arith
one_if_both true false = omega arith
one_if_both false c = omega arith

pub head_pairs_are_fewer : HeadPairsAreFewer
head_pairs_are_fewer s order vars coords inputs =
    sum_by-le-sum_by (λ (t : Term). pairs_of_at inputs s.accesses vars coords (λ v. 0) (nest_of s order t))
    (λ (t : Term). pairs_of inputs s.accesses (λ v. 0) (nest_of s order t)) (terms s.expr)
    (λ t. count_over_more inputs.ranges (loops_of s order (own_variables s t))
    (λ p. one_if (is_present inputs.paths s.accesses p t.expr && is_at_head vars coords p))
    (λ p. one_if (is_present inputs.paths s.accesses p t.expr))
    (λ p. one_if_both (is_present inputs.paths s.accesses p t.expr) (is_at_head vars coords p)) (λ v. 0))
