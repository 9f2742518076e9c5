use Rattle.std.specs.Prelude.{◌≡◌, map, Option, None, Some, refl}
use Rattle.std.specs.List.Sorted.{IsPermutation}
use Rattle.std.specs.Option.{IsSome}
use Rattle.std.proofs.Common.{subst}
use Rattle.expr_terms.specs.Terms.{terms}
use Rattle.concrete_notation.specs.declared.concrete.Concrete.{Concrete}
use Rattle.concrete_notation.specs.Nests.{nest_of}
use Rattle.concrete_notation.specs.Nesting.{nests_made}
use Rattle.concrete_notation.proofs.Made.{all_made, something_made}
use Rattle.concrete_notation.proofs.statement_loops.loops_of_terms.Goals as goal

is_some : (made : Option Concrete) → (made ≡ None → ⊥) → IsSome made
is_some None h = absurd (h refl)
is_some (Some c) h = refl

pub unwrap-all-requires : goal.unwrap-all-requires
unwrap-all-requires c =
    is_some c.in_ok-made.made
    (something_made c.args.statement.now c.args.order.now c.args.groups.now.list c.in_ok-made.made c.requires.groups c.in_ok-made.ensures)

pub returns-clause-terms : goal.returns-clause-terms
returns-clause-terms c =
    subst (λ m. IsPermutation (map (nest_of c.args.statement.now c.args.order.now) (terms c.args.statement.now.expr))
    (nests_made m)) c.unwrap-all.ensures
    (all_made c.args.statement.now c.args.order.now c.args.groups.now.list c.in_ok-made.made c.requires.groups c.in_ok-made.ensures)
