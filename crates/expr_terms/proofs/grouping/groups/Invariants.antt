use Rattle.std.specs.Prelude.{◌≡◌}
use Rattle.expr_terms.specs.Groups.{groups_in}
use Rattle.expr_terms.proofs.grouping.groups.Given as goal

-- the terms so far are grouped
abbrev pub invariant-loop-term : goal.invariant-loop-term
invariant-loop-term l = l.list.items ≡ groups_in l.statement l.yielded
