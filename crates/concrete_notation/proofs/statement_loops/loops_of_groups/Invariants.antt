use Rattle.std.specs.Prelude.{take}
use Rattle.std.specs.List.{flat_map}
use Rattle.concrete_notation.specs.Nesting.{nests_of_group, IsMade}
use Rattle.concrete_notation.proofs.statement_loops.loops_of_groups.Given as goal

-- the groups so far are put in
abbrev pub invariant-loop-group : goal.invariant-loop-group
invariant-loop-group l = IsMade (flat_map (nests_of_group l.statement l.order) (take l.group-index l.groups.list)) l.made
