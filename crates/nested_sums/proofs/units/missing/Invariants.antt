use Rattle.std.specs.Prelude.{◌≡◌}
use Rattle.nested_sums.specs.Multiplied.{missing}
use Rattle.nested_sums.proofs.units.missing.Given as goal

abbrev pub invariant-loop-var : goal.invariant-loop-var
invariant-loop-var l = l.list ≡ missing l.var l.accesses l.one l.kept l.pieces
