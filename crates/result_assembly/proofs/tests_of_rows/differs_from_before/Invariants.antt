use Rattle.std.specs.Prelude.{◌≡◌}
use Rattle.result_assembly.specs.Tests.{differs}
use Rattle.result_assembly.proofs.tests_of_rows.differs_from_before.Given as goal

abbrev pub invariant-loop-key : goal.invariant-loop-key
invariant-loop-key l = l.test ≡ differs l.at.base l.at.workspace l.key
