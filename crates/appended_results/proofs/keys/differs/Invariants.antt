use Rattle.std.specs.Prelude.{◌≡◌}
use Rattle.appended_results.specs.Codes.{differs}
use Rattle.appended_results.proofs.keys.differs.Given as goal

abbrev pub invariant-loop-level : goal.invariant-loop-level
invariant-loop-level l = l.test ≡ differs l.base l.keys l.level
