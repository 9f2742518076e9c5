use Rattle.std.proofs.Common.{refl}
use Rattle.command_line.specs.CommandLine.{greatest_budget}
use Rattle.command_line.proofs.greatest_turns.Goals as goal

pub returns : goal.returns
unfolding greatest_budget
returns c = refl
