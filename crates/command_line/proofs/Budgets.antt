-- What proofs use of the greatest number of turns.
use Rattle.std.proofs.Common.{◌<◌, ◌^◌, lit<}
use Rattle.command_line.specs.CommandLine.{greatest_budget}

pub budgets_are_small : greatest_budget < 2 ^ 63
unfolding greatest_budget
budgets_are_small = lit< tt
