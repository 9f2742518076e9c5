use Rattle.std.proofs.Common.{arith}
use Rattle.command_line.proofs.Budgets.{budgets_are_small}
use Rattle.command_line.proofs.budget_argument.Goals as goal

pub number_parser-requires : goal.number_parser-requires
number_parser-requires c = omega (arith, budgets_are_small, c.greatest_turns.ensures)
