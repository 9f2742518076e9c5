use Rattle.std.proofs.Common.{arith}
use Rattle.limits.proofs.Limits.{workloads_are_ranges, positions_are_small}
use Rattle.command_line.proofs.workload_command.Goals as goal

pub number_parser-requires : goal.number_parser-requires
number_parser-requires c =
    omega (arith, workloads_are_ranges, positions_are_small, c.greatest_size_of_workload.ensures)
