use Rattle.std.proofs.Common.{arith}
use Rattle.limits.proofs.Limits.{lines_are_small}
use Rattle.text_lines.proofs.line_reader.room_of_line.Goals as goal

pub overflow_add-result : goal.overflow_add-result
overflow_add-result c = omega (arith, lines_are_small)
