use Rattle.std.specs.Prelude.{ℕ, ◌+◌, ◌-◌, ◌*◌, List, length}
use Rattle.kernel_read.proofs.exprs.+exprs.Given as goal

-- what is left of a line, and a number of the function
abbrev left : List ℕ → ℕ → ℕ → ℕ
left line at rank = 5 * (length line - at) + rank

abbrev pub decreases-expr_after : goal.decreases-expr_after
decreases-expr_after l = left l.line.now l.at 0

abbrev pub decreases-one_at : goal.decreases-one_at
decreases-one_at l = left l.line.now l.at 1

abbrev pub decreases-pair_at : goal.decreases-pair_at
decreases-pair_at l = left l.line.now l.at 2

abbrev pub decreases-second_operand_at : goal.decreases-second_operand_at
decreases-second_operand_at l = left l.line.now l.at 2

abbrev pub decreases-indexed_at : goal.decreases-indexed_at
decreases-indexed_at l = left l.line.now l.at 2

abbrev pub decreases-operands_at : goal.decreases-operands_at
decreases-operands_at l = left l.line.now l.at 3

abbrev pub decreases-expr_at : goal.decreases-expr_at
decreases-expr_at l = left l.line.now l.at 4
