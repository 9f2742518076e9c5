use Rattle.std.specs.Prelude.{ℕ, ◌++◌}
use Rattle.std.specs.Fmt.{decimal}
use Rattle.kernel_print.specs.ArrayNames.{IsWord}
use Rattle.kernel_read.proofs.Parts.{none_behind, none_reads, reads_behind}
use Rattle.kernel_read.proofs.digits.name_at.Goals as goal

pub returns-in_err-at : goal.returns-in_err-at
returns-in_err-at c =
    none_reads ℕ (λ n. c.args.before.now ++ decimal n) IsWord c.args.line.now c.args.at c.from_residual.result c.from_residual.ensures
    (none_behind ℕ decimal IsWord c.args.line.now c.args.at c.args.before.now c.in_err-at.ensures)

pub returns : goal.returns
returns c =
    reads_behind ℕ decimal IsWord c.args.line.now c.args.at c.args.before.now c.in_ok-at.at c.in_ok-at.ensures c.number_at.result
    c.number_at.ensures
