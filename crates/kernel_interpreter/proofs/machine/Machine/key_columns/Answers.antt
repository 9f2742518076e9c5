use Rattle.std.proofs.Common.{sym, arith}
use Rattle.kernel_interpreter.specs.Store.{state_of}
use Rattle.machine_parts.proofs.SumLemmas.{read, no_column, other_column}
use Rattle.kernel_interpreter.proofs.machine.Machine.key_columns.Goals as goal

pub returns-in_default : goal.returns-in_default
returns-in_default c =
    sym (no_column (state_of c.args.self.now) c.args.workspace c.args.count c.loop-k.k c.args.keys
    (read c.loop-k.columns.items) c.loop-k.invariant (sym c.in_default.ensures) (omega arith))

pub returns-then-column-count : goal.returns-then-column-count
returns-then-column-count c =
    sym (other_column (state_of c.args.self.now) c.args.workspace c.args.count c.loop-k.k c.args.keys
    (read c.loop-k.columns.items) c.in-Some.column.now c.loop-k.invariant (sym c.in-Some.ensures) (λ e. omega arith) (omega arith))
