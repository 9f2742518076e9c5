use Rattle.std.proofs.Common.{◌≡◌, Some}
use Rattle.kernel_code.specs.Meaning.{key_columns}
use Rattle.kernel_interpreter.specs.Store.{state_of}
use Rattle.machine_parts.proofs.SumLemmas.{read}
use Rattle.kernel_interpreter.proofs.machine.Machine.key_columns.Given as goal

abbrev pub invariant-loop-k : goal.invariant-loop-k
invariant-loop-k l = key_columns (state_of l.self) l.workspace l.count l.k ≡ Some (read l.columns.items)
