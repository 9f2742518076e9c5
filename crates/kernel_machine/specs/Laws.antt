-- What follows for kernels that work in place.
use Rattle.std.specs.Prelude.{◌≡◌, length}
use Rattle.numbers.specs.Arithmetic.{Arithmetic}
use Rattle.kernel_code.specs.declared.syntax.Kernel.{Kernel}
use Rattle.kernel_code.specs.Kernels.{NotFinished, go}
use Rattle.level_core.specs.Meaning.{Arrays}
use Rattle.storage_builder.specs.Building.{AreDense}
use Rattle.kernel_correctness.specs.Stores.{Store}
use Rattle.kernel_machine.specs.declared.refusal.RunRefusal.{RunRefusal}
use Rattle.kernel_machine.specs.Runs.{most_turns, WorksInPlace, IsRunRefusal}

-- the run of a kernel that works in place, and whose result is all dense, is refused only where its turns don't end: neither want of
-- memory nor a limit of size is told of it
abbrev pub RefusesNothing : Type 0
RefusesNothing =
    (a : Arithmetic) (kernel : Kernel) (store : Store) (given : Arrays) (refusal : RunRefusal) → WorksInPlace kernel
    → AreDense store.format → IsRunRefusal a kernel store given refusal
    → go a (length store.format) kernel given most_turns ≡ NotFinished
