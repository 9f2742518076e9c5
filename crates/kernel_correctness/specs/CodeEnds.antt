-- How a kernel ends whose code is known to end so from the kernel's start, or to be refused such a growth.
use Rattle.std.specs.Prelude.{◌≡◌, ℕ, false}
use Rattle.numbers.specs.Arithmetic.{Arithmetic}
use Rattle.kernel_code.specs.declared.syntax.Arr.{Arr}
use Rattle.kernel_code.specs.declared.syntax.Kernel.{Kernel}
use Rattle.kernel_code.specs.declared.syntax.LoopKind.{LoopKind}
use Rattle.kernel_code.specs.Does.{Does, Refusal}
use Rattle.kernel_code.specs.Kernels.{KernelOutcome, Finished, GotStuck, TooLong, NotFinished, place_of, setting_of, start_state}
use Rattle.kernel_code.specs.Meaning.{State}
use Rattle.level_core.specs.Meaning.{Arrays}
use Rattle.kernel_correctness.specs.Kernels.{Ends}

-- what is told of code that ends so, or is refused such a growth
abbrev pub ToldOf : ℕ → (State → Type 0) → Refusal → KernelOutcome → Type 0
ToldOf order P R (Finished arrays turns) = (s : State) × P s × (s.arrays ≡ arrays) × (s.turns ≡ turns)
ToldOf order P R (GotStuck statement) = ⊥
ToldOf order P R (TooLong place count) = (t : LoopKind → ℕ) × ((a : Arr) × R t a count × (place_of order a ≡ place))
ToldOf order P R NotFinished = ⊥

-- where the code of a kernel does so from its start, and arrays of the result may not be cut, the kernel ends so within some number of
-- turns
abbrev pub EndsAsCodeDoes : Type 1
EndsAsCodeDoes = (a : Arithmetic) (order : ℕ) (kernel : Kernel) (arrays : Arrays) (P : State → Type 0) (R : Refusal)
    → Does (setting_of false a kernel) kernel.body (start_state kernel arrays) P R
    → Ends a order kernel arrays (ToldOf order P R)
