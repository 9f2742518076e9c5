-- What follows of stores and kernels.
use Rattle.std.specs.Prelude.{ℕ, List}
use Rattle.numbers.specs.Arithmetic.{Arithmetic}
use Rattle.kernel_code.specs.declared.syntax.Kernel.{Kernel}
use Rattle.kernel_code.specs.Kernels.{start_arrays}
use Rattle.level_core.specs.Meaning.{Arrays}
use Rattle.format_spec.specs.declared.format.FormatLevel.{FormatLevel}
use Rattle.index_notation.specs.declared.syntax.Statement.{Statement}
use Rattle.kernel_correctness.specs.Kernels.{IsRightKernel, IsSoundKernel}
use Rattle.kernel_correctness.specs.Stores.{Store, IsGiven}

-- a kernel that is right for a statement and formats is sound on all their stores
abbrev pub RightIsSound : Type 0
RightIsSound = (a : Arithmetic) (s : Statement) (formats : List (List FormatLevel)) (kernel : Kernel)
    → IsRightKernel a s formats kernel → IsSoundKernel a s formats kernel

-- the run of a kernel starts on the arrays of its store
abbrev pub StartsOnStore : Type 0
StartsOnStore = (nothing : ℕ) (store : Store) (kernel : Kernel) (arrays : Arrays) → IsGiven nothing store arrays
    → IsGiven nothing store (start_arrays kernel arrays)
