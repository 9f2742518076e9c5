-- How a kernel ends whose code leaves the result, or is refused a growth that may be.
use Rattle.std.specs.Prelude.{ℕ, List, length}
use Rattle.std.proofs.Common.{subst}
use Rattle.numbers.specs.Arithmetic.{Arithmetic}
use Rattle.kernel_code.specs.declared.syntax.Kernel.{Kernel}
use Rattle.kernel_code.specs.declared.syntax.LoopKind.{LoopKind}
use Rattle.kernel_code.specs.Does.{Refusal}
use Rattle.kernel_code.specs.Kernels.{KernelOutcome, Finished, GotStuck, TooLong, NotFinished, place_of}
use Rattle.kernel_code.specs.Meaning.{State}
use Rattle.level_core.specs.declared.letter.Letter.{Letter}
use Rattle.level_core.specs.Meaning.{Arrays}
use Rattle.index_notation.specs.declared.syntax.Statement.{Statement}
use Rattle.kernel_correctness.specs.CodeEnds.{ToldOf}
use Rattle.kernel_correctness.specs.Kernels.{Ends, IsRightOutcome}
use Rattle.kernel_correctness.specs.Results.{LeavesResult}
use Rattle.kernel_correctness.specs.Stores.{Store, told_by}
use Rattle.sparse_kernels.specs.Turns.{AreTurns, MakesTurns}

-- of a kernel that ends so the less may be said that follows
pub ends_weaker : (a : Arithmetic) (order : ℕ) (kernel : Kernel) (arrays : Arrays) (P Q : KernelOutcome → Type 0)
    → ((o : KernelOutcome) → P o → Q o) → Ends a order kernel arrays P → Ends a order kernel arrays Q
ends_weaker a order kernel arrays P Q weaker e =
    record { turns = e.turns; outcome = e.outcome; is = e.is; appends = e.appends; so = weaker e.outcome e.so }

module _ (a : Arithmetic) (s : Statement) (store : Store) (letters : List Letter) (most : LoopKind → ℕ) where
  -- the state leaves the result, and few turns were made
  abbrev pub IsDone : State → Type 0
  IsDone t = LeavesResult a s (told_by a s store) store t.arrays × AreTurns s (told_by a s store) letters most t.turns t.arrays

  -- the growth may be refused
  abbrev pub IsRightRefusal : Refusal
  IsRightRefusal turns b count = IsRightOutcome a s (told_by a s store) store (TooLong (place_of (length store.format) b) count)

  pub done_told : (o : KernelOutcome) → ToldOf (length store.format) IsDone IsRightRefusal o
      → IsRightOutcome a s (told_by a s store) store o × MakesTurns s (told_by a s store) letters most o
  done_told (Finished arrays turns) h = (
    subst (LeavesResult a s (told_by a s store) store) h.2 h.1.0,
    subst (λ arrays. AreTurns s (told_by a s store) letters most turns arrays) h.2
        (subst (λ made. AreTurns s (told_by a s store) letters most made h.0.arrays) h.3 h.1.1),
  )
  done_told (GotStuck statement) h = absurd h
  done_told (TooLong place count) h =
      let r = h.1 in
      (subst (λ p. IsRightOutcome a s (told_by a s store) store (TooLong p count)) r.2 r.1, tt)
  done_told NotFinished h = absurd h
