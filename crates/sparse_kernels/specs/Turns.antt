-- How often the loops of a kernel turn whose result goes through a workspace: by the points of a statement's support.
use Rattle.std.specs.Prelude.{◌≡◌, ℕ, ◌+◌, ◌*◌, ◌≤◌, ◌<◌, List, length}
use Rattle.kernel_code.specs.declared.syntax.LoopKind.{LoopKind}
use Rattle.kernel_code.specs.declared.syntax.LoopKind.TheVariants.{Merge, Skip, Gather, Drain, Probe}
use Rattle.kernel_code.specs.Kernels.{KernelOutcome, Finished, GotStuck, TooLong, NotFinished}
use Rattle.level_core.specs.declared.letter.Letter.{Letter}
use Rattle.level_core.specs.Meaning.{Arrays}
use Rattle.index_notation.specs.declared.syntax.Statement.{Statement}
use Rattle.concrete_notation.specs.Contributions.{Inputs}
use Rattle.concrete_notation.specs.Right.{IsInSupport}
use Rattle.result_assembly.specs.Drained.{NotWider}

-- the support of a statement has so many points: each has a number below that, and no two have the same
pub record HasPoints (s : Statement) (inputs : Inputs) (count : ℕ) : Type 0 where
  pub point : ℕ → List ℕ
  pub there : (i : ℕ) → i < count → IsInSupport s inputs (point i)
  pub once : (i j : ℕ) → i < j → j < count → point i ≡ point j → ⊥
  pub each : (coords : List ℕ) → IsInSupport s inputs coords → (i : ℕ) × (i < count) × (point i ≡ coords)

-- no level of the result has blocks of slots that are wider than that
abbrev pub AreNotWider : ℕ → Arrays → Type 0
AreNotWider width arrays = (level : ℕ) → NotWider width level arrays

-- no more turns than the code of loops makes, but for each point of the support and each of these levels two more drain turns at most, and
-- as many probe turns as a block of slots is wide, in the arrays that are left
pub record AreTurns (s : Statement) (inputs : Inputs) (letters : List Letter) (most turns : LoopKind → ℕ) (arrays : Arrays)
    : Type 0 where
  pub points : ℕ
  pub have : HasPoints s inputs points
  pub merges : turns Merge ≤ most Merge
  pub skips : turns Skip ≤ most Skip
  pub gathers : turns Gather ≤ most Gather
  pub drains : turns Drain ≤ most Drain + 2 * length letters * points
  pub probes : (width : ℕ) → AreNotWider width arrays → turns Probe ≤ most Probe + length letters * (width * points)

-- so it is of a run that finishes
abbrev pub MakesTurns : Statement → Inputs → List Letter → (LoopKind → ℕ) → KernelOutcome → Type 0
MakesTurns s inputs letters most (Finished arrays turns) = AreTurns s inputs letters most turns arrays
MakesTurns s inputs letters most (GotStuck statement) = ⊥
MakesTurns s inputs letters most (TooLong place count) = Unit {0}
MakesTurns s inputs letters most NotFinished = ⊥
