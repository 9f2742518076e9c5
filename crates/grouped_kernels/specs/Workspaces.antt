-- Workspaces that stand inside the outer loops of a kernel whose result is appended to.
use Rattle.std.specs.Prelude.{◌≡◌, ℕ, ◌<◌, List, [], length, slice_index}
use Rattle.numbers.specs.Arithmetic.{Arithmetic}
use Rattle.kernel_code.specs.declared.syntax.Arr.{Arr}
use Rattle.kernel_code.specs.declared.syntax.KStmt.{KStmt}
use Rattle.kernel_code.specs.Does.{Does, Never}
use Rattle.kernel_code.specs.Keeps.{Leaves, NoVariable, no_turns}
use Rattle.kernel_code.specs.Meaning.{Setting, State}
use Rattle.tensor_map.specs.Entries.{Entry}
use Rattle.index_notation.specs.declared.syntax.Statement.{Statement}
use Rattle.result_targets.specs.Sinks.{Sink}
use Rattle.term_code.specs.WorkspaceSinks.{PassesPairs}
use Rattle.operand_arrays.specs.Operands.{HasRanges, IsOfOperands}
use Rattle.appended_results.specs.declared.sink.AppendedSink.{AppendedSink}
use Rattle.appended_results.specs.Sink.{appended_sink}
use Rattle.appended_kernels.specs.Kernels.{HaveNoRows}
use Rattle.drained_workspaces.specs.Draining.{Draining, DrainingLaws}
use Rattle.drained_workspaces.specs.Drained.{AreBeside}
use Rattle.grouped_loops.specs.Emitted.{TakesRows}
use Rattle.grouped_loops.specs.Grouped.{ranges_of}
use Rattle.touched_workspaces.specs.Sizes.{greatest_marked_range}

-- a workspace that is drained into a result that rows are appended to: it takes all rows below ranges of its keys, is refused a growth only
-- where a kernel's workspace would hold more pairs than it may (of one key only where the key's range is too large for marks), and leaves
-- the operands
pub record IsWorkspace {W : Type 0} (within : Sink W) (drains : Draining W) (w : W) : Type 0 where
  pub laws : DrainingLaws within drains
  pub takes : (ranges : List ℕ) → length ranges ≡ within.keys w → TakesRows within w ranges
  pub passes : (ranges : List ℕ) (rows : List Entry) (b : Arr) (count : ℕ) → within.refused w ranges rows b count
      → (n : ℕ) × PassesPairs n rows b count
  pub large : within.keys w ≡ 1 → (ranges : List ℕ) (rows : List Entry) (b : Arr) (count : ℕ) → within.refused w ranges rows b count
      → greatest_marked_range < slice_index ranges 0
  pub operands : (b : Arr) → IsOfOperands b → within.kept w b
  pub beside : (k : AppendedSink) → AreBeside appended_sink k within w

-- where the workspaces of a kernel, which have these numbers of keys, have no rows, the code leaves that this one holds none, whose keys
-- are coordinates of these modes
abbrev pub BeginsEmpty : {W : Type 0} → Sink W → W → List ℕ → Statement → List ℕ → Arithmetic → List KStmt → Type 0
BeginsEmpty within w modes s spaces a code =
    (c : Setting) → c.arithmetic ≡ a → (ranges : List ℕ) (st : State) → HasRanges s (slice_index ranges) st.arrays → HaveNoRows spaces st
    → (top : ℕ)
    → Does c code st (λ t. Leaves NoVariable (within.kept w) top no_turns st t × within.holds w a (ranges_of modes ranges) [] t) Never
