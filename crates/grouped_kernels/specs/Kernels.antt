-- What the code of a kernel has to do that appends rows to its result out of a workspace inside its outer loops.
use Rattle.std.specs.Prelude.{◌≡◌, ℕ, ◌+◌, ◌≤◌, ◌<◌, List, [], ◌∷◌, ◌++◌, length, drop, take, slice_index}
use Rattle.numbers.specs.Arithmetic.{Arithmetic, Laws}
use Rattle.kernel_code.specs.declared.syntax.KStmt.{KStmt}
use Rattle.kernel_code.specs.declared.syntax.Place.{Place}
use Rattle.kernel_code.specs.declared.syntax.Place.TheVariants.{Level, Workspace}
use Rattle.format_spec.specs.declared.format.FormatLevel.{FormatLevel}
use Rattle.format_spec.specs.Formats.{modes_of}
use Rattle.index_notation.specs.declared.syntax.Statement.{Statement}
use Rattle.iteration_graph.specs.Edges.{format_of}
use Rattle.concrete_notation.specs.declared.concrete.Concrete.{Concrete}
use Rattle.concrete_notation.specs.Nests.{left_in_order}
use Rattle.loop_code.specs.declared.loops.LoopCode.{LoopCode}
use Rattle.lowering.specs.Lowered.{IsInOrder, IsInPlace}
use Rattle.head_pairs.specs.Heads.{AreAtOneHead}
use Rattle.kernel_correctness.specs.Stores.{Store, told_by}
use Rattle.result_targets.specs.Sinks.{Sink}
use Rattle.term_code.specs.declared.places.Places.{Places}
use Rattle.term_code.specs.Places.{AreBelow}
use Rattle.operand_arrays.specs.Terms.{TargetIsBound}
use Rattle.appended_results.specs.declared.sink.AppendedSink.{AppendedSink}
use Rattle.appended_results.specs.Sink.{appended_sink}
use Rattle.appended_kernels.specs.Kernels.{AppendsFromTop, AreAppendedLoops, IsForAppended, IsSinkOf, behind}
use Rattle.drained_workspaces.specs.Draining.{Draining}
use Rattle.grouped_loops.specs.Emitted.{AddsGroups}
use Rattle.grouped_loops.specs.declared.grouped.Grouped.{Grouped}
use Rattle.touched_workspaces.specs.Sizes.{greatest_marked_range}
use Rattle.grouped_kernels.specs.Workspaces.{BeginsEmpty, IsWorkspace}

-- A workspace of the left variables behind the first ones in loop order is refused a growth to no more pairs than there are at one head of
-- those. Where it has one key alone, that variable's range is too large for marks.
pub record RefusesBehind (a : Arithmetic) (s : Statement) (order : List ℕ) (first : ℕ) (store : Store) (count : ℕ) : Type 0 where
  pub few : AreAtOneHead s order (take first (left_in_order s order)) (told_by a s store) count
  pub large : (v : ℕ) → drop first (left_in_order s order) ≡ v ∷ [] → greatest_marked_range < slice_index store.ranges v

-- any level may be refused a growth, and such a workspace
abbrev pub AtOneHead : Arithmetic → Statement → List ℕ → ℕ → Store → Place → ℕ → Type 0
AtOneHead a s order first store (Level level) count = Unit {0}
AtOneHead a s order first store Workspace count = RefusesBehind a s order first store count

-- from the top the code of loops adds their rows by groups, out of a workspace of the result's modes behind the first ones that the code
-- before them leaves empty
pub record GroupsFromTop (a : Arithmetic) {W : Type 0} (within : Sink W) (drains : Draining W) (g : Grouped W AppendedSink) (s : Statement)
    (formats : List (List FormatLevel)) (order : List ℕ) (places : Places) (loops : LoopCode) (free past : ℕ) (spaces : List ℕ)
    (begin emitted : List KStmt) : Type 0 where
  pub workspace : IsWorkspace within drains g.workspace.now
  pub suits : drains.suits g.workspace.now spaces
  pub modes : g.modes.now ≡ drop g.first (modes_of (format_of formats 0))
  pub keys : g.first + within.keys g.workspace.now ≡ length (left_in_order s order)
  pub begins : BeginsEmpty within g.workspace.now g.modes.now s spaces a begin
  pub places_below : AreBelow free places
  pub room : behind g.outer.now ≤ free
  pub placed : IsInPlace s formats loops
  pub bound : TargetIsBound (left_in_order s order) [] loops
  pub adds : AddsGroups a within appended_sink drains g s formats places (left_in_order s order) 0 loops free 0 past emitted

-- such code appends rows that have the sums of those that the loops add, and its workspace holds the pairs of one head at a time
abbrev pub AppendByGroups : Type 1
AppendByGroups = (a : Arithmetic) → Laws a → (s : Statement) (formats : List (List FormatLevel)) (c : Concrete)
    (in_order : IsInOrder s formats c) → IsForAppended s formats → (loops : LoopCode) → AreAppendedLoops s formats c loops
    → (W : Type 0) (within : Sink W) (drains : Draining W) (g : Grouped W AppendedSink) → IsSinkOf a formats g.outer.now
    → (places : Places) (free past : ℕ) (spaces : List ℕ) (begin emitted : List KStmt)
    → GroupsFromTop a within drains g s formats in_order.order places loops free past spaces begin emitted
    → AppendsFromTop a g.outer.now s formats places (left_in_order s in_order.order) loops 0 past spaces
    (AtOneHead a s in_order.order g.first) (begin ++ emitted)
