-- Code that adds the rows of a statement's loops to its result by groups, out of a workspace inside its outer loops.
use Rattle.std.specs.Prelude.{◌≡◌, ℕ, ◌+◌, true, false, List, replicate, length, take, drop}
use Rattle.std.specs.List.{list_any}
use Rattle.numbers.specs.Arithmetic.{Arithmetic}
use Rattle.format_spec.specs.declared.format.FormatLevel.{FormatLevel}
use Rattle.format_spec.specs.Formats.{modes_of}
use Rattle.index_notation.specs.declared.syntax.Statement.{Statement}
use Rattle.iteration_graph.specs.Edges.{format_of}
use Rattle.concrete_notation.specs.Nests.{left_in_order}
use Rattle.concrete_notation.specs.Workspaces.{AreAllDense}
use Rattle.appended_results.specs.declared.sink.AppendedSink.{AppendedSink}
use Rattle.appended_results.specs.Sink.{appended_sink}
use Rattle.appended_kernels.specs.Kernels.{behind}
use Rattle.dense_results.specs.Kernels.{AreAtBase}
use Rattle.drained_workspaces.specs.Draining.{Draining}
use Rattle.grouped_loops.specs.Chains.{IsChain}
use Rattle.grouped_loops.specs.Emitted.{AddsGroups}
use Rattle.grouped_loops.specs.declared.grouped.Grouped.{Grouped}
use Rattle.kernel_emit.specs.declared.emitting.Emitted.{Emitted}
use Rattle.loop_code.specs.declared.loops.LoopCode.{LoopCode}
use Rattle.result_targets.specs.Sinks.{Sink}
use Rattle.row_orders.specs.Heads.{head_levels, result_levels}
use Rattle.row_orders.specs.Orders.{AreOutsideSums}
use Rattle.row_orders.specs.Takings.{calls_for_workspace, is_unordered}
use Rattle.taco_compiler.specs.Loops.{AreLoopsOf, MayBeLowered}
use Rattle.taco_compiler.specs.Tails.{tail_of}
use Rattle.term_code.specs.declared.places.Places.{Places}
use Rattle.term_code.specs.Places.{AreBelow}

-- a statement that calls for a workspace, of a result that is not dense throughout and each of whose levels has an order
pub record MayBeGrouped (s : Statement) (formats : List (List FormatLevel)) (order : List ℕ) : Type 0 where
  pub ready : MayBeLowered s formats order
  pub some : AreAllDense (format_of formats s.left.tensor) → ⊥
  pub called : calls_for_workspace s formats order ≡ true
  pub sorted : list_any is_unordered (result_levels s formats) ≡ false

-- the sink appends to the levels of a statement's result, and its variables are the first ones
pub record AppendsToResult (a : Arithmetic) (s : Statement) (formats : List (List FormatLevel)) (sink : AppendedSink) : Type 0 where
  pub levels : sink.levels ≡ format_of formats s.left.tensor
  pub head : sink.head ≡ length (head_levels (format_of formats s.left.tensor))
  pub base : sink.base ≡ 0
  pub zero : sink.zero ≡ a.zero

-- so many of the left variables in loop order have no summed one before them; the others are the tail, and these are its modes
pub record IsTail (s : Statement) (formats : List (List FormatLevel)) (order : List ℕ) (first : ℕ) (modes : List ℕ) : Type 0 where
  pub outside : AreOutsideSums s order (take first (left_in_order s order))
  pub rest : drop first (left_in_order s order) ≡ tail_of s order
  pub are : modes ≡ drop first (modes_of (format_of formats s.left.tensor))
  pub many : first + length modes ≡ length (left_in_order s order)

-- the loops of a statement, in this order, of which the first ones stand alone inside one another, add their rows to the result by groups;
-- behind the variables of its levels stand the places
pub record AddsLoopsByGroups (a : Arithmetic) {W : Type 0} (within : Sink W) (drains : Draining W) (s : Statement)
    (formats : List (List FormatLevel)) (order : List ℕ) (sink : Grouped W AppendedSink) (emitted : Emitted) : Type 0 where
  pub loops : LoopCode
  pub are : AreLoopsOf s formats order loops
  pub places : Places
  pub at : AreAtBase s (behind sink.outer.now) places
  pub variables : places.variables ≡ replicate (length s.vars) (behind sink.outer.now)
  pub below : AreBelow (behind sink.outer.now + 3) places
  pub chain : IsChain (take sink.first (left_in_order s order)) loops
  pub adds : AddsGroups a within appended_sink drains sink s formats places (left_in_order s order) 0 loops (behind sink.outer.now + 3) 0
      emitted.lists emitted.code
