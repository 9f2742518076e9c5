-- Code that appends the rows of a statement's loops to its result, in place.
use Rattle.std.specs.Prelude.{◌≡◌, ℕ, ◌+◌, List, replicate, length}
use Rattle.numbers.specs.Arithmetic.{Arithmetic}
use Rattle.format_spec.specs.declared.format.FormatLevel.{FormatLevel}
use Rattle.index_notation.specs.declared.syntax.Statement.{Statement}
use Rattle.concrete_notation.specs.Nests.{left_in_order}
use Rattle.appended_results.specs.declared.sink.AppendedSink.{AppendedSink}
use Rattle.appended_results.specs.Sink.{appended_sink}
use Rattle.appended_kernels.specs.Kernels.{behind}
use Rattle.dense_results.specs.Kernels.{AreAtBase}
use Rattle.kernel_emit.specs.Emitted.{AddsLoops}
use Rattle.kernel_emit.specs.declared.emitting.Emitted.{Emitted}
use Rattle.loop_code.specs.declared.loops.LoopCode.{LoopCode}
use Rattle.taco_compiler.specs.Loops.{AreLoopsOf}
use Rattle.term_code.specs.declared.places.Places.{Places}

-- the loops of a statement, in this order, append their rows to the result; behind the variables of its levels stand the places
pub record AppendsLoops (a : Arithmetic) (s : Statement) (formats : List (List FormatLevel)) (order : List ℕ) (sink : AppendedSink)
    (emitted : Emitted) : Type 0 where
  pub loops : LoopCode
  pub are : AreLoopsOf s formats order loops
  pub places : Places
  pub at : AreAtBase s (behind sink) places
  pub variables : places.variables ≡ replicate (length s.vars) (behind sink)
  pub adds : AddsLoops a appended_sink sink s formats places (left_in_order s order) loops (behind sink + 3) 0 emitted.lists
      emitted.code
