-- Code that adds the rows of a statement's loops to a workspace of one key, and code that fills a result from the sums in its list.
use Rattle.std.specs.Prelude.{◌≡◌, ℕ, List, ◌∷◌, ◌++◌}
use Rattle.numbers.specs.Arithmetic.{Arithmetic}
use Rattle.format_spec.specs.declared.format.FormatLevel.{FormatLevel}
use Rattle.index_notation.specs.declared.syntax.Statement.{Statement}
use Rattle.kernel_code.specs.declared.syntax.Arr.TheVariants.{Sums, ListPositions}
use Rattle.kernel_code.specs.declared.syntax.KExpr.{Num, Len}
use Rattle.kernel_code.specs.declared.syntax.KStmt.{KStmt, Extend}
use Rattle.concrete_notation.specs.Nests.{left_in_order}
use Rattle.dense_results.specs.Kernels.{AreAtBase}
use Rattle.kernel_emit.specs.Emitted.{AddsLoops}
use Rattle.kernel_emit.specs.declared.emitting.Emitted.{Emitted}
use Rattle.loop_code.specs.declared.loops.LoopCode.{LoopCode}
use Rattle.result_assembly.specs.Stored.{DrainsResult}
use Rattle.taco_compiler.specs.Loops.{AreLoopsOf}
use Rattle.term_code.specs.Places.{AreBelow}
use Rattle.term_code.specs.declared.places.Places.{Places}
use Rattle.touched_kernels.specs.Sums.{SumsTouched}
use Rattle.touched_workspaces.specs.Sinks.{touched_sink}
use Rattle.touched_workspaces.specs.declared.sink.TouchedSink.{TouchedSink}

-- the loops of a statement, in this order, add their rows to the workspace, whose key is the left variable; they fill scratch lists behind
-- the first one alone
pub record MarksLoops (a : Arithmetic) (k : TouchedSink) (s : Statement) (formats : List (List FormatLevel)) (order : List ℕ)
    (emitted : Emitted) : Type 0 where
  pub loops : LoopCode
  pub are : AreLoopsOf s formats order loops
  pub places : Places
  pub at : AreAtBase s 0 places
  pub below : AreBelow 3 places
  pub adds : AddsLoops a touched_sink k s formats places (left_in_order s order) loops 3 1 emitted.lists emitted.code

-- it sums up the workspace in its list, puts each sum at the one position above all levels in scratch list 0, and fills all levels and
-- values from them, in the format and with this value where no row is
pub record FillsFromSums (format : List FormatLevel) (nothing : ℕ) (k : TouchedSink) (code : List KStmt) : Type 0 where
  pub summed : List KStmt
  pub sums : SumsTouched k 0 summed
  pub drain : List KStmt
  pub drains : DrainsResult format k.list 0 0 nothing drain
  pub is : code ≡ summed ++ Extend (ListPositions 0) (Len (Sums k.list)) (Num 0) ∷ drain
