-- Code that pushes the rows of a statement's loops into a workspace, and code that fills a result from them.
use Rattle.std.specs.Prelude.{◌≡◌, ℕ, List, ◌++◌, length}
use Rattle.numbers.specs.Arithmetic.{Arithmetic}
use Rattle.format_spec.specs.declared.format.FormatLevel.{FormatLevel}
use Rattle.format_spec.specs.Formats.{IsFormat}
use Rattle.index_notation.specs.declared.syntax.Statement.{Statement}
use Rattle.kernel_code.specs.declared.syntax.KStmt.{KStmt}
use Rattle.concrete_notation.specs.Nests.{left_in_order}
use Rattle.dense_results.specs.Kernels.{AreAtBase}
use Rattle.kernel_emit.specs.Emitted.{AddsLoops}
use Rattle.kernel_emit.specs.declared.emitting.Emitted.{Emitted}
use Rattle.result_assembly.specs.Stored.{DrainsResult}
use Rattle.loop_code.specs.declared.loops.LoopCode.{LoopCode}
use Rattle.sparse_kernels.specs.Kernels.{sorting_code}
use Rattle.taco_compiler.specs.Loops.{AreLoopsOf}
use Rattle.term_code.specs.WorkspaceSinks.{workspace_sink}
use Rattle.term_code.specs.declared.places.Places.{Places}

-- the loops of a statement, in this order, push their rows into workspace 0, whose keys are the left variables in that order; they fill
-- scratch lists behind the first one alone
pub record PushesLoops (a : Arithmetic) (s : Statement) (formats : List (List FormatLevel)) (order : List ℕ) (emitted : Emitted)
    : Type 0 where
  pub loops : LoopCode
  pub are : AreLoopsOf s formats order loops
  pub places : Places
  pub at : AreAtBase s 0 places
  pub adds : AddsLoops a workspace_sink (record { number = 0; keys = length (left_in_order s order) }) s formats places
      (left_in_order s order) loops 3 1 emitted.lists emitted.code

-- it sorts and sums the rows of workspace 0, puts each at the one position above all levels in scratch list 0, and fills all levels and
-- values from them, in the format and with this value where no row is
pub record FillsFromRows (format : List FormatLevel) (nothing : ℕ) (code : List KStmt) : Type 0 where
  pub keeps : IsFormat format
  pub drain : List KStmt
  pub drains : DrainsResult format 0 0 0 nothing drain
  pub is : code ≡ sorting_code 0 0 ++ drain
