-- The keys of the workspace of a result that isn't dense throughout.
use Rattle.std.specs.Prelude.{ℕ, List, length}
use Rattle.format_spec.specs.declared.format.FormatLevel.{FormatLevel}
use Rattle.format_spec.specs.Formats.{IsFormat}
use Rattle.index_notation.specs.Statement.{IsNumbered, IsWellNamed}
use Rattle.index_notation.specs.declared.syntax.Statement.{Statement}
use Rattle.iteration_graph.specs.Edges.{HasFormat, format_of, statement_edges}
use Rattle.iteration_graph.specs.Graphs.{IsLoopOrder}
use Rattle.concrete_notation.specs.Nests.{left_in_order}
use Rattle.concrete_notation.specs.Workspaces.{AreAllDense}
use Rattle.sparse_results.specs.Results.{AreLevelKeys}

-- a statement with a format for its result, not all of whose levels are dense
pub record HasOrderedResult (s : Statement) (formats : List (List FormatLevel)) : Type 0 where
  pub numbered : IsNumbered s
  pub named : IsWellNamed s
  pub left : HasFormat formats s.left
  pub format : IsFormat (format_of formats 0)
  pub some : AreAllDense (format_of formats 0) → ⊥

-- such a result orders the loops: in loop order the left variables stand as the result's levels do, from the top
abbrev pub ResultOrdersLoops : Type 0
ResultOrdersLoops = (s : Statement) (formats : List (List FormatLevel)) → HasOrderedResult s formats → (order : List ℕ)
    → IsLoopOrder (length s.vars) (statement_edges s formats) order → AreLevelKeys s (format_of formats 0) (left_in_order s order)
