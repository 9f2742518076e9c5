-- A result whose levels are all dense: what its arrays hold before any row is added, and what they leave once all rows are.
use Rattle.std.specs.Prelude.{◌≡◌, ℕ, List, [], length, map, slice_index}
use Rattle.numbers.specs.Arithmetic.{Arithmetic, Laws}
use Rattle.tensor_map.specs.Entries.{Entry}
use Rattle.level_core.specs.Meaning.{Arrays}
use Rattle.format_spec.specs.declared.format.FormatLevel.{FormatLevel}
use Rattle.format_spec.specs.Formats.{modes_of}
use Rattle.index_notation.specs.Statement.{IsWellNamed}
use Rattle.index_notation.specs.declared.syntax.Statement.{Statement}
use Rattle.iteration_graph.specs.Edges.{HasFormat}
use Rattle.concrete_notation.specs.Workspaces.{AreAllDense}
use Rattle.term_code.specs.DenseSinks.{HoldsSums, AreModes}
use Rattle.lowering.specs.Right.{HaveValues}
use Rattle.kernel_correctness.specs.Results.{LeavesResult}
use Rattle.kernel_correctness.specs.Stores.{Store, IsStoreOf, IsGiven, told_by}

-- the ranges of the left side's variables, which are those of the result's modes
abbrev pub left_ranges : Statement → Store → List ℕ
left_ranges s store = map (slice_index store.ranges) s.left.vars

-- a statement with a format for its result, all of whose levels are dense, and a store of it
pub record IsDenseStore (s : Statement) (formats : List (List FormatLevel)) (store : Store) : Type 0 where
  pub named : IsWellNamed s
  pub left : HasFormat formats s.left
  pub dense : AreAllDense store.format
  pub is : IsStoreOf s formats store

-- the levels of the result store each mode once, and there is a range for each
pub record HasModes (s : Statement) (store : Store) : Type 0 where
  pub modes : AreModes (modes_of store.format)
  pub ranges : length (left_ranges s store) ≡ length (modes_of store.format)
  pub order : length s.left.vars ≡ length (modes_of store.format)

abbrev pub ResultsHaveModes : Type 0
ResultsHaveModes = (s : Statement) (formats : List (List FormatLevel)) (store : Store) → IsDenseStore s formats store → HasModes s store

-- as a run starts, the values of the result are the sums of no rows
abbrev pub StartsWithoutRows : Type 0
StartsWithoutRows = (a : Arithmetic) (s : Statement) (formats : List (List FormatLevel)) (store : Store) → IsDenseStore s formats store
    → (arrays : Arrays) → IsGiven a.zero store arrays → HoldsSums (modes_of store.format) a (left_ranges s store) [] arrays

-- where they are the sums of rows that have the statement's values, the arrays leave the statement's result
abbrev pub SumsAreResults : Type 0
SumsAreResults = (a : Arithmetic) → Laws a
    → (s : Statement) (formats : List (List FormatLevel)) (store : Store) → IsDenseStore s formats store
    → (rows : List Entry) → HaveValues a s (told_by a s store) rows
    → (arrays : Arrays) → HoldsSums (modes_of store.format) a (left_ranges s store) rows arrays
    → LeavesResult a s (told_by a s store) store arrays
