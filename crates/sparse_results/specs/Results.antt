-- The sums of a workspace whose keys stand in the order of the result's levels are the rows that the result is made of.
use Rattle.std.specs.Prelude.{◌≡◌, ℕ, List, length, map}
use Rattle.numbers.specs.Arithmetic.{Arithmetic, Laws}
use Rattle.tensor_map.specs.Entries.{Entry}
use Rattle.level_rows.specs.Tables.{Increase}
use Rattle.format_spec.specs.declared.format.FormatLevel.{FormatLevel}
use Rattle.index_notation.specs.Statement.{IsWellNamed}
use Rattle.index_notation.specs.declared.syntax.Statement.{Statement}
use Rattle.iteration_graph.specs.Edges.{HasFormat, by_level}
use Rattle.lists.specs.Each.{Each}
use Rattle.concrete_notation.specs.Contributions.{passed_on, sums_of}
use Rattle.tensor_storage.specs.Storages.{in_level_order}
use Rattle.tensor_storage.specs.Tables.{AreBelow}
use Rattle.lowering.specs.Right.{AreKeys, HaveValues}
use Rattle.kernel_correctness.specs.Results.{IsNamedResult}
use Rattle.kernel_correctness.specs.Stores.{Store, IsStoreOf, told_by}
use Rattle.sparse_results.specs.Tables.{table_of, IsRow}

-- a statement with a format for its result, and a store of it
pub record IsResultStore (s : Statement) (formats : List (List FormatLevel)) (store : Store) : Type 0 where
  pub named : IsWellNamed s
  pub left : HasFormat formats s.left
  pub is : IsStoreOf s formats store

-- the rows name the points of the statement's support, each once and with the statement's value, increase level by level, and are
-- below the levels' ranges
pub record AreRowsOfResult (a : Arithmetic) (s : Statement) (store : Store) (rows : List Entry) : Type 0 where
  pub named : IsNamedResult a s (told_by a s store) store.format (table_of rows)
  pub order : Increase (table_of rows).coords (length store.format) (length rows)
  pub below : AreBelow (table_of rows) (in_level_order store.format store.ranges)

-- keys that are the left variables in the order of the result's levels
pub record AreLevelKeys (s : Statement) (format : List FormatLevel) (keys : List ℕ) : Type 0 where
  pub keys_are : AreKeys s keys
  pub order : keys ≡ by_level format s.left.vars

-- so are the sums of rows that have the statement's values once they are summed and passed on
abbrev pub SumsAreRows : Type 0
SumsAreRows = (a : Arithmetic) → Laws a → (s : Statement) (formats : List (List FormatLevel)) (store : Store)
    → IsResultStore s formats store → (keys : List ℕ) → AreLevelKeys s store.format keys
    → (rows : List Entry) → Each (IsRow (length keys)) rows
    → HaveValues a s (told_by a s store) (map (passed_on s.left.vars (λ v. 0) keys) (sums_of a rows))
    → AreRowsOfResult a s store (sums_of a rows)
