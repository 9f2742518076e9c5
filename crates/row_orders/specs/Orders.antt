-- The order in which loops come by the rows of a result.
use Rattle.std.specs.Prelude.{◌≡◌, ◌⊎◌, ℕ, ◌<◌, true, false, List, [], ◌++◌, length, map, take, slice_index, slice_index_or}
use Rattle.numbers.specs.Arithmetic.{Arithmetic}
use Rattle.tensor_map.specs.Entries.{Entry}
use Rattle.tensor_map.proofs.Summed.{NeverFalls}
use Rattle.format_spec.specs.declared.format.FormatLevel.{FormatLevel}
use Rattle.format_spec.specs.Formats.{IsFormat}
use Rattle.index_notation.specs.Statement.{IsNumbered}
use Rattle.index_notation.specs.declared.syntax.Statement.{Statement}
use Rattle.lists.specs.Each.{Each}
use Rattle.expr_terms.specs.Result.{AreBelow}
use Rattle.expr_terms.specs.Terms.{contains}
use Rattle.iteration_graph.specs.Edges.{HasFormat, statement_edges}
use Rattle.iteration_graph.specs.Graphs.{IsLoopOrder}
use Rattle.concrete_notation.specs.Contributions.{Inputs}
use Rattle.concrete_notation.specs.declared.concrete.Concrete.{Concrete, Where}
use Rattle.concrete_notation.specs.Nests.{HasTerms, IsOrderOf, SharesLoops, left_in_order, workspaces}
use Rattle.loop_code.specs.declared.loops.LoopCode.{LoopCode}
use Rattle.loop_code.specs.Loops.{Stored}
use Rattle.lowering.specs.Lowered.{IsInOrder, concrete_of, plain}
use Rattle.lowering.specs.Right.{rows_to}
use Rattle.level_rows.specs.Tables.{Agree, IsBefore}
use Rattle.tensor_storage.specs.Arranged.{no_entry}
use Rattle.tensor_storage.specs.Storages.{in_level_order}
use Rattle.row_orders.specs.Heads.{head, head_levels, left_levels, result_levels}
use Rattle.row_orders.specs.Takings.{calls_for_workspace, is_inside_sum}

-- a statement with a format for its result
pub record HasResult (s : Statement) (formats : List (List FormatLevel)) : Type 0 where
  pub numbered : IsNumbered s
  pub left : HasFormat formats s.left
  pub format : IsFormat (result_levels s formats)

-- loops that have each term of a statement once, in its loops of this order, and no two loops over one variable side by side
pub record AreLoopsOf (s : Statement) (order : List ℕ) (loops : LoopCode) : Type 0 where
  pub terms : HasTerms s order (concrete_of loops)
  pub shared : SharesLoops (concrete_of loops)

-- a row at the first so many of its coordinates
abbrev pub cut : ℕ → Entry → Entry
cut n row = record { coords = take n row.coords; value = row.value }

-- a row, whose coordinates stand in the order of the modes, at those of the head's levels
abbrev pub at_head : List FormatLevel → Entry → Entry
at_head levels row = record { coords = in_level_order (head_levels levels) row.coords; value = row.value }

-- no summed variable stands in an order before one of these
abbrev pub AreOutsideSums : Statement → List ℕ → List ℕ → Type 0
AreOutsideSums s order front = Each (λ v. is_inside_sum s order v ≡ false) front

-- the rows of loops never fall, in lexicographic order, by the coordinates of some variables with which the left ones begin in loop order,
-- where no summed variable stands before one of them, whatever is stored of the operands: neither those that are added to them alone, nor
-- those that are added to all left variables
abbrev pub FrontsNeverFall : Type 0
FrontsNeverFall = (s : Statement) (formats : List (List FormatLevel)) → IsNumbered s → (order : List ℕ) → IsOrderOf (length s.vars) order
    → (front rest : List ℕ) → left_in_order s order ≡ front ++ rest → AreOutsideSums s order front
    → (loops : LoopCode) → AreLoopsOf s order loops → (a : Arithmetic) (inputs : Inputs) (stored : Stored)
    → NeverFalls (rows_to a s formats inputs stored front loops)
    × NeverFalls (map (cut (length front)) (rows_to a s formats inputs stored (left_in_order s order) loops))

-- the coordinates of rows: of the level numbered d, from 0 at the top, that of row i
abbrev pub row_coords : List Entry → ℕ → ℕ → ℕ
row_coords rows d i = slice_index (slice_index_or rows i no_entry).coords d

-- a row is as another one at the first n levels, or stands before it there
abbrev pub IsNotAfter : (ℕ → ℕ → ℕ) → ℕ → ℕ → ℕ → Type 0
IsNotAfter coords n i j = Agree coords n i j ⊎ IsBefore coords n i j

abbrev pub NeverFallAt : (ℕ → ℕ → ℕ) → ℕ → ℕ → Type 0
NeverFallAt coords n count = (i j : ℕ) → i < j → j < count → IsNotAfter coords n i j

-- rows come in the order of the result's storage: the coordinates of the head never fall from row to row, in lexicographic order. So it
-- is of the rows that are added to the head alone, to the left variables level by level, and to those as they stand
pub record ComeInOrder (a : Arithmetic) (s : Statement) (formats : List (List FormatLevel)) (inputs : Inputs) (stored
    : Stored) (loops : LoopCode) : Type 0 where
  pub heads : NeverFalls (rows_to a s formats inputs stored (head s formats) loops)
  pub levels : NeverFalls (map (cut (length (head s formats))) (rows_to a s formats inputs stored (left_levels s formats) loops))
  pub places : NeverFallAt (row_coords (rows_to a s formats inputs stored (left_levels s formats) loops)) (length (head s formats))
      (length (rows_to a s formats inputs stored (left_levels s formats) loops))
  pub modes : NeverFalls (map (at_head (result_levels s formats)) (rows_to a s formats inputs stored s.left.vars loops))

-- where a statement calls for no workspace, whatever is stored of its operands
abbrev pub RowsComeInOrder : Type 0
RowsComeInOrder = (s : Statement) (formats : List (List FormatLevel)) → HasResult s formats → (order : List ℕ)
    → IsLoopOrder (length s.vars) (statement_edges s formats) order → calls_for_workspace s formats order ≡ false
    → (loops : LoopCode) → AreLoopsOf s order loops
    → (a : Arithmetic) (inputs : Inputs) (stored : Stored) → ComeInOrder a s formats inputs stored loops

-- no workspace stands inside the loops of a concrete statement: there is none, or one around all
abbrev pub IsOutermost : Concrete → Type 0
IsOutermost c = (workspaces c ≡ []) ⊎ ((keys : List ℕ) × (tree : Concrete) × (c ≡ Where keys tree) × (workspaces tree ≡ []))

-- so it is of the loops that such a concrete statement in loop order is lowered to, where loops over one variable are shared
abbrev pub LoweredRowsComeInOrder : Type 0
LoweredRowsComeInOrder = (s : Statement) (formats : List (List FormatLevel)) → HasResult s formats
    → (c : Concrete) (in_order : IsInOrder s formats c) → SharesLoops c → IsOutermost c
    → calls_for_workspace s formats in_order.order ≡ false
    → (loops : LoopCode) → concrete_of loops ≡ plain c
    → (a : Arithmetic) (inputs : Inputs) (stored : Stored) → ComeInOrder a s formats inputs stored loops

-- each coordinate of each row is below the range of its variable: so it is of all rows, to any variables of the left side
abbrev pub RowsAreBelow : Type 0
RowsAreBelow = (s : Statement) (formats : List (List FormatLevel)) → IsNumbered s → (order : List ℕ) → IsOrderOf (length s.vars) order
    → (loops : LoopCode) → AreLoopsOf s order loops
    → (target : List ℕ) → ((v : ℕ) → contains target v ≡ true → contains s.left.vars v ≡ true)
    → (a : Arithmetic) (inputs : Inputs) (stored : Stored)
    → Each (λ (row : Entry). AreBelow row.coords (map inputs.ranges target)) (rows_to a s formats inputs stored target loops)
