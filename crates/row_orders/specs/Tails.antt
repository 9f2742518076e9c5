-- The tail of a result: its variables behind the first summed one in the loop order.
use Rattle.std.specs.Prelude.{◌≡◌, ℕ, Bool, true, not, ◌&&◌, ◌||◌, if◌then◌else◌, List, [], ◌∷◌, length, slice_index}
use Rattle.std.specs.List.{list_any}
use Rattle.format_spec.specs.declared.format.FormatLevel.{FormatLevel}
use Rattle.index_notation.specs.declared.syntax.Statement.{Statement}
use Rattle.iteration_graph.specs.Edges.{statement_edges}
use Rattle.iteration_graph.specs.Graphs.{IsLoopOrder}
use Rattle.expr_terms.specs.Terms.{contains}
use Rattle.row_orders.specs.Heads.{is_dense, head, result_levels}
use Rattle.row_orders.specs.Orders.{HasResult}
use Rattle.row_orders.specs.Takings.{is_summed, outside, is_unordered, calls_for_workspace}

-- what stands in an order behind the first summed variable
abbrev pub behind_sum : Statement → List ℕ → List ℕ
behind_sum s [] = []
behind_sum s (v ∷ order) = if is_summed s v then order else behind_sum s order

-- whether the variable of a level of the result is one of the tail
abbrev pub is_in_tail : Statement → List ℕ → FormatLevel → Bool
is_in_tail s order level = contains (behind_sum s order) (slice_index s.left.vars level.mode)

abbrev pub is_sparse_in_tail : Statement → List ℕ → FormatLevel → Bool
is_sparse_in_tail s order level = not (is_dense level) && is_in_tail s order level

-- a workspace is called for exactly where a level of the result has no order, or one of the tail isn't dense
abbrev pub WorkspacesAreForTails : Type 0
WorkspacesAreForTails = (s : Statement) (formats : List (List FormatLevel)) → HasResult s formats → (order : List ℕ)
    → IsLoopOrder (length s.vars) (statement_edges s formats) order
    → calls_for_workspace s formats order
    ≡ (list_any is_unordered (result_levels s formats) || list_any (is_sparse_in_tail s order) (result_levels s formats))

-- one is called for wherever a summed variable stands before one of the head
abbrev pub SumsOutsideCall : Type 0
SumsOutsideCall = (s : Statement) (formats : List (List FormatLevel)) (order : List ℕ) (u v : ℕ) → contains (head s formats) v ≡ true
    → contains (outside order v) u ≡ true → is_summed s u ≡ true → calls_for_workspace s formats order ≡ true
