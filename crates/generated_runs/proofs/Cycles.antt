-- The storage orders of the workload's tensors have no cycle: all have rows above columns.
use Rattle.std.specs.Prelude.{ℕ, zero, suc, List, [], ◌∷◌, refl}
use Rattle.std.proofs.Common.{arith}
use Rattle.iteration_graph.specs.Graphs.{IsPlaced}
use Rattle.iteration_graph.proofs.OrderLaws.{no_order}
use Rattle.taco_compiler.specs.Compiled.{HasCycle, IsOrder}
use Rattle.generated_runs.specs.Workloads.{workload_statement, workload_formats}

-- an edge from rows to columns for each tensor
row_edges : List (ℕ × ℕ)
row_edges = (0, 1) ∷ (0, 1) ∷ (0, 1) ∷ (0, 1) ∷ []

rows_first : IsPlaced 2 row_edges (0 ∷ 1 ∷ [])
unfolding row_edges
rows_first zero d h = refl
rows_first (suc zero) d h = refl
rows_first (suc (suc k)) d h = absurd (omega (arith, h))

pub rows_then_columns : IsOrder workload_statement workload_formats (0 ∷ 1 ∷ [])
unfolding workload_statement workload_formats row_edges
rows_then_columns = record { count = refl; placed = rows_first }

pub no_cycle : (cycle : List ℕ) → HasCycle workload_statement workload_formats cycle → ⊥
no_cycle cycle has = no_order _ _ cycle (0 ∷ 1 ∷ []) has rows_then_columns
