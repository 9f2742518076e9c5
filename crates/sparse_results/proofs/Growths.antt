-- Growths that are refused may be.
use Rattle.std.specs.Prelude.{◌≡◌, ◌⊎◌, ℕ, suc, List, length, refl}
use Rattle.std.proofs.Common.{sym, ap, subst, arith, inl, inr}
use Rattle.limits.specs.Limits.{greatest_position_count, greatest_workspace_pairs}
use Rattle.numbers.specs.Arithmetic.{Arithmetic}
use Rattle.kernel_code.specs.declared.syntax.Arr.{Arr}
use Rattle.kernel_code.specs.declared.syntax.Arr.TheVariants.{Range, Values, Dimension, Ends, Coordinates, Width, Key, Sums}
use Rattle.kernel_code.specs.declared.syntax.Arr.TheVariants.{ListCoordinates, ListPositions}
use Rattle.kernel_code.specs.declared.syntax.Place.{Place}
use Rattle.kernel_code.specs.declared.syntax.Place.TheVariants.{Level, Workspace}
use Rattle.kernel_code.specs.Kernels.{TooLong, place_of}
use Rattle.level_core.specs.Fragments.{IsOf}
use Rattle.tensor_map.specs.Entries.{Entry}
use Rattle.index_notation.specs.declared.syntax.Statement.{Statement}
use Rattle.iteration_graph.specs.Edges.{statement_edges}
use Rattle.concrete_notation.proofs.Orders.{is_order_of}
use Rattle.lowering.specs.Right.{rows_to, pairs}
use Rattle.lowering.proofs.RightLoops.{rows_are}
use Rattle.term_code.specs.WorkspaceSinks.{IsOfWorkspace}
use Rattle.kernel_correctness.specs.Kernels.{IsRightOutcome, standing_order}
use Rattle.kernel_correctness.specs.Results.{IsToldAs, MayPass}
use Rattle.kernel_correctness.specs.Stores.{Store, told_by}
use Rattle.operand_arrays.specs.Operands.{stored_in}
use Rattle.dense_results.proofs.Operands.{told}
use Rattle.dense_results.proofs.Pairs.{pairs_in_any_order}
use Rattle.dense_results.specs.Operands.{operands_in}
use Rattle.sparse_results.specs.Growths.{PassesLevel, LevelsMayPass, WorkspacesMayPass}
use Rattle.sparse_results.specs.Results.{AreRowsOfResult}
use Rattle.sparse_results.specs.Tables.{table_of}

-- an array of a level, or the values of the last level, is told as a level
level_place : (order d : ℕ) (b : Arr) → IsOf 0 (suc d) b → place_of order b ≡ Level (suc d)
level_place order d Range h = absurd h
level_place order d (Values n) h = absurd h
level_place order d (Dimension n k) h = ap Level h.1
level_place order d (Ends n k) h = ap Level h.1
level_place order d (Coordinates n k) h = ap Level h.1
level_place order d (Width n k) h = ap Level h.1
level_place order d (Key n k) h = absurd h
level_place order d (Sums n) h = absurd h
level_place order d (ListCoordinates n) h = absurd h
level_place order d (ListPositions n) h = absurd h

workspace_place : (order w : ℕ) (b : Arr) → IsOfWorkspace w b → place_of order b ≡ Workspace
workspace_place order w Range h = absurd h
workspace_place order w (Values n) h = absurd h
workspace_place order w (Dimension n k) h = absurd h
workspace_place order w (Ends n k) h = absurd h
workspace_place order w (Coordinates n k) h = absurd h
workspace_place order w (Width n k) h = absurd h
workspace_place order w (Key n k) h = refl
workspace_place order w (Sums n) h = refl
workspace_place order w (ListCoordinates n) h = absurd h
workspace_place order w (ListPositions n) h = absurd h

module _ (a : Arithmetic) (s : Statement) (store : Store) where
  abbrev IsRightAt : ℕ → Place → Type 0
  IsRightAt count place = IsRightOutcome a s (told_by a s store) store (TooLong place count)

  level_passes : (rows : List Entry) → AreRowsOfResult a s store rows → (d : ℕ) (b : Arr) (count : ℕ)
      → PassesLevel store rows d b count → (level : ℕ) → IsToldAs (length store.format) d level
      → MayPass a s (told_by a s store) store level count
  level_passes rows are d b count p level told = record {
    passes = p.above;
    table = table_of rows;
    named = are.named;
    at = d;
    told = told;
    most = p.within;
  }

  pub level_may_pass : (rows : List Entry) → AreRowsOfResult a s store rows → (d : ℕ) (b : Arr) (count : ℕ)
      → PassesLevel store rows d b count → IsRightOutcome a s (told_by a s store) store (TooLong (place_of (length store.format) b) count)
  level_may_pass rows are d b count p = by p.array
    where
      by : IsOf 0 (suc d) b ⊎ (b ≡ Values 0)
          → IsRightOutcome a s (told_by a s store) store (TooLong (place_of (length store.format) b) count)
      by (inl of) =
          subst (IsRightAt count) (sym (level_place (length store.format) d b of))
          (level_passes rows are d b count p (suc d) (inl (omega arith)))
      by (inr is) =
          subst (λ e. IsRightAt count (place_of (length store.format) e)) (sym is)
          (level_passes rows are d b count p (length store.format) (inr (refl, p.inside)))

pub levels_may_pass : LevelsMayPass
levels_may_pass a s store rows are d b count p = level_may_pass a s store rows are d b count p

same_limits : greatest_workspace_pairs ≡ greatest_position_count
unfolding greatest_workspace_pairs greatest_position_count
same_limits = refl

pub workspaces_may_pass : WorkspacesMayPass
workspaces_may_pass a laws s formats store r some c in_order loops adds keys w b count p =
    let held = (told s formats store r a laws).held in
    let many : length (rows_to a s formats (told_by a s store) (stored_in (operands_in s store)) keys loops)
    ≡ pairs s in_order.order (told_by a s store) =
    rows_are s formats c in_order loops adds a laws (told_by a s store) (stored_in (operands_in s store)) held keys in
    let standing : pairs s in_order.order (told_by a s store) ≡ pairs s (standing_order s) (told_by a s store) =
    pairs_in_any_order s r.numbered in_order.order
    (is_order_of (length s.vars) (statement_edges s formats) in_order.order in_order.is_order) (told_by a s store) in
    let within = p.within in
    let above = p.above in
    let limits = same_limits in
    subst (IsRightAt a s store count) (sym (workspace_place (length store.format) w b p.array))
    (omega (arith, above, limits), omega (arith, within, many, standing), some)
