-- The loops of a concrete statement that shares loops cost at most what the statement does, and have at most as many repeated
-- coordinates, whatever is stored of its accesses.
use Rattle.std.specs.Prelude.{◌≡◌, ℕ, ◌≤◌, List, [], None}
use Rattle.format_spec.specs.declared.format.FormatLevel.{FormatLevel}
use Rattle.index_notation.specs.Statement.{IsNumbered}
use Rattle.index_notation.specs.declared.syntax.Statement.{Statement}
use Rattle.iteration_graph.specs.Edges.{AreFormed}
use Rattle.lists.specs.Each.{Each}
use Rattle.concrete_notation.specs.declared.concrete.Concrete.{Concrete}
use Rattle.concrete_notation.specs.Nests.{SharesLoops}
use Rattle.loop_code.specs.declared.loops.LoopCode.{LoopCode}
use Rattle.loop_code.specs.Loops.{Stored, start}
use Rattle.loop_code.specs.Turns.{cost, dups}
use Rattle.lowering.specs.Layouts.{layout_of}
use Rattle.lowering.specs.Lowered.{IsInOrder, IsInPlace, concrete_of, plain}
use Rattle.lowering.specs.Shapes.{FindsBelow, FindsReached}
use Rattle.lowering.specs.Sums.{HasSums, SuitsFormats}
use Rattle.lowering.proofs.Fits.{all_allowed}
use Rattle.statement_costs.specs.Costs.{HaveGroups, group_length, group_repeats, statement_cost, statement_repeats}
use Rattle.lowering.specs.Starts.{StartsInPlace}
use Rattle.statement_costs.proofs.Steps.{length_most, repeats_most}
use Rattle.statement_costs.proofs.Trees.{cost_counts, dups_count, loop_length, loop_repeats}
use Rattle.statement_costs.proofs.Whole.{length_same, repeats_same, whole}

module _ (s : Statement) (formats : List (List FormatLevel)) (numbered : IsNumbered s) (sums : HasSums s formats)
    (suits : Each (SuitsFormats formats) s.accesses) (formed : AreFormed formats s.accesses) (c : Concrete)
    (in_order : IsInOrder s formats c) (shares : SharesLoops (plain c)) (loops : LoopCode) (shape : concrete_of loops ≡ plain c)
    (placed : IsInPlace s formats loops) (finds : FindsReached s formats [] (λ k. 0) loops) (starts : StartsInPlace s None [] 0 loops)
    (below : FindsBelow s loops) (stored : Stored) (ranges : ℕ → ℕ) where
  pub loops_cost_no_more : HaveGroups s formats stored
      → cost (layout_of s formats) stored ranges loops start ≤ statement_cost s formats in_order.order stored ranges
  loops_cost_no_more groups =
      whole s formats stored ranges c in_order
      (all_allowed s formats numbered formed suits in_order.order in_order.is_order sums in_order.inner) shares loops shape placed finds
      starts below
      (loop_length (layout_of s formats) stored ranges) (cost (layout_of s formats) stored ranges)
      (cost_counts (layout_of s formats) stored ranges) (group_length s formats stored ranges)
      (λ bound depth v seeks body env step. length_most s formats stored ranges bound depth v seeks body env step groups)
      (length_same s formats stored ranges)

  pub loops_repeat_no_more : dups (layout_of s formats) stored ranges loops start
      ≤ statement_repeats s formats in_order.order stored ranges
  loops_repeat_no_more =
      whole s formats stored ranges c in_order
      (all_allowed s formats numbered formed suits in_order.order in_order.is_order sums in_order.inner) shares loops shape placed finds
      starts below
      (loop_repeats (layout_of s formats) stored ranges) (dups (layout_of s formats) stored ranges)
      (dups_count (layout_of s formats) stored ranges) (group_repeats s formats stored ranges)
      (λ bound depth v seeks body env step. repeats_most s formats stored ranges bound depth v seeks body env step)
      (repeats_same s formats stored ranges)
