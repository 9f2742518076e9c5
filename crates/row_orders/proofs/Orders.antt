-- Where no workspace is called for, rows come in the order of the result's storage.
use Rattle.std.specs.Prelude.{◌≡◌, ℕ, zero, suc, ◌≤◌, ◌<◌, Bool, true, false, if◌then◌else◌, List, [], ◌∷◌, ◌++◌}
use Rattle.std.specs.Prelude.{length, map, take, slice_index, refl}
use Rattle.std.specs.List.{list_all, list_any, All}
use Rattle.std.proofs.Common.{◌∙◌, sym, ap, subst, arith}
use Rattle.lists.specs.Each.{Each}
use Rattle.numbers.specs.Arithmetic.{Arithmetic}
use Rattle.tensor_map.specs.Entries.{Entry}
use Rattle.tensor_map.proofs.Summed.{NeverFalls}
use Rattle.format_spec.specs.declared.format.FormatLevel.{FormatLevel}
use Rattle.format_spec.specs.Formats.{modes_of}
use Rattle.index_notation.specs.declared.syntax.Statement.{Statement}
use Rattle.iteration_graph.specs.Edges.{by_level, statement_edges}
use Rattle.iteration_graph.specs.Graphs.{IsLoopOrder}
use Rattle.expr_terms.specs.Points.{coords_at}
use Rattle.concrete_notation.specs.Contributions.{Inputs}
use Rattle.concrete_notation.specs.Nests.{IsOrderOf, left_in_order}
use Rattle.concrete_notation.proofs.Orders.{is_order_of}
use Rattle.concrete_notation.proofs.Points.{neither}
use Rattle.loop_code.specs.declared.loops.LoopCode.{LoopCode}
use Rattle.loop_code.specs.Loops.{Stored, start}
use Rattle.lowering.specs.Layouts.{layout_of}
use Rattle.lowering.specs.Right.{rows_to}
use Rattle.tensor_storage.specs.Storages.{in_level_order}
use Rattle.row_orders.specs.Heads.{is_dense, head_levels, left_levels, tail_levels, result_levels, head}
use Rattle.row_orders.specs.Orders.{HasResult, AreLoopsOf, AreOutsideSums, ComeInOrder, RowsComeInOrder, LoweredRowsComeInOrder, cut}
use Rattle.row_orders.specs.Takings.{is_inside_sum, is_unordered, calls_for_workspace}
use Rattle.row_orders.proofs.FrontRows.{fronts_never_fall, left_alone, taken_front}
use Rattle.row_orders.proofs.HeadLengths.{levels_parted, by_level_parts}
use Rattle.row_orders.proofs.LevelOrders.{left_order, modes_below}
use Rattle.row_orders.proofs.Lists.{each_weaker}
use Rattle.row_orders.proofs.Loops.{loops_are, shared_outermost}
use Rattle.row_orders.proofs.Positions.{never_fall_at}
use Rattle.row_orders.proofs.Rising.{rows_long, rows_reread}

-- a dense format has no head
pub no_head : (levels : List FormatLevel) → list_all is_dense levels ≡ true → head_levels levels ≡ []
no_head [] dense = refl
no_head (level ∷ levels) dense = ap (λ b. if b then [] else (level ∷ head_levels levels)) dense

-- each of some variables passes no test that none passes
each_passes : (p : ℕ → Bool) (vs : List ℕ) → list_any p vs ≡ false → Each (λ v. p v ≡ false) vs
each_passes p [] h = tt
each_passes p (v ∷ vs) h = let parts = neither (p v) (list_any p vs) h in (parts.0, each_passes p vs parts.1)

front_short : (front rest : List ℕ) → length front ≤ length (front ++ rest)
front_short [] rest = omega arith
front_short (v ∷ front) rest = let more = front_short front rest in omega (arith, more)

at_mapped : (point : ℕ → ℕ) (vars : List ℕ) (m : ℕ) → m < length vars → slice_index (map point vars) m ≡ point (slice_index vars m)
at_mapped point [] m below = absurd (omega (arith, below))
at_mapped point (v ∷ vars) zero below = refl
at_mapped point (v ∷ vars) (suc m) below = at_mapped point vars m (omega (arith, below))

module _ (s : Statement) (formats : List (List FormatLevel)) (h : HasResult s formats) where
  pub whole : left_levels s formats
      ≡ head s formats ++ by_level (tail_levels (result_levels s formats)) s.left.vars
  whole =
      ap (λ levels. by_level levels s.left.vars) (sym (levels_parted (result_levels s formats)))
      ∙ by_level_parts (head_levels (result_levels s formats)) (tail_levels (result_levels s formats)) s.left.vars

  head_short : length (head s formats) ≤ length (left_levels s formats)
  head_short = subst (λ vs. length (head s formats) ≤ length vs) (sym whole)
      (front_short (head s formats) (by_level (tail_levels (result_levels s formats)) s.left.vars))

  told_by_levels : (point : ℕ → ℕ)
      → take (length (head s formats)) (coords_at point (left_levels s formats)) ≡ coords_at point (head s formats)
  told_by_levels point =
      ap (λ vs. take (length (head s formats)) (coords_at point vs)) whole
      ∙ taken_front point (head s formats) (by_level (tail_levels (result_levels s formats)) s.left.vars)

  told_by_modes : (point : ℕ → ℕ)
      → in_level_order (head_levels (result_levels s formats)) (coords_at point s.left.vars) ≡ coords_at point (head s formats)
  told_by_modes point = at (head_levels (result_levels s formats)) (tail_levels (result_levels s formats))
      (subst (λ levels. All (λ m. m < length s.left.vars) (modes_of levels)) (sym (levels_parted (result_levels s formats)))
      (modes_below s formats h))
    where
      at : (first second : List FormatLevel) → All (λ m. m < length s.left.vars) (modes_of (first ++ second))
          → in_level_order first (map point s.left.vars) ≡ map point (by_level first s.left.vars)
      at [] second below = refl
      at (level ∷ first) second below =
          let here = at_mapped point s.left.vars level.mode (below 0 0 (omega arith)) in
          let rest = at first second (λ k d l. below (suc k) d (omega (arith, l))) in
          λ i. here i ∷ rest i

  module _ (order : List ℕ) (loops_ordered : IsLoopOrder (length s.vars) (statement_edges s formats) order)
      (none : calls_for_workspace s formats order ≡ false) where
    ordered : IsOrderOf (length s.vars) order
    ordered = is_order_of (length s.vars) (statement_edges s formats) order loops_ordered

    outer : AreOutsideSums s order (head s formats)
    outer = each_passes (is_inside_sum s order) (head s formats)
        (neither (list_any is_unordered (result_levels s formats)) (list_any (is_inside_sum s order) (head s formats)) none).1

    module _ (loops : LoopCode) (are : AreLoopsOf s order loops) where
      module _ (a : Arithmetic) (inputs : Inputs) (stored : Stored) where
        heads : NeverFalls (rows_to a s formats inputs stored (head s formats) loops)
        heads = by (list_all is_dense (result_levels s formats)) refl
          where
            by : (b : Bool) → list_all is_dense (result_levels s formats) ≡ b
                → NeverFalls (rows_to a s formats inputs stored (head s formats) loops)
            by true dense = subst (λ front. NeverFalls (rows_to a s formats inputs stored front loops))
                (ap (λ levels. by_level levels s.left.vars) (sym (no_head (result_levels s formats) dense)))
                (fronts_never_fall s formats h.numbered order ordered [] (left_in_order s order) refl tt loops are a inputs stored).0
            by false sparse =
                (fronts_never_fall s formats h.numbered order ordered (head s formats)
                (by_level (tail_levels (result_levels s formats)) s.left.vars)
                (sym (left_alone s order) ∙ left_order s formats h order loops_ordered sparse ∙ whole) outer loops are a inputs stored).0

        levels : NeverFalls (map (cut (length (head s formats))) (rows_to a s formats inputs stored (left_levels s formats) loops))
        levels = subst NeverFalls (sym (rows_reread a (layout_of s formats) stored inputs.ranges (left_levels s formats) (head s formats)
            (take (length (head s formats))) told_by_levels loops start)) heads

        long : Each (λ (row : Entry). length (head s formats) ≤ length row.coords)
            (rows_to a s formats inputs stored (left_levels s formats) loops)
        long = each_weaker (λ (row : Entry). length row.coords ≡ length (left_levels s formats))
            (λ (row : Entry). length (head s formats) ≤ length row.coords)
            (rows_to a s formats inputs stored (left_levels s formats) loops) (λ row is. omega (arith, is, head_short))
            (rows_long a (layout_of s formats) stored inputs.ranges (left_levels s formats) loops start)

        pub come_in_order : ComeInOrder a s formats inputs stored loops
        come_in_order = record {
          heads = heads;
          levels = levels;
          places = never_fall_at (length (head s formats)) (rows_to a s formats inputs stored (left_levels s formats) loops) levels long;
          modes = subst NeverFalls (sym (rows_reread a (layout_of s formats) stored inputs.ranges s.left.vars (head s formats)
              (in_level_order (head_levels (result_levels s formats))) told_by_modes loops start)) heads;
        }

pub rows_come_in_order : RowsComeInOrder
rows_come_in_order s formats h order loops_ordered none loops are a inputs stored =
    come_in_order s formats h order loops_ordered none loops are a inputs stored

pub lowered_rows_come_in_order : LoweredRowsComeInOrder
lowered_rows_come_in_order s formats h c in_order shared outermost none loops shape a inputs stored =
    come_in_order s formats h in_order.order in_order.is_order none loops
    (loops_are s formats c in_order loops shape (shared_outermost c outermost shared)) a inputs stored
