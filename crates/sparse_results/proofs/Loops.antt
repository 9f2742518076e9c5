-- The rows that loops push into a workspace, and what their sums are.
use Rattle.std.specs.Prelude.{◌≡◌, ℕ, zero, suc, ◌^◌, ◌≤◌, ◌<◌, List, [], ◌∷◌, length, All, Option, Some, None, slice_index}
use Rattle.std.proofs.Common.{◌∙◌, sym, subst}
use Rattle.std.proofs.lemmas.List.{length-map}
use Rattle.std.proofs.lemmas.List.Elements.{All-nil, All-cons}
use Rattle.limits.specs.Limits.{greatest_position_count}
use Rattle.lists.specs.Each.{Each}
use Rattle.lists.proofs.Each.{each_append}
use Rattle.numbers.specs.Arithmetic.{Arithmetic, Laws}
use Rattle.format_spec.specs.declared.format.FormatLevel.{FormatLevel}
use Rattle.index_notation.specs.declared.syntax.Statement.{Statement}
use Rattle.tensor_map.specs.Entries.{Entry}
use Rattle.expr_terms.specs.Points.{coords_at}
use Rattle.concrete_notation.specs.declared.concrete.Concrete.{Concrete}
use Rattle.concrete_notation.specs.Contributions.{rows_below}
use Rattle.concrete_notation.specs.Nests.{left_in_order}
use Rattle.loop_code.specs.declared.loops.LoopCode.{LoopCode, Add, Both', Loop', Sum', Row_of-LoopCode, end_of-LoopCode}
use Rattle.loop_code.specs.declared.loops.LoopCode.{more_of-LoopCode}
use Rattle.loop_code.specs.Loops.{Layout, Stored, Env, start, at_cursor, moved, term_value, row_of, sum_of, contributions}
use Rattle.loop_code.specs.Loops.{contributions_in}
use Rattle.lowering.specs.Layouts.{layout_of}
use Rattle.lowering.specs.Lowered.{IsInOrder}
use Rattle.lowering.specs.Right.{rows_to}
use Rattle.lowering.proofs.RightLoops.{are_right}
use Rattle.tensor_storage.specs.Storages.{in_level_order}
use Rattle.kernel_correctness.specs.Stores.{Store, told_by}
use Rattle.operand_arrays.specs.Operands.{stored_in}
use Rattle.dense_results.specs.Operands.{IsReadStore, operands_in}
use Rattle.dense_results.proofs.Ends.{index_small}
use Rattle.dense_results.proofs.Operands.{told}
use Rattle.dense_results.proofs.Rows.{loops_words}
use Rattle.sparse_results.specs.Keys.{HasOrderedResult}
use Rattle.sparse_results.specs.Loops.{LoopsAddRows, LoopsSumToResult, StoresHaveSmallLevels}
use Rattle.sparse_results.specs.Results.{AreLevelKeys, IsResultStore}
use Rattle.sparse_results.specs.Tables.{IsRow}
use Rattle.sparse_results.proofs.Keys.{level_keys}
use Rattle.sparse_results.proofs.Sums.{are_rows}

-- rows with so many coordinates
abbrev HasMany : ℕ → Entry → Type 0
HasMany n row = length row.coords ≡ n

row_many : (n : ℕ) (coords : List ℕ) (x : Option ℕ) → length coords ≡ n → Each (HasMany n) (row_of coords x)
row_many n coords None h = tt
row_many n coords (Some v) h = (h, tt)

below_many : (n count : ℕ) (f : ℕ → List Entry) → ((x : ℕ) → Each (HasMany n) (f x)) → Each (HasMany n) (rows_below count f)
below_many n zero f h = tt
below_many n (suc count) f h = each_append (HasMany n) (rows_below count f) (f count) (below_many n count f h) (h count)

module _ (a : Arithmetic) (layout : Layout) (stored : Stored) (ranges : ℕ → ℕ) (target : List ℕ) where
  mutual
    -- the rows of loops with a sum are those of its body
    rows_many : (c : LoopCode) (env : Env) → Each (HasMany (length target)) (contributions a layout stored ranges target c env)
    rows_many (Loop' v seeks p body) env =
        below_many (length target) (ranges v)
        (λ x. contributions_in a layout stored ranges target body (moved layout stored v seeks env x))
        (λ x. rows_many_in body (moved layout stored v seeks env x))
    rows_many (Both' p f q g) env =
        each_append (HasMany (length target)) (contributions_in a layout stored ranges target f env)
        (contributions_in a layout stored ranges target g env) (rows_many_in f env) (rows_many_in g env)
    rows_many (Add t) env =
        row_many (length target) (coords_at env.point target) (term_value a stored env t) (length-map target env.point)
    rows_many (Sum' k p inside q body) env =
        rows_many_in body (at_cursor env k (sum_of a (contributions_in a layout stored ranges [] inside env)))

    rows_many_in : {m : _} (row : Row_of-LoopCode m) (env : Env)
        → Each (HasMany (length target)) (contributions_in a layout stored ranges target row env)
    rows_many_in end_of-LoopCode env = tt
    rows_many_in (more_of-LoopCode c rest) env = rows_many c env

both_so : (n : ℕ) (rows : List Entry) → Each (HasMany n) rows → Each (λ (row : Entry). row.value < 2 ^ 64) rows → Each (IsRow n) rows
both_so n [] many words = tt
both_so n (row ∷ rows) many words = (record { many = many.0; word = words.0 }, both_so n rows many.1 words.1)

pub loops_add_rows : LoopsAddRows
loops_add_rows a laws s formats store r loops words keys =
    both_so (length keys) (rows_to a s formats (told_by a s store) (stored_in (operands_in s store)) keys loops)
    (rows_many a (layout_of s formats) (stored_in (operands_in s store)) (slice_index store.ranges) keys loops start)
    (loops_words a laws s formats store r keys loops words)

module _ (a : Arithmetic) (laws : Laws a) (s : Statement) (formats : List (List FormatLevel)) (h : HasOrderedResult s formats)
    (store : Store) (r : IsReadStore s formats store) where
  result_store : IsResultStore s formats store
  result_store = record { named = h.named; left = h.left; is = r.is }

  keys_of : (c : Concrete) (in_order : IsInOrder s formats c) → AreLevelKeys s store.format (left_in_order s in_order.order)
  keys_of c in_order =
      subst (λ f. AreLevelKeys s f (left_in_order s in_order.order)) (sym r.is.format_is)
      (level_keys s formats h in_order.order in_order.is_order)

pub loops_sum_to_result : LoopsSumToResult
loops_sum_to_result a laws s formats h store r c in_order loops adds words =
    let keys : List ℕ = left_in_order s in_order.order in
    let level = keys_of a laws s formats h store r c in_order in
    let t = told s formats store r a laws in
    let right = are_right s r.numbered formats c in_order r.named loops adds in
    are_rows a laws s formats store (result_store a laws s formats h store r) keys level
    (rows_to a s formats (told_by a s store) (stored_in (operands_in s store)) keys loops)
    (loops_add_rows a laws s formats store r loops words keys)
    (right.summed a laws (told_by a s store) (stored_in (operands_in s store)) t.held t.elsewhere keys level.keys_are)

levels_small : (format : List FormatLevel) (ranges : List ℕ) → All (λ range. range ≤ greatest_position_count) ranges
    → All (λ size. size ≤ greatest_position_count) (in_level_order format ranges)
levels_small [] ranges small = All-nil (λ size. size ≤ greatest_position_count)
levels_small (l ∷ ls) ranges small =
    All-cons (λ size. size ≤ greatest_position_count) (slice_index ranges l.mode) (in_level_order ls ranges)
    (index_small ranges l.mode greatest_position_count small) (levels_small ls ranges small)

pub stores_have_small_levels : StoresHaveSmallLevels
stores_have_small_levels s formats store is = record {
  each = length-map store.format (λ (level : FormatLevel). slice_index store.ranges level.mode)
      ∙ sym (length-map store.format (λ (level : FormatLevel). level.letter));
  small = levels_small store.format store.ranges is.small;
}
