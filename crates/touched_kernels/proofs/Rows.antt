-- The rows of a statement's loops are such as a workspace takes whose key is the result's one variable.
use Rattle.std.specs.Prelude.{◌≡◌, ℕ, ◌<◌, List, [], ◌∷◌, ◌++◌, length, slice_index, refl}
use Rattle.std.proofs.Common.{◌∙◌, sym, ap, subst}
use Rattle.std.proofs.lemmas.List.{length-map}
use Rattle.std.proofs.lemmas.Option.{slice_get_within, get_or_from_slice_get}
use Rattle.lists.specs.Each.{Each}
use Rattle.lists.proofs.Each.{each_from}
use Rattle.numbers.specs.Arithmetic.{Arithmetic, Laws}
use Rattle.format_spec.specs.declared.format.FormatLevel.{FormatLevel}
use Rattle.format_spec.specs.Formats.{modes_of}
use Rattle.index_notation.specs.declared.syntax.Statement.{Statement}
use Rattle.iteration_graph.specs.Edges.{format_of}
use Rattle.expr_terms.specs.ValueLaws.{HasWords}
use Rattle.tensor_map.specs.Entries.{Entry}
use Rattle.tensor_map.proofs.Lemmas.{listed_at}
use Rattle.tns_io.specs.Positions.{IsBelow}
use Rattle.concrete_notation.specs.declared.concrete.Concrete.{Concrete}
use Rattle.concrete_notation.specs.Contributions.{sums_of}
use Rattle.concrete_notation.specs.Nests.{left_in_order}
use Rattle.concrete_notation.proofs.SumsOf.{sums_listed}
use Rattle.loop_code.specs.declared.loops.LoopCode.{LoopCode}
use Rattle.lowering.specs.Lowered.{AddsRows, IsInOrder}
use Rattle.lowering.specs.Right.{rows_to}
use Rattle.lowering.specs.Shapes as shapes
use Rattle.tensor_storage.specs.Arranged.{no_entry}
use Rattle.tensor_storage.specs.Storages.{in_level_order}
use Rattle.kernel_correctness.specs.Stores.{Store, IsStoreOf, told_by}
use Rattle.operand_arrays.specs.Operands.{stored_in}
use Rattle.dense_results.specs.Operands.{IsReadStore, operands_in}
use Rattle.dense_results.proofs.Modes.{level_numbers}
use Rattle.sparse_results.specs.Keys.{HasOrderedResult}
use Rattle.sparse_results.specs.Results.{AreRowsOfResult}
use Rattle.sparse_results.specs.Tables.{IsRow}
use Rattle.sparse_results.proofs.Keys.{level_keys}
use Rattle.sparse_results.proofs.Loops.{loops_add_rows, loops_sum_to_result}
use Rattle.appended_results.specs.Heads.{row_at}
use Rattle.appended_kernels.proofs.Names.{each_at, listed_row, sum_long}
use Rattle.appended_kernels.proofs.Values.{below_from}
use Rattle.result_targets.specs.Sinks.{TakesAll}
use Rattle.sparse_kernels.specs.Kernels.{IsForSparse}
use Rattle.term_code.specs.DenseSinks.{by_level}
use Rattle.touched_workspaces.specs.Sinks.{IsTouching, touched_sink}
use Rattle.touched_workspaces.specs.declared.sink.TouchedSink.{TouchedSink}
use Rattle.touched_kernels.specs.Kernels.{ranges_on}

takes_from : (k : TouchedSink) (ranges : List ℕ) (before rows : List Entry) → Each (IsTouching ranges) rows
    → TakesAll touched_sink k ranges before rows
takes_from k ranges before [] each = tt
takes_from k ranges before (row ∷ rows) each = (each.0, takes_from k ranges (before ++ row ∷ []) rows each.1)

module _ (a : Arithmetic) (laws : Laws a) (s : Statement) (formats : List (List FormatLevel)) (f : IsForSparse s formats)
    (c : Concrete) (in_order : IsInOrder s formats c) (loops : LoopCode) (adds : AddsRows s formats c loops)
    (words : shapes.EachTerm (λ t. HasWords t.expr) loops) (store : Store) (is : IsStoreOf s formats store) where
  pub read_store : IsReadStore s formats store
  read_store = record { numbered = f.numbered; named = f.named; flat = f.flat; read = f.read; is = is }

  ordered : HasOrderedResult s formats
  ordered = record { numbered = f.numbered; named = f.named; left = f.left; format = f.format; some = f.some }

  abbrev rows : List Entry
  rows = rows_to a s formats (told_by a s store) (stored_in (operands_in s store)) (left_in_order s in_order.order) loops

  abbrev sums : List Entry
  sums = sums_of a rows

  pub are_rows : AreRowsOfResult a s store (sums_of a
      (rows_to a s formats (told_by a s store) (stored_in (operands_in s store)) (left_in_order s in_order.order) loops))
  are_rows = loops_sum_to_result a laws s formats ordered store read_store c in_order loops adds words

  keys_many : length (left_in_order s in_order.order) ≡ length store.format
  keys_many =
      ap length (level_keys s formats ordered in_order.order in_order.is_order).order
      ∙ length-map (modes_of (format_of formats 0)) (slice_index s.left.vars)
      ∙ length-map (format_of formats 0) (λ (level : FormatLevel). level.mode) ∙ ap length (sym is.format_is)

  each_row : Each (IsRow (length store.format)) rows
  each_row =
      subst (λ n. Each (IsRow n) rows) keys_many
      (loops_add_rows a laws s formats store read_store loops words (left_in_order s in_order.order))

  -- each row is one of the sums, which are below the ranges
  row_below : (i : ℕ) → i < length rows → IsBelow (in_level_order store.format store.ranges) (row_at rows i).coords
  row_below i h =
      let r = listed_row sums (row_at rows i).coords
      ((sums_listed a rows (row_at rows i).coords).1 (listed_at rows i no_entry h)) in
      let sizes_many = length-map store.format (λ (level : FormatLevel). slice_index store.ranges level.mode) in
      subst (IsBelow (in_level_order store.format store.ranges)) r.2
      (below_from (in_level_order store.format store.ranges) (row_at sums r.0).coords
      (sum_long a (length store.format) rows each_row r.0 r.1 ∙ sym sizes_many) (λ d within. are_rows.below d r.0 within r.1))

  module _ (k : TouchedSink) (modes : modes_of (format_of formats 0) ≡ k.variable ∷ []) where
    sizes_are : in_level_order store.format store.ranges ≡ ranges_on k store
    sizes_are =
        sym (level_numbers store.format store.ranges)
        ∙ ap (λ format. by_level (modes_of format) store.ranges) is.format_is ∙ ap (λ ms. by_level ms store.ranges) modes

    touches : (i : ℕ) → i < length rows → IsTouching (ranges_on k store) (row_at rows i)
    touches i h =
        let row = each_at (IsRow (length store.format)) rows no_entry i each_row h in
        record { one = refl; below = subst (λ ns. IsBelow ns (row_at rows i).coords) sizes_are (row_below i h); word = row.word }

    each_touches : Each (IsTouching (ranges_on k store)) rows
    each_touches =
        each_from (IsTouching (ranges_on k store)) rows
        (λ i row there. subst (IsTouching (ranges_on k store)) (get_or_from_slice_get rows i row no_entry there)
        (touches i (slice_get_within rows i row there)))

    pub takes_rows : TakesAll touched_sink k (ranges_on k store) []
        (rows_to a s formats (told_by a s store) (stored_in (operands_in s store)) (left_in_order s in_order.order) loops)
    takes_rows = takes_from k (ranges_on k store) [] rows each_touches
