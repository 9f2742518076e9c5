-- The rows that loops append to a result: they come in its order, and their sums are its table.
use Rattle.std.specs.Prelude.{◌≡◌, ℕ, ◌≤◌, ◌<◌, false, List, [], length, slice_index, refl}
use Rattle.std.proofs.Common.{◌∙◌, sym, ap, subst, arith, inl}
use Rattle.std.proofs.lemmas.List.{length-map}
use Rattle.lists.specs.Each.{Each}
use Rattle.numbers.specs.Arithmetic.{Arithmetic, Laws}
use Rattle.tensor_map.specs.Entries.{Entry}
use Rattle.tensor_map.proofs.Lemmas.{listed_at}
use Rattle.format_spec.specs.declared.format.FormatLevel.{FormatLevel}
use Rattle.format_spec.specs.Formats.{letters_of, modes_of, IsFormat}
use Rattle.index_notation.specs.declared.syntax.Statement.{Statement}
use Rattle.iteration_graph.specs.Edges.{by_level, format_of}
use Rattle.concrete_notation.specs.declared.concrete.Concrete.{Concrete}
use Rattle.concrete_notation.specs.Contributions.{sums_of}
use Rattle.concrete_notation.specs.Nests.{left_in_order}
use Rattle.concrete_notation.proofs.SumsOf.{sums_listed}
use Rattle.level_rows.specs.Tables.{Increase}
use Rattle.tensor_storage.specs.Arranged.{no_entry}
use Rattle.tensor_storage.specs.Storages.{in_level_order}
use Rattle.tns_io.specs.Positions.{IsBelow}
use Rattle.result_targets.specs.Sinks.{TakesAll}
use Rattle.loop_code.specs.declared.loops.LoopCode.{LoopCode}
use Rattle.lowering.specs.Lowered.{IsInOrder}
use Rattle.lowering.specs.Right.{rows_to}
use Rattle.row_orders.specs.Heads.{head, head_levels, left_levels, result_levels}
use Rattle.row_orders.specs.Orders.{HasResult, NeverFallAt, row_coords}
use Rattle.row_orders.specs.Takings.{calls_for_workspace}
use Rattle.row_orders.proofs.Orders.{lowered_rows_come_in_order}
use Rattle.kernel_correctness.specs.Stores.{Store, IsStoreOf, told_by}
use Rattle.operand_arrays.specs.Operands.{stored_in}
use Rattle.dense_results.specs.Operands.{IsReadStore, operands_in}
use Rattle.sparse_results.specs.Results.{AreRowsOfResult}
use Rattle.sparse_results.specs.Tables.{table_of, IsRow}
use Rattle.sparse_results.proofs.Keys.{level_keys}
use Rattle.sparse_results.proofs.Loops.{loops_add_rows, loops_sum_to_result}
use Rattle.appended_results.specs.Heads.{IsHead, row_at}
use Rattle.appended_results.specs.declared.sink.AppendedSink.{AppendedSink}
use Rattle.appended_results.specs.Sink.{appended_sink}
use Rattle.appended_results.specs.Tables.{NamesRows}
use Rattle.appended_kernels.specs.Ended.{AreRowsFor}
use Rattle.appended_kernels.specs.Kernels.{IsForAppended, AreAppendedLoops, IsSinkOf}
use Rattle.appended_kernels.proofs.Names.{each_at, listed_row, sum_long}
use Rattle.appended_kernels.proofs.Starts.{head_long}
use Rattle.appended_kernels.proofs.Takes.{takes_all}
use Rattle.appended_kernels.proofs.Values.{below_from}

module _ (a : Arithmetic) (laws : Laws a) (s : Statement) (formats : List (List FormatLevel)) (c : Concrete)
    (in_order : IsInOrder s formats c) (f : IsForAppended s formats) (loops : LoopCode)
    (l : AreAppendedLoops s formats c loops) (store : Store) (is : IsStoreOf s formats store) where
  pub read_store : IsReadStore s formats store
  read_store = record { numbered = f.ordered.numbered; named = f.ordered.named; flat = f.flat; read = f.read; is = is }

  abbrev keys : List ℕ
  keys = left_in_order s in_order.order

  abbrev rows : List Entry
  rows = rows_to a s formats (told_by a s store) (stored_in (operands_in s store)) (left_in_order s in_order.order) loops

  abbrev sums : List Entry
  sums = sums_of a rows

  pub are_rows : AreRowsOfResult a s store (sums_of a
      (rows_to a s formats (told_by a s store) (stored_in (operands_in s store)) (left_in_order s in_order.order) loops))
  are_rows = loops_sum_to_result a laws s formats f.ordered store read_store c in_order loops l.rows l.words

  levels_are : result_levels s formats ≡ format_of formats 0
  levels_are = ap (format_of formats) f.ordered.named.result

  keys_are : left_in_order s in_order.order ≡ by_level (format_of formats 0) s.left.vars
  keys_are = (level_keys s formats f.ordered in_order.order in_order.is_order).order

  keys_many : length (left_in_order s in_order.order) ≡ length store.format
  keys_many =
      ap length keys_are ∙ length-map (modes_of (format_of formats 0)) (slice_index s.left.vars)
      ∙ length-map (format_of formats 0) (λ (level : FormatLevel). level.mode) ∙ ap length (sym is.format_is)

  pub each_row : Each (IsRow (length store.format))
      (rows_to a s formats (told_by a s store) (stored_in (operands_in s store)) (left_in_order s in_order.order) loops)
  each_row =
      subst (λ n. Each (IsRow n) rows) keys_many
      (loops_add_rows a laws s formats store read_store loops l.words (left_in_order s in_order.order))

  pub rows_for : AreRowsFor a store
      (rows_to a s formats (told_by a s store) (stored_in (operands_in s store)) (left_in_order s in_order.order) loops)
  rows_for = record { format = is.format; each = each_row; order = are_rows.order; below = are_rows.below }

  letters_many : length (letters_of store.format) ≡ length store.format
  letters_many = length-map store.format (λ (level : FormatLevel). level.letter)

  -- each row is one of the sums
  row_there : (i : ℕ) → i < length rows → (j : ℕ) × (j < length sums) × ((row_at sums j).coords ≡ (row_at rows i).coords)
  row_there i h =
      listed_row sums (row_at rows i).coords ((sums_listed a rows (row_at rows i).coords).1 (listed_at rows i no_entry h))

  pub names_rows : NamesRows (length (letters_of store.format))
      (rows_to a s formats (told_by a s store) (stored_in (operands_in s store)) (left_in_order s in_order.order) loops)
      (table_of (sums_of a
      (rows_to a s formats (told_by a s store) (stored_in (operands_in s store)) (left_in_order s in_order.order) loops)))
  names_rows = record {
    rise = subst (λ n. Increase (table_of sums).coords n (length sums)) (sym letters_many) are_rows.order;
    each = λ i h. let r = row_there i h in (r.0, r.1, (λ d within. ap (λ xs. slice_index xs d) r.2));
  }

  row_below : (i : ℕ) → i < length rows → IsBelow (in_level_order store.format store.ranges) (row_at rows i).coords
  row_below i h =
      let r = row_there i h in
      let sizes_many = length-map store.format (λ (level : FormatLevel). slice_index store.ranges level.mode) in
      subst (IsBelow (in_level_order store.format store.ranges)) r.2
      (below_from (in_level_order store.format store.ranges) (row_at sums r.0).coords
      (sum_long a (length store.format) rows each_row r.0 r.1 ∙ sym sizes_many) (λ d within. are_rows.below d r.0 within r.1))

  -- ---- in the order of the levels
  module _ (direct : calls_for_workspace s formats in_order.order ≡ false) (k : AppendedSink) (fits : IsSinkOf a formats k) where
    head_is : IsHead (letters_of store.format) k.head
    head_is = subst (λ (levels : List FormatLevel). IsHead (letters_of levels) k.head) (sym is.format_is) fits.head

    has_result : HasResult s formats
    has_result = record {
      numbered = f.ordered.numbered;
      left = f.ordered.left;
      format = subst IsFormat (sym levels_are) f.ordered.format;
    }

    front_many : length (head s formats) ≡ k.head
    front_many =
        length-map (modes_of (head_levels (result_levels s formats))) (slice_index s.left.vars)
        ∙ length-map (head_levels (result_levels s formats)) (λ (level : FormatLevel). level.mode)
        ∙ ap (λ levels. length (head_levels levels)) levels_are ∙ head_long (format_of formats 0) k.head fits.head

    same_keys : left_levels s formats ≡ left_in_order s in_order.order
    same_keys = ap (λ levels. by_level levels s.left.vars) levels_are ∙ sym keys_are

    in_turn : NeverFallAt (row_coords rows) k.head (length rows)
    in_turn =
        subst (λ n. NeverFallAt (row_coords rows) n (length rows)) front_many
        (subst (λ vs. NeverFallAt
        (row_coords (rows_to a s formats (told_by a s store) (stored_in (operands_in s store)) vs loops)) (length (head s formats))
        (length (rows_to a s formats (told_by a s store) (stored_in (operands_in s store)) vs loops))) same_keys
        (lowered_rows_come_in_order s formats has_result c in_order l.shares (inl l.none) direct loops l.shape a (told_by a s store)
        (stored_in (operands_in s store))).places)

    row_long : (i : ℕ) → i < length rows → k.head ≤ length (row_at rows i).coords
    row_long i h =
        let row = each_at (IsRow (length store.format)) rows no_entry i each_row h in
        let many = row.many in
        let within = head_is.within in
        let all = letters_many in
        omega (arith, many, within, all)

    pub rows_taken : TakesAll appended_sink k store.ranges []
        (rows_to a s formats (told_by a s store) (stored_in (operands_in s store)) (left_in_order s in_order.order) loops)
    rows_taken =
        takes_all (in_level_order store.format store.ranges) k.head rows row_below
        (λ i h. (each_at (IsRow (length store.format)) rows no_entry i each_row h).word) row_long in_turn k store.ranges
        (ap (λ levels. in_level_order levels store.ranges) (fits.levels ∙ sym is.format_is)) refl [] rows refl
