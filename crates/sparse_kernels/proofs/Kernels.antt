-- Kernels are right whose code pushes the rows of a statement's loops into a workspace and fills the result from their sums.
use Rattle.std.specs.Prelude.{◌≡◌, ℕ, ◌+◌, ◌*◌, ◌≤◌, ◌<◌, false, List, [], ◌∷◌, ◌++◌, length, replicate, Some}
use Rattle.std.specs.Prelude.{slice_get, slice_index, refl}
use Rattle.std.proofs.Common.{◌∙◌, sym, ap, subst, arith}
use Rattle.std.proofs.lemmas.List.{length-map}
use Rattle.std.proofs.lemmas.List.Elements.{All-nil}
use Rattle.lists.specs.Each.{Each}
use Rattle.numbers.specs.Arithmetic.{Arithmetic, Laws}
use Rattle.kernel_code.specs.declared.syntax.Arr.{Arr}
use Rattle.kernel_code.specs.declared.syntax.Arr.TheVariants.{Sums, ListPositions}
use Rattle.kernel_code.specs.declared.syntax.Kernel.{Kernel}
use Rattle.kernel_code.specs.declared.syntax.KExpr.{Num, Len}
use Rattle.kernel_code.specs.declared.syntax.KStmt.{KStmt, Extend, SortSum}
use Rattle.kernel_code.specs.declared.syntax.LoopKind.{LoopKind}
use Rattle.kernel_code.specs.declared.syntax.LoopKind.TheVariants.{Drain}
use Rattle.kernel_code.specs.Does.{Does, Never}
use Rattle.kernel_code.specs.Kernels.{setting_of, start_state}
use Rattle.kernel_code.specs.Keeps.{Leaves, NoVariable, EveryArray, no_turns}
use Rattle.kernel_code.specs.Meaning.{Setting, State, set_array}
use Rattle.kernel_code.proofs.Does.{does_append, does_then, does_weaker}
use Rattle.level_core.specs.declared.letter.Letter.TheVariants.{Dense}
use Rattle.level_core.specs.Entries.{one}
use Rattle.level_core.specs.Fragments.{RefusedWithin}
use Rattle.level_core.specs.Meaning.{Arrays}
use Rattle.level_cursors.specs.Children.{ChildLeft}
use Rattle.level_rows.specs.Placing.{times}
use Rattle.format_spec.specs.declared.format.FormatLevel.{FormatLevel}
use Rattle.format_spec.specs.Formats.{letters_of, modes_of}
use Rattle.index_notation.specs.declared.syntax.Statement.{Statement}
use Rattle.iteration_graph.specs.Edges.{format_of}
use Rattle.expr_terms.specs.ValueLaws.{HasWords}
use Rattle.concrete_notation.specs.declared.concrete.Concrete.{Concrete}
use Rattle.concrete_notation.specs.Contributions.{sums_of}
use Rattle.concrete_notation.specs.Nests.{left_in_order}
use Rattle.concrete_notation.specs.Workspaces.{AreAllDense}
use Rattle.tensor_map.specs.Entries.{Entry}
use Rattle.loop_code.specs.declared.loops.LoopCode.{LoopCode}
use Rattle.lowering.specs.Lowered.{AddsRows, IsInOrder}
use Rattle.lowering.specs.Right.{rows_to}
use Rattle.lowering.specs.Shapes as shapes
use Rattle.tensor_storage.specs.Storages.{in_level_order}
use Rattle.term_code.specs.declared.places.Places.{Places}
use Rattle.term_code.specs.declared.workspace_sink.WorkspaceSink.{WorkspaceSink}
use Rattle.term_code.specs.Places.{StartsAt}
use Rattle.term_code.specs.WorkspaceSinks.{HoldsRows, PassesPairs, values, workspace_sink}
use Rattle.kernel_correctness.specs.Kernels.{IsRightOutcome, Ends as EndsSo}
use Rattle.kernel_correctness.specs.Stores.{Store, IsStoreOf, IsGiven, told_by}
use Rattle.kernel_correctness.proofs.CodeEnds.{ends_as_code_does}
use Rattle.kernel_correctness.proofs.Starts.{starts_on_store}
use Rattle.operand_arrays.specs.Operands.{stored_in}
use Rattle.dense_results.specs.Kernels.{AreAtBase}
use Rattle.dense_results.specs.Operands.{IsReadStore, operands_in}
use Rattle.dense_results.specs.Results.{left_ranges}
use Rattle.result_assembly.specs.Drained.{most_passes}
use Rattle.result_assembly.specs.Stored.{DrainsResult, LeavesStored}
use Rattle.sparse_results.specs.Keys.{HasOrderedResult}
use Rattle.sparse_results.specs.Results.{AreRowsOfResult}
use Rattle.sparse_results.specs.Sorting.{LeavesSums}
use Rattle.sparse_results.specs.Tables.{IsRow, table_of}
use Rattle.sparse_results.proofs.Growths.{workspaces_may_pass}
use Rattle.sparse_results.proofs.Keys.{level_keys}
use Rattle.sparse_results.proofs.Loops.{loops_add_rows, loops_sum_to_result}
use Rattle.sparse_results.proofs.Sorting.{sorting_sums}
use Rattle.result_targets.specs.Beside.{beside_lists}
use Rattle.result_targets.specs.Sinks.{Sink}
use Rattle.result_targets.proofs.Scratch.{list_apart, lists_kept, lists_start}
use Rattle.sparse_kernels.specs.Kernels.{IsForSparse, PushesFromTop, SparseKernelsAreRight, sorting_code}
use Rattle.sparse_kernels.specs.Turns.{MakesTurns}
use Rattle.sparse_kernels.proofs.Ends.{IsDone, IsRightRefusal, done_told}
use Rattle.sparse_kernels.proofs.FromSums.{from_sums, left_long}
use Rattle.sparse_kernels.proofs.Filled.{IsFilled, still_filled, still_pushed}
use Rattle.sparse_kernels.proofs.Starts.{at_top, starts_empty, list_starts_empty, values_start}
use Rattle.sparse_kernels.proofs.Turns.{passes_are, times_is}

rows_long : (many : ℕ) (rows : List Entry) → Each (IsRow many) rows → Each (λ (row : Entry). length row.coords ≡ many) rows
rows_long many [] each = tt
rows_long many (row ∷ rows) each = (each.0.many, rows_long many rows each.1)

module _ (a : Arithmetic) (laws : Laws a) (s : Statement) (formats : List (List FormatLevel)) (f : IsForSparse s formats)
    (c : Concrete) (in_order : IsInOrder s formats c) (loops : LoopCode) (adds : AddsRows s formats c loops)
    (words : shapes.EachTerm (λ t. HasWords t.expr) loops) (store : Store) (is : IsStoreOf s formats store) where
  read_store : IsReadStore s formats store
  read_store = record { numbered = f.numbered; named = f.named; flat = f.flat; read = f.read; is = is }

  ordered : HasOrderedResult s formats
  ordered = record { numbered = f.numbered; named = f.named; left = f.left; format = f.format; some = f.some }

  some_sparse : AreAllDense store.format → ⊥
  some_sparse dense = f.some (subst AreAllDense is.format_is dense)

  abbrev keys : List ℕ
  keys = left_in_order s in_order.order

  abbrev rows : List Entry
  rows = rows_to a s formats (told_by a s store) (stored_in (operands_in s store)) (left_in_order s in_order.order) loops

  abbrev sums : List Entry
  sums = sums_of a (rows_to a s formats (told_by a s store) (stored_in (operands_in s store)) (left_in_order s in_order.order) loops)

  are_rows : AreRowsOfResult a s store sums
  are_rows = loops_sum_to_result a laws s formats ordered store read_store c in_order loops adds words

  left_many : length s.left.vars ≡ length store.format
  left_many = left_long s formats f store is

  -- a format without levels would be dense throughout
  some_level : 0 < length store.format
  some_level = by store.format some_sparse
    where
      by : (format : List FormatLevel) → (AreAllDense format → ⊥) → 0 < length format
      by [] none = absurd (none (All-nil (λ (level : FormatLevel). level.letter ≡ Dense)))
      by (level ∷ format) some = omega arith

  letters_many : length (letters_of store.format) ≡ length store.format
  letters_many = length-map store.format (λ (level : FormatLevel). level.letter)

  keys_many : length keys ≡ length s.left.vars
  keys_many =
      ap length (level_keys s formats ordered in_order.order in_order.is_order).order
      ∙ length-map (modes_of (format_of formats 0)) (slice_index s.left.vars)
      ∙ length-map (format_of formats 0) (λ (level : FormatLevel). level.mode)
      ∙ ap length (sym is.format_is) ∙ sym left_many

  each_long : Each (λ (row : Entry). length row.coords ≡ length keys) rows
  each_long = rows_long (length keys) rows (loops_add_rows a laws s formats store read_store loops words keys)

  module _ (k : WorkspaceSink) (k_keys : k.keys ≡ length s.left.vars) (base : ℕ) (places : Places) (at : AreAtBase s base places)
      (top code drain : List KStmt) (tops : StartsAt base top) (first past : ℕ)
      (pushes : PushesFromTop a k s formats places keys loops first past code) (g low : ℕ) (apart : g < first)
      (drains : DrainsResult (format_of formats 0) k.number g low a.zero drain) (kernel : Kernel)
      (space : slice_get kernel.workspaces k.number ≡ Some k.keys) (list : g < kernel.lists) (few : past ≤ kernel.lists) (arrays : Arrays)
      (given : IsGiven a.zero store arrays) where
    abbrev setting : Setting
    setting = setting_of false a kernel

    abbrev begin : State
    begin = start_state kernel arrays

    abbrev most : LoopKind → ℕ
    most = pushes.most store

    abbrev IsEnd : State → Type 0
    IsEnd = IsDone a s store (letters_of store.format) most

    abbrev MayBe : (LoopKind → ℕ) → Arr → ℕ → Type 0
    MayBe = IsRightRefusal a s store (letters_of store.format) most

    abbrev Holds : List Entry → (LoopKind → ℕ) → State → Type 0
    Holds some made t =
        IsFilled a.zero (letters_of store.format) (in_level_order store.format store.ranges) k.number k.keys g some made t

    abbrev sink : Sink WorkspaceSink
    sink = beside_lists workspace_sink first past

    abbrev HasTop : State → Type 0
    HasTop t = Leaves NoVariable EveryArray base no_turns begin t × ChildLeft base (Some (one 0)) t

    -- ---- the levels and values are filled
    from_sums_here : (t : State) → Holds sums most t
        → Does setting (Extend (ListPositions g) (Len (Sums k.number)) (Num 0) ∷ drain) t IsEnd MayBe
    from_sums_here t filled =
        does_weaker setting (Extend (ListPositions g) (Len (Sums k.number)) (Num 0) ∷ drain) t IsEnd IsEnd _ MayBe
        (from_sums a s formats store is sums are_rows left_many k.number k.keys g low k_keys drain drains setting most most t filled
        (λ j other. omega arith) drained)
        (λ u done. done) (λ turns b count r. r.0)
      where
        drained : (u : State)
            → LeavesStored a.zero store.format store.ranges (table_of sums) g low
            (set_array t (ListPositions g) (replicate (length (values sums)) 0)) u
            → u.turns Drain ≤ most Drain + 2 * length (letters_of store.format) * length sums
        drained u l =
            let before = filled.turns Drain in
            let more = twice u l in
            let same = times_is (most_passes (length store.format)) (length sums) in
            let each : most_passes (length store.format) * length sums ≡ 2 * length (letters_of store.format) * length sums =
            ap (λ n. n * length sums) (passes_are (length store.format) some_level ∙ ap (λ n. 2 * n) (sym letters_many)) in
            omega (arith, before, more, same, each)
          where
            twice : (u : State)
                → LeavesStored a.zero store.format store.ranges (table_of sums) g low
                (set_array t (ListPositions g) (replicate (length (values sums)) 0)) u
                → u.turns Drain ≤ t.turns Drain + times (most_passes (length store.format)) (length sums)
            twice u l = let made = l.leaves.turns Drain in omega (arith, made)

    -- ---- the rows are sorted and summed
    from_loops : (t : State) → Holds rows most t → Does setting (sorting_code k.number g ++ drain) t IsEnd MayBe
    from_loops t filled =
        does_then setting (SortSum k.number) (Extend (ListPositions g) (Len (Sums k.number)) (Num 0) ∷ drain) t (Holds sums most) IsEnd
        MayBe
        (does_weaker setting (SortSum k.number ∷ []) t (LeavesSums k.number k.keys sums t) (Holds sums most) Never MayBe
        (sorting_sums setting k.number k.keys space rows
        (subst (λ n. Each (λ (row : Entry). length row.coords ≡ n) rows) (keys_many ∙ sym k_keys) each_long) t filled.holds)
        sorted (λ turns b count no. absurd no)) from_sums_here
      where
        sorted : (u : State) → LeavesSums k.number k.keys sums t u → Holds sums most u
        sorted u l =
            still_filled a.zero (letters_of store.format) (in_level_order store.format store.ranges) k.number k.keys g rows sums most
            no_turns most NoVariable 0 t u filled (l.leaves 0) (λ j. omega arith) l.holds

    -- ---- the loops push their rows
    from_top : (t : State) → HasTop t → Does setting code t (Holds rows most) MayBe
    from_top t h =
        does_weaker setting code t (λ u. Leaves (workspace_sink.mine k) (sink.kept k) pushes.free most t u
        × sink.holds k a (left_ranges s store) ([] ++ rows) u) (Holds rows most)
        (RefusedWithin most t (workspace_sink.refused k (left_ranges s store) ([] ++ rows))) MayBe
        (pushes.pushes setting refl store read_store t
        (at_top a k s formats store read_store base places at t given_here h.1 empty.holds)
        (lists_kept first past begin t (λ b. h.0.arrays b tt) (lists_start kernel arrays first past few)))
        pushed (λ turns b count r. passed turns b count r.1)
      where
        arrays_same : begin.arrays ≡ t.arrays
        arrays_same = λ i b. sym (h.0.arrays b tt) i

        given_start : IsGiven a.zero store begin.arrays
        given_start = starts_on_store a.zero store kernel arrays given

        given_here : IsGiven a.zero store t.arrays
        given_here = subst (IsGiven a.zero store) arrays_same given_start

        empty : Holds [] no_turns t
        empty = record {
          holds = subst (HoldsRows k.number k.keys []) arrays_same (starts_empty kernel arrays k.number k.keys space);
          below = given_here.result;
          values = values_start store.format store.ranges a.zero 1 1 t.arrays some_sparse given_here.result;
          list = h.0.arrays (ListPositions g) tt ∙ list_starts_empty kernel arrays g list;
          turns = λ j. h.0.turns j;
        }

        pushed : (u : State) → Leaves (workspace_sink.mine k) (sink.kept k) pushes.free most t u
            × sink.holds k a (left_ranges s store) ([] ++ rows) u → Holds rows most u
        pushed u p =
            still_pushed a.zero (letters_of store.format) (in_level_order store.format store.ranges) k.number k.keys g first past
            (λ i. list_apart g first past (ListPositions g) apart refl i) [] rows no_turns most most (workspace_sink.mine k)
            pushes.free t u empty p.0 (λ j. omega arith) p.1.0

        passed : (turns : LoopKind → ℕ) (b : Arr) (count : ℕ) → PassesPairs k.number rows b count → MayBe turns b count
        passed turns b count p =
            workspaces_may_pass a laws s formats store read_store some_sparse c in_order loops adds keys k.number b count p

    whole : Does setting ((top ++ code) ++ (sorting_code k.number g ++ drain)) begin IsEnd MayBe
    whole =
        does_append setting (top ++ code) (sorting_code k.number g ++ drain) begin (Holds rows most) IsEnd MayBe
        (does_append setting top code begin HasTop (Holds rows most) MayBe
        (does_weaker setting top begin HasTop HasTop Never MayBe (tops setting begin) (λ t h. h) (λ turns b count no. absurd no)) from_top)
        from_loops

    pub ends : kernel.body ≡ (top ++ code) ++ (sorting_code k.number g ++ drain)
        → EndsSo a (length store.format) kernel arrays (λ outcome. IsRightOutcome a s (told_by a s store) store outcome
        × MakesTurns s (told_by a s store) (letters_of store.format) most outcome)
    ends body =
        let e = ends_as_code_does a (length store.format) kernel arrays IsEnd MayBe
        (subst (λ (b : List KStmt). Does setting b begin IsEnd MayBe) (sym body) whole) in
        record {
          turns = e.turns;
          outcome = e.outcome;
          is = e.is;
          appends = e.appends;
          so = done_told a s store (letters_of store.format) most e.outcome e.so;
        }

pub sparse_kernels_are_right : SparseKernelsAreRight
sparse_kernels_are_right a laws s formats f c in_order loops adds words k k_keys base places at top code drain tops first past pushes g low
    apart drains kernel space list few body store is arrays given =
    ends a laws s formats f c in_order loops adds words store is k k_keys base places at top code drain tops first past pushes g low apart
    drains kernel space list few arrays given body
