-- Kernels are right whose code adds the rows of a statement's loops to a workspace of one key, brings the sums together in its list, and
-- fills the result from there.
use Rattle.std.specs.Prelude.{◌≡◌, ℕ, ◌+◌, ◌*◌, ◌≤◌, ◌<◌, Bool, false, if◌then◌else◌, List, [], ◌∷◌, ◌++◌, length, replicate, Some}
use Rattle.std.specs.Prelude.{slice_get, slice_index, refl}
use Rattle.std.proofs.Common.{◌∙◌, sym, ap, subst, arith, inl, inr}
use Rattle.std.proofs.lemmas.List.{length-map}
use Rattle.numbers.specs.Arithmetic.{Arithmetic, Laws}
use Rattle.kernel_code.specs.declared.syntax.Arr.{Arr}
use Rattle.kernel_code.specs.declared.syntax.Arr.TheVariants.{Range, Values, Sums, ListCoordinates, ListPositions}
use Rattle.kernel_code.specs.declared.syntax.Kernel.{Kernel}
use Rattle.kernel_code.specs.declared.syntax.KExpr.{Num, Len}
use Rattle.kernel_code.specs.declared.syntax.KStmt.{KStmt, Extend}
use Rattle.kernel_code.specs.declared.syntax.LoopKind.{LoopKind}
use Rattle.kernel_code.specs.declared.syntax.LoopKind.TheVariants.{Drain}
use Rattle.kernel_code.specs.Does.{Does, Never}
use Rattle.kernel_code.specs.Kernels.{KernelOutcome, Finished, GotStuck, TooLong, NotFinished, place_of, setting_of, start_state}
use Rattle.kernel_code.specs.Keeps.{Leaves, NoVariable, EveryArray, no_turns}
use Rattle.kernel_code.specs.Meaning.{Setting, State, same_kind, set_array}
use Rattle.kernel_code.proofs.Does.{does_append, does_weaker}
use Rattle.level_core.specs.declared.letter.Letter.{Letter}
use Rattle.level_core.specs.Entries.{one}
use Rattle.level_core.specs.Fragments.{IsOf, RefusedWithin, turns_of}
use Rattle.level_core.specs.Meaning.{Arrays}
use Rattle.level_cursors.specs.Children.{ChildLeft}
use Rattle.format_spec.specs.declared.format.FormatLevel.{FormatLevel}
use Rattle.format_spec.specs.Formats.{letters_of}
use Rattle.index_notation.specs.declared.syntax.Statement.{Statement}
use Rattle.iteration_graph.specs.Edges.{format_of}
use Rattle.expr_terms.specs.ValueLaws.{HasWords}
use Rattle.tensor_map.specs.Entries.{Entry}
use Rattle.tensor_storage.specs.Storages.{in_level_order}
use Rattle.concrete_notation.specs.declared.concrete.Concrete.{Concrete}
use Rattle.concrete_notation.specs.Contributions.{sums_of}
use Rattle.concrete_notation.specs.Nests.{left_in_order}
use Rattle.concrete_notation.specs.Workspaces.{AreAllDense}
use Rattle.loop_code.specs.declared.loops.LoopCode.{LoopCode}
use Rattle.loop_code.specs.Loops.{start}
use Rattle.lowering.specs.Lowered.{AddsRows, IsInOrder}
use Rattle.lowering.specs.Right.{rows_to}
use Rattle.lowering.specs.Shapes as shapes
use Rattle.term_code.specs.declared.places.Places.{Places}
use Rattle.term_code.specs.declared.workspace_sink.WorkspaceSink.{WorkspaceSink}
use Rattle.term_code.specs.Places.{StartsAt}
use Rattle.term_code.specs.WorkspaceSinks.{HoldsRows, values}
use Rattle.term_code.proofs.PlaceLaws.{keeps_kept}
use Rattle.kernel_correctness.specs.CodeEnds.{ToldOf}
use Rattle.kernel_correctness.specs.Kernels.{Ends as EndsSo, IsRightOutcome}
use Rattle.kernel_correctness.specs.Stores.{Store, IsGiven, IsStoreOf, StartsBelow, told_by}
use Rattle.kernel_correctness.proofs.CodeEnds.{ends_as_code_does}
use Rattle.kernel_correctness.proofs.Starts.{starts_on_store}
use Rattle.kernel_emit.proofs.Kept.{ranges_kept, ready_kept}
use Rattle.operand_arrays.specs.Operands.{stored_in, IsOfOperands}
use Rattle.dense_results.specs.Kernels.{AreAtBase}
use Rattle.dense_results.specs.Operands.{IsReadStore, operands_in}
use Rattle.result_assembly.specs.Stored.{DrainsResult, LeavesStored}
use Rattle.result_assembly.proofs.Holding.{starts_kept}
use Rattle.level_rows.specs.Placing.{times}
use Rattle.result_targets.specs.Beside.{beside_lists}
use Rattle.result_targets.specs.Scratch.{HasLists, IsOffLists}
use Rattle.result_targets.specs.Sinks.{Sink}
use Rattle.result_targets.proofs.Scratch.{list_apart, lists_kept, lists_start, off_lists}
use Rattle.sparse_results.specs.Results.{AreRowsOfResult}
use Rattle.sparse_results.specs.Tables.{table_of}
use Rattle.sparse_results.proofs.Growths.{workspaces_may_pass}
use Rattle.appended_kernels.specs.Kernels.{IsLevel}
use Rattle.appended_kernels.proofs.Direct.{of_level}
use Rattle.sparse_kernels.specs.Kernels as sparse
use Rattle.sparse_kernels.specs.Turns.{MakesTurns}
use Rattle.sparse_kernels.proofs.Ends.{IsDone, IsRightRefusal, done_told}
use Rattle.sparse_kernels.proofs.Filled.{IsFilled, not_scratch}
use Rattle.sparse_kernels.proofs.FromSums.{from_sums, left_long}
use Rattle.sparse_kernels.proofs.Starts.{at_top, levels_beside, list_starts_empty, starts_empty, values_start}
use Rattle.touched_workspaces.specs.Sinks.{HasRange, HoldsTouched, IsOther, touched_sink}
use Rattle.touched_workspaces.specs.Sizes.{greatest_marked_range}
use Rattle.touched_workspaces.specs.Starts.{BeginsTouched, HasNoRows}
use Rattle.touched_workspaces.specs.declared.sink.TouchedSink.{TouchedSink}
use Rattle.touched_kernels.specs.Kernels.{AddsFromTop, IsAtTop, IsForTouched, IsSinkOf, RefusesLevels, TouchedKernelsAreRight, ranges_on}
use Rattle.touched_kernels.specs.Sums.{LeavesListed, SumsTouched}
use Rattle.touched_kernels.proofs.Rows.{are_rows, read_store, takes_rows}

-- the result is as a kernel begins it, and a scratch list is empty
record IsBegun (nothing : ℕ) (letters : List Letter) (sizes : List ℕ) (g : ℕ) (most : LoopKind → ℕ) (t : State) : Type 0 where
  below : StartsBelow nothing letters sizes 1 1 t.arrays
  values : t.arrays (Values 0) ≡ Some []
  list : t.arrays (ListPositions g) ≡ Some []
  turns : (j : LoopKind) → t.turns j ≤ most j

-- so it stays where nothing but the workspace changes, and other scratch lists
still_begun : (nothing : ℕ) (letters : List Letter) (sizes : List ℕ) (k : TouchedSink) (g first past : ℕ)
    → IsOffLists first past (ListPositions g) → (made more all : LoopKind → ℕ) (mine : ℕ → Type 0) (top : ℕ) (t u : State)
    → IsBegun nothing letters sizes g made t → Leaves mine (λ b. IsOther k b × IsOffLists first past b) top more t u
    → ((j : LoopKind) → made j + more j ≤ all j) → IsBegun nothing letters sizes g all u
still_begun nothing letters sizes k g first past off made more all mine top t u b leaves within = record {
  below = starts_kept nothing letters sizes 1 1 t.arrays u.arrays
      (λ j x from of. leaves.arrays x (other j x of, λ i. off_lists first past x (not_scratch 0 j x of) i))
      (leaves.arrays (Values 0) values_off) b.below;
  values = leaves.arrays (Values 0) values_off ∙ b.values;
  list = leaves.arrays (ListPositions g) ((λ is. elim is [ inl never ↦ never | inr never ↦ never ]), off) ∙ b.list;
  turns = λ j. (let before = b.turns j in let made_then = leaves.turns j in let few = within j in omega (arith, before, made_then, few));
}
  where
    other : (j : ℕ) (x : Arr) → IsOf 0 j x → IsOther k x
    other j x of is = elim is [ inl h ↦ levels_beside k.dense 0 j x of h | inr h ↦ levels_beside k.list 0 j x of h ]

    values_off : IsOther k (Values 0) × IsOffLists first past (Values 0)
    values_off = ((λ is. elim is [ inl never ↦ never | inr never ↦ never ]), λ i. off_lists first past (Values 0) refl i)

no_rows : (w : ℕ) (t : State) → HoldsRows w 1 [] t.arrays → HasNoRows w t
no_rows w t h = record { key = h.key 0 (omega arith); sums = h.sums }

module _ (a : Arithmetic) (laws : Laws a) (s : Statement) (formats : List (List FormatLevel)) (f : IsForTouched s formats)
    (c : Concrete) (in_order : IsInOrder s formats c) (loops : LoopCode) (row_code : AddsRows s formats c loops)
    (words : shapes.EachTerm (λ t. HasWords t.expr) loops) (store : Store) (is : IsStoreOf s formats store) (k : TouchedSink)
    (base : ℕ) (places : Places) (at_base : AreAtBase s base places) (top begin code summed drain : List KStmt) (tops : StartsAt base top)
    (begins : BeginsTouched k begin) (first past : ℕ)
    (adds : AddsFromTop a k s formats places (left_in_order s in_order.order) loops first past code) (at : ℕ)
    (sums_up : SumsTouched k at summed) (g low : ℕ) (apart : g < first)
    (drains : DrainsResult (format_of formats 0) k.list g low a.zero drain) (kernel : Kernel)
    (sink_is : IsSinkOf a s formats kernel.workspaces k) (list : g < kernel.lists) (few : past ≤ kernel.lists) (arrays : Arrays)
    (given : IsGiven a.zero store arrays) where
  abbrev keys : List ℕ
  keys = left_in_order s in_order.order

  abbrev rows : List Entry
  rows = rows_to a s formats (told_by a s store) (stored_in (operands_in s store)) (left_in_order s in_order.order) loops

  abbrev sums : List Entry
  sums = sums_of a (rows_to a s formats (told_by a s store) (stored_in (operands_in s store)) (left_in_order s in_order.order) loops)

  read : IsReadStore s formats store
  read = read_store a laws s formats f.sparse c in_order loops row_code words store is

  are : AreRowsOfResult a s store sums
  are = are_rows a laws s formats f.sparse c in_order loops row_code words store is

  some_sparse : AreAllDense store.format → ⊥
  some_sparse dense = f.sparse.some (subst AreAllDense is.format_is dense)

  left_many : length s.left.vars ≡ length store.format
  left_many = left_long s formats f.sparse store is

  alone : letters_of store.format ≡ f.letter ∷ []
  alone = ap letters_of is.format_is ∙ f.alone

  one_key : 1 ≡ length s.left.vars
  one_key =
      let levels = ap length alone in
      let letters = length-map store.format (λ (level : FormatLevel). level.letter) in
      omega (arith, levels, letters, left_many)

  abbrev setting : Setting
  setting = setting_of false a kernel

  abbrev origin : State
  origin = start_state kernel arrays

  abbrev most : LoopKind → ℕ
  most = adds.most store

  abbrev size : ℕ
  size = slice_index store.ranges k.variable

  -- the sums are joined within so many turns
  abbrev made : LoopKind → ℕ
  made j = most j + turns_of Drain (length sums) j

  abbrev IsEnd : State → Type 0
  IsEnd = IsDone a s store (letters_of store.format) most

  abbrev MayBe : (LoopKind → ℕ) → Arr → ℕ → Type 0
  MayBe turns b count =
      IsRightRefusal a s store (letters_of store.format) most turns b count
      × (size ≤ greatest_marked_range → IsLevel (place_of (length store.format) b))

  abbrev Begun : (LoopKind → ℕ) → State → Type 0
  Begun turns t = IsBegun a.zero (letters_of store.format) (in_level_order store.format store.ranges) g turns t

  abbrev sink : Sink TouchedSink
  sink = beside_lists touched_sink first past

  abbrev HasTop : State → Type 0
  HasTop t = Leaves NoVariable EveryArray base no_turns origin t × ChildLeft base (Some (one 0)) t

  list_off : IsOffLists first past (ListPositions g)
  list_off = λ i. list_apart g first past (ListPositions g) apart refl i

  -- ---- the levels and values are filled
  from_joined : (t : State) → Begun made t → HoldsRows k.list 1 sums t.arrays
      → Does setting (Extend (ListPositions g) (Len (Sums k.list)) (Num 0) ∷ drain) t IsEnd MayBe
  from_joined t b holds =
      does_weaker setting (Extend (ListPositions g) (Len (Sums k.list)) (Num 0) ∷ drain) t IsEnd IsEnd _ MayBe
      (from_sums a s formats store is sums are left_many k.list 1 g low one_key drain drains setting most made t filled within drained)
      (λ u done. done) (λ turns r count m. (m.0, λ small. of_level (length store.format) m.1.0 r m.1.1))
    where
      filled : IsFilled a.zero (letters_of store.format) (in_level_order store.format store.ranges) k.list 1 g sums made t
      filled = record { holds = holds; below = b.below; values = b.values; list = b.list; turns = b.turns }

      within : (j : LoopKind) → same_kind Drain j ≡ false → made j ≤ most j
      within j other =
          let none : turns_of Drain (length sums) j ≡ 0 = ap (λ (m : Bool). if m then length sums else 0) other in
          omega (arith, none)

      drained : (u : State)
          → LeavesStored a.zero store.format store.ranges (table_of sums) g low
          (set_array t (ListPositions g) (replicate (length (values sums)) 0)) u
          → u.turns Drain ≤ most Drain + 2 * length (letters_of store.format) * length sums
      drained u l =
          let before = b.turns Drain in
          let once = once_told u l in
          let one_level : 1 ≡ length (letters_of store.format) = sym (ap length alone) in
          subst (λ n. u.turns Drain ≤ most Drain + 2 * n * length sums) one_level (omega (arith, before, once))
        where
          once_told : (u : State)
              → LeavesStored a.zero store.format store.ranges (table_of sums) g low
              (set_array t (ListPositions g) (replicate (length (values sums)) 0)) u
              → u.turns Drain ≤ t.turns Drain + length sums
          once_told u l =
              let told = l.once f.letter alone f.counted Drain in
              let times_one : times 1 (length sums) ≡ length sums = omega arith in
              omega (arith, told, times_one)

  -- ---- the rows are summed in the list
  from_loops : (t : State) → Begun most t → HoldsTouched k a (ranges_on k store) rows t
      → Does setting (summed ++ Extend (ListPositions g) (Len (Sums k.list)) (Num 0) ∷ drain) t IsEnd MayBe
  from_loops t b holds =
      does_append setting summed (Extend (ListPositions g) (Len (Sums k.list)) (Num 0) ∷ drain) t (LeavesListed k at sums t) IsEnd MayBe
      (does_weaker setting summed t _ _ Never MayBe (sums_up setting laws sink_is.list size rows t holds) (λ u l. l)
      (λ turns r count no. absurd no))
      (λ u l. from_joined u
      (still_begun a.zero (letters_of store.format) (in_level_order store.format store.ranges) k g 0 0 none_off most
      (turns_of Drain (length sums)) made NoVariable at t u b
      (record { below = l.leaves.below; arrays = λ x kept. l.leaves.arrays x kept.0; turns = l.leaves.turns }) (λ j. omega arith))
      l.holds)
    where
      none_off : IsOffLists 0 0 (ListPositions g)
      none_off = λ i. let before = i.before in absurd (omega (arith, before))

  -- ---- the loops add their rows
  module _ (t : State) (h : HasTop t) where
    arrays_same : origin.arrays ≡ t.arrays
    arrays_same = λ i x. sym (h.0.arrays x tt) i

    given_here : IsGiven a.zero store t.arrays
    given_here = subst (IsGiven a.zero store) arrays_same (starts_on_store a.zero store kernel arrays given)

    none_in : (w : ℕ) → slice_get kernel.workspaces w ≡ Some 1 → HoldsRows w 1 [] t.arrays
    none_in w there = subst (HoldsRows w 1 []) arrays_same (starts_empty kernel arrays w 1 there)

    begun_here : Begun no_turns t
    begun_here = record {
      below = given_here.result;
      values = values_start store.format store.ranges a.zero 1 1 t.arrays some_sparse given_here.result;
      list = h.0.arrays (ListPositions g) tt ∙ list_starts_empty kernel arrays g list;
      turns = λ j. h.0.turns j;
    }

    abbrev pairs : WorkspaceSink
    pairs = record { number = k.list; keys = 1 }

    abbrev tops_here : sparse.IsAtTop a pairs s formats store places t
    tops_here = at_top a pairs s formats store read base places at_base t given_here h.1 (none_in k.list sink_is.list)

    abbrev beside_dense : sparse.IsAtTop a (record { number = k.dense; keys = 1 }) s formats store places t
    beside_dense =
        at_top a (record { number = k.dense; keys = 1 }) s formats store read base places at_base t given_here h.1
        (none_in k.dense sink_is.dense)

    range_here : HasRange k.variable size t
    range_here =
        let r = tops_here.stands.ranges in
        record { words = r.words; words_are = r.held; told = r.each k.variable sink_is.inside }

    abbrev HasBegun : State → Type 0
    HasBegun u = Leaves NoVariable (IsOther k) adds.low no_turns t u × HoldsTouched k a (ranges_on k store) [] u

    others : (x : Arr) → IsOfOperands x → IsOther k x
    others x of on = elim on [ inl m ↦ beside_dense.kept x of m | inr m ↦ tops_here.kept x of m ]

    module _ (u : State) (b : HasBegun u) where
      ready_at : IsAtTop a k s formats store places u
      ready_at = record {
        stands = record {
          ready = ready_kept s formats (operands_in s store) places.accesses t.arrays u.arrays tops_here.stands.operands
              (λ x of. b.0.arrays x (others x of)) tops_here.stands.ready;
          operands = tops_here.stands.operands;
          opened = tops_here.stands.opened;
          ranges = ranges_kept s (slice_index store.ranges) t.arrays u.arrays (b.0.arrays Range (others Range tt))
              tops_here.stands.ranges;
        };
        keeps = keeps_kept adds.low places [] start t u adds.places_below (λ y less. b.0.below y less (λ no. no)) tops_here.keeps;
        from = tops_here.from;
        kept = others;
        held = b.1;
      }

      has_lists : HasLists first past u
      has_lists = λ n from before.
          let there = lists_kept first past origin t (λ x. h.0.arrays x tt) (lists_start kernel arrays first past few) n from before in
          record {
            coordinates = there.coordinates;
            positions = there.positions;
            coordinates_are = b.0.arrays (ListCoordinates n) (λ on. elim on [ inl never ↦ never | inr never ↦ never ])
                ∙ there.coordinates_are;
            positions_are = b.0.arrays (ListPositions n) (λ on. elim on [ inl never ↦ never | inr never ↦ never ]) ∙ there.positions_are;
          }

      still : Begun no_turns u
      still =
          still_begun a.zero (letters_of store.format) (in_level_order store.format store.ranges) k g 0 0
          (λ i. let before = i.before in absurd (omega (arith, before))) no_turns no_turns no_turns NoVariable adds.low t u begun_here
          (record { below = b.0.below; arrays = λ x kept. b.0.arrays x kept.0; turns = b.0.turns }) (λ j. omega arith)

      passed : (turns : LoopKind → ℕ) (r : Arr) (count : ℕ)
          → RefusedWithin most u (touched_sink.refused k (ranges_on k store) ([] ++ rows)) turns r count → MayBe turns r count
      passed turns r count m =
          let large : greatest_marked_range < size = m.1.large in (
            workspaces_may_pass a laws s formats store read some_sparse c in_order loops row_code keys k.list r count m.1.passes,
            λ small. absurd (omega (arith, small, large)),
          )

      abbrev HasRows : State → Type 0
      HasRows v = Begun most v × HoldsTouched k a (ranges_on k store) rows v

      from_begun : Does setting code u HasRows MayBe
      from_begun =
          does_weaker setting code u _ HasRows _ MayBe
          (adds.adds setting refl store read
          (takes_rows a laws s formats f.sparse c in_order loops row_code words store is k sink_is.modes) u ready_at has_lists)
          (λ v p. (
            still_begun a.zero (letters_of store.format) (in_level_order store.format store.ranges) k g first past list_off no_turns most
                most (touched_sink.mine k) adds.free u v still p.0 (λ j. omega arith),
            p.1.0,
          ))
          passed

    from_top : Does setting (begin ++ code) t (λ v. Begun most v × HoldsTouched k a (ranges_on k store) rows v) MayBe
    from_top =
        does_append setting begin code t HasBegun _ MayBe
        (does_weaker setting begin t HasBegun HasBegun Never MayBe
        (begins setting sink_is.zero sink_is.apart size t range_here (no_rows k.dense t (none_in k.dense sink_is.dense))
        (no_rows k.list t (none_in k.list sink_is.list)) adds.low)
        (λ u b. b) (λ turns r count no. absurd no))
        from_begun

  whole : Does setting ((top ++ (begin ++ code)) ++ (summed ++ Extend (ListPositions g) (Len (Sums k.list)) (Num 0) ∷ drain)) origin IsEnd
      MayBe
  whole =
      does_append setting (top ++ (begin ++ code)) (summed ++ Extend (ListPositions g) (Len (Sums k.list)) (Num 0) ∷ drain) origin
      (λ v. Begun most v × HoldsTouched k a (ranges_on k store) rows v) IsEnd MayBe
      (does_append setting top (begin ++ code) origin HasTop _ MayBe
      (does_weaker setting top origin HasTop HasTop Never MayBe (tops setting origin) (λ t h. h) (λ turns r count no. absurd no)) from_top)
      (λ v p. from_loops v p.0 p.1)

  abbrev IsTold : KernelOutcome → Type 0
  IsTold o =
      IsRightOutcome a s (told_by a s store) store o × MakesTurns s (told_by a s store) (letters_of store.format) most o
      × RefusesLevels k store o

  told : (o : KernelOutcome) → ToldOf (length store.format) IsEnd MayBe o → IsTold o
  told (Finished left turns) h =
      let d = done_told a s store (letters_of store.format) most (Finished left turns) h in (d.0, d.1, λ small. tt)
  told (GotStuck statement) h = absurd h
  told (TooLong place count) h =
      let d = done_told a s store (letters_of store.format) most (TooLong place count) (h.0, (h.1.0, h.1.1.0, h.1.2)) in
      (d.0, d.1, λ small. subst IsLevel h.1.2 (h.1.1.1 small))
  told NotFinished h = absurd h

  pub ends : kernel.body ≡ (top ++ (begin ++ code)) ++ (summed ++ Extend (ListPositions g) (Len (Sums k.list)) (Num 0) ∷ drain)
      → EndsSo a (length store.format) kernel arrays IsTold
  ends body =
      let e = ends_as_code_does a (length store.format) kernel arrays IsEnd MayBe
      (subst (λ (b : List KStmt). Does setting b origin IsEnd MayBe) (sym body) whole) in
      record { turns = e.turns; outcome = e.outcome; is = e.is; appends = e.appends; so = told e.outcome e.so }

pub touched_kernels_are_right : TouchedKernelsAreRight
touched_kernels_are_right a laws s formats f c in_order loops row_code words k base places at_base top begin code summed drain tops begins
    first past adds at sums_up g low apart drains kernel sink_is list few body store is arrays given =
    ends a laws s formats f c in_order loops row_code words store is k base places at_base top begin code summed drain tops begins
    first past
    adds at sums_up g low apart drains kernel sink_is list few arrays given body
