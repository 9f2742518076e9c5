-- A kernel whose code adds the rows of a statement's loops to a dense result is compiled: it is right and sound, its loops turn no more
-- often than the statement costs, and it has no rows to go over again.
use Rattle.std.specs.Prelude.{◌≡◌, ℕ, ◌≤◌, List, [], ◌++◌, length, All, Some, slice_index, true, false, refl}
use Rattle.std.proofs.Common.{◌∙◌, sym, ap, subst, arith}
use Rattle.numbers.specs.Arithmetic.{Arithmetic, Laws}
use Rattle.kernel_code.specs.declared.syntax.Arr.TheVariants.{Range, Values, Dimension, Ends as EndsOf, Coordinates, Width, Key, Sums}
use Rattle.kernel_code.specs.declared.syntax.Arr.TheVariants.{ListCoordinates, ListPositions}
use Rattle.kernel_code.specs.declared.syntax.Kernel.{Kernel}
use Rattle.kernel_code.specs.declared.syntax.KStmt.{KStmt}
use Rattle.kernel_code.specs.declared.syntax.LoopKind.{LoopKind}
use Rattle.kernel_code.specs.declared.syntax.LoopKind.TheVariants.{Merge, Skip, Gather, Drain, Probe}
use Rattle.kernel_code.specs.Does.{Does, Never}
use Rattle.kernel_code.specs.Keeps.{Leaves, NoVariable, EveryArray, no_turns}
use Rattle.kernel_code.specs.Kernels.{KernelOutcome, Finished, GotStuck, TooLong, NotFinished, setting_of, start_state}
use Rattle.kernel_code.specs.Meaning.{Setting, State}
use Rattle.kernel_code.proofs.Does.{does_append, does_weaker}
use Rattle.level_core.specs.Entries.{one}
use Rattle.level_core.specs.Fragments.{RefusedWithin}
use Rattle.level_core.specs.Meaning.{Arrays}
use Rattle.level_cursors.specs.Children.{ChildLeft}
use Rattle.format_spec.specs.declared.format.FormatLevel.{FormatLevel}
use Rattle.format_spec.specs.Formats.{modes_of}
use Rattle.index_notation.specs.declared.syntax.Statement.{Statement}
use Rattle.iteration_graph.specs.Edges.{format_of}
use Rattle.concrete_notation.specs.declared.concrete.Concrete.{Concrete}
use Rattle.concrete_notation.specs.Workspaces.{AreAllDense}
use Rattle.loop_code.specs.declared.loops.LoopCode.{LoopCode}
use Rattle.loop_code.specs.Loops.{start}
use Rattle.lowering.specs.Lowered.{IsInOrder}
use Rattle.lowering.specs.Right.{rows_to}
use Rattle.term_code.specs.declared.dense_sink.DenseSink.{DenseSink}
use Rattle.term_code.specs.declared.places.Places.{Places}
use Rattle.term_code.specs.DenseSinks.{dense_sink, IsWithin}
use Rattle.term_code.specs.Places.{StartsAt}
use Rattle.operand_arrays.specs.Operands.{stored_in}
use Rattle.operand_arrays.specs.Terms.{TargetIsBound}
use Rattle.kernel_correctness.specs.CodeEnds.{ToldOf}
use Rattle.kernel_correctness.specs.Kernels.{Ends, IsRightKernel}
use Rattle.kernel_correctness.specs.Stores.{Store, IsStoreOf, IsGiven, told_by}
use Rattle.kernel_correctness.proofs.CodeEnds.{ends_as_code_does}
use Rattle.kernel_correctness.proofs.Sound.{right_is_sound}
use Rattle.kernel_correctness.proofs.Starts.{starts_on_store}
use Rattle.dense_results.specs.Kernels.{AddsFromTop, AreAtBase, IsForDense}
use Rattle.dense_results.specs.Operands.{IsReadStore, operands_in}
use Rattle.dense_results.specs.Results.{IsDenseStore, left_ranges}
use Rattle.dense_results.proofs.Kernels.{dense_kernels_are_right, starts_are_tops}
use Rattle.dense_results.proofs.Loops.{lowered_loops_go_through}
use Rattle.kernel_correctness.proofs.FlatStores.{flat_sums}
use Rattle.dense_results.proofs.Rows.{rows_are_taken}
use Rattle.result_targets.specs.Beside.{LeavesLists, beside_lists}
use Rattle.result_targets.specs.Sinks.{Sink, TakesAll}
use Rattle.result_targets.proofs.Taken.{takes_each}
use Rattle.result_targets.proofs.Scratch.{lists_kept, lists_start}
use Rattle.kernel_emit.specs.Emitted.{AddsLoops}
use Rattle.kernel_emit.specs.declared.emitting.Emitted.{Emitted}
use Rattle.kernel_emit.proofs.ListLaws.{operand_apart}
use Rattle.row_orders.specs.Takings.{calls_for_workspace}
use Rattle.row_orders.proofs.Lists.{clash}
use Rattle.sparse_kernels.proofs.Ends.{ends_weaker}
use Rattle.taco_compiler.specs.Compiled.{AreFewTurns, DrainsFew, IsCompiled, IsUnrefused, NeedsOneHead, ProbesFew}
use Rattle.taco_compiler.specs.Loops.{AreLoopsOf}
use Rattle.taco_compiler.proofs.Heads.{needs_no_head}
use Rattle.taco_compiler.proofs.LoopTurns.{in_order_of, within_cost, within_searches}

module _ (a : Arithmetic) (laws : Laws a) (s : Statement) (formats : List (List FormatLevel)) (f : IsForDense s formats) (order : List ℕ)
    (free_of : calls_for_workspace s formats order ≡ false) (loops : LoopCode) (l : AreLoopsOf s formats order loops) where
  abbrev c : Concrete
  c = l.concrete

  abbrev in_order : IsInOrder s formats c
  in_order = in_order_of s formats order loops l

  read_store : (store : Store) → IsStoreOf s formats store → IsReadStore s formats store
  read_store store is = record { numbered = f.numbered; named = f.named; flat = f.flat; read = f.read; is = is }

  module _ (k : DenseSink) (modes : k.modes ≡ modes_of (format_of formats 0)) (places : Places) (at : AreAtBase s 0 places)
      (top : List KStmt) (emitted : Emitted) (tops : StartsAt 0 top) (free : ℕ)
      (e : AddsLoops a dense_sink k s formats places s.left.vars loops free 0 emitted.lists emitted.code) (kernel : Kernel)
      (spaces : kernel.workspaces ≡ []) (few_lists : emitted.lists ≤ kernel.lists) (body : kernel.body ≡ top ++ emitted.code) where
    abbrev code : List KStmt
    code = emitted.code

    -- the result's values are no scratch list
    lists_left : LeavesLists dense_sink k
    lists_left Range h = absurd (cc h)
    lists_left (Values n) h = absurd (cc h)
    lists_left (Dimension n l) h = absurd (cc h)
    lists_left (EndsOf n l) h = absurd (cc h)
    lists_left (Coordinates n l) h = absurd (cc h)
    lists_left (Width n l) h = absurd (cc h)
    lists_left (Key n l) h = absurd (cc h)
    lists_left (Sums n) h = absurd (cc h)
    lists_left (ListCoordinates n) h = refl
    lists_left (ListPositions n) h = refl

    bound_there : TargetIsBound s.left.vars [] loops
    bound_there = (lowered_loops_go_through s f.numbered formats (flat_sums s formats f.flat) c in_order loops l.shape l.starts true).bound

    taken : (store : Store) (d : IsDenseStore s formats store) (r : IsReadStore s formats store)
        → TakesAll dense_sink k (left_ranges s store) []
        (rows_to a s formats (told_by a s store) (stored_in (operands_in s store)) s.left.vars loops)
    taken store d r =
        let rows = rows_to a s formats (told_by a s store) (stored_in (operands_in s store)) s.left.vars loops in
        takes_each dense_sink k (left_ranges s store) (IsWithin k.modes (left_ranges s store)) (λ before row h. h) [] rows
        (subst (λ ms. All (IsWithin ms (left_ranges s store)) rows) (ap modes_of d.is.format_is ∙ sym modes)
        (rows_are_taken a laws s formats store d r c in_order loops l.rows l.words))

    -- from the top the code adds the loops' rows
    abbrev from_top : AddsFromTop a k s formats places loops 0 emitted.lists code
    from_top = record {
      free = free;
      most = λ store. e.most (operands_in s store) (slice_index store.ranges) start;
      adds = λ setting same store d r st t has.
          e.adds setting same laws 0 (omega arith) lists_left [] (λ j. 0) (operands_in s store) (slice_index store.ranges) start
          (left_ranges s store) [] st l.placed bound_there (taken store d r) (record {
            least = 0;
            mine_from = λ y mine. omega arith;
            mine_below = t.none;
            from = t.from;
            kept = λ b of. (t.kept b of, operand_apart 0 emitted.lists b of);
            ready = t.stands.ready;
            opened = t.stands.opened;
            has_ranges = t.stands.ranges;
            keeps = t.keeps;
            held = (subst (λ b. dense_sink.holds k b (left_ranges s store) [] st) (sym same) t.held, has);
          });
    }

    right_kernel : IsRightKernel a s formats kernel
    right_kernel =
        dense_kernels_are_right a laws s formats f c in_order loops l.rows k modes 0 places at top code tops 0 emitted.lists from_top kernel
        few_lists body

    -- the turns of a run
    module _ (store : Store) (is : IsStoreOf s formats store) (arrays : Arrays) (given : IsGiven a.zero store arrays) where
      dense_store : IsDenseStore s formats store
      dense_store = record { named = f.named; left = f.left; dense = subst AreAllDense (sym is.format_is) f.dense; is = is }

      abbrev setting : Setting
      setting = setting_of false a kernel

      abbrev begin : State
      begin = start_state kernel arrays

      abbrev AreMost : (LoopKind → ℕ) → Type 0
      AreMost turns = (kind : LoopKind) → turns kind ≤ from_top.most store kind

      abbrev sink : Sink DenseSink
      sink = beside_lists dense_sink 0 emitted.lists

      abbrev HasTop : State → Type 0
      HasTop t = Leaves NoVariable EveryArray 0 no_turns begin t × ChildLeft 0 (Some (one 0)) t

      behind : (t : State) → HasTop t → Does setting code t (λ u. AreMost u.turns) Never
      behind t h =
          let r = read_store store is in
          let same : begin.arrays ≡ t.arrays = λ i b. sym (h.0.arrays b tt) i in
          let given_here = subst (IsGiven a.zero store) same (starts_on_store a.zero store kernel arrays given) in
          let there = starts_are_tops a k s formats store dense_store r (modes ∙ ap modes_of (sym is.format_is)) 0 places at t
          given_here h.1 in
          let has = lists_kept 0 emitted.lists begin t (λ b. h.0.arrays b tt) (lists_start kernel arrays 0 emitted.lists few_lists) in
          does_weaker setting code t (λ u. Leaves (dense_sink.mine k) (sink.kept k) free (from_top.most store) t u
          × sink.holds k a (left_ranges s store)
          ([] ++ rows_to a s formats (told_by a s store) (stored_in (operands_in s store)) s.left.vars loops) u) (λ u. AreMost u.turns)
          (RefusedWithin (from_top.most store) t (dense_sink.refused k (left_ranges s store)
          ([] ++ rows_to a s formats (told_by a s store) (stored_in (operands_in s store)) s.left.vars loops))) Never
          (from_top.adds setting refl store dense_store r t there has)
          (λ u p kind. let first = h.0.turns kind in let then = p.0.turns kind in omega (arith, first, then))
          (λ turns b count no. no.1)

      abbrev ToldTurns : KernelOutcome → Type 0
      ToldTurns (Finished left turns) = AreMost turns
      ToldTurns (GotStuck statement) = ⊥
      ToldTurns (TooLong place count) = Unit {0}
      ToldTurns NotFinished = ⊥

      told_turns : (o : KernelOutcome) → ToldOf (length store.format) (λ u. AreMost u.turns) Never o → ToldTurns o
      told_turns (Finished left turns) h = subst AreMost h.3 h.1
      told_turns (GotStuck statement) h = absurd h
      told_turns (TooLong place count) h = tt
      told_turns NotFinished h = absurd h

      ends_with_turns : Ends a (length store.format) kernel arrays ToldTurns
      ends_with_turns =
          ends_weaker a (length store.format) kernel arrays (ToldOf (length store.format) (λ u. AreMost u.turns) Never) ToldTurns told_turns
          (ends_as_code_does a (length store.format) kernel arrays (λ u. AreMost u.turns) Never
          (subst (λ (b : List KStmt). Does setting b begin (λ u. AreMost u.turns) Never) (sym body)
          (does_append setting top code begin HasTop (λ u. AreMost u.turns) Never (tops setting begin) behind)))

      few_turns : (o : KernelOutcome) → ToldTurns o → AreFewTurns s formats order store o
      few_turns (Finished left turns) h =
          within_cost a laws s formats order loops l store (read_store store is) (from_top.most store)
          (e.few (operands_in s store) (slice_index store.ranges) start) turns (h Merge) (h Skip) (h Gather)
      few_turns (GotStuck statement) h = absurd h
      few_turns (TooLong place count) h = tt
      few_turns NotFinished h = absurd h

      no_drains : (o : KernelOutcome) → ToldTurns o → DrainsFew s formats order (told_by a s store) store.format o
      no_drains (Finished left turns) h =
          let most = h Drain in
          let none = (e.few (operands_in s store) (slice_index store.ranges) start).drains in
          record {
            none = λ direct. omega (arith, most, none);
            within = λ called. absurd (clash (calls_for_workspace s formats order) called free_of);
            once = λ called sorted. absurd (clash (calls_for_workspace s formats order) called free_of);
          }
      no_drains (GotStuck statement) h = absurd h
      no_drains (TooLong place count) h = tt
      no_drains NotFinished h = absurd h

      few_probes : (o : KernelOutcome) → ToldTurns o → ProbesFew s formats order store (told_by a s store) o
      few_probes (Finished left turns) h = record {
        none = λ direct. within_searches a laws s formats order loops l store (read_store store is) (from_top.most store)
            (e.few (operands_in s store) (slice_index store.ranges) start) (turns Probe) (h Probe);
        within = λ called. absurd (clash (calls_for_workspace s formats order) called free_of);
      }
      few_probes (GotStuck statement) h = absurd h
      few_probes (TooLong place count) h = tt
      few_probes NotFinished h = absurd h

      unrefused : (o : KernelOutcome) → ToldOf (length store.format) (λ u. AreMost u.turns) Never o → IsUnrefused o
      unrefused (Finished left turns) h = tt
      unrefused (GotStuck statement) h = absurd h
      unrefused (TooLong place count) h = absurd h.1.1
      unrefused NotFinished h = absurd h

      ends_unrefused : Ends a (length store.format) kernel arrays IsUnrefused
      ends_unrefused =
          ends_weaker a (length store.format) kernel arrays (ToldOf (length store.format) (λ u. AreMost u.turns) Never) IsUnrefused
          unrefused
          (ends_as_code_does a (length store.format) kernel arrays (λ u. AreMost u.turns) Never
          (subst (λ (b : List KStmt). Does setting b begin (λ u. AreMost u.turns) Never) (sym body)
          (does_append setting top code begin HasTop (λ u. AreMost u.turns) Never (tops setting begin) behind)))

    pub dense_compiled : IsCompiled a s formats order kernel
    dense_compiled = record {
      right = right_kernel;
      sound = right_is_sound a s formats kernel right_kernel;
      few = λ store is arrays given. ends_weaker a (length store.format) kernel arrays (ToldTurns store is arrays given)
          (AreFewTurns s formats order store) (few_turns store is arrays given) (ends_with_turns store is arrays given);
      drains = λ store is arrays given. ends_weaker a (length store.format) kernel arrays (ToldTurns store is arrays given)
          (DrainsFew s formats order (told_by a s store) store.format) (no_drains store is arrays given)
          (ends_with_turns store is arrays given);
      probes = λ store is arrays given. ends_weaker a (length store.format) kernel arrays (ToldTurns store is arrays given)
          (ProbesFew s formats order store (told_by a s store)) (few_probes store is arrays given) (ends_with_turns store is arrays given);
      bare = λ none. spaces;
      keyed = λ called. absurd (clash (calls_for_workspace s formats order) called free_of);
      marked = λ called. absurd (clash (calls_for_workspace s formats order) called free_of);
      direct = λ none store is arrays given. ends_unrefused store is arrays given;
      heads = λ sorted store is arrays given. ends_weaker a (length store.format) kernel arrays IsUnrefused
          (NeedsOneHead s order (told_by a s store)) (needs_no_head s order (told_by a s store)) (ends_unrefused store is arrays given);
    }
