-- A kernel whose code appends the rows of a statement's loops to its result in place is compiled where the statement calls for no
-- workspace: it is right and sound, its loops turn no more often than the statement costs, and it has no rows to go over again.
use Rattle.std.specs.Prelude.{◌≡◌, ◌⊎◌, ℕ, zero, suc, ◌≤◌, ◌<◌, true, false, List, [], ◌∷◌, ◌++◌, length, All, Some, map, refl}
use Rattle.std.specs.Prelude.{replicate, slice_get, slice_index, ◌^◌, ◌&&◌, Bool, if◌then◌else◌}
use Rattle.std.specs.List.{list_all}
use Rattle.std.proofs.Common.{◌∙◌, sym, ap, subst, arith, inr}
use Rattle.limits.proofs.Limits.{orders_are_small}
use Rattle.numbers.specs.Arithmetic.{Arithmetic, Laws}
use Rattle.kernel_code.specs.declared.syntax.Arr.TheVariants.{Range, Values, Dimension, Ends as EndsOf, Coordinates, Width, Key, Sums}
use Rattle.kernel_code.specs.declared.syntax.Arr.TheVariants.{ListCoordinates, ListPositions}
use Rattle.kernel_code.specs.declared.syntax.Kernel.{Kernel}
use Rattle.kernel_code.specs.declared.syntax.KStmt.{KStmt}
use Rattle.kernel_code.specs.declared.syntax.LoopKind.TheVariants.{Merge, Skip, Gather, Drain, Probe}
use Rattle.kernel_code.specs.Kernels.{KernelOutcome, Finished, GotStuck, TooLong, NotFinished}
use Rattle.level_core.specs.Kinds.{properties}
use Rattle.level_core.specs.Meaning.{Arrays}
use Rattle.format_spec.specs.Formats.{letters_of}
use Rattle.format_spec.specs.declared.format.FormatLevel.{FormatLevel}
use Rattle.index_notation.specs.declared.syntax.Access.{Access}
use Rattle.index_notation.specs.Statement.{IsNumbered}
use Rattle.index_notation.specs.declared.syntax.Statement.{Statement}
use Rattle.iteration_graph.specs.Edges.{HasFormat, format_of}
use Rattle.concrete_notation.specs.declared.concrete.Concrete.{Concrete}
use Rattle.concrete_notation.specs.Nests.{left_in_order}
use Rattle.concrete_notation.specs.Workspaces.{AreAllDense}
use Rattle.loop_code.specs.declared.loops.LoopCode.{LoopCode}
use Rattle.loop_code.specs.Loops.{start}
use Rattle.lowering.specs.Lowered.{IsInOrder}
use Rattle.term_code.specs.declared.places.AccessPlace.{AccessPlace}
use Rattle.term_code.specs.declared.places.Places.{Places}
use Rattle.term_code.specs.Places.{StartsAt, new_access}
use Rattle.operand_arrays.specs.Apart.{AreOutside}
use Rattle.operand_arrays.specs.Terms.{TargetIsBound}
use Rattle.kernel_correctness.specs.Kernels.{Ends, IsRightKernel, IsRightOutcome}
use Rattle.kernel_correctness.proofs.Sound.{right_is_sound}
use Rattle.kernel_correctness.specs.Stores.{Store, IsStoreOf, IsGiven, told_by}
use Rattle.dense_results.specs.Kernels.{AreAtBase}
use Rattle.dense_results.specs.Operands.{IsReadStore, first_summed, operands_in}
use Rattle.dense_results.proofs.Loops.{lowered_loops_go_through}
use Rattle.kernel_correctness.proofs.FlatStores.{flat_sums}
use Rattle.result_targets.specs.Beside.{LeavesLists}
use Rattle.kernel_emit.specs.Emitted.{AddsLoops}
use Rattle.kernel_emit.specs.declared.emitting.Emitted.{Emitted}
use Rattle.kernel_emit.proofs.ListLaws.{operand_apart}
use Rattle.row_orders.specs.Heads.{head_levels, is_dense}
use Rattle.row_orders.specs.Takings.{calls_for_workspace}
use Rattle.row_orders.proofs.Lists.{clash}
use Rattle.row_orders.proofs.TakingLaws.{all_dense}
use Rattle.sparse_results.specs.Keys.{HasOrderedResult}
use Rattle.appended_results.specs.Begins.{BeginsFirst}
use Rattle.appended_results.specs.Ends.{EndsFirst}
use Rattle.appended_results.specs.Heads.{IsHead, head_length, is_full}
use Rattle.appended_results.proofs.HeadLengths.{some_head}
use Rattle.appended_results.specs.declared.sink.AppendedSink.{AppendedSink}
use Rattle.appended_results.specs.Sink.{appended_sink, letters_in}
use Rattle.appended_kernels.specs.Kernels.{AddsFromTop, AppendsFromTop, AreAppendedLoops, IsForAppended, IsSinkOf, MakesNoMore}
use Rattle.appended_kernels.specs.Kernels.{OnlyLevels, RefusesOnly, behind}
use Rattle.appended_kernels.proofs.Direct.{appends_directly}
use Rattle.appended_kernels.proofs.Kernels.{appended_kernels_are_right}
use Rattle.sparse_kernels.proofs.Ends.{ends_weaker}
use Rattle.taco_compiler.specs.Compiled.{AreFewTurns, DrainsFew, IsCompiled, IsUnrefused, NeedsOneHead, ProbesFew}
use Rattle.taco_compiler.specs.Loops.{AreLoopsOf}
use Rattle.taco_compiler.proofs.Heads.{needs_no_head}
use Rattle.taco_compiler.proofs.LoopTurns.{in_order_of, within_cost, within_searches}
use Rattle.taco_compiler.proofs.Targets.{keys_bound}

all_alike : (n low base : ℕ) → low ≤ base → All (λ y. (y < 0) ⊎ (low ≤ y)) (replicate n base)
all_alike zero low base le k d l = absurd (omega (arith, l))
all_alike (suc n) low base le zero d l = inr le
all_alike (suc n) low base le (suc k) d l = all_alike n low base le k d (omega (arith, l))

-- places before all loops are from their base on
pub places_from : (s : Statement) (base : ℕ) (places : Places) → places.variables ≡ replicate (length s.vars) base
    → AreAtBase s base places → AreOutside 0 base places
places_from s base places variables at = record {
  variables = subst (All (λ y. (y < 0) ⊎ (base ≤ y))) (sym variables) (all_alike (length s.vars) base base (omega arith));
  accesses = λ k p is. inr (there (map (λ (a : Access). a.tensor) s.accesses) k p (ap (λ ps. slice_get ps k) (sym at) ∙ is));
}
  where
    some_same : (p q : AccessPlace) → Some p ≡ Some q → p ≡ q
    some_same p q h = cc

    there : (tensors : List ℕ) (k : ℕ) (p : AccessPlace) → slice_get (map (new_access base (first_summed s)) tensors) k ≡ Some p
        → base ≤ p.cursor
    there [] k p is = absurd (cc is)
    there (t ∷ tensors) zero p is = subst (λ (q : AccessPlace). base ≤ q.cursor)
        (some_same (new_access base (first_summed s) t) p is) (omega arith)
    there (t ∷ tensors) (suc k) p is = there tensors k p is

-- a result has few levels
pub levels_few : (s : Statement) (formats : List (List FormatLevel)) (k : AppendedSink) → IsNumbered s → HasFormat formats s.left
    → k.levels ≡ format_of formats s.left.tensor → length k.levels < 2 ^ 8
levels_few s formats k numbered left is =
    let many = ap length is ∙ left.order in
    let few = numbered.left.order in
    let small = orders_are_small in
    omega (arith, many, few, small)

same_tests : (levels : List FormatLevel) → list_all is_dense levels ≡ list_all is_full (letters_of levels)
same_tests [] = refl
same_tests (level ∷ levels) = ap (λ b. (properties level.letter).full && b) (same_tests levels)

heads_alike : (levels : List FormatLevel) → length (head_levels levels) ≡ head_length (letters_of levels)
heads_alike [] = refl
heads_alike (level ∷ levels) =
    by (list_all is_dense (level ∷ levels)) refl (same_tests (level ∷ levels)) (heads_alike levels)
  where
    by : (b : Bool) → list_all is_dense (level ∷ levels) ≡ b
        → list_all is_dense (level ∷ levels) ≡ list_all is_full (letters_of (level ∷ levels))
        → length (head_levels levels) ≡ head_length (letters_of levels)
        → length (head_levels (level ∷ levels)) ≡ head_length (letters_of (level ∷ levels))
    by true is same again =
        ap (λ b. length (if b then [] else (level ∷ head_levels levels))) is
        ∙ sym (ap (λ b. if b then 0 else suc (head_length (letters_of levels))) (sym same ∙ is))
    by false is same again =
        ap (λ b. length (if b then [] else (level ∷ head_levels levels))) is
        ∙ ap suc again
        ∙ sym (ap (λ b. if b then 0 else suc (head_length (letters_of levels))) (sym same ∙ is))

-- some level isn't full where not all are dense
not_full : (levels : List FormatLevel) → (AreAllDense levels → ⊥) → list_all is_full (letters_of levels) ≡ false
not_full levels some = by (list_all is_full (letters_of levels)) refl
  where
    by : (b : Bool) → list_all is_full (letters_of levels) ≡ b → b ≡ false
    by true is = absurd (some (all_dense levels (same_tests levels ∙ is)))
    by false is = refl

-- the sink of a result of such a format
pub sink_fits : (a : Arithmetic) (s : Statement) (formats : List (List FormatLevel)) (k : AppendedSink) → HasOrderedResult s formats
    → k.levels ≡ format_of formats s.left.tensor → k.head ≡ length (head_levels (format_of formats s.left.tensor)) → k.zero ≡ a.zero
    → IsSinkOf a formats k
sink_fits a s formats k ordered levels head begins_with =
    let result = ap (format_of formats) ordered.named.result in
    record {
      levels = levels ∙ result;
      head = subst (IsHead (letters_of (format_of formats 0))) (sym (head ∙ ap (λ ls. length (head_levels ls)) result
          ∙ heads_alike (format_of formats 0)))
          (some_head (letters_of (format_of formats 0)) (not_full (format_of formats 0) ordered.some));
      zero = begins_with;
    }

module _ (a : Arithmetic) (laws : Laws a) (s : Statement) (formats : List (List FormatLevel)) (order : List ℕ)
    (f : IsForAppended s formats) (direct : calls_for_workspace s formats order ≡ false) (loops : LoopCode)
    (l : AreLoopsOf s formats order loops) where
  abbrev c : Concrete
  c = l.concrete

  abbrev in_order : IsInOrder s formats c
  in_order = in_order_of s formats order loops l

  abbrev keys : List ℕ
  keys = left_in_order s order

  read_store : (store : Store) → IsStoreOf s formats store → IsReadStore s formats store
  read_store store is = record { numbered = f.ordered.numbered; named = f.ordered.named; flat = f.flat; read = f.read; is = is }

  bound_there : TargetIsBound keys [] loops
  bound_there =
      keys_bound s formats f.ordered order l.is_order loops
      (lowered_loops_go_through s f.ordered.numbered formats (flat_sums s formats f.flat) c in_order loops l.shape l.starts true).bound

  own_loops : AreAppendedLoops s formats c loops
  own_loops = record { shares = l.shares; none = l.none; rows = l.rows; shape = l.shape; words = l.words }

  module _ (k : AppendedSink) (own : IsSinkOf a formats k) (places : Places) (at : AreAtBase s (behind k) places)
      (from : AreOutside 0 (behind k) places) (top begin end : List KStmt) (emitted : Emitted) (tops : StartsAt (behind k) top)
      (begins : BeginsFirst (letters_in k) (length k.levels) k.base (length k.levels) begin) (free past : ℕ) (room : behind k ≤ free)
      (e : AddsLoops a appended_sink k s formats places keys loops free 0 emitted.lists emitted.code)
      (ending : EndsFirst (letters_in k) k.base past (length k.levels) end) (kernel : Kernel) (spaces : kernel.workspaces ≡ [])
      (lists : emitted.lists ≤ kernel.lists) (body : kernel.body ≡ ((top ++ begin) ++ emitted.code) ++ end) where
    abbrev code : List KStmt
    code = emitted.code

    -- no level of a result, nor its values, is a scratch list
    lists_left : LeavesLists appended_sink k
    lists_left Range h = absurd (cc h)
    lists_left (Values n) h = absurd (cc h)
    lists_left (Dimension n j) h = absurd (cc h)
    lists_left (EndsOf n j) h = absurd (cc h)
    lists_left (Coordinates n j) h = absurd (cc h)
    lists_left (Width n j) h = absurd (cc h)
    lists_left (Key n j) h = absurd (cc h)
    lists_left (Sums n) h = absurd (cc h)
    lists_left (ListCoordinates n) h = record { outside = λ j no. no; no_values = refl }
    lists_left (ListPositions n) h = record { outside = λ j no. no; no_values = refl }

    -- from the top the code appends the loops' rows
    abbrev adds_all : AddsFromTop a k s formats places keys loops 0 emitted.lists code
    adds_all = record {
      free = free;
      most = λ store. e.most (operands_in s store) (slice_index store.ranges) start;
      appends = λ setting same store r taken st t has.
          e.adds setting same laws (behind k) room lists_left [] (λ j. 0) (operands_in s store) (slice_index store.ranges) start
          store.ranges [] st l.placed bound_there taken (record {
            least = 0;
            mine_from = λ y mine. omega arith;
            mine_below = λ y mine. mine.before;
            from = t.from;
            kept = λ b of. (t.kept b of, operand_apart 0 emitted.lists b of);
            ready = t.stands.ready;
            opened = t.stands.opened;
            has_ranges = t.stands.ranges;
            keeps = t.keeps;
            held = (subst (λ b. appended_sink.holds k b store.ranges [] st) (sym same) t.held, has);
          });
    }

    abbrev appends : AppendsFromTop a k s formats places keys loops 0 emitted.lists [] OnlyLevels code
    appends = appends_directly a laws s formats c in_order f loops own_loops direct k own places 0 emitted.lists code adds_all []

    -- a run
    module _ (store : Store) (is : IsStoreOf s formats store) (arrays : Arrays) (given : IsGiven a.zero store arrays) where
      abbrev IsTold : KernelOutcome → Type 0
      IsTold outcome =
          IsRightOutcome a s (told_by a s store) store outcome × MakesNoMore (appends.most store) outcome
          × RefusesOnly (OnlyLevels store) outcome

      told : Ends a (length store.format) kernel arrays IsTold
      told =
          appended_kernels_are_right a laws s formats c in_order f loops own_loops k own (behind k) places at from (omega arith) top begin
          code end tops begins 0 emitted.lists [] OnlyLevels appends past ending kernel lists spaces body store is arrays given

      few_turns : (o : KernelOutcome) → IsTold o → AreFewTurns s formats order store o
      few_turns (Finished left turns) h =
          within_cost a laws s formats order loops l store (read_store store is) (appends.most store)
          (e.few (operands_in s store) (slice_index store.ranges) start) turns (h.1 Merge) (h.1 Skip) (h.1 Gather)
      few_turns (GotStuck statement) h = absurd h.1
      few_turns (TooLong place count) h = tt
      few_turns NotFinished h = absurd h.1

      no_drains : (o : KernelOutcome) → IsTold o → DrainsFew s formats order (told_by a s store) store.format o
      no_drains (Finished left turns) h =
          let most = h.1 Drain in
          let none = (e.few (operands_in s store) (slice_index store.ranges) start).drains in
          record {
            none = λ uncalled. omega (arith, most, none);
            within = λ called. absurd (clash (calls_for_workspace s formats order) called direct);
            once = λ called sorted. absurd (clash (calls_for_workspace s formats order) called direct);
          }
      no_drains (GotStuck statement) h = absurd h.1
      no_drains (TooLong place count) h = tt
      no_drains NotFinished h = absurd h.1

      few_probes : (o : KernelOutcome) → IsTold o → ProbesFew s formats order store (told_by a s store) o
      few_probes (Finished left turns) h = record {
        none = λ uncalled. within_searches a laws s formats order loops l store (read_store store is) (appends.most store)
            (e.few (operands_in s store) (slice_index store.ranges) start) (turns Probe) (h.1 Probe);
        within = λ called. absurd (clash (calls_for_workspace s formats order) called direct);
      }
      few_probes (GotStuck statement) h = absurd h.1
      few_probes (TooLong place count) h = tt
      few_probes NotFinished h = absurd h.1

      unrefused : (o : KernelOutcome) → IsTold o → IsUnrefused o
      unrefused (Finished left turns) h = tt
      unrefused (GotStuck statement) h = absurd h.1
      unrefused (TooLong place count) h = h.2
      unrefused NotFinished h = absurd h.1

    right_kernel : IsRightKernel a s formats kernel
    right_kernel store is arrays given =
        ends_weaker a (length store.format) kernel arrays (IsTold store is arrays given) (IsRightOutcome a s (told_by a s store) store)
        (λ o h. h.0) (told store is arrays given)

    pub appended_compiled : IsCompiled a s formats order kernel
    appended_compiled = record {
      right = right_kernel;
      sound = right_is_sound a s formats kernel right_kernel;
      few = λ store is arrays given. ends_weaker a (length store.format) kernel arrays (IsTold store is arrays given)
          (AreFewTurns s formats order store) (few_turns store is arrays given) (told store is arrays given);
      drains = λ store is arrays given. ends_weaker a (length store.format) kernel arrays (IsTold store is arrays given)
          (DrainsFew s formats order (told_by a s store) store.format) (no_drains store is arrays given) (told store is arrays given);
      probes = λ store is arrays given. ends_weaker a (length store.format) kernel arrays (IsTold store is arrays given)
          (ProbesFew s formats order store (told_by a s store)) (few_probes store is arrays given) (told store is arrays given);
      bare = λ none. spaces;
      keyed = λ called. absurd (clash (calls_for_workspace s formats order) called direct);
      marked = λ called. absurd (clash (calls_for_workspace s formats order) called direct);
      direct = λ none store is arrays given. ends_weaker a (length store.format) kernel arrays (IsTold store is arrays given) IsUnrefused
          (unrefused store is arrays given) (told store is arrays given);
      heads = λ sorted store is arrays given. ends_weaker a (length store.format) kernel arrays (IsTold store is arrays given)
          (NeedsOneHead s order (told_by a s store))
          (λ o h. needs_no_head s order (told_by a s store) o (unrefused store is arrays given o h)) (told store is arrays given);
    }
