-- A kernel whose code adds the rows of a statement's loops to a workspace of its result's one variable, and fills the result from the sums,
-- is compiled where the result's level has no order: it is right and sound, its loops turn no more often than the statement costs, and
-- there are two drain turns for each point at most.
use Rattle.std.specs.Prelude.{◌≡◌, ℕ, ◌*◌, ◌≤◌, ◌<◌, List, [], ◌∷◌, ◌++◌, length}
use Rattle.std.specs.Prelude.{Bool, refl, slice_index, true, if◌then◌else◌}
use Rattle.std.specs.List.{list_any}
use Rattle.std.proofs.Common.{◌∙◌, sym, ap, subst, arith}
use Rattle.std.proofs.lemmas.List.{length-map}
use Rattle.numbers.specs.Arithmetic.{Arithmetic, Laws}
use Rattle.kernel_code.specs.declared.syntax.Kernel.{Kernel}
use Rattle.kernel_code.specs.declared.syntax.KStmt.{KStmt}
use Rattle.kernel_code.specs.declared.syntax.LoopKind.TheVariants.{Probe}
use Rattle.kernel_code.specs.declared.syntax.Place.TheVariants.{Level, Workspace}
use Rattle.kernel_code.specs.Kernels.{KernelOutcome, Finished, GotStuck, TooLong, NotFinished}
use Rattle.level_core.specs.Meaning.{Arrays}
use Rattle.format_spec.specs.declared.format.FormatLevel.{FormatLevel}
use Rattle.format_spec.specs.Formats.{letters_of}
use Rattle.index_notation.specs.declared.syntax.Statement.{Statement}
use Rattle.iteration_graph.specs.Edges.{format_of}
use Rattle.lists.specs.Each.{Each}
use Rattle.concrete_notation.specs.declared.concrete.Concrete.{Concrete}
use Rattle.concrete_notation.specs.Nests.{left_in_order}
use Rattle.loop_code.specs.declared.loops.LoopCode.{LoopCode}
use Rattle.loop_code.specs.Loops.{start}
use Rattle.lowering.specs.Lowered.{IsInOrder}
use Rattle.term_code.specs.declared.places.Places.{Places}
use Rattle.term_code.specs.Places.{StartsAt}
use Rattle.operand_arrays.specs.Terms.{TargetIsBound}
use Rattle.kernel_correctness.specs.Kernels.{Ends, IsRightKernel, IsRightOutcome}
use Rattle.kernel_correctness.proofs.Sound.{right_is_sound}
use Rattle.kernel_correctness.specs.Stores.{Store, IsStoreOf, IsGiven, operand_of, told_by}
use Rattle.lowering.specs.Stored.{stored_of}
use Rattle.statement_costs.specs.Costs.{statement_cost}
use Rattle.dense_results.specs.Kernels.{AreAtBase}
use Rattle.dense_results.specs.Operands.{IsReadStore, operands_in}
use Rattle.dense_results.proofs.Loops.{lowered_loops_go_through}
use Rattle.kernel_correctness.proofs.FlatStores.{flat_sums}
use Rattle.kernel_emit.specs.Emitted.{AddsLoops}
use Rattle.kernel_emit.specs.declared.emitting.Emitted.{Emitted}
use Rattle.kernel_emit.proofs.ListLaws.{operand_apart}
use Rattle.row_orders.specs.Heads.{result_levels}
use Rattle.row_orders.specs.Takings.{calls_for_workspace, is_unordered}
use Rattle.row_orders.proofs.Lists.{clash}
use Rattle.sparse_results.specs.Keys.{HasOrderedResult}
use Rattle.sparse_kernels.specs.Turns.{MakesTurns}
use Rattle.sparse_kernels.proofs.Ends.{ends_weaker}
use Rattle.taco_compiler.specs.Compiled.{AreFewTurns, DrainsFew, IsCompiled, NeedsLargeKey, ProbesFew}
use Rattle.taco_compiler.specs.Loops.{AreLoopsOf, MayBeLowered}
use Rattle.taco_compiler.specs.Tails.{tail_of, tail_workspaces, workspace_keys}
use Rattle.taco_compiler.proofs.LoopTurns.{in_order_of, within_cost, within_searches}
use Rattle.taco_compiler.proofs.Targets.{keys_bound}
use Rattle.std.specs.Prelude.{All, false, not, slice_index_or}
use Rattle.kernel_code.specs.declared.syntax.Arr.TheVariants.{Sums, ListPositions}
use Rattle.kernel_code.specs.declared.syntax.KExpr.{Num, Len}
use Rattle.kernel_code.specs.declared.syntax.KStmt.{Extend}
use Rattle.level_core.specs.Kinds.{properties, capabilities}
use Rattle.level_core.specs.declared.letter.Letter.{Letter}
use Rattle.level_core.proofs.KindLaws.{appended_ordered, inserted_else, unordered_stored}
use Rattle.format_spec.specs.Formats.{modes_of}
use Rattle.result_assembly.specs.Drained.{IsCounted}
use Rattle.term_code.specs.Places.{AreBelow}
use Rattle.touched_workspaces.specs.DrainedLaws.{touched_draining_laws}
use Rattle.touched_workspaces.specs.Sinks.{HoldsTouched, touched_sink}
use Rattle.touched_workspaces.specs.Sizes.{greatest_marked_range}
use Rattle.touched_workspaces.specs.Starts.{BeginsTouched}
use Rattle.touched_workspaces.specs.declared.sink.TouchedSink.{TouchedSink}
use Rattle.touched_kernels.specs.Kernels.{AddsFromTop, IsForTouched, IsSinkOf, RefusesLevels, ranges_on}
use Rattle.touched_kernels.proofs.Kernels.{touched_kernels_are_right}
use Rattle.grouped_kernels.proofs.Modes.{keys_are_modes}
use Rattle.taco_compiler.specs.Marking.{FillsFromSums}
use Rattle.taco_compiler.proofs.SparseKernels.{few_drains, searches_add}
use Rattle.concrete_notation.specs.Workspaces.{AreAllDense}
use Rattle.row_orders.proofs.LevelOrders.{modes_below}
use Rattle.taco_compiler.proofs.Tails.{place_below}
use Rattle.format_spec.specs.Formats.{IsFormat}

-- a result of one level without order, which is then one whose coordinates are counted
module _ (s : Statement) (formats : List (List FormatLevel)) where
  one_counted : (format : List FormatLevel) → length format ≡ 1 → list_any is_unordered format ≡ true
      → (letter : Letter) × (letters_of format ≡ letter ∷ []) × IsCounted letter
  one_counted [] one some = absurd (omega (arith, one))
  one_counted (level ∷ next ∷ rest) one some = absurd (omega (arith, one))
  one_counted (level ∷ []) one some = (level.letter, refl, counted)
    where
      unordered : (ordered : Bool) → (properties level.letter).ordered ≡ ordered → list_any is_unordered (level ∷ []) ≡ true
          → (properties level.letter).ordered ≡ false
      unordered false is any = is
      unordered true is any = absurd (let both : false ≡ true = ap (λ b. list_any (λ x. x) (not b ∷ [])) (sym is) ∙ any in cc both)

      unappended : (append : Bool) → (capabilities level.letter).append ≡ append → (capabilities level.letter).append ≡ false
      unappended false is = is
      unappended true is = absurd (let both : false ≡ true =
          sym (unordered (properties level.letter).ordered refl some) ∙ appended_ordered level.letter is in cc both)

      counted : IsCounted level.letter
      counted = record {
        inserted = inserted_else level.letter (unappended (capabilities level.letter).append refl);
        stored = unordered_stored level.letter (unordered (properties level.letter).ordered refl some);
      }

above : (size most : ℕ) → (size ≤ most → ⊥) → most < size
above size most not_within = grind (arith, not_within)

module _ (a : Arithmetic) (laws : Laws a) (s : Statement) (formats : List (List FormatLevel)) (f : IsForTouched s formats) (order : List ℕ)
    (called : calls_for_workspace s formats order ≡ true) (unordered : list_any is_unordered (result_levels s formats) ≡ true)
    (one_left : length s.left.vars ≡ 1) (loops : LoopCode) (l : AreLoopsOf s formats order loops) where
  abbrev c : Concrete
  c = l.concrete

  abbrev in_order : IsInOrder s formats c
  in_order = in_order_of s formats order loops l

  abbrev keys : List ℕ
  keys = left_in_order s order

  ordered : HasOrderedResult s formats
  ordered = record {
    numbered = f.sparse.numbered;
    named = f.sparse.named;
    left = f.sparse.left;
    format = f.sparse.format;
    some = f.sparse.some;
  }

  read_store : (store : Store) → IsStoreOf s formats store → IsReadStore s formats store
  read_store store is = record { numbered = f.sparse.numbered; named = f.sparse.named; flat = f.sparse.flat; read = f.sparse.read; is = is }

  bound_there : TargetIsBound keys [] loops
  bound_there =
      keys_bound s formats ordered order l.is_order loops
      (lowered_loops_go_through s f.sparse.numbered formats (flat_sums s formats f.sparse.flat) c in_order loops l.shape l.starts
      true).bound

  module _ (k : TouchedSink) (places : Places) (at : AreAtBase s 0 places) (below : AreBelow 3 places) (top begin fill : List KStmt)
      (emitted : Emitted) (tops : StartsAt 0 top) (begins : BeginsTouched k begin)
      (e : AddsLoops a touched_sink k s formats places keys loops 3 1 emitted.lists emitted.code)
      (fills : FillsFromSums (format_of formats 0) a.zero k fill) (kernel : Kernel) (spaces : kernel.workspaces ≡ 1 ∷ 1 ∷ [])
      (sink_is : IsSinkOf a s formats kernel.workspaces k)
      (lists : kernel.lists ≡ emitted.lists) (body : kernel.body ≡ (top ++ (begin ++ emitted.code)) ++ fill) where
    abbrev code : List KStmt
    code = emitted.code

    -- from the top the code adds the loops' rows
    abbrev adds : AddsFromTop a k s formats places keys loops 1 emitted.lists code
    adds = record {
      low = 3;
      places_below = below;
      free = 3;
      most = λ store. e.most (operands_in s store) (slice_index store.ranges) start;
      adds = λ setting same store r takes st t has.
          e.adds setting same laws 0 (omega arith) (touched_draining_laws.lists k) [] (λ j. 0) (operands_in s store)
          (slice_index store.ranges) start (ranges_on k store) [] st l.placed bound_there takes (record {
            least = 0;
            mine_from = λ y mine. omega arith;
            mine_below = λ y none. absurd none;
            from = t.from;
            kept = λ b of. (t.kept b of, operand_apart 1 emitted.lists b of);
            ready = t.stands.ready;
            opened = t.stands.opened;
            has_ranges = t.stands.ranges;
            keeps = t.keeps;
            held = (subst (λ (b : Arithmetic). HoldsTouched k b (ranges_on k store) [] st) (sym same) t.held, has);
          });
    }

    has_list : 0 < kernel.lists
    has_list = let one = e.further in omega (arith, lists, one)

    few_lists : emitted.lists ≤ kernel.lists
    few_lists = omega (arith, lists)

    body_is : kernel.body
        ≡ (top ++ (begin ++ code)) ++ (fills.summed ++ Extend (ListPositions 0) (Len (Sums k.list)) (Num 0) ∷ fills.drain)
    body_is = body ∙ ap (λ fs. (top ++ (begin ++ code)) ++ fs) fills.is

    -- a run
    module _ (store : Store) (is : IsStoreOf s formats store) (arrays : Arrays) (given : IsGiven a.zero store arrays) where
      abbrev IsTold : KernelOutcome → Type 0
      IsTold outcome =
          IsRightOutcome a s (told_by a s store) store outcome
          × MakesTurns s (told_by a s store) (letters_of store.format) (adds.most store) outcome × RefusesLevels k store outcome

      told : Ends a (length store.format) kernel arrays IsTold
      told =
          touched_kernels_are_right a laws s formats f c in_order loops l.rows l.words k 0 places at top begin code fills.summed fills.drain
          tops begins 1 emitted.lists adds 0 fills.sums 0 0 (omega arith) fills.drains kernel sink_is has_list few_lists body_is store is
          arrays given

      few_turns : (o : KernelOutcome) → IsTold o → AreFewTurns s formats order store o
      few_turns (Finished left turns) h =
          within_cost a laws s formats order loops l store (read_store store is) (adds.most store)
          (e.few (operands_in s store) (slice_index store.ranges) start) turns h.1.merges h.1.skips h.1.gathers
      few_turns (GotStuck statement) h = absurd h.1
      few_turns (TooLong place count) h = tt
      few_turns NotFinished h = absurd h.1

      drains_few : (o : KernelOutcome) → IsTold o → DrainsFew s formats order (told_by a s store) store.format o
      drains_few (Finished left turns) h =
          few_drains s formats order store a (adds.most store) turns called unordered
          (e.few (operands_in s store) (slice_index store.ranges) start).drains left h.1
      drains_few (GotStuck statement) h = absurd h.1
      drains_few (TooLong place count) h = tt
      drains_few NotFinished h = absurd h.1

      few_probes : (o : KernelOutcome) → IsTold o → ProbesFew s formats order store (told_by a s store) o
      few_probes (Finished left turns) h = record {
        none = λ free. absurd (clash (calls_for_workspace s formats order) called free);
        within = λ some. record {
          points = h.1.points;
          have = h.1.have;
          few = λ width are narrow.
              let cost = statement_cost s formats order (stored_of s (operand_of store)) (slice_index store.ranges) in
              let loops_made = within_searches a laws s formats order loops l store (read_store store is) (adds.most store)
              (e.few (operands_in s store) (slice_index store.ranges) start) (adds.most store Probe) (omega arith) width are in
              searches_add (turns Probe) (adds.most store Probe) width (length s.accesses * cost) (length (letters_of store.format))
              (length store.format) h.1.points (length-map store.format (λ (level : FormatLevel). level.letter)) loops_made
              (h.1.probes width narrow);
        };
      }
      few_probes (GotStuck statement) h = absurd h.1
      few_probes (TooLong place count) h = tt
      few_probes NotFinished h = absurd h.1

      -- the one key is the result's one variable
      one_key : (v : ℕ) → workspace_keys s formats order ≡ v ∷ [] → k.variable ≡ v
      one_key v alone =
          let all : workspace_keys s formats order ≡ keys = ap (λ b. if b then keys else tail_of s order) unordered in
          let modes = keys_are_modes s formats ordered order l.is_order in
          ap (λ (vs : List ℕ). slice_index vs 0) (sym sink_is.modes ∙ sym modes ∙ sym all ∙ alone)

      large_key : (o : KernelOutcome) → IsTold o → NeedsLargeKey s formats order store o
      large_key (Finished left turns) h = tt
      large_key (GotStuck statement) h = absurd h.1
      large_key (TooLong (Level level) count) h = tt
      large_key (TooLong Workspace count) h = λ v alone.
          subst (λ u. greatest_marked_range < slice_index store.ranges u) (one_key v alone)
          (above (slice_index store.ranges k.variable) greatest_marked_range h.2)
      large_key NotFinished h = absurd h.1

    right_kernel : IsRightKernel a s formats kernel
    right_kernel store is arrays given =
        ends_weaker a (length store.format) kernel arrays (IsTold store is arrays given) (IsRightOutcome a s (told_by a s store) store)
        (λ o h. h.0) (told store is arrays given)

    pub touched_compiled : IsCompiled a s formats order kernel
    touched_compiled = record {
      right = right_kernel;
      sound = right_is_sound a s formats kernel right_kernel;
      few = λ store is arrays given. ends_weaker a (length store.format) kernel arrays (IsTold store is arrays given)
          (AreFewTurns s formats order store) (few_turns store is arrays given) (told store is arrays given);
      drains = λ store is arrays given. ends_weaker a (length store.format) kernel arrays (IsTold store is arrays given)
          (DrainsFew s formats order (told_by a s store) store.format) (drains_few store is arrays given) (told store is arrays given);
      probes = λ store is arrays given. ends_weaker a (length store.format) kernel arrays (IsTold store is arrays given)
          (ProbesFew s formats order store (told_by a s store)) (few_probes store is arrays given) (told store is arrays given);
      bare = λ free. absurd (clash (calls_for_workspace s formats order) called free);
      direct = λ free. absurd (clash (calls_for_workspace s formats order) called free);
      heads = λ sorted. absurd (clash (list_any is_unordered (result_levels s formats)) unordered sorted);
      keyed = λ some. spaces
          ∙ sym (ap (λ b. if b then tail_workspaces (length s.left.vars) else tail_workspaces (length (tail_of s order))) unordered
          ∙ ap tail_workspaces one_left);
      marked = λ some store is arrays given. ends_weaker a (length store.format) kernel arrays (IsTold store is arrays given)
          (NeedsLargeKey s formats order store) (large_key store is arrays given) (told store is arrays given);
    }

-- the one mode of such a result is a variable of the statement
pub mode_inside : (s : Statement) (formats : List (List FormatLevel)) (order modes : List ℕ) → MayBeLowered s formats order
    → modes ≡ modes_of (format_of formats s.left.tensor) → length modes ≡ 1 → slice_index_or modes 0 0 < length s.vars
mode_inside s formats order modes ready are one =
    let below : All (λ m. m < length s.left.vars) modes =
    subst (All (λ m. m < length s.left.vars)) (sym are)
    (modes_below s formats (record { numbered = ready.numbered; left = ready.left; format = ready.formed.0 })) in
    let inside = place_below 0 (length s.left.vars) (length s.vars) (slice_index_or modes 0 0)
    (subst (Each (λ v. v < length s.vars)) ready.named.standing ready.numbered.left.vars_stand) (below 0 0 (omega (arith, one))) in
    omega (arith, inside)

-- such a statement, as a law of its kernels asks it
pub for_touched : (s : Statement) (formats : List (List FormatLevel)) (order : List ℕ) → MayBeLowered s formats order
    → (AreAllDense (format_of formats s.left.tensor) → ⊥) → list_any is_unordered (result_levels s formats) ≡ true
    → length (format_of formats s.left.tensor) ≡ 1 → IsForTouched s formats
for_touched s formats order ready some unordered one =
    let result = ready.named.result in
    let told = one_counted s formats (format_of formats s.left.tensor) one unordered in
    let here = ap (λ t. letters_of (format_of formats t)) (sym result) in
    record {
      sparse = record {
        numbered = ready.numbered;
        named = ready.named;
        left = ready.left;
        flat = ready.flat;
        read = ready.read;
        format = subst (λ t. IsFormat (format_of formats t)) result ready.formed.0;
        some = λ dense. some (subst (λ t. AreAllDense (format_of formats t)) (sym result) dense);
      };
      letter = told.0;
      alone = here ∙ told.1;
      counted = told.2;
    }
