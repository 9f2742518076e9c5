-- A kernel whose code pushes the rows of a statement's loops into a workspace, and fills the result from them, is compiled where the
-- statement calls for one and some level of its result has no order: it is right and sound, its loops turn no more often than the statement
-- costs, and its rows are gone over no more often than twice a level.
use Rattle.std.specs.Prelude.{◌≡◌, ℕ, ◌+◌, ◌*◌, ◌≤◌, ◌<◌, List, [], ◌∷◌, ◌++◌, length, Some, slice_get}
use Rattle.std.specs.Prelude.{slice_index, true, if◌then◌else◌}
use Rattle.std.specs.List.{list_any}
use Rattle.std.proofs.Common.{◌∙◌, sym, ap, subst, arith}
use Rattle.std.proofs.Math.Nat.{mul-add, mul_left_comm}
use Rattle.std.proofs.lemmas.List.{length-map}
use Rattle.numbers.specs.Arithmetic.{Arithmetic, Laws}
use Rattle.kernel_code.specs.declared.syntax.Arr.TheVariants.{Range, Values, Dimension, Ends as EndsOf, Coordinates, Width, Key, Sums}
use Rattle.kernel_code.specs.declared.syntax.Arr.TheVariants.{ListCoordinates, ListPositions}
use Rattle.kernel_code.specs.declared.syntax.Kernel.{Kernel}
use Rattle.kernel_code.specs.declared.syntax.KStmt.{KStmt}
use Rattle.kernel_code.specs.declared.syntax.LoopKind.{LoopKind}
use Rattle.kernel_code.specs.declared.syntax.LoopKind.TheVariants.{Drain, Probe}
use Rattle.kernel_code.specs.declared.syntax.Place.TheVariants.{Level, Workspace}
use Rattle.kernel_code.specs.Kernels.{KernelOutcome, Finished, GotStuck, TooLong, NotFinished}
use Rattle.level_core.specs.Meaning.{Arrays}
use Rattle.tensor_map.specs.Entries.{Entry}
use Rattle.format_spec.specs.declared.format.FormatLevel.{FormatLevel}
use Rattle.format_spec.specs.Formats.{letters_of}
use Rattle.index_notation.specs.declared.syntax.Statement.{Statement}
use Rattle.iteration_graph.specs.Edges.{format_of}
use Rattle.lists.specs.Each.{Each}
use Rattle.concrete_notation.specs.declared.concrete.Concrete.{Concrete}
use Rattle.concrete_notation.specs.Nests.{left_in_order}
use Rattle.loop_code.specs.declared.loops.LoopCode.{LoopCode}
use Rattle.loop_code.specs.Loops.{start}
use Rattle.lowering.specs.Lowered.{IsInOrder}
use Rattle.lowering.specs.Right.{rows_to}
use Rattle.term_code.specs.declared.places.Places.{Places}
use Rattle.term_code.specs.declared.workspace_sink.WorkspaceSink.{WorkspaceSink}
use Rattle.term_code.specs.Places.{StartsAt}
use Rattle.term_code.specs.WorkspaceSinks.{workspace_sink}
use Rattle.operand_arrays.specs.Operands.{stored_in}
use Rattle.operand_arrays.specs.Terms.{TargetIsBound}
use Rattle.kernel_correctness.specs.Kernels.{Ends, IsRightKernel, IsRightOutcome}
use Rattle.kernel_correctness.proofs.Sound.{right_is_sound}
use Rattle.kernel_correctness.specs.Stores.{Store, IsStoreOf, IsGiven, operand_of, told_by}
use Rattle.lowering.specs.Stored.{stored_of}
use Rattle.statement_costs.specs.Costs.{statement_cost}
use Rattle.dense_results.specs.Kernels.{AreAtBase}
use Rattle.dense_results.specs.Operands.{IsReadStore, operands_in}
use Rattle.dense_results.specs.Results.{left_ranges}
use Rattle.dense_results.proofs.Loops.{lowered_loops_go_through}
use Rattle.kernel_correctness.proofs.FlatStores.{flat_sums}
use Rattle.result_targets.specs.Beside.{LeavesLists}
use Rattle.result_targets.specs.Sinks.{TakesAll}
use Rattle.kernel_emit.specs.Emitted.{AddsLoops}
use Rattle.kernel_emit.specs.declared.emitting.Emitted.{Emitted}
use Rattle.kernel_emit.proofs.ListLaws.{operand_apart}
use Rattle.row_orders.specs.Heads.{result_levels}
use Rattle.row_orders.specs.Takings.{calls_for_workspace, is_unordered}
use Rattle.row_orders.proofs.Lists.{apart_test, clash}
use Rattle.sparse_results.specs.Keys.{HasOrderedResult}
use Rattle.sparse_results.specs.Tables.{IsRow}
use Rattle.sparse_results.proofs.Loops.{loops_add_rows}
use Rattle.sparse_kernels.specs.Kernels.{IsForSparse, PushesFromTop, sorting_code}
use Rattle.sparse_kernels.specs.Turns.{AreTurns, MakesTurns}
use Rattle.sparse_kernels.proofs.Ends.{ends_weaker}
use Rattle.sparse_kernels.proofs.Kernels.{sparse_kernels_are_right}
use Rattle.taco_compiler.specs.Compiled.{AreFewDrains, AreFewTurns, DrainsFew, IsCompiled, NeedsLargeKey, ProbesFew}
use Rattle.taco_compiler.specs.Filling.{FillsFromRows}
use Rattle.taco_compiler.specs.Loops.{AreLoopsOf}
use Rattle.taco_compiler.specs.Tails.{tail_of, tail_workspaces, workspace_keys}
use Rattle.taco_compiler.proofs.LoopTurns.{in_order_of, within_cost, within_searches}
use Rattle.taco_compiler.proofs.Targets.{keys_bound, keys_many}

-- rows of so many coordinates are such as a workspace takes
rows_taken : (keys : ℕ) (ranges : List ℕ) (before rows : List Entry) → Each (IsRow keys) rows
    → TakesAll workspace_sink (record { number = 0; keys = keys }) ranges before rows
rows_taken keys ranges before [] each = tt
rows_taken keys ranges before (row ∷ rows) each = (each.0.many, rows_taken keys ranges (before ++ row ∷ []) rows each.1)

drop_none : (x none y : ℕ) → none ≡ 0 → x ≤ none + y → x ≤ y
drop_none x none y is h = omega (arith, is, h)

-- searches in the accesses, and in the levels of the result
pub searches_add : (made loops width each many levels points : ℕ) → many ≡ levels → loops ≤ width * each
    → made ≤ loops + many * (width * points) → made ≤ width * (each + levels * points)
searches_add made loops width each many levels points is few all =
    let sum = mul-add width each (levels * points) in
    let turned = ap (λ n. n * (width * points)) is ∙ mul_left_comm levels width points in
    omega (arith, few, all, sum, turned)

-- turns of rows that are gone over so often
pub few_drains : (s : Statement) (formats : List (List FormatLevel)) (order : List ℕ) (store : Store) (a : Arithmetic)
    (most turns : LoopKind → ℕ) → calls_for_workspace s formats order ≡ true → list_any is_unordered (result_levels s formats) ≡ true
    → most Drain ≡ 0
    → (arrays : Arrays) → AreTurns s (told_by a s store) (letters_of store.format) most turns arrays
    → AreFewDrains s formats order (told_by a s store) store.format (turns Drain)
few_drains s formats order store a most turns called unordered none arrays t = record {
  none = λ free. absurd (clash (calls_for_workspace s formats order) called free);
  within = λ other. record {
    points = t.points;
    have = t.have;
    few = subst (λ n. turns Drain ≤ 2 * n * t.points) (length-map store.format (λ (level : FormatLevel). level.letter))
        (drop_none (turns Drain) (most Drain) (2 * length (letters_of store.format) * t.points) none t.drains);
  };
  once = λ other sorted. absurd (clash (list_any is_unordered (result_levels s formats)) unordered sorted);
}

module _ (a : Arithmetic) (laws : Laws a) (s : Statement) (formats : List (List FormatLevel)) (f : IsForSparse s formats) (order : List ℕ)
    (called : calls_for_workspace s formats order ≡ true) (unordered : list_any is_unordered (result_levels s formats) ≡ true)
    (several : length s.left.vars ≡ 1 → ⊥) (loops : LoopCode) (l : AreLoopsOf s formats order loops) where
  abbrev c : Concrete
  c = l.concrete

  abbrev in_order : IsInOrder s formats c
  in_order = in_order_of s formats order loops l

  abbrev keys : List ℕ
  keys = left_in_order s order

  ordered : HasOrderedResult s formats
  ordered = record { numbered = f.numbered; named = f.named; left = f.left; format = f.format; some = f.some }

  read_store : (store : Store) → IsStoreOf s formats store → IsReadStore s formats store
  read_store store is = record { numbered = f.numbered; named = f.named; flat = f.flat; read = f.read; is = is }

  many : length keys ≡ length s.left.vars
  many = keys_many s formats ordered order l.is_order

  bound_there : TargetIsBound keys [] loops
  bound_there =
      keys_bound s formats ordered order l.is_order loops
      (lowered_loops_go_through s f.numbered formats (flat_sums s formats f.flat) c in_order loops l.shape l.starts true).bound

  module _ (places : Places) (at : AreAtBase s 0 places) (top fill : List KStmt) (emitted : Emitted)
      (tops : StartsAt 0 top) (free : ℕ)
      (e : AddsLoops a workspace_sink (record { number = 0; keys = length keys }) s formats places keys loops free 1 emitted.lists
      emitted.code)
      (fills : FillsFromRows (format_of formats 0) a.zero fill) (kernel : Kernel) (spaces : kernel.workspaces ≡ length s.left.vars ∷ [])
      (lists : kernel.lists ≡ emitted.lists) (body : kernel.body ≡ (top ++ emitted.code) ++ fill) where
    abbrev code : List KStmt
    code = emitted.code

    abbrev k : WorkspaceSink
    k = record { number = 0; keys = length keys }

    -- a workspace has no scratch list
    lists_left : LeavesLists workspace_sink k
    lists_left Range h = absurd (cc h)
    lists_left (Values n) h = absurd (cc h)
    lists_left (Dimension n l) h = absurd (cc h)
    lists_left (EndsOf n l) h = absurd (cc h)
    lists_left (Coordinates n l) h = absurd (cc h)
    lists_left (Width n l) h = absurd (cc h)
    lists_left (Key n l) h = absurd (cc h)
    lists_left (Sums n) h = absurd (cc h)
    lists_left (ListCoordinates n) h = λ no. no
    lists_left (ListPositions n) h = λ no. no

    taken : (store : Store) (r : IsReadStore s formats store) → TakesAll workspace_sink k (left_ranges s store) []
        (rows_to a s formats (told_by a s store) (stored_in (operands_in s store)) keys loops)
    taken store r =
        rows_taken (length keys) (left_ranges s store) []
        (rows_to a s formats (told_by a s store) (stored_in (operands_in s store)) keys loops)
        (loops_add_rows a laws s formats store r loops l.words keys)

    -- from the top the code pushes the loops' rows
    abbrev pushes : PushesFromTop a k s formats places keys loops 1 emitted.lists code
    pushes = record {
      free = free;
      most = λ store. e.most (operands_in s store) (slice_index store.ranges) start;
      pushes = λ setting same store r st t has.
          e.adds setting same laws 0 (omega arith) lists_left [] (λ j. 0) (operands_in s store) (slice_index store.ranges) start
          (left_ranges s store) [] st l.placed bound_there (taken store r) (record {
            least = 0;
            mine_from = λ y mine. omega arith;
            mine_below = t.none;
            from = t.from;
            kept = λ b of. (t.kept b of, operand_apart 1 emitted.lists b of);
            ready = t.stands.ready;
            opened = t.stands.opened;
            has_ranges = t.stands.ranges;
            keeps = t.keeps;
            held = (t.held, has);
          });
    }

    has_keys : slice_get kernel.workspaces 0 ≡ Some (length keys)
    has_keys = ap (λ ns. slice_get ns 0) spaces ∙ ap Some (sym many)

    has_list : 0 < kernel.lists
    has_list = let one = e.further in omega (arith, lists, one)

    few_lists : emitted.lists ≤ kernel.lists
    few_lists = omega (arith, lists)

    body_is : kernel.body ≡ (top ++ code) ++ (sorting_code 0 0 ++ fills.drain)
    body_is = body ∙ ap (λ fs. (top ++ code) ++ fs) fills.is

    -- a run
    module _ (store : Store) (is : IsStoreOf s formats store) (arrays : Arrays) (given : IsGiven a.zero store arrays) where
      abbrev IsTold : KernelOutcome → Type 0
      IsTold outcome =
          IsRightOutcome a s (told_by a s store) store outcome
          × MakesTurns s (told_by a s store) (letters_of store.format) (pushes.most store) outcome

      told : Ends a (length store.format) kernel arrays IsTold
      told =
          sparse_kernels_are_right a laws s formats f c in_order loops l.rows l.words k many 0 places at top code fills.drain
          tops 1 emitted.lists pushes 0 0 (omega arith) fills.drains kernel has_keys has_list few_lists body_is store is arrays given

      few_turns : (o : KernelOutcome) → IsTold o → AreFewTurns s formats order store o
      few_turns (Finished left turns) h =
          within_cost a laws s formats order loops l store (read_store store is) (pushes.most store)
          (e.few (operands_in s store) (slice_index store.ranges) start) turns h.1.merges h.1.skips h.1.gathers
      few_turns (GotStuck statement) h = absurd h.1
      few_turns (TooLong place count) h = tt
      few_turns NotFinished h = absurd h.1

      drains_few : (o : KernelOutcome) → IsTold o → DrainsFew s formats order (told_by a s store) store.format o
      drains_few (Finished left turns) h =
          few_drains s formats order store a (pushes.most store) turns called unordered
          (e.few (operands_in s store) (slice_index store.ranges) start).drains left h.1
      drains_few (GotStuck statement) h = absurd h.1
      drains_few (TooLong place count) h = tt
      drains_few NotFinished h = absurd h.1

      few_probes : (o : KernelOutcome) → IsTold o → ProbesFew s formats order store (told_by a s store) o
      few_probes (Finished left turns) h = record {
        none = λ free. absurd (clash (calls_for_workspace s formats order) called free);
        within = λ some. record {
          points = h.1.points;
          have = h.1.have;
          few = λ width are narrow.
              let cost = statement_cost s formats order (stored_of s (operand_of store)) (slice_index store.ranges) in
              let loops_made = within_searches a laws s formats order loops l store (read_store store is) (pushes.most store)
              (e.few (operands_in s store) (slice_index store.ranges) start) (pushes.most store Probe) (omega arith) width are in
              searches_add (turns Probe) (pushes.most store Probe) width (length s.accesses * cost) (length (letters_of store.format))
              (length store.format) h.1.points (length-map store.format (λ (level : FormatLevel). level.letter)) loops_made
              (h.1.probes width narrow);
        };
      }
      few_probes (GotStuck statement) h = absurd h.1
      few_probes (TooLong place count) h = tt
      few_probes NotFinished h = absurd h.1

      -- there is no one key alone
      large_key : (o : KernelOutcome) → IsTold o → NeedsLargeKey s formats order store o
      large_key (Finished left turns) h = tt
      large_key (GotStuck statement) h = absurd h.1
      large_key (TooLong (Level level) count) h = tt
      large_key (TooLong Workspace count) h = λ v alone.
          let all : workspace_keys s formats order ≡ keys = ap (λ b. if b then keys else tail_of s order) unordered in
          let one : length keys ≡ 1 = ap length (sym all ∙ alone) in
          absurd (several (sym many ∙ one))
      large_key NotFinished h = absurd h.1

    right_kernel : IsRightKernel a s formats kernel
    right_kernel store is arrays given =
        ends_weaker a (length store.format) kernel arrays (IsTold store is arrays given) (IsRightOutcome a s (told_by a s store) store)
        (λ o h. h.0) (told store is arrays given)

    pub sparse_compiled : IsCompiled a s formats order kernel
    sparse_compiled = record {
      right = right_kernel;
      sound = right_is_sound a s formats kernel right_kernel;
      few = λ store is arrays given. ends_weaker a (length store.format) kernel arrays (IsTold store is arrays given)
          (AreFewTurns s formats order store) (few_turns store is arrays given) (told store is arrays given);
      drains = λ store is arrays given. ends_weaker a (length store.format) kernel arrays (IsTold store is arrays given)
          (DrainsFew s formats order (told_by a s store) store.format) (drains_few store is arrays given) (told store is arrays given);
      probes = λ store is arrays given. ends_weaker a (length store.format) kernel arrays (IsTold store is arrays given)
          (ProbesFew s formats order store (told_by a s store)) (few_probes store is arrays given) (told store is arrays given);
      bare = λ free. absurd (clash (calls_for_workspace s formats order) called free);
      direct = λ free. absurd (clash (calls_for_workspace s formats order) called free);
      heads = λ sorted. absurd (clash (list_any is_unordered (result_levels s formats)) unordered sorted);
      keyed = λ some. spaces
          ∙ sym (ap (λ b. if b then tail_workspaces (length s.left.vars) else tail_workspaces (length (tail_of s order))) unordered
          ∙ ap (λ b. if b then (1 ∷ 1 ∷ []) else (length s.left.vars ∷ [])) (apart_test (length s.left.vars) 1 several));
      marked = λ some store is arrays given. ends_weaker a (length store.format) kernel arrays (IsTold store is arrays given)
          (NeedsLargeKey s formats order store) (large_key store is arrays given) (told store is arrays given);
    }
