-- A kernel whose code appends rows to its result out of a workspace inside its outer loops is compiled where the statement calls for one:
-- it is right and sound, its loops turn no more often than the statement costs, and it drains no more rows than the support has points.
use Rattle.std.specs.Prelude.{◌≡◌, ℕ, ◌+◌, ◌*◌, ◌≤◌, true, if◌then◌else◌, List, [], ◌++◌, length, take, drop, slice_index, refl}
use Rattle.std.proofs.Common.{◌∙◌, sym, ap, subst, arith}
use Rattle.std.proofs.lemmas.List.{length-map, take-append-drop}
use Rattle.std.proofs.lemmas.Nat.{mul-le}
use Rattle.numbers.specs.Arithmetic.{Arithmetic, Laws}
use Rattle.kernel_code.specs.declared.syntax.Kernel.{Kernel}
use Rattle.kernel_code.specs.declared.syntax.KStmt.{KStmt}
use Rattle.kernel_code.specs.declared.syntax.LoopKind.{LoopKind}
use Rattle.kernel_code.specs.declared.syntax.LoopKind.TheVariants.{Merge, Skip, Gather, Drain, Probe}
use Rattle.kernel_code.specs.declared.syntax.Place.{Place}
use Rattle.kernel_code.specs.declared.syntax.Place.TheVariants.{Level, Workspace}
use Rattle.kernel_code.specs.Kernels.{KernelOutcome, Finished, GotStuck, TooLong, NotFinished}
use Rattle.level_core.specs.Meaning.{Arrays}
use Rattle.format_spec.specs.declared.format.FormatLevel.{FormatLevel}
use Rattle.format_spec.specs.Formats.{letters_of}
use Rattle.tensor_map.specs.Entries.{Entry}
use Rattle.index_notation.specs.declared.syntax.Statement.{Statement}
use Rattle.iteration_graph.specs.Edges.{format_of}
use Rattle.concrete_notation.specs.declared.concrete.Concrete.{Concrete}
use Rattle.concrete_notation.specs.Contributions.{sums_of}
use Rattle.concrete_notation.specs.Nests.{left_in_order}
use Rattle.loop_code.specs.declared.loops.LoopCode.{LoopCode}
use Rattle.loop_code.specs.Loops.{contributions, start}
use Rattle.lowering.specs.Layouts.{layout_of}
use Rattle.lowering.specs.Lowered.{IsInOrder}
use Rattle.lowering.specs.Right.{rows_to}
use Rattle.lowering.specs.Stored.{stored_of}
use Rattle.result_targets.specs.Sinks.{Sink}
use Rattle.term_code.specs.declared.places.Places.{Places}
use Rattle.term_code.specs.Places.{StartsAt}
use Rattle.operand_arrays.specs.Apart.{AreOutside}
use Rattle.operand_arrays.specs.Operands.{stored_in}
use Rattle.operand_arrays.specs.Terms.{TargetIsBound}
use Rattle.kernel_correctness.specs.Kernels.{Ends, IsRightKernel, IsRightOutcome}
use Rattle.kernel_correctness.proofs.Sound.{right_is_sound}
use Rattle.kernel_correctness.specs.Stores.{Store, IsStoreOf, IsGiven, operand_of, told_by}
use Rattle.dense_results.specs.Kernels.{AreAtBase}
use Rattle.dense_results.specs.Operands.{IsReadStore, operands_in}
use Rattle.dense_results.proofs.Loops.{lowered_loops_go_through}
use Rattle.kernel_correctness.proofs.FlatStores.{flat_sums}
use Rattle.kernel_emit.specs.Emitted.{AreFew}
use Rattle.row_orders.specs.Takings.{calls_for_workspace}
use Rattle.row_orders.proofs.Lists.{clash}
use Rattle.sparse_results.specs.Results.{AreRowsOfResult}
use Rattle.sparse_kernels.proofs.Ends.{ends_weaker}
use Rattle.sparse_kernels.proofs.Points.{has_points}
use Rattle.statement_costs.specs.Costs.{statement_cost}
use Rattle.appended_results.specs.Begins.{BeginsFirst}
use Rattle.appended_results.specs.Ends.{EndsFirst}
use Rattle.appended_results.specs.Heads.{IsHead}
use Rattle.appended_results.specs.declared.sink.AppendedSink.{AppendedSink}
use Rattle.appended_results.specs.Sink.{letters_in}
use Rattle.appended_kernels.specs.Kernels.{AppendsFromTop, AreAppendedLoops, IsForAppended, IsSinkOf, MakesNoMore}
use Rattle.appended_kernels.specs.Kernels.{RefusesOnly, behind}
use Rattle.appended_kernels.proofs.Kernels.{appended_kernels_are_right}
use Rattle.appended_kernels.proofs.Rows.{are_rows}
use Rattle.drained_workspaces.specs.Draining.{Draining}
use Rattle.head_pairs.specs.Heads.{AreAtOneHead, head_variables}
use Rattle.grouped_loops.specs.Chains.{IsChain}
use Rattle.grouped_loops.specs.declared.grouped.Grouped.{Grouped}
use Rattle.grouped_kernels.proofs.Counts.{sums_few}
use Rattle.grouped_kernels.specs.Kernels.{AtOneHead, GroupsFromTop}
use Rattle.grouped_kernels.proofs.Groups.{appends_by_groups}
use Rattle.taco_compiler.specs.Compiled.{AreFewTurns, DrainsFew, IsCompiled, NeedsLargeKey, NeedsOneHead, ProbesFew}
use Rattle.taco_compiler.specs.Loops.{AreLoopsOf}
use Rattle.taco_compiler.specs.Tails.{tail_of, tail_workspaces, workspace_keys}
use Rattle.taco_compiler.proofs.LoopTurns.{in_order_of, within_cost, within_searches}
use Rattle.taco_compiler.proofs.Targets.{keys_bound}

-- turns of all kinds but those of drains
abbrev undrained : (LoopKind → ℕ) → LoopKind → ℕ
undrained most Merge = most Merge
undrained most Skip = most Skip
undrained most Gather = most Gather
undrained most Drain = 0
undrained most Probe = most Probe

module _ (a : Arithmetic) (laws : Laws a) (s : Statement) (formats : List (List FormatLevel)) (order : List ℕ)
    (f : IsForAppended s formats) (called : calls_for_workspace s formats order ≡ true) (loops : LoopCode)
    (l : AreLoopsOf s formats order loops) where
  abbrev c : Concrete
  c = l.concrete

  abbrev in_order : IsInOrder s formats c
  in_order = in_order_of s formats order loops l

  abbrev keys : List ℕ
  keys = left_in_order s order

  read_store : (store : Store) → IsStoreOf s formats store → IsReadStore s formats store
  read_store store is = record { numbered = f.ordered.numbered; named = f.ordered.named; flat = f.flat; read = f.read; is = is }

  own_loops : AreAppendedLoops s formats c loops
  own_loops = record { shares = l.shares; none = l.none; rows = l.rows; shape = l.shape; words = l.words }

  pub bound_there : TargetIsBound (left_in_order s order) [] loops
  bound_there =
      keys_bound s formats f.ordered order l.is_order loops
      (lowered_loops_go_through s f.ordered.numbered formats (flat_sums s formats f.flat) c in_order loops l.shape l.starts true).bound

  module _ {W : Type 0} (within : Sink W) (drains : Draining W) (g : Grouped W AppendedSink) (own : IsSinkOf a formats g.outer.now)
      (places : Places) (at : AreAtBase s (behind g.outer.now) places) (from : AreOutside 0 (behind g.outer.now) places)
      (top begin ready emitted end : List KStmt) (tops : StartsAt (behind g.outer.now) top)
      (begins : BeginsFirst (letters_in g.outer.now) (length g.outer.now.levels) g.outer.now.base (length g.outer.now.levels) begin)
      (free past : ℕ) (spaces : List ℕ) (groups : GroupsFromTop a within drains g s formats order places loops free past spaces
      ready emitted)
      (chain : IsChain (take g.first keys) loops) (head : take g.first keys ≡ head_variables s order)
      (rest : drop g.first keys ≡ tail_of s order) (ended : ℕ)
      (ending : EndsFirst (letters_in g.outer.now) g.outer.now.base ended (length g.outer.now.levels) end) (kernel : Kernel)
      (declared : kernel.workspaces ≡ spaces) (sized : spaces ≡ tail_workspaces (length (tail_of s order))) (lists : past ≤ kernel.lists)
      (body : kernel.body ≡ ((top ++ begin) ++ (ready ++ emitted)) ++ end) where
    abbrev k : AppendedSink
    k = g.outer.now

    abbrev Allowed : Store → Place → ℕ → Type 0
    Allowed = AtOneHead a s order g.first

    abbrev appends : AppendsFromTop a k s formats places keys loops 0 past spaces Allowed (ready ++ emitted)
    appends = appends_by_groups a laws s formats c in_order f loops own_loops within drains g own places free past spaces ready
        emitted groups

    -- a run
    module _ (store : Store) (is : IsStoreOf s formats store) (arrays : Arrays) (given : IsGiven a.zero store arrays) where
      abbrev IsTold : KernelOutcome → Type 0
      IsTold outcome =
          IsRightOutcome a s (told_by a s store) store outcome × MakesNoMore (appends.most store) outcome
          × RefusesOnly (Allowed store) outcome

      told : Ends a (length store.format) kernel arrays IsTold
      told =
          appended_kernels_are_right a laws s formats c in_order f loops own_loops k own (behind k) places at from (omega arith) top begin
          (ready ++ emitted) end tops begins 0 past spaces Allowed appends ended ending kernel lists declared body store is arrays given

      abbrev most : LoopKind → ℕ
      most = groups.adds.most (operands_in s store) (slice_index store.ranges) start

      few_made : AreFew s formats loops (operands_in s store) (slice_index store.ranges) start (undrained most)
      few_made =
          let few = groups.adds.few (operands_in s store) (slice_index store.ranges) start in
          record { merges = few.merges; skips = few.skips; gathers = few.gathers; probes = few.probes; drains = refl }

      few_turns : (o : KernelOutcome) → IsTold o → AreFewTurns s formats order store o
      few_turns (Finished left turns) h =
          within_cost a laws s formats order loops l store (read_store store is) (undrained most) few_made turns (h.1 Merge) (h.1 Skip)
          (h.1 Gather)
      few_turns (GotStuck statement) h = absurd h.1
      few_turns (TooLong place count) h = tt
      few_turns NotFinished h = absurd h.1

      -- the sums are as many as the support has points
      abbrev sums : List Entry
      sums = sums_of a (rows_to a s formats (told_by a s store) (stored_in (operands_in s store)) keys loops)

      are : AreRowsOfResult a s store sums
      are = are_rows a laws s formats c in_order f loops own_loops store is

      many : length s.left.vars ≡ length store.format
      many =
          sym f.ordered.left.order ∙ ap (λ t. length (format_of formats t)) f.ordered.named.result ∙ ap length (sym is.format_is)

      some_level : 1 ≤ length store.format
      some_level =
          let head = subst (λ (levels : List FormatLevel). IsHead (letters_of levels) k.head) (sym is.format_is) own.head in
          let some = head.some in
          let deep = head.within in
          let letters = length-map store.format (λ (level : FormatLevel). level.letter) in
          omega (arith, some, deep, letters)

      drained_few : most Drain ≤ length sums
      drained_few =
          let o = operands_in s store in
          let ranges = slice_index store.ranges in
          let few = (groups.adds.few o ranges start).drains in
          let all = sums_few a s formats (drop g.first keys) o ranges (take g.first keys) [] (λ j. 0) loops start l.placed chain in
          let whole = ap (λ vs. length (sums_of a (contributions a (layout_of s formats) (stored_in o) ranges vs loops start)))
          (take-append-drop g.first keys) in
          omega (arith, few, all, whole)

      drains_few : (o : KernelOutcome) → IsTold o → DrainsFew s formats order (told_by a s store) store.format o
      drains_few (Finished left turns) h = record {
        none = λ free. absurd (clash (calls_for_workspace s formats order) called free);
        within = λ some. record {
          points = length sums;
          have = has_points a s store sums are is.format many;
          few =
              let made = h.1 Drain in
              let drained = drained_few in
              let level = some_level in
              let product = mul-le 1 (length sums) (2 * length store.format) (length sums) (omega (arith, level)) (omega arith) in
              omega (arith, made, drained, product);
        };
        once = λ some sorted. record {
          points = length sums;
          have = has_points a s store sums are is.format many;
          few = let made = h.1 Drain in let drained = drained_few in omega (arith, made, drained);
        };
      }
      drains_few (GotStuck statement) h = absurd h.1
      drains_few (TooLong place count) h = tt
      drains_few NotFinished h = absurd h.1

      abbrev searches : ℕ
      searches = length s.accesses * statement_cost s formats order (stored_of s (operand_of store)) (slice_index store.ranges)

      few_probes : (o : KernelOutcome) → IsTold o → ProbesFew s formats order store (told_by a s store) o
      few_probes (Finished left turns) h = record {
        none = λ free. absurd (clash (calls_for_workspace s formats order) called free);
        within = λ some. record {
          points = length sums;
          have = has_points a s store sums are is.format many;
          few = λ width wide narrow.
              let made = within_searches a laws s formats order loops l store (read_store store is) (undrained most) few_made (turns Probe)
              (h.1 Probe) width wide in
              let more = mul-le width searches width (searches + length store.format * length sums) (omega arith) (omega arith) in
              omega (arith, made, more);
        };
      }
      few_probes (GotStuck statement) h = absurd h.1
      few_probes (TooLong place count) h = tt
      few_probes NotFinished h = absurd h.1

      one_head : (o : KernelOutcome) → IsTold o → NeedsOneHead s order (told_by a s store) o
      one_head (Finished left turns) h = tt
      one_head (GotStuck statement) h = absurd h.1
      one_head (TooLong (Level level) count) h = tt
      one_head (TooLong Workspace count) h = subst (λ vars. AreAtOneHead s order vars (told_by a s store) count) head h.2.few
      one_head NotFinished h = absurd h.1

      tail_keys : workspace_keys s formats order ≡ drop g.first keys
      tail_keys = ap (λ b. if b then keys else tail_of s order) f.sorted ∙ sym rest

      large_key : (o : KernelOutcome) → IsTold o → NeedsLargeKey s formats order store o
      large_key (Finished left turns) h = tt
      large_key (GotStuck statement) h = absurd h.1
      large_key (TooLong (Level level) count) h = tt
      large_key (TooLong Workspace count) h = λ v alone. h.2.large v (sym tail_keys ∙ alone)
      large_key NotFinished h = absurd h.1

    right_kernel : IsRightKernel a s formats kernel
    right_kernel store is arrays given =
        ends_weaker a (length store.format) kernel arrays (IsTold store is arrays given) (IsRightOutcome a s (told_by a s store) store)
        (λ o h. h.0) (told store is arrays given)

    pub grouped_compiled : IsCompiled a s formats order kernel
    grouped_compiled = record {
      right = right_kernel;
      sound = right_is_sound a s formats kernel right_kernel;
      few = λ store is arrays given. ends_weaker a (length store.format) kernel arrays (IsTold store is arrays given)
          (AreFewTurns s formats order store) (few_turns store is arrays given) (told store is arrays given);
      drains = λ store is arrays given. ends_weaker a (length store.format) kernel arrays (IsTold store is arrays given)
          (DrainsFew s formats order (told_by a s store) store.format) (drains_few store is arrays given) (told store is arrays given);
      probes = λ store is arrays given. ends_weaker a (length store.format) kernel arrays (IsTold store is arrays given)
          (ProbesFew s formats order store (told_by a s store)) (few_probes store is arrays given) (told store is arrays given);
      bare = λ free. absurd (clash (calls_for_workspace s formats order) called free);
      direct = λ free. absurd (clash (calls_for_workspace s formats order) called free);
      heads = λ sorted store is arrays given. ends_weaker a (length store.format) kernel arrays (IsTold store is arrays given)
          (NeedsOneHead s order (told_by a s store)) (one_head store is arrays given) (told store is arrays given);
      keyed = λ some. declared ∙ sized
          ∙ sym (ap (λ b. if b then tail_workspaces (length s.left.vars) else tail_workspaces (length (tail_of s order))) f.sorted);
      marked = λ some store is arrays given. ends_weaker a (length store.format) kernel arrays (IsTold store is arrays given)
          (NeedsLargeKey s formats order store) (large_key store is arrays given) (told store is arrays given);
    }
