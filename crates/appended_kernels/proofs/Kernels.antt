-- Kernels are right whose code appends rows to the result that have the sums of the loops' rows, and then ends its levels.
use Rattle.std.specs.Prelude.{◌≡◌, ℕ, ◌+◌, ◌≤◌, ◌<◌, false, List, [], ◌++◌, length, Some, slice_get, refl}
use Rattle.std.proofs.Common.{◌∙◌, sym, ap, subst, arith}
use Rattle.std.proofs.lemmas.List.{length-map}
use Rattle.numbers.specs.Arithmetic.{Arithmetic, Laws}
use Rattle.kernel_code.specs.declared.syntax.Arr.{Arr}
use Rattle.kernel_code.specs.declared.syntax.Kernel.{Kernel}
use Rattle.kernel_code.specs.declared.syntax.KStmt.{KStmt}
use Rattle.kernel_code.specs.declared.syntax.LoopKind.{LoopKind}
use Rattle.kernel_code.specs.declared.syntax.Place.{Place}
use Rattle.kernel_code.specs.Does.{Does, Never}
use Rattle.kernel_code.specs.Kernels.{KernelOutcome, Finished, GotStuck, TooLong, NotFinished, setting_of, start_state}
use Rattle.kernel_code.specs.Keeps.{Leaves, NoVariable, EveryArray, no_turns}
use Rattle.kernel_code.specs.Meaning.{Setting, State}
use Rattle.kernel_code.proofs.Does.{does_append, does_weaker}
use Rattle.level_core.specs.Entries.{one}
use Rattle.level_core.specs.Meaning.{Arrays}
use Rattle.level_cursors.specs.Children.{ChildLeft}
use Rattle.format_spec.specs.declared.format.FormatLevel.{FormatLevel}
use Rattle.format_spec.specs.Formats.{letters_of}
use Rattle.index_notation.specs.declared.syntax.Statement.{Statement}
use Rattle.iteration_graph.specs.Edges.{format_of}
use Rattle.concrete_notation.specs.declared.concrete.Concrete.{Concrete}
use Rattle.concrete_notation.specs.Contributions.{sums_of}
use Rattle.concrete_notation.specs.Nests.{left_in_order}
use Rattle.tensor_map.specs.Entries.{Entry}
use Rattle.loop_code.specs.declared.loops.LoopCode.{LoopCode}
use Rattle.lowering.specs.Lowered.{IsInOrder}
use Rattle.lowering.specs.Right.{rows_to}
use Rattle.tensor_storage.specs.Storages.{in_level_order}
use Rattle.term_code.specs.declared.places.Places.{Places}
use Rattle.term_code.specs.Places.{StartsAt}
use Rattle.kernel_correctness.specs.CodeEnds.{ToldOf}
use Rattle.kernel_correctness.specs.Kernels.{IsRightOutcome, Ends as EndsSo}
use Rattle.kernel_correctness.specs.Results.{LeavesResult}
use Rattle.kernel_correctness.specs.Stores.{Store, IsStoreOf, IsGiven, result_sizes, told_by}
use Rattle.kernel_correctness.proofs.CodeEnds.{ends_as_code_does}
use Rattle.kernel_correctness.proofs.Starts.{starts_on_store}
use Rattle.operand_arrays.specs.Apart.{AreOutside}
use Rattle.operand_arrays.specs.Operands.{stored_in}
use Rattle.dense_results.specs.Kernels.{AreAtBase}
use Rattle.dense_results.specs.Operands.{operands_in}
use Rattle.level_rows.specs.Tables.{Increase}
use Rattle.tensor_storage.specs.Tables.{AreBelow}
use Rattle.sparse_kernels.proofs.Starts.{starts_empty}
use Rattle.sparse_results.specs.Stored.{StandForRows}
use Rattle.sparse_results.specs.Tables.{table_of}
use Rattle.sparse_results.proofs.Loops.{stores_have_small_levels}
use Rattle.sparse_results.proofs.Stored.{standing_is_result}
use Rattle.term_code.specs.WorkspaceSinks as RowsOf
use Rattle.result_targets.proofs.Scratch.{lists_kept, lists_start}
use Rattle.row_orders.specs.Heads.{result_levels}
use Rattle.appended_results.specs.Begins.{Beginning, BeginsFirst}
use Rattle.appended_results.specs.Ends.{Ending, EndsFirst}
use Rattle.appended_results.specs.Heads.{IsHead, AreAppended}
use Rattle.appended_results.specs.Results.{HoldsRows}
use Rattle.appended_results.specs.declared.sink.AppendedSink.{AppendedSink}
use Rattle.appended_results.specs.Sink.{appended_sink, letters_in}
use Rattle.appended_results.specs.Starts.{MayStart, StartsResult}
use Rattle.appended_results.proofs.StartLaws.{sink_holds_none}
use Rattle.appended_kernels.specs.Ended.{AreRowsFor}
use Rattle.appended_kernels.specs.Kernels.{IsForAppended, AreAppendedLoops, IsSinkOf, AppendsFromTop, HasAppended, HaveNoRows}
use Rattle.appended_kernels.specs.Kernels.{MakesNoMore, MayBeRefused, RefusesOnly, AppendedKernelsAreRight, behind}
use Rattle.appended_kernels.proofs.Ended.{ended_stands}
use Rattle.appended_kernels.proofs.Rows.{read_store, are_rows, rows_for}
use Rattle.appended_kernels.proofs.Starts.{starts_result, starts_few, all_appended}
use Rattle.appended_kernels.proofs.Tops.{at_top}

module _ (a : Arithmetic) (s : Statement) (store : Store) (most : LoopKind → ℕ) (Allowed : Store → Place → ℕ → Type 0) where
  -- the state leaves the result, and few turns were made
  abbrev IsDone : State → Type 0
  IsDone t = LeavesResult a s (told_by a s store) store t.arrays × ((j : LoopKind) → t.turns j ≤ most j)

  -- the growth may be refused
  abbrev MayBe : (LoopKind → ℕ) → Arr → ℕ → Type 0
  MayBe turns b count = MayBeRefused a s store Allowed b count

  done_told : (o : KernelOutcome) → ToldOf (length store.format) IsDone MayBe o
      → IsRightOutcome a s (told_by a s store) store o × MakesNoMore most o × RefusesOnly (Allowed store) o
  done_told (Finished arrays turns) h = (
    subst (LeavesResult a s (told_by a s store) store) h.2 h.1.0,
    subst (λ (made : LoopKind → ℕ). (j : LoopKind) → made j ≤ most j) h.3 h.1.1,
    tt,
  )
  done_told (GotStuck statement) h = absurd h
  done_told (TooLong place count) h =
      let r = h.1 in (
        subst (λ p. IsRightOutcome a s (told_by a s store) store (TooLong p count)) r.2 r.1.right,
        tt,
        subst (λ p. Allowed store p count) r.2 r.1.allowed,
      )
  done_told NotFinished h = absurd h

module _ (a : Arithmetic) (laws : Laws a) (s : Statement) (formats : List (List FormatLevel)) (c : Concrete)
    (in_order : IsInOrder s formats c) (f : IsForAppended s formats) (loops : LoopCode)
    (l : AreAppendedLoops s formats c loops) (store : Store) (is : IsStoreOf s formats store)
    (k : AppendedSink) (fits : IsSinkOf a formats k) where
  abbrev keys : List ℕ
  keys = left_in_order s in_order.order

  abbrev rows : List Entry
  rows = rows_to a s formats (told_by a s store) (stored_in (operands_in s store)) (left_in_order s in_order.order) loops

  same_levels : k.levels ≡ store.format
  same_levels = fits.levels ∙ sym is.format_is

  letters_many : length (letters_of store.format) ≡ length store.format
  letters_many = length-map store.format (λ (level : FormatLevel). level.letter)

  may_start : MayStart (letters_of store.format) (in_level_order store.format store.ranges) k.head
  may_start =
      let small = stores_have_small_levels s formats store is in
      record {
        is_head = subst (λ (levels : List FormatLevel). IsHead (letters_of levels) k.head) (sym is.format_is) fits.head;
        appended =
            subst (λ (levels : List FormatLevel). AreAppended (letters_of levels))
            (ap (format_of formats) f.ordered.named.result ∙ sym is.format_is)
            (all_appended (result_levels s formats) f.sorted);
        chained = is.format.chained;
        each = small.each;
        small = small.small;
        few = starts_few (letters_of store.format) (in_level_order store.format store.ranges) small.each is.few;
      }

  module _ (base : ℕ) (places : Places) (at : AreAtBase s base places) (from : AreOutside 0 (behind k) places) (apart : behind k ≤ base)
      (top begin code end : List KStmt) (tops : StartsAt base top)
      (begins : BeginsFirst (letters_in k) (length k.levels) k.base (length k.levels) begin) (list past : ℕ) (spaces : List ℕ)
      (Allowed : Store → Place → ℕ → Type 0) (appends : AppendsFromTop a k s formats places keys loops list past spaces Allowed code)
      (free : ℕ)
      (ends_code : EndsFirst (letters_in k) k.base free (length k.levels) end) (kernel : Kernel) (few : past ≤ kernel.lists)
      (declared : kernel.workspaces ≡ spaces) (arrays : Arrays) (given : IsGiven a.zero store arrays) where
    abbrev setting : Setting
    setting = setting_of false a kernel

    abbrev first : State
    first = start_state kernel arrays

    abbrev most : LoopKind → ℕ
    most = appends.most store

    abbrev IsEnd : State → Type 0
    IsEnd = IsDone a s store most Allowed

    abbrev MayEnd : (LoopKind → ℕ) → Arr → ℕ → Type 0
    MayEnd = MayBe a s store most Allowed

    abbrev held : List Entry
    held = appends.held store

    abbrev HasTop : State → Type 0
    HasTop t = Leaves NoVariable EveryArray base no_turns first t × ChildLeft base (Some (one 0)) t

    -- before the loops: the sink holds no rows
    abbrev HasBegun : State → Type 0
    HasBegun t = ((b : Arr) → t.arrays b ≡ first.arrays b) × ((j : LoopKind) → t.turns j ≤ 0) × ChildLeft base (Some (one 0)) t
        × appended_sink.holds k a store.ranges [] t

    -- behind them: it holds all
    abbrev HoldsAll : State → Type 0
    HoldsAll t = HoldsRows a (letters_of store.format) (in_level_order store.format store.ranges) k.head k.base k.zero held t
        × ((j : LoopKind) → t.turns j ≤ most j)

    given_start : IsGiven a.zero store first.arrays
    given_start = starts_on_store a.zero store kernel arrays given

    -- ---- the variables of the result are set
    from_top : (t : State) → HasTop t → Does setting begin t HasBegun MayEnd
    from_top t h =
        does_weaker setting begin t (Beginning (letters_in k) (length k.levels) k.base (base + 3) (length k.levels) t) HasBegun Never MayEnd
        (begins setting (base + 3) (omega (arith, apart)) t) begun (λ turns b count no. absurd no)
      where
        starts : StartsResult (letters_in k) (in_level_order k.levels store.ranges) k.zero t.arrays
        starts =
            subst (λ z. StartsResult (letters_in k) (in_level_order k.levels store.ranges) z t.arrays) (sym fits.zero)
            (subst (λ (levels : List FormatLevel). StartsResult (letters_of levels) (in_level_order levels store.ranges) a.zero t.arrays)
            (sym same_levels)
            (starts_result (letters_of store.format) (in_level_order store.format store.ranges) may_start.each a.zero t.arrays
            (subst (IsGiven a.zero store) (λ i b. sym (h.0.arrays b tt) i) given_start).result))

        begun : (u : State) → Beginning (letters_in k) (length k.levels) k.base (base + 3) (length k.levels) t u → HasBegun u
        begun u b = (
          (λ x. b.leaves.arrays x tt ∙ h.0.arrays x tt),
          (λ j. let made = b.leaves.turns j in let before = h.0.turns j in omega (arith, made, before)),
          (
            kept base (omega arith) (omega arith) ∙ h.1.0,
            record {
              lo = kept (base + 1) (omega arith) (omega arith) ∙ h.1.1.lo;
              hi = kept (base + 1 + 1) (omega arith) (omega arith) ∙ h.1.1.hi;
            },
          ),
          sink_holds_none k a store.ranges (base + 3) t u
              (subst (λ (levels : List FormatLevel). MayStart (letters_of levels) (in_level_order levels store.ranges) k.head)
              (sym same_levels) may_start) (sym fits.zero) starts b,
        )
          where
            kept : (y : ℕ) → base ≤ y → y < base + 3 → u.vars y ≡ t.vars y
            kept y more less = b.leaves.below y less (λ mine. let before = mine.before in omega (arith, before, more, apart))

    -- ---- the loops append their rows
    from_begun : (t : State) → HasBegun t → Does setting code t HoldsAll MayEnd
    from_begun t h =
        does_weaker setting code t (HasAppended a k store.ranges held most t) HoldsAll MayEnd MayEnd
        (appends.appends setting refl declared store is t
        (at_top a k s formats store (read_store a laws s formats c in_order f loops l store is) base places at from t given_here h.2 h.3)
        no_rows (lists_kept list past first t h.0 (lists_start kernel arrays list past few)))
        appended (λ turns b count r. r)
      where
        given_here : IsGiven a.zero store t.arrays
        given_here = subst (IsGiven a.zero store) (λ i b. sym (h.0 b) i) given_start

        no_rows : HaveNoRows spaces t
        no_rows w keys there =
            subst (RowsOf.HoldsRows w keys []) (λ i b. sym (h.0 b) i)
            (starts_empty kernel arrays w keys (subst (λ ns. slice_get ns w ≡ Some keys) (sym declared) there))

        appended : (u : State) → HasAppended a k store.ranges held most t u → HoldsAll u
        appended u p = (
          subst (λ (levels : List FormatLevel).
              HoldsRows a (letters_of levels) (in_level_order levels store.ranges) k.head k.base k.zero held u)
              same_levels p.held,
          (λ j. let made = p.turns j in let before = h.1 j in omega (arith, made, before)),
        )

    held_for : AreRowsFor a store held
    held_for =
        let all = rows_for a laws s formats c in_order f loops l store is in
        record {
          format = all.format;
          each = appends.each store is;
          order =
              subst (λ sums. Increase (table_of sums).coords (length store.format) (length sums)) (sym (appends.same store is)) all.order;
          below = subst (λ sums. AreBelow (table_of sums) (result_sizes store)) (sym (appends.same store is)) all.below;
        }

    -- ---- the levels are ended
    from_loops : (t : State) → HoldsAll t → Does setting end t IsEnd MayEnd
    from_loops t h =
        does_weaker setting end t
        (Ending (letters_of store.format) (in_level_order store.format store.ranges) h.0.heads k.base free
        (length (letters_of store.format)) t) IsEnd Never MayEnd
        (ends_here setting (in_level_order store.format store.ranges) k.head h.0.heads h.0.may t h.0.holds) ended
        (λ turns b count no. absurd no)
      where
        ends_here : EndsFirst (letters_of store.format) k.base free (length (letters_of store.format)) end
        ends_here =
            subst (λ n. EndsFirst (letters_of store.format) k.base free n end) (sym letters_many)
            (subst (λ (levels : List FormatLevel). EndsFirst (letters_of levels) k.base free (length levels) end) same_levels ends_code)

        ended : (u : State) → Ending (letters_of store.format) (in_level_order store.format store.ranges) h.0.heads k.base free
            (length (letters_of store.format)) t u → IsEnd u
        ended u e = (
          standing_is_result a s store (sums_of a rows) (are_rows a laws s formats c in_order f loops l store is) u.arrays
              (subst (λ sums. StandForRows a store sums u.arrays) (appends.same store is)
              (ended_stands a laws store held held_for k.head k.base free k.zero t u h.0 e)),
          (λ j. let made = e.leaves.turns j in let before = h.1 j in omega (arith, made, before)),
        )

    whole : Does setting (((top ++ begin) ++ code) ++ end) first IsEnd MayEnd
    whole =
        does_append setting ((top ++ begin) ++ code) end first HoldsAll IsEnd MayEnd
        (does_append setting (top ++ begin) code first HasBegun HoldsAll MayEnd
        (does_append setting top begin first HasTop HasBegun MayEnd
        (does_weaker setting top first HasTop HasTop Never MayEnd (tops setting first) (λ t h. h) (λ turns b count no. absurd no)) from_top)
        from_begun)
        from_loops

    pub ends : kernel.body ≡ ((top ++ begin) ++ code) ++ end
        → EndsSo a (length store.format) kernel arrays (λ outcome. IsRightOutcome a s (told_by a s store) store outcome
        × MakesNoMore most outcome × RefusesOnly (Allowed store) outcome)
    ends body =
        let e = ends_as_code_does a (length store.format) kernel arrays IsEnd MayEnd
        (subst (λ (b : List KStmt). Does setting b first IsEnd MayEnd) (sym body) whole) in
        record {
          turns = e.turns;
          outcome = e.outcome;
          is = e.is;
          appends = e.appends;
          so = done_told a s store most Allowed e.outcome e.so;
        }

pub appended_kernels_are_right : AppendedKernelsAreRight
appended_kernels_are_right a laws s formats c in_order f loops l k fits base places at from apart top begin code end tops begins list past
    spaces Allowed appends free ends_code kernel few declared body store is arrays given =
    ends a laws s formats c in_order f loops l store is k fits base places at from apart top begin code end tops begins list past spaces
    Allowed appends free ends_code kernel few declared arrays given body
