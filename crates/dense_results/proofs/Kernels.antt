-- Kernels of code that adds the rows of a statement's loops to a dense result are right.
use Rattle.std.specs.Prelude.{◌≡◌, ℕ, ◌≤◌, zero, suc, ◌<◌, ◌==◌, false, List, [], ◌∷◌, ◌++◌, length, map, Some, slice_get, refl}
use Rattle.std.proofs.Common.{◌∙◌, sym, ap, subst, arith, inr}
use Rattle.std.proofs.lemmas.Bool.Decides.{nat_tests}
use Rattle.numbers.specs.Arithmetic.{Arithmetic, Laws}
use Rattle.kernel_code.specs.declared.syntax.Arr.{Arr}
use Rattle.kernel_code.specs.declared.syntax.Arr.TheVariants.{Range, Values, Dimension, Ends, Coordinates, Width, Key, Sums}
use Rattle.kernel_code.specs.declared.syntax.Arr.TheVariants.{ListCoordinates, ListPositions}
use Rattle.kernel_code.specs.declared.syntax.Kernel.{Kernel}
use Rattle.kernel_code.specs.declared.syntax.KStmt.{KStmt}
use Rattle.kernel_code.specs.declared.syntax.LoopKind.{LoopKind}
use Rattle.kernel_code.specs.Arrays.{same_arr}
use Rattle.kernel_code.specs.Does.{Does, Refusal, Never}
use Rattle.kernel_code.specs.Kernels.{KernelOutcome, Finished, GotStuck, TooLong, NotFinished, setting_of, start_state}
use Rattle.kernel_code.specs.Keeps.{Leaves, NoVariable, EveryArray, no_turns}
use Rattle.kernel_code.specs.Meaning.{Setting, State}
use Rattle.kernel_code.proofs.Does.{does_append, does_weaker}
use Rattle.level_core.specs.Entries.{one}
use Rattle.level_core.specs.Fragments.{RefusedWithin}
use Rattle.level_core.specs.Meaning.{Arrays}
use Rattle.level_cursors.specs.Children.{ChildLeft}
use Rattle.format_spec.specs.declared.format.FormatLevel.{FormatLevel}
use Rattle.format_spec.specs.Formats.{modes_of}
use Rattle.index_notation.specs.declared.syntax.Access.{Access}
use Rattle.index_notation.specs.declared.syntax.Statement.{Statement}
use Rattle.iteration_graph.specs.Edges.{format_of}
use Rattle.concrete_notation.specs.declared.concrete.Concrete.{Concrete}
use Rattle.concrete_notation.specs.Workspaces.{AreAllDense}
use Rattle.tensor_map.specs.Entries.{Entry}
use Rattle.loop_code.specs.declared.loops.LoopCode.{LoopCode}
use Rattle.lowering.specs.Lowered.{AddsRows, IsInOrder}
use Rattle.lowering.specs.Right.{HaveValues, rows_to}
use Rattle.lowering.proofs.RightLoops.{are_right}
use Rattle.term_code.specs.declared.dense_sink.DenseSink.{DenseSink}
use Rattle.term_code.specs.declared.places.AccessPlace.{AccessPlace}
use Rattle.term_code.specs.declared.places.Places.{Places}
use Rattle.term_code.specs.DenseSinks.{HoldsSums, dense_sink}
use Rattle.term_code.specs.Places.{StartsAt, new_access}
use Rattle.kernel_correctness.specs.CodeEnds.{ToldOf}
use Rattle.kernel_correctness.specs.Kernels.{IsRightOutcome, Ends as EndsSo}
use Rattle.kernel_correctness.specs.Results.{LeavesResult}
use Rattle.kernel_correctness.specs.Stores.{Store, IsStoreOf, IsGiven, told_by}
use Rattle.kernel_correctness.proofs.CodeEnds.{ends_as_code_does}
use Rattle.kernel_correctness.proofs.Starts.{starts_on_store}
use Rattle.operand_arrays.specs.Operands.{stored_in, IsOfOperands}
use Rattle.result_targets.specs.Beside.{beside_lists}
use Rattle.result_targets.specs.Sinks.{Sink}
use Rattle.result_targets.proofs.Scratch.{lists_kept, lists_start}
use Rattle.dense_results.specs.Kernels.{AreAtBase, StartsAreTops, AddsFromTop, IsForDense, DenseKernelsAreRight}
use Rattle.dense_results.specs.Operands.{IsReadStore, first_summed, operands_in}
use Rattle.dense_results.specs.Results.{IsDenseStore, left_ranges}
use Rattle.dense_results.proofs.Ends.{sums_are_results}
use Rattle.dense_results.proofs.Operands.{arrays_stand, told}
use Rattle.dense_results.proofs.Starts.{starts_without_rows}

-- what the operands' arrays are, the values of the result aren't
operands_kept : (b : Arr) → IsOfOperands b → same_arr (Values 0) b ≡ false
operands_kept Range h = refl
operands_kept (Values n) h = apart n h
  where
    apart : (n : ℕ) → 0 < n → (0 == n) ≡ false
    apart zero g = absurd (omega (arith, g))
    apart (suc m) g = grind (arith, nat_tests)
operands_kept (Dimension n k) h = refl
operands_kept (Ends n k) h = refl
operands_kept (Coordinates n k) h = refl
operands_kept (Width n k) h = refl
operands_kept (Key n k) h = absurd h
operands_kept (Sums n) h = absurd h
operands_kept (ListCoordinates n) h = absurd h
operands_kept (ListPositions n) h = absurd h

-- the place of each access, before all loops
record IsNew (base real : ℕ) (all : List Access) (k : ℕ) (p : AccessPlace) : Type 0 where
  access : Access
  is : slice_get all k ≡ Some access
  place : p ≡ new_access base real access.tensor

some_same : (p q : AccessPlace) → Some p ≡ Some q → p ≡ q
some_same p q h = cc

place_new : (base real : ℕ) (all : List Access) (k : ℕ) (p : AccessPlace)
    → slice_get (map (new_access base real) (map (λ (x : Access). x.tensor) all)) k ≡ Some p → IsNew base real all k p
place_new base real [] k p is = absurd (cc)
place_new base real (x ∷ all) zero p is =
    record { access = x; is = refl; place = sym (some_same (new_access base real x.tensor) p is) }
place_new base real (x ∷ all) (suc k) p is =
    let n = place_new base real all k p is in record { access = n.access; is = n.is; place = n.place }

pub starts_are_tops : StartsAreTops
starts_are_tops a k s formats store d r modes base places at st given left = record {
  stands = arrays_stand s formats store r a.zero st.arrays given places.accesses (λ j p is.
      let n = new j p is in
      (n.access, n.is, ap (λ (q : AccessPlace). q.tensor) n.place, ap (λ (q : AccessPlace). q.is_sum) n.place));
  keeps = record {
    points = λ v h. absurd (cc);
    cursors = λ j p is.
        let n = new j p is in
        subst (λ b. ChildLeft b (Some (one 0)) st) (sym (ap (λ (q : AccessPlace). q.cursor) n.place)) left;
  };
  from = record { variables = λ j d h. inr (omega arith); accesses = λ j p is. inr (omega arith) };
  none = λ y no. absurd no;
  kept = operands_kept;
  held = subst (λ ms. HoldsSums ms a (left_ranges s store) [] st.arrays) (sym modes)
      (starts_without_rows a s formats store d st.arrays given);
}
  where
    new : (j : ℕ) (p : AccessPlace) → slice_get places.accesses j ≡ Some p → IsNew base (first_summed s) s.accesses j p
    new j p is = place_new base (first_summed s) s.accesses j p (ap (λ ps. slice_get ps j) (sym at) ∙ is)

-- a run that ends as told is right where its end is, and where no growth is refused
right_told : (a : Arithmetic) (s : Statement) (store : Store) (order : ℕ) (P : State → Type 0) (R : Refusal)
    → ((t : State) → P t → LeavesResult a s (told_by a s store) store t.arrays)
    → ((t : LoopKind → ℕ) (b : Arr) (count : ℕ) → R t b count → ⊥)
    → (o : KernelOutcome) → ToldOf order P R o → IsRightOutcome a s (told_by a s store) store o
right_told a s store order P R leaves never (Finished arrays turns) h =
    subst (LeavesResult a s (told_by a s store) store) h.2 (leaves h.0 h.1)
right_told a s store order P R leaves never (GotStuck statement) h = absurd h
right_told a s store order P R leaves never (TooLong place count) h = absurd (never h.0 h.1.0 count h.1.1)
right_told a s store order P R leaves never NotFinished h = absurd h

module _ (a : Arithmetic) (laws : Laws a) (s : Statement) (formats : List (List FormatLevel)) (f : IsForDense s formats)
    (c : Concrete) (in_order : IsInOrder s formats c) (loops : LoopCode) (adds : AddsRows s formats c loops) (store : Store)
    (is : IsStoreOf s formats store) where
  dense_store : IsDenseStore s formats store
  dense_store = record { named = f.named; left = f.left; dense = subst AreAllDense (sym is.format_is) f.dense; is = is }

  read_store : IsReadStore s formats store
  read_store = record { numbered = f.numbered; named = f.named; flat = f.flat; read = f.read; is = is }

  abbrev rows : List Entry
  rows = rows_to a s formats (told_by a s store) (stored_in (operands_in s store)) s.left.vars loops

  have_values : HaveValues a s (told_by a s store) rows
  have_values =
      let t = told s formats store read_store a laws in
      (are_right s f.numbered formats c in_order f.named loops adds).added a laws (told_by a s store) (stored_in (operands_in s store))
      t.held t.elsewhere

  leaves : (arrays : Arrays) → HoldsSums (modes_of store.format) a (left_ranges s store) rows arrays
      → LeavesResult a s (told_by a s store) store arrays
  leaves arrays h = sums_are_results a laws s formats store dense_store rows have_values arrays h

  -- from the start of a run, behind code that puts each access at its top, the rows are added
  module _ (k : DenseSink) (modes : k.modes ≡ modes_of (format_of formats 0)) (base : ℕ) (places : Places) (at : AreAtBase s base places)
      (top code : List KStmt) (tops : StartsAt base top) (list past : ℕ)
      (adds_code : AddsFromTop a k s formats places loops list past code) (kernel : Kernel) (few : past ≤ kernel.lists) (arrays : Arrays)
      (given : IsGiven a.zero store arrays) where
    abbrev setting : Setting
    setting = setting_of false a kernel

    abbrev begin : State
    begin = start_state kernel arrays

    abbrev HoldsRows : State → Type 0
    HoldsRows t = HoldsSums (modes_of store.format) a (left_ranges s store) rows t.arrays

    abbrev HasTop : State → Type 0
    HasTop t = Leaves NoVariable EveryArray base no_turns begin t × ChildLeft base (Some (one 0)) t

    abbrev sink : Sink DenseSink
    sink = beside_lists dense_sink list past

    same_modes : k.modes ≡ modes_of store.format
    same_modes = modes ∙ ap modes_of (sym is.format_is)

    behind : (t : State) → HasTop t → Does setting code t HoldsRows Never
    behind t h =
        let arrays_same : begin.arrays ≡ t.arrays = λ i b. sym (h.0.arrays b tt) i in
        let given_here : IsGiven a.zero store t.arrays =
        subst (IsGiven a.zero store) arrays_same (starts_on_store a.zero store kernel arrays given) in
        let there = starts_are_tops a k s formats store dense_store read_store same_modes base places at t given_here h.1 in
        let has = lists_kept list past begin t (λ b. h.0.arrays b tt) (lists_start kernel arrays list past few) in
        does_weaker setting code t (λ u. Leaves (dense_sink.mine k) (sink.kept k) adds_code.free (adds_code.most store) t u
        × sink.holds k a (left_ranges s store) ([] ++ rows) u) HoldsRows
        (RefusedWithin (adds_code.most store) t (dense_sink.refused k (left_ranges s store) ([] ++ rows))) Never
        (adds_code.adds setting refl store dense_store read_store t there has)
        (λ u p. subst (λ ms. HoldsSums ms a (left_ranges s store) rows u.arrays) same_modes p.1.0)
        (λ turns b count r. r.1)

    ends : kernel.body ≡ top ++ code
        → EndsSo a (length store.format) kernel arrays (IsRightOutcome a s (told_by a s store) store)
    ends body =
        let e = ends_as_code_does a (length store.format) kernel arrays HoldsRows Never
        (subst (λ (b : List KStmt). Does setting b begin HoldsRows Never) (sym body)
        (does_append setting top code begin HasTop HoldsRows Never (tops setting begin) behind)) in
        record {
          turns = e.turns;
          outcome = e.outcome;
          is = e.is;
          appends = e.appends;
          so = right_told a s store (length store.format) HoldsRows Never (λ t h. leaves t.arrays h) (λ t b count no. no) e.outcome e.so;
        }

pub dense_kernels_are_right : DenseKernelsAreRight
dense_kernels_are_right a laws s formats f c in_order loops adds k modes base places at top code tops list past adds_code kernel few body
    store is arrays given =
    ends a laws s formats f c in_order loops adds store is k modes base places at top code tops list past adds_code kernel few arrays given
    body
