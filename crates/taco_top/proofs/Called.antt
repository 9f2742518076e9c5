-- A kernel of a statement is refused a workspace only where the statement calls for one, where each level of the result has an order only
-- where one head needs so many pairs, and where one variable alone is the key only where that one's range is too large for marks.
use Rattle.std.specs.Prelude.{◌≡◌, ℕ, ◌<◌, Bool, true, false, List, length, Option, None, Some, Ok, Vec, refl}
use Rattle.std.specs.List.{list_any}
use Rattle.std.proofs.Common.{◌∙◌, ap, subst, arith}
use Rattle.limits.specs.Limits.{greatest_position_count}
use Rattle.numbers.specs.Arithmetic.{Arithmetic}
use Rattle.std.specs.declared.alloc.Global.{Global}
use Rattle.tensor_map.specs.Entries.{Entries}
use Rattle.kernel_code.specs.declared.syntax.Kernel.{Kernel}
use Rattle.kernel_code.specs.declared.syntax.Place.TheVariants.{Workspace}
use Rattle.kernel_code.specs.Kernels.{NotFinished, TooLong}
use Rattle.format_spec.specs.declared.format.FormatLevel.{FormatLevel}
use Rattle.index_notation.specs.declared.syntax.Statement.{Statement}
use Rattle.expr_terms.specs.declared.bound.Bound.{Bound}
use Rattle.iteration_graph.specs.Edges.{format_of}
use Rattle.expr_terms.specs.Nested.{flat}
use Rattle.kernel_correctness.specs.Kernels.{looped}
use Rattle.kernel_correctness.specs.Stores.{Store, IsStoreOf, told_by}
use Rattle.kernel_correctness.proofs.LoopedStores.{multiplied_has, store_looped}
use Rattle.mode_planner.specs.declared.planned.Planned.{Planned}
use Rattle.row_orders.specs.Heads.{result_levels}
use Rattle.row_orders.specs.Takings.{calls_for_workspace, is_unordered}
use Rattle.head_pairs.specs.Heads.{AreAtOneHead, head_variables}
use Rattle.operand_packing.specs.Drawn.{drawn}
use Rattle.operand_packing.specs.Runnable.{told_ranges}
use Rattle.taco_compiler.specs.Compiled.{IsUnrefused, NeedsLargeKey, NeedsOneHead}
use Rattle.taco_compiler.specs.Tails.{HasLargeKey}
use Rattle.kernel_runs.specs.Runs.{IsStoreFor}
use Rattle.kernel_runs.specs.Steps.{StopsOn}
use Rattle.kernel_runs.proofs.Outcomes.{outcome_is}
use Rattle.kernel_runs.proofs.Fits.{same_ranges}
use Rattle.taco_top.specs.Values.{Values}
use Rattle.taco_top.specs.Told.{IsKernelOf}
use Rattle.taco_top.specs.Stored.{NeedsStoredPairs, NeedsStoredWorkspace, stored_entries, stored_formats, stored_statement}
use Rattle.taco_top.specs.Whole.{HeadsFit}

-- the statement of the loops writes the same result
looped_result : (a : Arithmetic) (s : Statement) (order : List ℕ) (formats : List (List FormatLevel))
    → result_levels (looped a s order) formats ≡ result_levels s formats
looped_result a s order formats =
    ap (λ (out : Statement). format_of formats out.left.tensor) (multiplied_has a.one s order).is

apart : (count : ℕ) → TooLong Workspace count ≡ NotFinished → ⊥
apart count e = cc

-- where none is called for, the same run ends in no such way
called_for : (over : Values) (s : Statement) (formats : List (List FormatLevel)) (order : List ℕ) (kernel : Kernel)
    → IsKernelOf over s formats order kernel → (store : Store) → IsStoreOf (flat s) formats store → (count : ℕ)
    → StopsOn over.arithmetic kernel store Workspace count
    → calls_for_workspace (looped over.arithmetic s order) formats order ≡ true
called_for over s formats order kernel is store of_s count stops =
    by (calls_for_workspace (looped over.arithmetic s order) formats order) refl
  where
    by : (b : Bool) → calls_for_workspace (looped over.arithmetic s order) formats order ≡ b
        → calls_for_workspace (looped over.arithmetic s order) formats order ≡ true
    by true t = t
    by false t =
        absurd (outcome_is over.arithmetic (length store.format) kernel stops.given IsUnrefused (TooLong Workspace count)
        (is.compiled.direct t store (store_looped over.arithmetic s order formats store of_s) stops.given stops.is_given) (λ none. none)
        stops.ends (apart count))

-- so it is of the statement as it is stored
pub pairs_called : (over : Values) (s : Statement) (formats : List (List FormatLevel)) (plan : Option Planned) (order : List ℕ)
    (kernel : Kernel) (given : List (Option ℕ)) (entries : List Entries) (bounds : List (Vec Bound Global)) (count : ℕ)
    → IsKernelOf over (stored_statement s plan) (stored_formats formats plan) order kernel
    → NeedsStoredPairs over s formats plan kernel given entries bounds count
    → calls_for_workspace (looped over.arithmetic (stored_statement s plan) order) (stored_formats formats plan) order ≡ true
pairs_called over s formats None order kernel given entries bounds count is needs =
    called_for over s formats order kernel is needs.store needs.is_store.is_store count needs.stops
pairs_called over s formats (Some plan) order kernel given entries bounds count is needs =
    called_for over plan.statement plan.formats order kernel is needs.store needs.is_store.is_store count needs.stops

-- where each level has an order, the run that is refused a workspace needs so many pairs at one head
at_one_head : (over : Values) (s : Statement) (formats : List (List FormatLevel)) (order : List ℕ) (kernel : Kernel)
    → IsKernelOf over s formats order kernel → (store : Store) → IsStoreOf (flat s) formats store → (count : ℕ)
    → StopsOn over.arithmetic kernel store Workspace count → list_any is_unordered (result_levels s formats) ≡ false
    → AreAtOneHead (looped over.arithmetic s order) order (head_variables (looped over.arithmetic s order) order)
    (told_by over.arithmetic (looped over.arithmetic s order) store) count
at_one_head over s formats order kernel is store of_s count stops sorted =
    outcome_is over.arithmetic (length store.format) kernel stops.given
    (NeedsOneHead (looped over.arithmetic s order) order (told_by over.arithmetic (looped over.arithmetic s order) store))
    (TooLong Workspace count)
    (is.compiled.heads (ap (list_any is_unordered) (looped_result over.arithmetic s order formats) ∙ sorted) store
    (store_looped over.arithmetic s order formats store of_s) stops.given stops.is_given) (λ none. none) stops.ends
    (apart count)

-- where one variable alone is the key, its range is too large for marks
large_key : (over : Values) (s : Statement) (formats : List (List FormatLevel)) (order : List ℕ) (kernel : Kernel)
    → IsKernelOf over s formats order kernel → (store : Store) → IsStoreOf (flat s) formats store → (count : ℕ)
    → StopsOn over.arithmetic kernel store Workspace count → HasLargeKey (looped over.arithmetic s order) formats order store.ranges
large_key over s formats order kernel is store of_s count stops =
    outcome_is over.arithmetic (length store.format) kernel stops.given
    (NeedsLargeKey (looped over.arithmetic s order) formats order store) (TooLong Workspace count)
    (is.compiled.marked (called_for over s formats order kernel is store of_s count stops) store
    (store_looped over.arithmetic s order formats store of_s) stops.given stops.is_given)
    (λ none. none) stops.ends (apart count)

pub workspace_needed : (over : Values) (s : Statement) (formats : List (List FormatLevel)) (plan : Option Planned) (order : List ℕ)
    (kernel : Kernel) (given : List (Option ℕ)) (entries : List Entries) (bounds : List (Vec Bound Global)) (count : ℕ)
    → IsKernelOf over (stored_statement s plan) (stored_formats formats plan) order kernel
    → NeedsStoredPairs over s formats plan kernel given entries bounds count
    → NeedsStoredWorkspace over s formats plan order kernel given entries bounds count
workspace_needed over s formats None order kernel given entries bounds count is needs = record {
  pairs = needs;
  head = at_one_head over s formats order kernel is needs.store needs.is_store.is_store count needs.stops;
  large = large_key over s formats order kernel is needs.store needs.is_store.is_store count needs.stops;
}
workspace_needed over s formats (Some plan) order kernel given entries bounds count is needs = record {
  pairs = needs;
  head = at_one_head over plan.statement plan.formats order kernel is needs.store needs.is_store.is_store count needs.stops;
  large = large_key over plan.statement plan.formats order kernel is needs.store needs.is_store.is_store count needs.stops;
}

-- ---- no head needs so many where each fits
passes_none : (a : Arithmetic) (s : Statement) (formats : List (List FormatLevel)) (order ranges own : List ℕ) (entries : List Entries)
    (store : Store) (count : ℕ) → ranges ≡ own → IsStoreFor a s formats own entries store → greatest_position_count < count
    → HeadsFit a s formats order ranges entries
    → AreAtOneHead (looped a s order) order (head_variables (looped a s order) order) (told_by a (looped a s order) store) count → ⊥
passes_none a s formats order ranges own entries store count same for passes fit one =
    let few = subst (λ rs. HeadsFit a s formats order rs entries) same fit store for one.coords in
    let many = one.many in
    omega (arith, few, many, passes)

pub heads_fit : (over : Values) (s : Statement) (formats : List (List FormatLevel)) (plan : Option Planned) (order : List ℕ)
    (kernel : Kernel) (given : List (Option ℕ)) (entries : List Entries) (bounds : List (Vec Bound Global)) (count : ℕ) (ranges : List ℕ)
    → told_ranges s given bounds ≡ Ok ranges → NeedsStoredWorkspace over s formats plan order kernel given entries bounds count
    → list_any is_unordered (result_levels (stored_statement s plan) (stored_formats formats plan)) ≡ false
    → HeadsFit over.arithmetic (stored_statement s plan) (stored_formats formats plan) order ranges (stored_entries entries plan) → ⊥
heads_fit over s formats None order kernel given entries bounds count ranges told needs sorted fit =
    let pairs = needs.pairs in
    passes_none over.arithmetic s formats order ranges pairs.ranges entries pairs.store count
    (same_ranges _ ranges pairs.ranges told pairs.ranges_are) pairs.is_store pairs.passes fit (needs.head sorted)
heads_fit over s formats (Some plan) order kernel given entries bounds count ranges told needs sorted fit =
    let pairs = needs.pairs in
    passes_none over.arithmetic plan.statement plan.formats order ranges pairs.ranges (drawn plan.origins entries) pairs.store count
    (same_ranges _ ranges pairs.ranges told pairs.ranges_are) pairs.is_store pairs.passes fit (needs.head sorted)

-- ---- the ranges of a store are those of the statement
pub large_by_ranges : (over : Values) (s : Statement) (formats : List (List FormatLevel)) (plan : Option Planned) (order : List ℕ)
    (kernel : Kernel) (given : List (Option ℕ)) (entries : List Entries) (bounds : List (Vec Bound Global)) (count : ℕ) (ranges : List ℕ)
    → told_ranges s given bounds ≡ Ok ranges → NeedsStoredWorkspace over s formats plan order kernel given entries bounds count
    → HasLargeKey (looped over.arithmetic (stored_statement s plan) order) (stored_formats formats plan) order ranges
large_by_ranges over s formats None order kernel given entries bounds count ranges told needs =
    let pairs = needs.pairs in
    subst (HasLargeKey (looped over.arithmetic s order) formats order)
    (pairs.is_store.ranges_are ∙ same_ranges _ pairs.ranges ranges pairs.ranges_are told) needs.large
large_by_ranges over s formats (Some plan) order kernel given entries bounds count ranges told needs =
    let pairs = needs.pairs in
    subst (HasLargeKey (looped over.arithmetic plan.statement order) plan.formats order)
    (pairs.is_store.ranges_are ∙ same_ranges _ pairs.ranges ranges pairs.ranges_are told) needs.large
