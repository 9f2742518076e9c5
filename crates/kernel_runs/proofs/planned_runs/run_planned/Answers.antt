use Rattle.std.specs.Prelude.{◌≡◌, ◌+◌, Ok, List, ℕ, length, slice_index_or}
use Rattle.std.proofs.Common.{◌∙◌, sym, ap, subst, arith, rules}
use Rattle.kernel_correctness.specs.Kernels.{IsRightFor}
use Rattle.operand_packing.specs.Drawn.{HaveOperands, drawn}
use Rattle.operand_packing.specs.Operands.{AreOperands}
use Rattle.operand_packing.specs.Runnable.{told_ranges}
use Rattle.operand_packing.proofs.Steps.{drawn_long}
use Rattle.kernel_runs.specs.Refused.{of_packing}
use Rattle.kernel_runs.proofs.Calls.{formats_many, may_pack_lent, unpacked_lent, enough_lent, done_lent, small_lent}
use Rattle.kernel_runs.proofs.Calls.{sound_lent, refused_lent, run_lent}
use Rattle.kernel_runs.proofs.PlannedOperands.{origins_known, planned_operands, planned_ranges}
use Rattle.kernel_runs.proofs.PlannedRuns.{planned_refusal, planned_run}
use Rattle.kernel_runs.proofs.Refusals.{pack_refusal, planned_range_refusal}
use Rattle.kernel_runs.proofs.Whole.{IsRunBy, RefusedBy}
use Rattle.kernel_runs.proofs.planned_runs.run_planned.Goals as goal

pub returns-in_err-ranges-clause-refused : goal.returns-in_err-ranges-clause-refused
returns-in_err-ranges-clause-refused g c =
    let h = planned_range_refusal g.S.Semiring.arithmetic c.args.statement.now c.args.plan.now c.args.kernel.now c.args.given.now
    c.args.operands.entries.items c.args.operands.bounds.items c.as_slice.result.now c.in_err-ranges.field-0.0 c.as_slice.ensures.value
    c.in_err-ranges.ensures.fault in
    search (rules, h)

pub pack_drawn-requires-clause-many : goal.pack_drawn-requires-clause-many
pack_drawn-requires-clause-many g c =
    let a = g.S.Semiring.arithmetic in
    let s = c.args.statement.now in
    let plan = c.args.plan.now in
    let given = c.args.given.now in
    let operands = c.args.operands.entries.items in
    let bounds = c.args.operands.bounds.items in
    let ranges = c.in_ok-ranges.ranges.items in
    let told : told_ranges s given bounds ≡ Ok ranges = ap (told_ranges s given) (sym c.as_slice.ensures.value)
    ∙ c.in_ok-ranges.ensures.ranges in
    let runnable = c.requires.runnable in
    let formats = c.as_slice-formats.result.now in
    let back : plan.formats ≡ formats = sym c.as_slice-formats.ensures in
    let are : AreOperands plan.statement formats (drawn plan.origins operands) =
    subst (λ fs. AreOperands plan.statement fs (drawn plan.origins operands)) back
    (planned_operands s runnable.formats plan runnable.planned operands runnable.runnable.operands_are) in
    let fits = planned_ranges s runnable.formats plan runnable.planned operands runnable.runnable.operands_are ranges
    (runnable.runnable.ranges_fit ranges told) in
    let lent_is : drawn c.as_slice-origins.result.now c.as_mut_slice-entries.result.now ≡ drawn plan.origins operands =
    ap (λ origins. drawn origins c.as_mut_slice-entries.result.now) c.as_slice-origins.ensures
    ∙ ap (drawn plan.origins) c.as_mut_slice-entries.ensures.value in
    formats_many a plan.statement formats (drawn plan.origins operands) are ranges fits
    ∙ ap (λ n. n + 1) (drawn_long plan.origins operands ∙ ap (λ (xs : List ℕ). length xs) (sym c.as_slice-origins.ensures))

pub pack_drawn-requires-clause-known : goal.pack_drawn-requires-clause-known
pack_drawn-requires-clause-known g c =
    let a = g.S.Semiring.arithmetic in
    let s = c.args.statement.now in
    let plan = c.args.plan.now in
    let given = c.args.given.now in
    let operands = c.args.operands.entries.items in
    let bounds = c.args.operands.bounds.items in
    let ranges = c.in_ok-ranges.ranges.items in
    let told : told_ranges s given bounds ≡ Ok ranges = ap (told_ranges s given) (sym c.as_slice.ensures.value)
    ∙ c.in_ok-ranges.ensures.ranges in
    let runnable = c.requires.runnable in
    let formats = c.as_slice-formats.result.now in
    let back : plan.formats ≡ formats = sym c.as_slice-formats.ensures in
    let are : AreOperands plan.statement formats (drawn plan.origins operands) =
    subst (λ fs. AreOperands plan.statement fs (drawn plan.origins operands)) back
    (planned_operands s runnable.formats plan runnable.planned operands runnable.runnable.operands_are) in
    let fits = planned_ranges s runnable.formats plan runnable.planned operands runnable.runnable.operands_are ranges
    (runnable.runnable.ranges_fit ranges told) in
    let lent_is : drawn c.as_slice-origins.result.now c.as_mut_slice-entries.result.now ≡ drawn plan.origins operands =
    ap (λ origins. drawn origins c.as_mut_slice-entries.result.now) c.as_slice-origins.ensures
    ∙ ap (drawn plan.origins) c.as_mut_slice-entries.ensures.value in
    subst (λ origins. HaveOperands origins c.as_mut_slice-entries.result.now) (sym c.as_slice-origins.ensures)
    (subst (HaveOperands plan.origins) (sym c.as_mut_slice-entries.ensures.value)
    (origins_known s runnable.formats plan runnable.planned operands runnable.runnable.operands_are))

pub pack_drawn-requires-clause-may : goal.pack_drawn-requires-clause-may
pack_drawn-requires-clause-may g c =
    let a = g.S.Semiring.arithmetic in
    let s = c.args.statement.now in
    let plan = c.args.plan.now in
    let given = c.args.given.now in
    let operands = c.args.operands.entries.items in
    let bounds = c.args.operands.bounds.items in
    let ranges = c.in_ok-ranges.ranges.items in
    let told : told_ranges s given bounds ≡ Ok ranges = ap (told_ranges s given) (sym c.as_slice.ensures.value)
    ∙ c.in_ok-ranges.ensures.ranges in
    let runnable = c.requires.runnable in
    let formats = c.as_slice-formats.result.now in
    let back : plan.formats ≡ formats = sym c.as_slice-formats.ensures in
    let are : AreOperands plan.statement formats (drawn plan.origins operands) =
    subst (λ fs. AreOperands plan.statement fs (drawn plan.origins operands)) back
    (planned_operands s runnable.formats plan runnable.planned operands runnable.runnable.operands_are) in
    let fits = planned_ranges s runnable.formats plan runnable.planned operands runnable.runnable.operands_are ranges
    (runnable.runnable.ranges_fit ranges told) in
    let lent_is : drawn c.as_slice-origins.result.now c.as_mut_slice-entries.result.now ≡ drawn plan.origins operands =
    ap (λ origins. drawn origins c.as_mut_slice-entries.result.now) c.as_slice-origins.ensures
    ∙ ap (drawn plan.origins) c.as_mut_slice-entries.ensures.value in
    may_pack_lent a plan.statement formats (drawn plan.origins operands) are ranges fits
    c.deref.result.now c.deref.ensures.value (drawn c.as_slice-origins.result.now c.as_mut_slice-entries.result.now) lent_is

pub returns-in_err-tensors-clause-refused : goal.returns-in_err-tensors-clause-refused
returns-in_err-tensors-clause-refused g c =
    let a = g.S.Semiring.arithmetic in
    let s = c.args.statement.now in
    let plan = c.args.plan.now in
    let given = c.args.given.now in
    let operands = c.args.operands.entries.items in
    let bounds = c.args.operands.bounds.items in
    let ranges = c.in_ok-ranges.ranges.items in
    let told : told_ranges s given bounds ≡ Ok ranges = ap (told_ranges s given) (sym c.as_slice.ensures.value)
    ∙ c.in_ok-ranges.ensures.ranges in
    let runnable = c.requires.runnable in
    let formats = c.as_slice-formats.result.now in
    let back : plan.formats ≡ formats = sym c.as_slice-formats.ensures in
    let are : AreOperands plan.statement formats (drawn plan.origins operands) =
    subst (λ fs. AreOperands plan.statement fs (drawn plan.origins operands)) back
    (planned_operands s runnable.formats plan runnable.planned operands runnable.runnable.operands_are) in
    let fits = planned_ranges s runnable.formats plan runnable.planned operands runnable.runnable.operands_are ranges
    (runnable.runnable.ranges_fit ranges told) in
    let lent_is : drawn c.as_slice-origins.result.now c.as_mut_slice-entries.result.now ≡ drawn plan.origins operands =
    ap (λ origins. drawn origins c.as_mut_slice-entries.result.now) c.as_slice-origins.ensures
    ∙ ap (drawn plan.origins) c.as_mut_slice-entries.ensures.value in
    let kernel = c.args.kernel.now in
    let why : RefusedBy a plan.statement plan.formats kernel ranges (drawn plan.origins operands) (of_packing c.in_err-tensors.field-0.0) =
    subst (λ fs. RefusedBy a plan.statement fs kernel ranges (drawn plan.origins operands) (of_packing c.in_err-tensors.field-0.0))
    (sym back)
    (pack_refusal a plan.statement formats kernel (drawn plan.origins operands) ranges c.in_err-tensors.field-0.0
    (unpacked_lent a plan.statement formats (drawn plan.origins operands) are ranges fits
    c.deref.result.now c.deref.ensures.value (drawn c.as_slice-origins.result.now c.as_mut_slice-entries.result.now) lent_is
    c.in_err-tensors.field-0.0 c.in_err-tensors.ensures)) in
    let h = planned_refusal a s plan given operands bounds ranges told kernel (of_packing c.in_err-tensors.field-0.0) why in
    search (rules, h)

pub bounds-formats-0 : goal.bounds-formats-0
bounds-formats-0 g c =
    let a = g.S.Semiring.arithmetic in
    let s = c.args.statement.now in
    let plan = c.args.plan.now in
    let given = c.args.given.now in
    let operands = c.args.operands.entries.items in
    let bounds = c.args.operands.bounds.items in
    let ranges = c.in_ok-ranges.ranges.items in
    let told : told_ranges s given bounds ≡ Ok ranges = ap (told_ranges s given) (sym c.as_slice.ensures.value)
    ∙ c.in_ok-ranges.ensures.ranges in
    let runnable = c.requires.runnable in
    let formats = c.as_slice-formats.result.now in
    let back : plan.formats ≡ formats = sym c.as_slice-formats.ensures in
    let are : AreOperands plan.statement formats (drawn plan.origins operands) =
    subst (λ fs. AreOperands plan.statement fs (drawn plan.origins operands)) back
    (planned_operands s runnable.formats plan runnable.planned operands runnable.runnable.operands_are) in
    let fits = planned_ranges s runnable.formats plan runnable.planned operands runnable.runnable.operands_are ranges
    (runnable.runnable.ranges_fit ranges told) in
    let lent_is : drawn c.as_slice-origins.result.now c.as_mut_slice-entries.result.now ≡ drawn plan.origins operands =
    ap (λ origins. drawn origins c.as_mut_slice-entries.result.now) c.as_slice-origins.ensures
    ∙ ap (drawn plan.origins) c.as_mut_slice-entries.ensures.value in
    let many = formats_many a plan.statement formats (drawn plan.origins operands) are ranges fits in
    omega (arith, many)

pub run_packed-requires-clause-named : goal.run_packed-requires-clause-named
run_packed-requires-clause-named g c =
    let a = g.S.Semiring.arithmetic in
    let s = c.args.statement.now in
    let plan = c.args.plan.now in
    let given = c.args.given.now in
    let operands = c.args.operands.entries.items in
    let bounds = c.args.operands.bounds.items in
    let ranges = c.in_ok-ranges.ranges.items in
    let told : told_ranges s given bounds ≡ Ok ranges = ap (told_ranges s given) (sym c.as_slice.ensures.value)
    ∙ c.in_ok-ranges.ensures.ranges in
    let runnable = c.requires.runnable in
    let formats = c.as_slice-formats.result.now in
    let back : plan.formats ≡ formats = sym c.as_slice-formats.ensures in
    let are : AreOperands plan.statement formats (drawn plan.origins operands) =
    subst (λ fs. AreOperands plan.statement fs (drawn plan.origins operands)) back
    (planned_operands s runnable.formats plan runnable.planned operands runnable.runnable.operands_are) in
    let fits = planned_ranges s runnable.formats plan runnable.planned operands runnable.runnable.operands_are ranges
    (runnable.runnable.ranges_fit ranges told) in
    let lent_is : drawn c.as_slice-origins.result.now c.as_mut_slice-entries.result.now ≡ drawn plan.origins operands =
    ap (λ origins. drawn origins c.as_mut_slice-entries.result.now) c.as_slice-origins.ensures
    ∙ ap (drawn plan.origins) c.as_mut_slice-entries.ensures.value in
    are.named

pub run_packed-requires-clause-short : goal.run_packed-requires-clause-short
run_packed-requires-clause-short g c =
    let a = g.S.Semiring.arithmetic in
    let s = c.args.statement.now in
    let plan = c.args.plan.now in
    let given = c.args.given.now in
    let operands = c.args.operands.entries.items in
    let bounds = c.args.operands.bounds.items in
    let ranges = c.in_ok-ranges.ranges.items in
    let told : told_ranges s given bounds ≡ Ok ranges = ap (told_ranges s given) (sym c.as_slice.ensures.value)
    ∙ c.in_ok-ranges.ensures.ranges in
    let runnable = c.requires.runnable in
    let formats = c.as_slice-formats.result.now in
    let back : plan.formats ≡ formats = sym c.as_slice-formats.ensures in
    let are : AreOperands plan.statement formats (drawn plan.origins operands) =
    subst (λ fs. AreOperands plan.statement fs (drawn plan.origins operands)) back
    (planned_operands s runnable.formats plan runnable.planned operands runnable.runnable.operands_are) in
    let fits = planned_ranges s runnable.formats plan runnable.planned operands runnable.runnable.operands_are ranges
    (runnable.runnable.ranges_fit ranges told) in
    let lent_is : drawn c.as_slice-origins.result.now c.as_mut_slice-entries.result.now ≡ drawn plan.origins operands =
    ap (λ origins. drawn origins c.as_mut_slice-entries.result.now) c.as_slice-origins.ensures
    ∙ ap (drawn plan.origins) c.as_mut_slice-entries.ensures.value in
    are.numbered.left.order

pub run_packed-requires-clause-enough : goal.run_packed-requires-clause-enough
run_packed-requires-clause-enough g c =
    let a = g.S.Semiring.arithmetic in
    let s = c.args.statement.now in
    let plan = c.args.plan.now in
    let given = c.args.given.now in
    let operands = c.args.operands.entries.items in
    let bounds = c.args.operands.bounds.items in
    let ranges = c.in_ok-ranges.ranges.items in
    let told : told_ranges s given bounds ≡ Ok ranges = ap (told_ranges s given) (sym c.as_slice.ensures.value)
    ∙ c.in_ok-ranges.ensures.ranges in
    let runnable = c.requires.runnable in
    let formats = c.as_slice-formats.result.now in
    let back : plan.formats ≡ formats = sym c.as_slice-formats.ensures in
    let are : AreOperands plan.statement formats (drawn plan.origins operands) =
    subst (λ fs. AreOperands plan.statement fs (drawn plan.origins operands)) back
    (planned_operands s runnable.formats plan runnable.planned operands runnable.runnable.operands_are) in
    let fits = planned_ranges s runnable.formats plan runnable.planned operands runnable.runnable.operands_are ranges
    (runnable.runnable.ranges_fit ranges told) in
    let lent_is : drawn c.as_slice-origins.result.now c.as_mut_slice-entries.result.now ≡ drawn plan.origins operands =
    ap (λ origins. drawn origins c.as_mut_slice-entries.result.now) c.as_slice-origins.ensures
    ∙ ap (drawn plan.origins) c.as_mut_slice-entries.ensures.value in
    let right : IsRightFor a plan.statement formats c.args.kernel.now =
    subst (λ fs. IsRightFor a plan.statement fs c.args.kernel.now) back c.requires.right in
    enough_lent a plan.statement formats (drawn plan.origins operands) are ranges fits
    c.deref.result.now c.deref.ensures.value (drawn c.as_slice-origins.result.now c.as_mut_slice-entries.result.now) lent_is
    g.met.S.Semiring.laws c.args.kernel.now right c.deref-3.result.now c.deref-3.ensures.value c.copied-format.result
    (subst (λ f. f ≡ slice_index_or formats 0 f) (sym c.copied-format.ensures.value) c.index-formats-0.is)

pub run_packed-requires-clause-small : goal.run_packed-requires-clause-small
run_packed-requires-clause-small g c =
    let a = g.S.Semiring.arithmetic in
    let s = c.args.statement.now in
    let plan = c.args.plan.now in
    let given = c.args.given.now in
    let operands = c.args.operands.entries.items in
    let bounds = c.args.operands.bounds.items in
    let ranges = c.in_ok-ranges.ranges.items in
    let told : told_ranges s given bounds ≡ Ok ranges = ap (told_ranges s given) (sym c.as_slice.ensures.value)
    ∙ c.in_ok-ranges.ensures.ranges in
    let runnable = c.requires.runnable in
    let formats = c.as_slice-formats.result.now in
    let back : plan.formats ≡ formats = sym c.as_slice-formats.ensures in
    let are : AreOperands plan.statement formats (drawn plan.origins operands) =
    subst (λ fs. AreOperands plan.statement fs (drawn plan.origins operands)) back
    (planned_operands s runnable.formats plan runnable.planned operands runnable.runnable.operands_are) in
    let fits = planned_ranges s runnable.formats plan runnable.planned operands runnable.runnable.operands_are ranges
    (runnable.runnable.ranges_fit ranges told) in
    let lent_is : drawn c.as_slice-origins.result.now c.as_mut_slice-entries.result.now ≡ drawn plan.origins operands =
    ap (λ origins. drawn origins c.as_mut_slice-entries.result.now) c.as_slice-origins.ensures
    ∙ ap (drawn plan.origins) c.as_mut_slice-entries.ensures.value in
    let right : IsRightFor a plan.statement formats c.args.kernel.now =
    subst (λ fs. IsRightFor a plan.statement fs c.args.kernel.now) back c.requires.right in
    small_lent a plan.statement formats (drawn plan.origins operands) are ranges fits
    c.deref.result.now c.deref.ensures.value (drawn c.as_slice-origins.result.now c.as_mut_slice-entries.result.now) lent_is
    g.met.S.Semiring.laws c.args.kernel.now right c.deref-3.result.now c.deref-3.ensures.value c.copied-format.result
    (subst (λ f. f ≡ slice_index_or formats 0 f) (sym c.copied-format.ensures.value) c.index-formats-0.is)

pub run_packed-requires-clause-done : goal.run_packed-requires-clause-done
run_packed-requires-clause-done g c =
    let a = g.S.Semiring.arithmetic in
    let s = c.args.statement.now in
    let plan = c.args.plan.now in
    let given = c.args.given.now in
    let operands = c.args.operands.entries.items in
    let bounds = c.args.operands.bounds.items in
    let ranges = c.in_ok-ranges.ranges.items in
    let told : told_ranges s given bounds ≡ Ok ranges = ap (told_ranges s given) (sym c.as_slice.ensures.value)
    ∙ c.in_ok-ranges.ensures.ranges in
    let runnable = c.requires.runnable in
    let formats = c.as_slice-formats.result.now in
    let back : plan.formats ≡ formats = sym c.as_slice-formats.ensures in
    let are : AreOperands plan.statement formats (drawn plan.origins operands) =
    subst (λ fs. AreOperands plan.statement fs (drawn plan.origins operands)) back
    (planned_operands s runnable.formats plan runnable.planned operands runnable.runnable.operands_are) in
    let fits = planned_ranges s runnable.formats plan runnable.planned operands runnable.runnable.operands_are ranges
    (runnable.runnable.ranges_fit ranges told) in
    let lent_is : drawn c.as_slice-origins.result.now c.as_mut_slice-entries.result.now ≡ drawn plan.origins operands =
    ap (λ origins. drawn origins c.as_mut_slice-entries.result.now) c.as_slice-origins.ensures
    ∙ ap (drawn plan.origins) c.as_mut_slice-entries.ensures.value in
    let right : IsRightFor a plan.statement formats c.args.kernel.now =
    subst (λ fs. IsRightFor a plan.statement fs c.args.kernel.now) back c.requires.right in
    done_lent a plan.statement formats (drawn plan.origins operands) are ranges fits
    c.deref.result.now c.deref.ensures.value (drawn c.as_slice-origins.result.now c.as_mut_slice-entries.result.now) lent_is
    g.met.S.Semiring.laws c.args.kernel.now right c.deref-3.result.now c.deref-3.ensures.value c.copied-format.result
    (subst (λ f. f ≡ slice_index_or formats 0 f) (sym c.copied-format.ensures.value) c.index-formats-0.is)
    c.copied-format.ensures.format c.in_ok-tensors.tensors.items c.in_ok-tensors.ensures c.deref-2.result.now c.deref-2.ensures.value

pub run_packed-requires-clause-sound : goal.run_packed-requires-clause-sound
run_packed-requires-clause-sound g c =
    let a = g.S.Semiring.arithmetic in
    let s = c.args.statement.now in
    let plan = c.args.plan.now in
    let given = c.args.given.now in
    let operands = c.args.operands.entries.items in
    let bounds = c.args.operands.bounds.items in
    let ranges = c.in_ok-ranges.ranges.items in
    let told : told_ranges s given bounds ≡ Ok ranges = ap (told_ranges s given) (sym c.as_slice.ensures.value)
    ∙ c.in_ok-ranges.ensures.ranges in
    let runnable = c.requires.runnable in
    let formats = c.as_slice-formats.result.now in
    let back : plan.formats ≡ formats = sym c.as_slice-formats.ensures in
    let are : AreOperands plan.statement formats (drawn plan.origins operands) =
    subst (λ fs. AreOperands plan.statement fs (drawn plan.origins operands)) back
    (planned_operands s runnable.formats plan runnable.planned operands runnable.runnable.operands_are) in
    let fits = planned_ranges s runnable.formats plan runnable.planned operands runnable.runnable.operands_are ranges
    (runnable.runnable.ranges_fit ranges told) in
    let lent_is : drawn c.as_slice-origins.result.now c.as_mut_slice-entries.result.now ≡ drawn plan.origins operands =
    ap (λ origins. drawn origins c.as_mut_slice-entries.result.now) c.as_slice-origins.ensures
    ∙ ap (drawn plan.origins) c.as_mut_slice-entries.ensures.value in
    let right : IsRightFor a plan.statement formats c.args.kernel.now =
    subst (λ fs. IsRightFor a plan.statement fs c.args.kernel.now) back c.requires.right in
    sound_lent a plan.statement formats (drawn plan.origins operands) are ranges fits
    c.deref.result.now c.deref.ensures.value (drawn c.as_slice-origins.result.now c.as_mut_slice-entries.result.now) lent_is
    g.met.S.Semiring.laws c.args.kernel.now right c.deref-3.result.now c.deref-3.ensures.value c.copied-format.result
    (subst (λ f. f ≡ slice_index_or formats 0 f) (sym c.copied-format.ensures.value) c.index-formats-0.is)
    c.copied-format.ensures.format c.in_ok-tensors.tensors.items c.in_ok-tensors.ensures c.deref-2.result.now c.deref-2.ensures.value

pub returns-in-Ok-clause-run : goal.returns-in-Ok-clause-run
returns-in-Ok-clause-run g c =
    let a = g.S.Semiring.arithmetic in
    let s = c.args.statement.now in
    let plan = c.args.plan.now in
    let given = c.args.given.now in
    let operands = c.args.operands.entries.items in
    let bounds = c.args.operands.bounds.items in
    let ranges = c.in_ok-ranges.ranges.items in
    let told : told_ranges s given bounds ≡ Ok ranges = ap (told_ranges s given) (sym c.as_slice.ensures.value)
    ∙ c.in_ok-ranges.ensures.ranges in
    let runnable = c.requires.runnable in
    let formats = c.as_slice-formats.result.now in
    let back : plan.formats ≡ formats = sym c.as_slice-formats.ensures in
    let are : AreOperands plan.statement formats (drawn plan.origins operands) =
    subst (λ fs. AreOperands plan.statement fs (drawn plan.origins operands)) back
    (planned_operands s runnable.formats plan runnable.planned operands runnable.runnable.operands_are) in
    let fits = planned_ranges s runnable.formats plan runnable.planned operands runnable.runnable.operands_are ranges
    (runnable.runnable.ranges_fit ranges told) in
    let lent_is : drawn c.as_slice-origins.result.now c.as_mut_slice-entries.result.now ≡ drawn plan.origins operands =
    ap (λ origins. drawn origins c.as_mut_slice-entries.result.now) c.as_slice-origins.ensures
    ∙ ap (drawn plan.origins) c.as_mut_slice-entries.ensures.value in
    let right : IsRightFor a plan.statement formats c.args.kernel.now =
    subst (λ fs. IsRightFor a plan.statement fs c.args.kernel.now) back c.requires.right in
    planned_run a s plan given operands bounds ranges told c.args.kernel.now runnable c.in-Ok.computed.shape c.in-Ok.computed.entries
    c.in-Ok.computed.tensor c.in-Ok.computed.turns
    (subst (λ fs. IsRunBy a plan.statement fs c.args.kernel.now ranges (drawn plan.origins operands) c.in-Ok.computed.shape
    c.in-Ok.computed.entries c.in-Ok.computed.tensor c.in-Ok.computed.turns) (sym back)
    (run_lent a plan.statement formats (drawn plan.origins operands) are ranges fits
    c.deref.result.now c.deref.ensures.value (drawn c.as_slice-origins.result.now c.as_mut_slice-entries.result.now) lent_is
    g.met.S.Semiring.laws c.args.kernel.now right c.deref-3.result.now c.deref-3.ensures.value c.copied-format.result
    (subst (λ f. f ≡ slice_index_or formats 0 f) (sym c.copied-format.ensures.value) c.index-formats-0.is)
    c.copied-format.ensures.format c.in_ok-tensors.tensors.items c.in_ok-tensors.ensures c.deref-2.result.now c.deref-2.ensures.value
    c.in-Ok.computed.tensor c.in-Ok.computed.turns c.in-Ok.computed.entries c.in-Ok.computed.shape c.in-Ok.ensures.run))

pub returns-in-Ok-clause-entries : goal.returns-in-Ok-clause-entries
returns-in-Ok-clause-entries g c =
    c.in-Ok.ensures.run.each

pub returns-clause-refused : goal.returns-clause-refused
returns-clause-refused g c =
    let a = g.S.Semiring.arithmetic in
    let s = c.args.statement.now in
    let plan = c.args.plan.now in
    let given = c.args.given.now in
    let operands = c.args.operands.entries.items in
    let bounds = c.args.operands.bounds.items in
    let ranges = c.in_ok-ranges.ranges.items in
    let told : told_ranges s given bounds ≡ Ok ranges = ap (told_ranges s given) (sym c.as_slice.ensures.value)
    ∙ c.in_ok-ranges.ensures.ranges in
    let runnable = c.requires.runnable in
    let formats = c.as_slice-formats.result.now in
    let back : plan.formats ≡ formats = sym c.as_slice-formats.ensures in
    let are : AreOperands plan.statement formats (drawn plan.origins operands) =
    subst (λ fs. AreOperands plan.statement fs (drawn plan.origins operands)) back
    (planned_operands s runnable.formats plan runnable.planned operands runnable.runnable.operands_are) in
    let fits = planned_ranges s runnable.formats plan runnable.planned operands runnable.runnable.operands_are ranges
    (runnable.runnable.ranges_fit ranges told) in
    let lent_is : drawn c.as_slice-origins.result.now c.as_mut_slice-entries.result.now ≡ drawn plan.origins operands =
    ap (λ origins. drawn origins c.as_mut_slice-entries.result.now) c.as_slice-origins.ensures
    ∙ ap (drawn plan.origins) c.as_mut_slice-entries.ensures.value in
    let right : IsRightFor a plan.statement formats c.args.kernel.now =
    subst (λ fs. IsRightFor a plan.statement fs c.args.kernel.now) back c.requires.right in
    planned_refusal a s plan given operands bounds ranges told c.args.kernel.now c.in-Err.fault
    (subst (λ fs. RefusedBy a plan.statement fs c.args.kernel.now ranges (drawn plan.origins operands) c.in-Err.fault) (sym back)
    (refused_lent a plan.statement formats (drawn plan.origins operands) are ranges fits
    c.deref.result.now c.deref.ensures.value (drawn c.as_slice-origins.result.now c.as_mut_slice-entries.result.now) lent_is
    g.met.S.Semiring.laws c.args.kernel.now right c.deref-3.result.now c.deref-3.ensures.value c.copied-format.result
    (subst (λ f. f ≡ slice_index_or formats 0 f) (sym c.copied-format.ensures.value) c.index-formats-0.is)
    c.copied-format.ensures.format c.in_ok-tensors.tensors.items c.in_ok-tensors.ensures c.deref-2.result.now c.deref-2.ensures.value
    c.in-Err.fault c.in-Err.ensures.refused))
