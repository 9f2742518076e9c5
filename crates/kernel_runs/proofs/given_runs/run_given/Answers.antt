use Rattle.std.specs.Prelude.{◌≡◌, Ok, slice_index_or}
use Rattle.std.proofs.Common.{◌∙◌, sym, ap, subst, arith, rules}
use Rattle.operand_packing.specs.Runnable.{told_ranges}
use Rattle.kernel_runs.proofs.Calls.{formats_many, many_lent, may_pack_lent, unpacked_lent}
use Rattle.kernel_runs.proofs.GivenCalls.{enough_given, refused_given, run_given_is, small_given}
use Rattle.kernel_runs.proofs.GivenRuns.{given_pack_refusal, given_range_refusal}
use Rattle.kernel_runs.proofs.given_runs.run_given.Goals as goal

pub returns-in_err-ranges-clause-refused : goal.returns-in_err-ranges-clause-refused
returns-in_err-ranges-clause-refused g c =
    let h = given_range_refusal g.S.Semiring.arithmetic c.args.statement.now c.args.formats.now c.args.kernel.now c.args.given.now
    c.args.operands.entries.items c.args.operands.bounds.items c.as_slice.result.now c.args.budget c.in_err-ranges.field-0.0
    c.as_slice.ensures.value c.in_err-ranges.ensures.fault in
    search (rules, h)

pub pack_operands-requires-clause-many : goal.pack_operands-requires-clause-many
pack_operands-requires-clause-many g c =
    let a = g.S.Semiring.arithmetic in
    let s = c.args.statement.now in
    let formats = c.args.formats.now in
    let given = c.args.given.now in
    let operands = c.args.operands.entries.items in
    let bounds = c.args.operands.bounds.items in
    let ranges = c.in_ok-ranges.ranges.items in
    let told : told_ranges s given bounds ≡ Ok ranges = ap (told_ranges s given) (sym c.as_slice.ensures.value)
    ∙ c.in_ok-ranges.ensures.ranges in
    let are = c.requires.runnable.operands_are in
    let fits = c.requires.runnable.ranges_fit ranges told in
    many_lent a s formats operands are ranges fits
    c.deref.result.now c.deref.ensures.value c.as_mut_slice-entries.result.now c.as_mut_slice-entries.ensures.value

pub pack_operands-requires-clause-may : goal.pack_operands-requires-clause-may
pack_operands-requires-clause-may g c =
    let a = g.S.Semiring.arithmetic in
    let s = c.args.statement.now in
    let formats = c.args.formats.now in
    let given = c.args.given.now in
    let operands = c.args.operands.entries.items in
    let bounds = c.args.operands.bounds.items in
    let ranges = c.in_ok-ranges.ranges.items in
    let told : told_ranges s given bounds ≡ Ok ranges = ap (told_ranges s given) (sym c.as_slice.ensures.value)
    ∙ c.in_ok-ranges.ensures.ranges in
    let are = c.requires.runnable.operands_are in
    let fits = c.requires.runnable.ranges_fit ranges told in
    may_pack_lent a s formats operands are ranges fits
    c.deref.result.now c.deref.ensures.value c.as_mut_slice-entries.result.now c.as_mut_slice-entries.ensures.value

pub returns-in_err-tensors-clause-refused : goal.returns-in_err-tensors-clause-refused
returns-in_err-tensors-clause-refused g c =
    let a = g.S.Semiring.arithmetic in
    let s = c.args.statement.now in
    let formats = c.args.formats.now in
    let given = c.args.given.now in
    let operands = c.args.operands.entries.items in
    let bounds = c.args.operands.bounds.items in
    let ranges = c.in_ok-ranges.ranges.items in
    let told : told_ranges s given bounds ≡ Ok ranges = ap (told_ranges s given) (sym c.as_slice.ensures.value)
    ∙ c.in_ok-ranges.ensures.ranges in
    let are = c.requires.runnable.operands_are in
    let fits = c.requires.runnable.ranges_fit ranges told in
    let h = given_pack_refusal a s formats c.args.kernel.now given operands bounds c.args.budget ranges told c.in_err-tensors.field-0.0
    (unpacked_lent a s formats operands are ranges fits
    c.deref.result.now c.deref.ensures.value c.as_mut_slice-entries.result.now c.as_mut_slice-entries.ensures.value
    c.in_err-tensors.field-0.0 c.in_err-tensors.ensures) in
    search (rules, h)

pub bounds-formats-0 : goal.bounds-formats-0
bounds-formats-0 g c =
    let a = g.S.Semiring.arithmetic in
    let s = c.args.statement.now in
    let formats = c.args.formats.now in
    let given = c.args.given.now in
    let operands = c.args.operands.entries.items in
    let bounds = c.args.operands.bounds.items in
    let ranges = c.in_ok-ranges.ranges.items in
    let told : told_ranges s given bounds ≡ Ok ranges = ap (told_ranges s given) (sym c.as_slice.ensures.value)
    ∙ c.in_ok-ranges.ensures.ranges in
    let are = c.requires.runnable.operands_are in
    let fits = c.requires.runnable.ranges_fit ranges told in
    let many = formats_many a s formats operands are ranges fits in
    omega (arith, many)

pub check_packed-requires-clause-named : goal.check_packed-requires-clause-named
check_packed-requires-clause-named g c =
    let a = g.S.Semiring.arithmetic in
    let s = c.args.statement.now in
    let formats = c.args.formats.now in
    let given = c.args.given.now in
    let operands = c.args.operands.entries.items in
    let bounds = c.args.operands.bounds.items in
    let ranges = c.in_ok-ranges.ranges.items in
    let told : told_ranges s given bounds ≡ Ok ranges = ap (told_ranges s given) (sym c.as_slice.ensures.value)
    ∙ c.in_ok-ranges.ensures.ranges in
    let are = c.requires.runnable.operands_are in
    let fits = c.requires.runnable.ranges_fit ranges told in
    are.named

pub check_packed-requires-clause-short : goal.check_packed-requires-clause-short
check_packed-requires-clause-short g c =
    let a = g.S.Semiring.arithmetic in
    let s = c.args.statement.now in
    let formats = c.args.formats.now in
    let given = c.args.given.now in
    let operands = c.args.operands.entries.items in
    let bounds = c.args.operands.bounds.items in
    let ranges = c.in_ok-ranges.ranges.items in
    let told : told_ranges s given bounds ≡ Ok ranges = ap (told_ranges s given) (sym c.as_slice.ensures.value)
    ∙ c.in_ok-ranges.ensures.ranges in
    let are = c.requires.runnable.operands_are in
    let fits = c.requires.runnable.ranges_fit ranges told in
    are.numbered.left.order

pub check_packed-requires-clause-enough : goal.check_packed-requires-clause-enough
check_packed-requires-clause-enough g c =
    let a = g.S.Semiring.arithmetic in
    let s = c.args.statement.now in
    let formats = c.args.formats.now in
    let given = c.args.given.now in
    let operands = c.args.operands.entries.items in
    let bounds = c.args.operands.bounds.items in
    let ranges = c.in_ok-ranges.ranges.items in
    let told : told_ranges s given bounds ≡ Ok ranges = ap (told_ranges s given) (sym c.as_slice.ensures.value)
    ∙ c.in_ok-ranges.ensures.ranges in
    let are = c.requires.runnable.operands_are in
    let fits = c.requires.runnable.ranges_fit ranges told in
    enough_given a s formats operands are ranges fits c.deref-3.result.now c.deref-3.ensures.value c.copied-format.result
    (subst (λ f. f ≡ slice_index_or formats 0 f) (sym c.copied-format.ensures.value) c.index-formats-0.is)

pub check_packed-requires-clause-small : goal.check_packed-requires-clause-small
check_packed-requires-clause-small g c =
    let a = g.S.Semiring.arithmetic in
    let s = c.args.statement.now in
    let formats = c.args.formats.now in
    let given = c.args.given.now in
    let operands = c.args.operands.entries.items in
    let bounds = c.args.operands.bounds.items in
    let ranges = c.in_ok-ranges.ranges.items in
    let told : told_ranges s given bounds ≡ Ok ranges = ap (told_ranges s given) (sym c.as_slice.ensures.value)
    ∙ c.in_ok-ranges.ensures.ranges in
    let are = c.requires.runnable.operands_are in
    let fits = c.requires.runnable.ranges_fit ranges told in
    small_given a s formats operands are ranges fits c.deref-3.result.now c.deref-3.ensures.value c.copied-format.result
    (subst (λ f. f ≡ slice_index_or formats 0 f) (sym c.copied-format.ensures.value) c.index-formats-0.is)

pub returns-in-Ok-clause-run : goal.returns-in-Ok-clause-run
returns-in-Ok-clause-run g c =
    let a = g.S.Semiring.arithmetic in
    let s = c.args.statement.now in
    let formats = c.args.formats.now in
    let given = c.args.given.now in
    let operands = c.args.operands.entries.items in
    let bounds = c.args.operands.bounds.items in
    let ranges = c.in_ok-ranges.ranges.items in
    let told : told_ranges s given bounds ≡ Ok ranges = ap (told_ranges s given) (sym c.as_slice.ensures.value)
    ∙ c.in_ok-ranges.ensures.ranges in
    let are = c.requires.runnable.operands_are in
    let fits = c.requires.runnable.ranges_fit ranges told in
    run_given_is a s formats operands are ranges fits c.deref-3.result.now c.deref-3.ensures.value c.copied-format.result
    (subst (λ f. f ≡ slice_index_or formats 0 f) (sym c.copied-format.ensures.value) c.index-formats-0.is)
    c.deref.result.now c.deref.ensures.value c.as_mut_slice-entries.result.now c.as_mut_slice-entries.ensures.value
    c.in_ok-tensors.tensors.items
    c.in_ok-tensors.ensures c.deref-2.result.now c.deref-2.ensures.value given bounds told c.args.kernel.now c.args.budget
    g.met.S.Semiring.laws
    c.in-Ok.computed.tensor c.in-Ok.computed.turns c.in-Ok.computed.entries c.in-Ok.computed.shape c.in-Ok.ensures.run

pub returns-in-Ok-clause-entries : goal.returns-in-Ok-clause-entries
returns-in-Ok-clause-entries g c =
    c.in-Ok.ensures.run.each

pub returns-clause-refused : goal.returns-clause-refused
returns-clause-refused g c =
    let a = g.S.Semiring.arithmetic in
    let s = c.args.statement.now in
    let formats = c.args.formats.now in
    let given = c.args.given.now in
    let operands = c.args.operands.entries.items in
    let bounds = c.args.operands.bounds.items in
    let ranges = c.in_ok-ranges.ranges.items in
    let told : told_ranges s given bounds ≡ Ok ranges = ap (told_ranges s given) (sym c.as_slice.ensures.value)
    ∙ c.in_ok-ranges.ensures.ranges in
    let are = c.requires.runnable.operands_are in
    let fits = c.requires.runnable.ranges_fit ranges told in
    refused_given a s formats operands are ranges fits c.deref-3.result.now c.deref-3.ensures.value c.copied-format.result
    (subst (λ f. f ≡ slice_index_or formats 0 f) (sym c.copied-format.ensures.value) c.index-formats-0.is)
    c.deref.result.now c.deref.ensures.value c.as_mut_slice-entries.result.now c.as_mut_slice-entries.ensures.value
    c.in_ok-tensors.tensors.items
    c.in_ok-tensors.ensures c.deref-2.result.now c.deref-2.ensures.value given bounds told c.args.kernel.now c.args.budget
    c.in-Err.fault c.in-Err.ensures.refused
