use Rattle.std.specs.Prelude.{◌≡◌, ◌+◌, ◌≤◌, Some, slice_get, slice_index_or}
use Rattle.std.proofs.Common.{sym, subst, arith}
use Rattle.std.proofs.lemmas.Option.{slice_get-get_or}
use Rattle.term_code.specs.declared.places.AccessPlace.{AccessPlace}
use Rattle.term_code.specs.Places.{no_access}
use Rattle.loop_flags.specs.PrunedSteps.{PrunesFirst}
use Rattle.loop_flags.proofs.PruneLaws.{stays_step, none_step, copy_step}
use Rattle.loop_flags.proofs.partly.Partly.prune.Goals as goal

pub returns-then-stays_below-clause-pruned : goal.returns-then-stays_below-clause-pruned
returns-then-stays_below-clause-pruned c =
    stays_step c.args.places.now c.args.loops.now c.args.access c.args.self.now c.requires.before
    (c.stays_below.ensures c.if-stays_below.true)

pub returns-then-is_number-clause-pruned : goal.returns-then-is_number-clause-pruned
returns-then-is_number-clause-pruned c =
    let places = c.args.places.now in
    let loops = c.args.loops.now in
    let k = c.args.access in
    subst (PrunesFirst places loops (k + 1)) (sym c.leave_out.ensures)
    (none_step places loops k c.args.self.now c.requires.before c.in_ok-flag.flag c.requires.access
    (c.is_number.ensures c.if-is_number.true) c.in_ok-flag.ensures)

pub copy_one-requires-clause-cursor : goal.copy_one-requires-clause-cursor
copy_one-requires-clause-cursor c =
    let places = c.args.places.now in
    let k = c.args.access in
    let p : AccessPlace = slice_index_or c.as_slice.result.now k no_access in
    let at : slice_get places.accesses k ≡ Some p =
    subst (λ ps. slice_get places.accesses k ≡ Some (slice_index_or ps k no_access)) (sym c.as_slice.ensures)
    (slice_get-get_or places.accesses k no_access c.requires.access) in
    let low : p.cursor + 3 ≤ c.args.self.now.zero = c.requires.before.kept.accesses k p at in
    let more : c.args.self.now.zero + 3 ≤ c.args.self.now.free = c.requires.before.more in
    omega (arith, low, more)

pub returns-clause-pruned : goal.returns-clause-pruned
returns-clause-pruned c =
    let places = c.args.places.now in
    let loops = c.args.loops.now in
    let k = c.args.access in
    let p : AccessPlace = slice_index_or c.as_slice.result.now k no_access in
    let at : slice_get places.accesses k ≡ Some p =
    subst (λ ps. slice_get places.accesses k ≡ Some (slice_index_or ps k no_access)) (sym c.as_slice.ensures)
    (slice_get-get_or places.accesses k no_access c.requires.access) in
    subst (PrunesFirst places loops (k + 1)) (sym c.in_ok-copy_one.ensures)
    (copy_step places loops k c.args.self.now c.requires.before p c.in_ok-present.present at
    (c.in_ok-present.ensures places at c.in_ok-flag.ensures))
