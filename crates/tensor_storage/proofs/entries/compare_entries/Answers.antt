use Rattle.std.specs.Prelude.{◌≡◌, drop, slice_index}
use Rattle.std.specs.Ordering.{nat_cmp}
use Rattle.std.specs.Cmp.Lexicographic.{slice_cmp}
use Rattle.std.proofs.Common.{◌∙◌, sym, ap, add-one}
use Rattle.tensor_storage.specs.Arranged.{level_coords}
use Rattle.tensor_storage.proofs.Arranging.{level_drop, compare_past, compare_here, compare_ends}
use Rattle.tensor_storage.proofs.entries.compare_entries.Goals as goal

pub returns-in_default : goal.returns-in_default
returns-in_default c =
    let xs = level_coords c.args.format.now c.args.entries.now.list c.args.left in
    let ys = level_coords c.args.format.now c.args.entries.now.list c.args.right in
    let is : nat_cmp (slice_index xs c.loop-level.level) (slice_index ys c.loop-level.level) ≡ c.cmp.result =
    sym (c.cmp.ensures ∙ ap (λ x. nat_cmp x c.coordinate-there.result) c.coordinate-here.ensures
    ∙ ap (nat_cmp (slice_index xs c.loop-level.level)) c.coordinate-there.ensures) in
    sym (c.loop-level.invariant ∙ compare_here xs ys c.loop-level.level (slice_index xs c.loop-level.level)
    (slice_index ys c.loop-level.level) c.cmp.result
    (level_drop c.args.format.now c.args.entries.now.list c.args.left c.loop-level.level
    c.loop-level-test.true) (level_drop c.args.format.now c.args.entries.now.list c.args.right c.loop-level.level
    c.loop-level-test.true)
    is c.in_default.not-Equal)

pub loop-level-preserved : goal.loop-level-preserved
loop-level-preserved c =
    let xs = level_coords c.args.format.now c.args.entries.now.list c.args.left in
    let ys = level_coords c.args.format.now c.args.entries.now.list c.args.right in
    let is = sym (ap (λ x. nat_cmp x c.coordinate-there.result) c.coordinate-here.ensures
    ∙ ap (nat_cmp (slice_index xs c.loop-level.level)) c.coordinate-there.ensures) ∙ sym c.cmp.ensures ∙ c.in-Equal.is in
    c.loop-level.invariant ∙ compare_past xs ys c.loop-level.level (slice_index xs c.loop-level.level) (slice_index ys c.loop-level.level)
    (level_drop c.args.format.now c.args.entries.now.list c.args.left c.loop-level.level
    c.loop-level-test.true) (level_drop c.args.format.now c.args.entries.now.list c.args.right c.loop-level.level
    c.loop-level-test.true)
    is ∙ ap (λ n. slice_cmp nat_cmp (drop n xs) (drop n ys)) (sym (add-one c.loop-level.level))

pub returns : goal.returns
returns c =
    sym (c.loop-level.invariant ∙ compare_ends c.args.format.now c.args.entries.now.list c.args.left c.args.right c.loop-level.level
    c.loop-level-test.false)
