use Rattle.std.specs.Prelude.{◌<◌, length, take}
use Rattle.std.specs.List.{flat_map}
use Rattle.std.proofs.Common.{◌∙◌, ap, subst, get_or}
use Rattle.concrete_notation.specs.Nests.{loops_of}
use Rattle.concrete_notation.specs.Nesting.{nests_of_group}
use Rattle.concrete_notation.proofs.Made.{next_group, group_as}
use Rattle.concrete_notation.proofs.statement_loops.loops_of_groups.Goals as goal

pub loop-group-preserved : goal.loop-group-preserved
loop-group-preserved c =
    let s = c.args.statement.now in
    let order = c.args.order.now in
    let gs = c.args.groups.now.list in
    let i = c.loop-group.group-index in
    let g = c.group-item.result in
    next_group s order gs i g c.in_ok-made.made
    (subst (λ hs. i < length hs) c.as_slice-group-items.ensures c.loop-group-test.true)
    (c.group-item.is ∙ ap (λ hs. get_or hs i g) c.as_slice-group-items.ensures)
    (group_as s order g c.as_slice-in-loop-group.result.now c.as_slice-in-loop-group-2.result.now
    (flat_map (nests_of_group s order) (take i gs)) c.in_ok-made.made
    (c.as_slice-in-loop-group.ensures ∙ c.in_ok-loops.ensures ∙ ap (loops_of s order) c.as_slice.ensures)
    c.as_slice-in-loop-group-2.ensures
    (c.in_ok-made.ensures (flat_map (nests_of_group s order) (take i gs)) c.loop-group.invariant))
