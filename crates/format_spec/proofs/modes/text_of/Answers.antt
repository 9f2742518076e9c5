use Rattle.std.specs.Prelude.{take, length}
use Rattle.std.proofs.Common.{ap, arith, lit<}
use Rattle.std.proofs.lemmas.List.{length-take}
use Rattle.limits.specs.Limits.{greatest_order}
use Rattle.format_spec.proofs.ModeTexts.{room_for_more}
use Rattle.format_spec.proofs.modes.text_of.Goals as goal

pub push_reserved-requires : goal.push_reserved-requires
unfolding greatest_order
push_reserved-requires c =
    let count = length-take c.loop-mode.mode-index c.args.modes.now in
    let room = room_for_more (take c.loop-mode.mode-index c.args.modes.now)
    (omega (arith, count, c.loop-mode-test.true, c.requires.short)) in
    let now = ap length c.loop-mode.invariant.0 in
    (lit< tt, omega (arith, room, now, c.loop-mode.invariant.1))
