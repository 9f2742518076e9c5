use Rattle.std.proofs.Common.{◌∙◌, ap}
use Rattle.hashed_level.proofs.Laws.{never_passes, stops_first}
use Rattle.hashed_level.proofs.hashed.HashedLevel.slot_for.Goals as goal

pub unreachable-requires : goal.unreachable-requires
unreachable-requires c =
    never_passes c.args.self.now c.args.parent c.args.x c.as_slice.result.now c.width_now-width.result c.block_of-block.result.lo
    (c.as_slice.ensures ∙ ap (λ l. l.slots) c.self.view_is) c.width_now-width.ensures
    (ap (λ s. s.lo) c.block_of-block.ensures) c.requires.may c.in-None.ensures

pub returns : goal.returns
returns c = stops_first c.args.self.now c.args.parent c.args.x c.in-Some.slot c.as_slice.result.now c.width_now-width.result
    c.block_of-block.result.lo (c.as_slice.ensures
    ∙ ap (λ l. l.slots) c.self.view_is) c.width_now-width.ensures
    (ap (λ s. s.lo) c.block_of-block.ensures) c.requires.parent c.requires.may c.in-Some.ensures
