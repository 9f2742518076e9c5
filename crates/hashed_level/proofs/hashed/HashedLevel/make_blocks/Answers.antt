use Rattle.std.specs.Prelude.{replicate, Some}
use Rattle.std.proofs.Common.{◌∙◌, ◌*◌, ◌^◌, ◌<◌, sym, ap, subst, arith}
use Rattle.limits.proofs.Limits.{positions_are_small}
use Rattle.hashed_level.specs.Slots.{empty_slot}
use Rattle.kernel_code.specs.Widths.{slot_width}
use Rattle.hashed_level.specs.Hashed.{KeepsRules, hashed}
use Rattle.hashed_level.specs.Laws.{prepared_keeps}
use Rattle.hashed_level.proofs.Laws.{slots_word}
use Rattle.hashed_level.proofs.hashed.HashedLevel.make_blocks.Goals as goal

pub width_for-width-requires : goal.width_for-width-requires
width_for-width-requires c = let few = c.requires.may.coordinates in let small = positions_are_small in omega (arith, few, small)

pub overflow_mul-parents : goal.overflow_mul-parents
overflow_mul-parents c =
    let small : c.args.parents * c.width_for-width.result < 2 ^ 64 =
    subst (λ w. c.args.parents * w < 2 ^ 64) (sym c.width_for-width.ensures)
    (slots_word c.args.self.now c.args.parents c.args.most c.requires.within) in
    omega (arith, small)

pub invariant_of-self : goal.invariant_of-self
invariant_of-self c = subst KeepsRules (sym (
    ap (λ xs. hashed c.self.inside.size xs (Some c.width_for-width.result) c.args.parents) c.in_ok-slots.ensures
    ∙ ap (λ w. hashed c.self.inside.size (replicate (c.args.parents * w) empty_slot) (Some w) c.args.parents) c.width_for-width.ensures
    ∙ ap (λ l. hashed l.size (replicate (c.args.parents * slot_width c.args.most) empty_slot)
    (Some (slot_width c.args.most)) c.args.parents) c.self.view_is))
    (prepared_keeps c.args.self.now c.args.parents c.args.most (subst KeepsRules c.self.view_is c.self.invariant) c.requires.within)
