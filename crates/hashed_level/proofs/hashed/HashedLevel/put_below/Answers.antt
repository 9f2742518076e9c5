use Rattle.std.proofs.Common.{◌∙◌, sym, ap, subst}
use Rattle.hashed_level.specs.Hashed.{KeepsRules, hashed, with_coordinate}
use Rattle.hashed_level.specs.Laws.{inserted_keeps}
use Rattle.hashed_level.proofs.hashed.HashedLevel.put_below.Goals as goal

pub invariant_of-self : goal.invariant_of-self
invariant_of-self c = subst KeepsRules
    (sym (ap (λ xs. hashed c.self.inside.size xs c.self.inside.width c.self.inside.parents) c.set.ensures.items
    ∙ ap (λ l. with_coordinate l c.args.x c.slot_for-slot.result) c.self.view_is))
    (inserted_keeps c.args.self.now c.args.parent c.args.x c.slot_for-slot.result c.requires.parent c.requires.may c.slot_for-slot.ensures)
