use Rattle.std.proofs.Common.{◌∙◌, ◌<◌, ◌≤◌, Some, sym, ap, subst}
use Rattle.level_core.specs.Entries.{one}
use Rattle.dense_level.specs.Laws.{position_is}
use Rattle.dense_level.proofs.Laws.{position_none}
use Rattle.dense_level.proofs.reading.DenseLevelLevel.locate.Goals as goal

pub returns-then-x-self : goal.returns-then-x-self
returns-then-x-self c = λ can.
    ap Some c.place_of.ensures
    ∙ sym (position_is c.args.self.now c.args.x (one c.args.parent) (subst (λ n. c.args.x < n) c.self.view_is c.if-x-self.true))

pub returns-else-x-self : goal.returns-else-x-self
returns-else-x-self c =
    λ can. sym (position_none c.args.self.now c.args.x (one c.args.parent) (subst (λ n. n ≤ c.args.x) c.self.view_is c.if-x-self.false))
