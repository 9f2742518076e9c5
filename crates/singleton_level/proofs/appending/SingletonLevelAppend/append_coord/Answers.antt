use Rattle.std.specs.Prelude.{◌<◌}
use Rattle.std.proofs.Common.{◌∙◌, sym, subst}
use Rattle.coordinate_lists.proofs.Words.{fits_below}
use Rattle.singleton_level.specs.Singleton.{stored}
use Rattle.singleton_level.proofs.Laws.{push_keeps}
use Rattle.singleton_level.proofs.appending.SingletonLevelAppend.append_coord.Goals as goal

pub push-requires-clause-fits : goal.push-requires-clause-fits
push-requires-clause-fits c = fits_below c.self.inside.coords.wide c.self.inside.size c.args.x c.self.invariant.1
    (subst (λ l. c.args.x < l.size) (sym c.self.view_is) c.requires.may.below)

pub invariant_of-self : goal.invariant_of-self
invariant_of-self c = (
  push_keeps (stored c.self.inside.size c.self.inside.unique c.self.inside.stage c.self.inside.parents c.self.inside.coords.items
      c.self.inside.coords.spare) c.args.self.now c.push.new.self.items c.args.x c.push.new.self.spare c.self.view_is c.self.invariant.0
      c.requires.may c.requires.room c.push.ensures.items,
  c.push.ensures.wide ∙ c.self.invariant.1,
)
