use Rattle.std.proofs.Common.{◌∙◌}
use Rattle.singleton_level.specs.Singleton.{stored}
use Rattle.singleton_level.proofs.Laws.{append_keeps}
use Rattle.singleton_level.proofs.appending.SingletonLevelAppend.append_coords.Goals as goal

pub invariant_of-self : goal.invariant_of-self
invariant_of-self c = (
  append_keeps (stored c.self.inside.size c.self.inside.unique c.self.inside.stage c.self.inside.parents c.self.inside.coords.items
      c.self.inside.coords.spare) c.args.self.now c.append.new.self.items c.args.xs.now c.append.new.self.spare c.self.view_is
      c.self.invariant.0 c.requires.may c.requires.room c.append.ensures.items,
  c.append.ensures.wide ∙ c.self.invariant.1,
)
