use Rattle.std.specs.Prelude.{◌<◌}
use Rattle.std.proofs.Common.{◌∙◌, sym, subst}
use Rattle.coordinate_lists.proofs.Words.{fits_below}
use Rattle.compressed_level.proofs.CallLaws.{push_keeps}
use Rattle.compressed_level.proofs.appending.CompressedLevelAppend.append_coord.Goals as goal

pub push-requires-clause-fits : goal.push-requires-clause-fits
push-requires-clause-fits c = fits_below c.self.inside.coords.wide c.self.inside.size c.args.x c.self.invariant.2
    (subst (λ l. c.args.x < l.size) (sym c.self.view_is) c.requires.may.below)

pub invariant_of-self : goal.invariant_of-self
invariant_of-self c = (
  push_keeps c.self.inside.size c.self.inside.unique c.self.inside.stage c.self.inside.ends.items c.self.inside.coords.items
      c.self.inside.next c.self.inside.coords.spare c.push.new.self.spare c.args.x c.push.new.self.items c.args.self.now c.self.view_is
      c.self.invariant.0 c.requires.may c.requires.room c.push.ensures.items,
  c.self.invariant.1,
  c.push.ensures.wide ∙ c.self.invariant.2,
  c.self.invariant.3,
)
