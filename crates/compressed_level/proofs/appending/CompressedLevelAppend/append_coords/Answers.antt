use Rattle.std.proofs.Common.{◌∙◌}
use Rattle.compressed_level.proofs.CallLaws.{append_keeps}
use Rattle.compressed_level.proofs.appending.CompressedLevelAppend.append_coords.Goals as goal

pub invariant_of-self : goal.invariant_of-self
invariant_of-self c = (
  append_keeps c.self.inside.size c.self.inside.unique c.self.inside.stage c.self.inside.ends.items c.self.inside.coords.items
      c.self.inside.next c.self.inside.coords.spare c.append.new.self.spare c.args.xs.now c.append.new.self.items c.args.self.now
      c.self.view_is c.self.invariant.0 c.requires.may c.requires.room c.append.ensures.items,
  c.self.invariant.1,
  c.append.ensures.wide ∙ c.self.invariant.2,
  c.self.invariant.3,
)
