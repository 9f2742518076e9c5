use Rattle.compressed_level.proofs.CallLaws.{finishing, finish_keeps, finish_is}
use Rattle.compressed_level.proofs.appending.CompressedLevelAppend.finish.Goals as goal

pub invariant_of-self : goal.invariant_of-self
invariant_of-self c = let f =
    finishing c.self.inside.size c.self.inside.unique c.self.inside.stage c.self.inside.ends.items c.self.inside.coords.items
    c.self.inside.next c.self.inside.coords.spare c.args._parents c.args.self.now c.self.view_is c.self.invariant.0 c.self.invariant.1
    c.requires in
    let kept = finish_keeps c.self.inside.size c.self.inside.unique c.self.inside.ends.items c.self.inside.coords.items
    c.self.inside.next c.self.inside.coords.spare c.args._parents c.sum_up.new.numbers.items f.1 c.sum_up.ensures.items in
    (kept.0, kept.1, c.self.invariant.2, c.sum_up.ensures.wide)

pub returns : goal.returns
returns c = finish_is c.self.inside.size c.self.inside.unique c.self.inside.stage c.self.inside.ends.items c.self.inside.coords.items
    c.self.inside.next c.self.inside.coords.spare c.args._parents c.sum_up.new.numbers.items c.args.self.now c.self.view_is
    c.self.invariant.0 c.self.invariant.1 c.requires c.sum_up.ensures.items
