use Rattle.compressed_level.specs.Compressed.{segment_of}
use Rattle.compressed_level.proofs.CallLaws.{reading, segment_read}
use Rattle.compressed_level.proofs.reading.CompressedLevelLevel.segment.Goals as goal

pub get-requires : goal.get-requires
get-requires c = (reading c.self.inside.size c.self.inside.unique c.self.inside.stage c.self.inside.ends.items c.self.inside.coords.items
    c.self.inside.next c.self.inside.coords.spare c.args.parent c.args.self.now c.self.view_is c.self.invariant.1 c.requires).lo_inside

pub get-requires-2 : goal.get-requires-2
get-requires-2 c = (reading c.self.inside.size c.self.inside.unique c.self.inside.stage c.self.inside.ends.items
    c.self.inside.coords.items c.self.inside.next c.self.inside.coords.spare c.args.parent c.args.self.now c.self.view_is
    c.self.invariant.1 c.requires).hi_inside

pub returns : goal.returns
returns c = segment_read c.self.inside.ends.items (segment_of c.args.self.now c.args.parent) c.args.parent c.get.result c.get-2.result
    (reading c.self.inside.size c.self.inside.unique c.self.inside.stage c.self.inside.ends.items c.self.inside.coords.items
    c.self.inside.next c.self.inside.coords.spare c.args.parent c.args.self.now c.self.view_is c.self.invariant.1 c.requires)
    c.get.ensures c.get-2.ensures
