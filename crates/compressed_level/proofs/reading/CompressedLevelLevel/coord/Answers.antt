use Rattle.std.proofs.Common.{ap}
use Rattle.compressed_level.proofs.CallLaws.{coord_inside, coord_read}
use Rattle.compressed_level.proofs.reading.CompressedLevelLevel.coord.Goals as goal

pub get-requires : goal.get-requires
get-requires c = coord_inside c.self.inside.coords.items c.args.pos c.args.self.now c.requires.0
    (ap (λ l. l.log.coords) c.self.view_is) c.requires.1 c.requires.2

pub returns : goal.returns
returns c = λ parent ok i. coord_read c.self.inside.coords.items c.args.pos c.get.result c.args.self.now parent
    (ap (λ l. l.log.coords) c.self.view_is) c.get.ensures ok i
