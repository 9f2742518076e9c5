use Rattle.compressed_level.specs.Compressed.{segment_of}
use Rattle.compressed_level.specs.Laws.{within_coords}
use Rattle.compressed_level.proofs.kind.CompressedLevelLevelKind.frag_coord.Goals as goal

pub returns : goal.returns
returns c = λ can. λ setting l like parent ok pos i s held values. c.in_ok-code.ensures setting l.log.coords (segment_of l parent)
    (within_coords l parent ok).inside pos i s held.coords values
