use Rattle.level_core.proofs.KindLaws.{never_inserted}
use Rattle.compressed_level.specs.Compressed.{letter_of}
use Rattle.compressed_level.proofs.Laws.{appends}
use Rattle.compressed_level.proofs.kind.CompressedLevelLevelKind.frag_prepare.Goals as goal

pub returns : goal.returns
returns c = λ setting l like keeps parents most may. absurd (never_inserted (letter_of l.unique) (appends l.unique) may.able)
