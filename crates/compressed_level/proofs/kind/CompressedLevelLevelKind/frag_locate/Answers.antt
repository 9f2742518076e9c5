use Rattle.std.specs.Prelude.{refl}
use Rattle.level_core.specs.declared.letter.Letter.TheVariants.{Compressed, CompressedGroups}
use Rattle.coordinate_lists.proofs.Letters.{never_located}
use Rattle.compressed_level.proofs.kind.CompressedLevelLevelKind.frag_locate.Goals as goal

pub returns : goal.returns
returns c = λ can. absurd (never_located Compressed CompressedGroups c.args.self.now.unique refl refl can)
