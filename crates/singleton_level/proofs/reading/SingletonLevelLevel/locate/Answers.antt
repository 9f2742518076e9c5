use Rattle.std.specs.Prelude.{refl}
use Rattle.level_core.specs.declared.letter.Letter.TheVariants.{Singleton, SingletonGroups}
use Rattle.coordinate_lists.proofs.Letters.{never_located}
use Rattle.singleton_level.proofs.reading.SingletonLevelLevel.locate.Goals as goal

pub returns : goal.returns
returns c = λ can. absurd (never_located Singleton SingletonGroups c.args.self.now.unique refl refl can)
