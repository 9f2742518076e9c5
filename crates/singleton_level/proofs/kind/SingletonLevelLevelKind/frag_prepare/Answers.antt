use Rattle.level_core.proofs.KindLaws.{never_inserted}
use Rattle.singleton_level.specs.Singleton.{letter_of}
use Rattle.singleton_level.proofs.Laws.{appends}
use Rattle.singleton_level.proofs.kind.SingletonLevelLevelKind.frag_prepare.Goals as goal

pub returns : goal.returns
returns c = λ setting l like keeps parents most may. absurd (never_inserted (letter_of l.unique) (appends l.unique) may.able)
