use Rattle.std.proofs.Common.{ap}
use Rattle.singleton_level.specs.Singleton.{stored, letter_of}
use Rattle.singleton_level.proofs.Laws.{reserve_logs}
use Rattle.singleton_level.proofs.appending.SingletonLevelAppend.reserve.Goals as goal

pub returns-clause-log : goal.returns-clause-log
returns-clause-log c = record {
  kind = ap (λ l. letter_of l.unique) c.self.view_is;
  size = ap (λ l. l.size) c.self.view_is;
  log = reserve_logs (stored c.self.inside.size c.self.inside.unique c.self.inside.stage c.self.inside.parents c.self.inside.coords.items
      c.self.inside.coords.spare) c.args.self.now c.reserve.new.self.items c.max-self-inside.result c.args.parents c.self.view_is
      c.in_ok-reserve.ensures.items c.max-self-inside.ensures;
}
