use Rattle.std.proofs.Common.{ap}
use Rattle.singleton_level.proofs.Laws.{child_first, child_read}
use Rattle.singleton_level.proofs.reading.SingletonLevelLevel.child.Goals as goal

pub group_end-requires-clause-first : goal.group_end-requires-clause-first
group_end-requires-clause-first c =
    (child_first c.self.inside.coords.items c.args.pos c.args.segment c.args.self.now c.requires.0 c.requires.1
    (ap (λ l. l.coords) c.self.view_is) c.requires.2 c.requires.3 c.requires.4).0

pub group_end-requires-clause-inside : goal.group_end-requires-clause-inside
group_end-requires-clause-inside c =
    (child_first c.self.inside.coords.items c.args.pos c.args.segment c.args.self.now c.requires.0 c.requires.1
    (ap (λ l. l.coords) c.self.view_is) c.requires.2 c.requires.3 c.requires.4).1

pub returns : goal.returns
returns c = λ parent e ok same stands. child_read c.self.inside.coords.items c.args.pos c.group_end.result c.args.segment c.args.self.now
    parent e (ap (λ l. l.coords) c.self.view_is) same stands c.group_end.ensures
