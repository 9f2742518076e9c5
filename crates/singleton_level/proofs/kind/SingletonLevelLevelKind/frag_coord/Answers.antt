use Rattle.singleton_level.proofs.kind.SingletonLevelLevelKind.frag_coord.Goals as goal

pub returns : goal.returns
returns c = λ can. λ setting l like parent ok pos i s held values. c.in_ok-code.ensures setting l.coords parent ok.within.inside pos i s
    held values
