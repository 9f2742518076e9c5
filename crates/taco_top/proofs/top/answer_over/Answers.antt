use Rattle.taco_top.specs.Values.{semiring}
use Rattle.taco_top.proofs.top.answer_over.Goals as goal

pub returns-in-Kernel : goal.returns-in-Kernel
returns-in-Kernel g c = λ words asks. c.kernel.ensures words (g.F.Folder.state c.args.files.now) asks

pub returns : goal.returns
returns g c = λ words asks.
    let over = semiring g.S.Semiring.arithmetic g.S.Semiring.has_minus g.S.Semiring.is_ring g.S.Semiring.is_signed g.S.Semiring.name in
    c.tell_plan.ensures over words (g.F.Folder.state c.args.files.now) asks
