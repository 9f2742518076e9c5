use Rattle.simplifier.proofs.WordsAlone.{simple_is_well_formed}
use Rattle.simplifier.proofs.kernels.simplify.Goals as goal

pub returns-clause-formed : goal.returns-clause-formed
returns-clause-formed g c over =
    simple_is_well_formed g.S.Semiring.arithmetic g.S.Semiring.is_ring g.S.Semiring.name g.met.S.Semiring.is_named
    g.met.S.Semiring.ring_is (record {
      semiring = c.args.kernel.semiring;
      workspaces = c.args.kernel.workspaces;
      lists = c.args.kernel.lists;
      body = c.in_ok-body.body;
    }) over c.in_ok-body.ensures.simple
