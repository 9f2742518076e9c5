use Rattle.kernel_flow.proofs.FactLemmas.{gives_same}
use Rattle.kernel_flow.proofs.ChoiceLemmas.{gives_behind, gives_of}
use Rattle.kernel_flow.proofs.choices.with_told.Goals as goal

pub returns : goal.returns
returns c =
    gives_behind c.args.facts c.in_ok-out.out c.args.facts c.append.new.self
    (gives_of c.args.facts c.as_slice-2.result.now c.in_ok-out.out c.as_slice-2.ensures c.in_ok-out.ensures) (gives_same c.args.facts)
    c.in_ok-append.ensures.ok
