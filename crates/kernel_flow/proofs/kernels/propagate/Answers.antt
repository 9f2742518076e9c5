use Rattle.std.proofs.Common.{subst, sym}
use Rattle.kernel_flow.specs.Passing.{Passes}
use Rattle.kernel_flow.specs.Steady.{HasWords}
use Rattle.kernel_flow.proofs.CodeLemmas.{passes_from, refines}
use Rattle.simplifier.proofs.Refining.{kernel_refines}
use Rattle.kernel_flow.proofs.kernels.propagate.Goals as goal

pub returns : goal.returns
returns c =
    let old = c.args.kernel in
    let p = c.in_ok-passed.passed in
    let whole = passes_from c.new.result p.facts old.body c.as_slice-2.result.now p.code (sym c.as_slice-2.ensures)
    c.in_ok-passed.ensures in
    let from_none = subst (λ F. Passes F old.body p.code p.facts) c.new.ensures whole in
    kernel_refines HasWords old p.code (refines p.facts p.code old.body from_none)
