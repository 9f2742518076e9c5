use Rattle.std.proofs.Common.{subst}
use Rattle.simplifier.proofs.Refining.{kernel_refines}
use Rattle.simplifier.specs.Refines.{Refines}
use Rattle.store_facts.specs.Facts.{KeepsFacts}
use Rattle.store_facts.proofs.sizes.sizes_as_ranges.Goals as goal

pub returns : goal.returns
returns c =
    let old = c.args.kernel in
    let new = c.in_ok-new in
    let starts = KeepsFacts c.args.facts.now in
    kernel_refines starts old new.new (subst (Refines starts new.new) c.as_slice.ensures new.ensures)
