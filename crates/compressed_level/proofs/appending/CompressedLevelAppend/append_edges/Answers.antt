use Rattle.std.proofs.Common.{◌+◌, ◌-◌, ◌∙◌, sym, subst, arith}
use Rattle.coordinate_lists.proofs.Words.{fits_wide}
use Rattle.compressed_level.specs.Compressed.{KeepsRules, IsStored}
use Rattle.compressed_level.specs.Compressed.{stored}
use Rattle.compressed_level.proofs.CallLaws.{giving, edges_keep}
use Rattle.compressed_level.proofs.appending.CompressedLevelAppend.append_edges.Goals as goal

pub overflow_add-parent : goal.overflow_add-parent
overflow_add-parent c = let small =
    (giving c.self.inside.size c.self.inside.unique c.self.inside.stage c.self.inside.ends.items c.self.inside.coords.items
    c.self.inside.next c.self.inside.coords.spare c.args.parent c.args.begin c.args.end c.args.self.now c.self.view_is
    c.self.invariant.0 c.self.invariant.1 c.requires).1.small in grind (arith, small)

pub overflow_add-self : goal.overflow_add-self
overflow_add-self c = let small =
    (giving c.self.inside.size c.self.inside.unique c.self.inside.stage c.self.inside.ends.items c.self.inside.coords.items
    c.self.inside.next c.self.inside.coords.spare c.args.parent c.args.begin c.args.end c.args.self.now c.self.view_is
    c.self.invariant.0 c.self.invariant.1 c.requires).1.small in grind (arith, small)

pub set-requires-clause-fits : goal.set-requires-clause-fits
set-requires-clause-fits c = fits_wide c.self.inside.ends.wide (c.args.end - c.args.begin) c.self.invariant.3

pub invariant_of-self : goal.invariant_of-self
invariant_of-self c =
    let g = giving c.self.inside.size c.self.inside.unique c.self.inside.stage c.self.inside.ends.items c.self.inside.coords.items
    c.self.inside.next c.self.inside.coords.spare c.args.parent c.args.begin c.args.end c.args.self.now c.self.view_is
    c.self.invariant.0 c.self.invariant.1 c.requires in
    let kept = subst (λ t. KeepsRules
    (stored c.self.inside.size c.self.inside.unique t c.set.new.self.items c.self.inside.coords.items
    (c.args.parent + 1) c.self.inside.coords.spare) × IsStored t c.set.new.self.items) (sym g.0)
    (edges_keep c.self.inside.size c.self.inside.unique c.self.inside.ends.items c.self.inside.coords.items c.self.inside.next
    c.self.inside.coords.spare c.args.parent c.args.begin c.args.end c.set.new.self.items g.1 c.set.ensures.items) in
    (kept.0, kept.1, c.self.invariant.2, c.set.ensures.wide ∙ c.self.invariant.3)
