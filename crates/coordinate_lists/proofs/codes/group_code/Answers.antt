use Rattle.std.proofs.Common.{◌-◌, sym, subst}
use Rattle.kernel_code.specs.declared.syntax.LoopKind.TheVariants.{Skip}
use Rattle.level_core.specs.Fragments.{Reads, SpanLeft, turns_of}
use Rattle.coordinate_lists.proofs.CodesLemmas.{group_law}
use Rattle.coordinate_lists.proofs.codes.group_code.Goals as goal

pub returns : goal.returns
returns c = λ setting coords segment inside limit e stands s held values.
    subst (λ code. Reads setting code c.args.free (turns_of Skip (e.child.hi - e.child.lo)) s (SpanLeft c.args.free e.child))
    (sym c.in_ok-code.ensures)
    (group_law setting coords c.args.tensor c.args.level c.args.free segment e c.args.args.now c.in_ok-position.position c.in_ok-end.end s
    c.in_ok-position.ensures c.in_ok-end.ensures c.requires.below inside limit stands held values)
