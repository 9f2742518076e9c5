use Rattle.std.proofs.Common.{sym, subst}
use Rattle.kernel_code.specs.Keeps.{no_turns}
use Rattle.level_core.specs.Fragments.{Reads, SpanLeft}
use Rattle.coordinate_lists.proofs.CodesLemmas.{position_law}
use Rattle.coordinate_lists.proofs.codes.position_code.Goals as goal

pub returns : goal.returns
returns c = λ setting coords segment inside limit rises e stands s values.
    subst (λ code. Reads setting code c.args.free no_turns s (SpanLeft c.args.free e.child)) (sym c.in_ok-code.ensures)
    (position_law setting coords c.args.free segment e c.args.args.now c.in_ok-position.position s c.in_ok-position.ensures
    c.requires.below inside limit rises stands values)
