use Rattle.std.proofs.Common.{◌+◌, length, sym, subst}
use Rattle.kernel_code.specs.Keeps.{no_turns}
use Rattle.level_core.specs.Fragments.{Grows, PassesLimit}
use Rattle.coordinate_lists.specs.Codes.{Appended}
use Rattle.coordinate_lists.proofs.CodesLemmas.{append_law}
use Rattle.coordinate_lists.proofs.codes.append_code.Goals as goal

pub returns : goal.returns
returns c = λ setting free coords x s held values.
    subst (λ code. Grows setting code free 0 c.args.level no_turns s (Appended c.args.level x coords s)
    (PassesLimit 0 c.args.level (length coords + 1))) (sym c.in_ok-code.ensures)
    (append_law setting coords c.args.level free x c.args.args.now c.in_ok-coord.coord s c.in_ok-coord.ensures values held)
