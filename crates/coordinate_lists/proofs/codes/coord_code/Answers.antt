use Rattle.std.proofs.Common.{◌≡◌, sym, subst}
use Rattle.kernel_code.specs.declared.syntax.Arr.TheVariants.{Coordinates}
use Rattle.kernel_code.specs.declared.syntax.KExpr.{Num, At}
use Rattle.kernel_code.specs.Keeps.{no_turns}
use Rattle.level_core.specs.Entries.{coord_at}
use Rattle.level_core.specs.Logs.{entries_between}
use Rattle.level_core.specs.Fragments.{Reads, OptionLeft}
use Rattle.level_core.specs.FragmentLaws.{two_code}
use Rattle.coordinate_lists.proofs.CodesLemmas.{coord_law}
use Rattle.coordinate_lists.proofs.codes.coord_code.Goals as goal

pub returns : goal.returns
returns c = λ setting coords segment inside pos i s held values.
    let is : c.in_ok-code.code ≡ two_code c.args.free (Num 1) (At (Coordinates c.args.tensor c.args.level) c.in_ok-position.position) =
    cc (c.in_ok-code.ensures, c.in_ok-word.ensures) in
    subst (λ code. Reads setting code c.args.free no_turns s (OptionLeft c.args.free (coord_at (entries_between coords segment) pos)))
    (sym is)
    (coord_law setting coords c.args.tensor c.args.level c.args.free pos segment c.args.args.now c.in_ok-position.position s
    c.in_ok-position.ensures c.requires.below inside i held values)
