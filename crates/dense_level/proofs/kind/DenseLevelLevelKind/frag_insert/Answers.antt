use Rattle.std.proofs.Common.{◌≡◌, sym, subst}
use Rattle.kernel_code.specs.Keeps.{no_turns}
use Rattle.level_core.specs.Fragments.{Writes}
use Rattle.level_core.specs.FragmentLaws.{one_code}
use Rattle.level_core.specs.Codes.{HoldsInserted}
use Rattle.dense_level.specs.Code.{place_word}
use Rattle.dense_level.specs.Dense.{meaning}
use Rattle.dense_level.proofs.CodeLaws.{insert_does}
use Rattle.dense_level.proofs.kind.DenseLevelLevelKind.frag_insert.Goals as goal

pub returns : goal.returns
returns c = λ setting l same keeps parent x ok may s held values.
    let below = may.below in
    let is : c.in_ok-code.code ≡ one_code c.args.free (place_word c.args.tensor c.args.level c.in_ok-parent.parent c.in_ok-x.x) =
    cc (c.in_ok-code.ensures, c.in_ok-place.ensures) in
    subst (λ code. Writes setting code c.args.free c.args.tensor c.args.level no_turns s
    (HoldsInserted meaning l parent x c.args.tensor c.args.level c.args.free)) (sym is)
    (insert_does setting l c.args.tensor c.args.level c.args.free c.args.args.now c.in_ok-parent.parent c.in_ok-x.x parent x s
    c.in_ok-parent.ensures c.in_ok-x.ensures c.requires.arguments.below ok below held values)
