use Rattle.std.proofs.Common.{◌≡◌, sym, subst}
use Rattle.level_core.specs.Entries.{one, position_of}
use Rattle.dense_level.specs.Dense.{entries_of}
use Rattle.kernel_code.specs.Keeps.{no_turns}
use Rattle.level_core.specs.Fragments.{Reads, OptionLeft}
use Rattle.dense_level.specs.Code.{locate_code}
use Rattle.dense_level.proofs.CodeLaws.{locate_does}
use Rattle.dense_level.proofs.kind.DenseLevelLevelKind.frag_locate.Goals as goal

pub returns : goal.returns
returns c = λ can setting l same parent ok x s held values.
    let is : c.in_ok-code.code ≡ locate_code c.args.tensor c.args.level c.in_ok-parent.parent c.in_ok-x.x c.args.free =
    c.in_ok-code.ensures in
    subst (λ code. Reads setting code c.args.free no_turns s (OptionLeft c.args.free (position_of (entries_of l (one parent)) x))) (sym is)
    (locate_does setting l c.args.tensor c.args.level c.args.free c.args.args.now c.in_ok-parent.parent c.in_ok-x.x parent x s
    c.in_ok-parent.ensures c.in_ok-x.ensures c.requires.below ok held values)
