use Rattle.std.proofs.Common.{◌≤◌, sym, subst}
use Rattle.limits.specs.Limits.{greatest_position_count}
use Rattle.kernel_code.specs.Keeps.{no_turns}
use Rattle.level_core.specs.declared.letter.Letter.TheVariants.{Dense}
use Rattle.level_core.specs.Kinds.{positions_for}
use Rattle.level_core.specs.Fragments.{Grows, PassesLimitWithin}
use Rattle.level_core.specs.Codes.{HoldsPrepared}
use Rattle.dense_level.specs.Dense.{meaning}
use Rattle.dense_level.proofs.CodeLaws.{prepare_does}
use Rattle.dense_level.proofs.kind.DenseLevelLevelKind.frag_prepare.Goals as goal

pub returns : goal.returns
returns c = λ setting l same keeps parents most may enough s held values.
    subst (λ code. Grows setting code c.args._free c.args._tensor c.args._level no_turns s
    (λ t. HoldsPrepared meaning l parents most c.args._tensor c.args._level t
    × (positions_for Dense l parents most ≤ greatest_position_count))
    (PassesLimitWithin c.args._tensor c.args._level (positions_for Dense l parents most))) (sym c.new.ensures)
    (prepare_does setting l parents most c.args._tensor c.args._level c.args._free s keeps enough held)
