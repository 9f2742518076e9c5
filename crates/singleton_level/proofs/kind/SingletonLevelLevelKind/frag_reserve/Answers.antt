use Rattle.std.proofs.Common.{◌≤◌, sym, subst}
use Rattle.kernel_code.specs.Keeps.{no_turns}
use Rattle.level_core.specs.Fragments.{Grows, PassesLimit}
use Rattle.limits.specs.Limits.{greatest_position_count}
use Rattle.level_core.specs.Logs.{with_parents}
use Rattle.level_core.specs.Codes.{HoldsLog}
use Rattle.singleton_level.specs.Singleton.{letter_of, log_of, meaning}
use Rattle.singleton_level.proofs.CodeLaws.{reserve_does}
use Rattle.singleton_level.proofs.kind.SingletonLevelLevelKind.frag_reserve.Goals as goal

pub returns : goal.returns
returns c = λ can. λ setting l like k n parents may s held values.
    subst (λ code. Grows setting code c.args._free c.args._tensor c.args._level no_turns s
    (λ t. HoldsLog meaning l (with_parents (letter_of l.unique) parents (log_of l)) c.args._tensor c.args._level t
    × (parents ≤ greatest_position_count)) (PassesLimit c.args._tensor c.args._level parents)) (sym c.new.ensures)
    (reserve_does setting l c.args._tensor c.args._level c.args._free parents s k may held)
