use Rattle.std.proofs.Common.{sym, subst}
use Rattle.kernel_code.specs.Keeps.{no_turns}
use Rattle.level_core.specs.Fragments.{Writes}
use Rattle.level_core.specs.Logs.{with_edges}
use Rattle.level_core.specs.Codes.{HoldsLog}
use Rattle.singleton_level.specs.Singleton.{letter_of, log_of, meaning}
use Rattle.singleton_level.proofs.CodeLaws.{edges_does}
use Rattle.singleton_level.proofs.kind.SingletonLevelLevelKind.frag_edges.Goals as goal

pub returns : goal.returns
returns c = λ can. λ setting l like k parent begin end may s held values.
    subst (λ code. Writes setting code c.args._free c.args._tensor c.args._level no_turns s
    (HoldsLog meaning l (with_edges (letter_of l.unique) parent begin end (log_of l)) c.args._tensor c.args._level)) (sym c.new.ensures)
    (edges_does setting l c.args._tensor c.args._level c.args._free parent begin end s k held)
