use Rattle.std.proofs.Common.{◌+◌, ◌≤◌, sym, subst, length}
use Rattle.kernel_code.specs.Keeps.{no_turns}
use Rattle.level_core.specs.Fragments.{Grows, PassesLimit}
use Rattle.limits.specs.Limits.{greatest_position_count}
use Rattle.level_core.specs.Logs.{with_coord}
use Rattle.level_core.specs.Codes.{HoldsLog}
use Rattle.singleton_level.specs.Singleton.{Holds, log_of, meaning}
use Rattle.singleton_level.proofs.CodeLaws.{append_does}
use Rattle.singleton_level.proofs.kind.SingletonLevelLevelKind.frag_append.Goals as goal

pub returns : goal.returns
returns c = λ can. λ setting l like k x may s held values.
    subst (λ n. Grows setting c.in_ok-code.code c.args._free n c.args.level no_turns s
    (λ t. HoldsLog meaning l (with_coord x (log_of l)) n c.args.level t
    × (length l.coords + 1 ≤ greatest_position_count)) (PassesLimit n c.args.level (length l.coords + 1))) (sym c.requires.result)
    (append_does setting l c.args.level c.args._free x c.in_ok-code.code s k may
    (c.in_ok-code.ensures setting c.args._free l.coords x s
    (subst (λ n. Holds l n c.args.level s.arrays) c.requires.result held) values))
