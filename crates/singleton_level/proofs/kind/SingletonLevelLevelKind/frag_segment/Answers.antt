use Rattle.std.proofs.Common.{sym, subst}
use Rattle.kernel_code.specs.Keeps.{no_turns}
use Rattle.level_core.specs.Fragments.{Reads, SpanLeft}
use Rattle.singleton_level.proofs.CodeLaws.{segment_does}
use Rattle.singleton_level.proofs.kind.SingletonLevelLevelKind.frag_segment.Goals as goal

pub returns : goal.returns
returns c = λ setting l like parent ok s held values.
    subst (λ code. Reads setting code c.args.free no_turns s (SpanLeft c.args.free parent)) (sym c.in_ok-code.ensures)
    (segment_does setting c.args.free c.args.args.now c.in_ok-lo.lo c.in_ok-hi.hi parent s c.in_ok-lo.ensures c.in_ok-hi.ensures
    c.requires.below values)
