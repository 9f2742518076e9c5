use Rattle.std.proofs.Common.{◌≡◌, sym, subst}
use Rattle.dense_level.specs.Dense.{segment_of}
use Rattle.kernel_code.specs.Keeps.{no_turns}
use Rattle.level_core.specs.Fragments.{Reads, SpanLeft}
use Rattle.level_core.specs.FragmentLaws.{two_code}
use Rattle.dense_level.specs.Code.{times_size}
use Rattle.dense_level.proofs.CodeLaws.{segment_does}
use Rattle.dense_level.proofs.kind.DenseLevelLevelKind.frag_segment.Goals as goal

pub returns : goal.returns
returns c = λ setting l same parent ok s held values.
    let is : c.in_ok-code.code ≡ two_code c.args.free (times_size c.args.tensor c.args.level c.in_ok-lo.lo)
    (times_size c.args.tensor c.args.level c.in_ok-hi.hi) = cc (c.in_ok-code.ensures, c.in_ok-first.ensures, c.in_ok-end.ensures) in
    subst (λ code. Reads setting code c.args.free no_turns s (SpanLeft c.args.free (segment_of l parent))) (sym is)
    (segment_does setting l c.args.tensor c.args.level c.args.free c.args.args.now c.in_ok-lo.lo c.in_ok-hi.hi parent s c.in_ok-lo.ensures
    c.in_ok-hi.ensures c.requires.below ok held values)
