use Rattle.std.proofs.Common.{◌≡◌, sym, subst}
use Rattle.kernel_code.specs.declared.syntax.Arr.TheVariants.{Ends}
use Rattle.kernel_code.specs.declared.syntax.KExpr.{At}
use Rattle.kernel_code.specs.Keeps.{no_turns}
use Rattle.level_core.specs.Fragments.{Reads, SpanLeft}
use Rattle.level_core.specs.FragmentLaws.{two_code}
use Rattle.compressed_level.specs.Compressed.{segment_of}
use Rattle.compressed_level.proofs.CodeLaws.{segment_does}
use Rattle.compressed_level.proofs.kind.CompressedLevelLevelKind.frag_segment.Goals as goal

pub returns : goal.returns
returns c = λ setting l like parent ok s held values.
    let is : c.in_ok-code.code ≡ two_code c.args.free (At (Ends c.args.tensor c.args.level) c.in_ok-lo.lo)
    (At (Ends c.args.tensor c.args.level) c.in_ok-hi.hi) = cc (c.in_ok-code.ensures, c.in_ok-begin.ensures, c.in_ok-end.ensures) in
    subst (λ code. Reads setting code c.args.free no_turns s (SpanLeft c.args.free (segment_of l parent))) (sym is)
    (segment_does setting l c.args.tensor c.args.level c.args.free parent c.args.args.now c.in_ok-lo.lo c.in_ok-hi.hi s c.in_ok-lo.ensures
    c.in_ok-hi.ensures c.requires.below ok held values)
