use Rattle.std.proofs.Common.{sym, subst}
use Rattle.kernel_code.specs.Keeps.{no_turns}
use Rattle.level_core.specs.Logs.{with_edges}
use Rattle.level_core.specs.Fragments.{Writes}
use Rattle.level_core.specs.Codes.{HoldsLog}
use Rattle.compressed_level.specs.Compressed.{letter_of, Holds, meaning}
use Rattle.compressed_level.proofs.CodeLaws.{edges_does}
use Rattle.compressed_level.proofs.kind.CompressedLevelLevelKind.frag_edges.Goals as goal

pub returns : goal.returns
returns c = λ can. λ setting l like k parent begin end may s held values.
    let x = c.in_ok-code.ensures in
    let here = subst (λ n. Holds l n c.args.level s.arrays) c.requires.result held in
    subst (λ n. Writes setting c.in_ok-code.code c.args._free n c.args.level no_turns s
    (HoldsLog meaning l (with_edges (letter_of l.unique) parent begin end l.log) n c.args.level)) (sym c.requires.result)
    (subst (λ code. Writes setting code c.args._free 0 c.args.level no_turns s
    (HoldsLog meaning l (with_edges (letter_of l.unique) parent begin end l.log) 0 c.args.level)) (sym x.6)
    (edges_does setting l c.args.level c.args._free parent begin end c.args.args.now x.0 x.1 x.2 s x.3 x.4 x.5 c.requires.arguments.below
    k may here values))
