use Rattle.std.proofs.Common.{sym, subst}
use Rattle.kernel_code.specs.Keeps.{no_turns}
use Rattle.level_core.specs.Fragments.{Grows, PassesLimit}
use Rattle.compressed_level.specs.Compressed.{Holds}
use Rattle.compressed_level.proofs.CodeLaws.{Reserves, reserve_does}
use Rattle.compressed_level.proofs.kind.CompressedLevelLevelKind.frag_reserve.Goals as goal

pub returns : goal.returns
returns c = λ can. λ setting l like k n parents may s held values.
    let e = c.in_ok-code.ensures in
    let here = subst (λ t. Holds l t c.args.level s.arrays) c.requires.result held in
    subst (λ t. Grows setting c.in_ok-code.code c.args._free t c.args.level no_turns s (Reserves l parents t c.args.level)
    (PassesLimit t c.args.level parents)) (sym c.requires.result)
    (subst (λ code. Grows setting code c.args._free 0 c.args.level no_turns s (Reserves l parents 0 c.args.level)
    (PassesLimit 0 c.args.level parents)) (sym e.2)
    (reserve_does setting l c.args.level c.args._free n parents c.args.args.now e.0 s e.1 c.requires.arguments.below k may here values))
