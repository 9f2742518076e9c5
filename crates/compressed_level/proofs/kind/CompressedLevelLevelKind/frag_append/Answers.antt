use Rattle.std.proofs.Common.{◌+◌, ◌≤◌, sym, subst, length}
use Rattle.limits.specs.Limits.{greatest_position_count}
use Rattle.kernel_code.specs.Keeps.{no_turns}
use Rattle.level_core.specs.Logs.{with_coord}
use Rattle.level_core.specs.Fragments.{Grows, PassesLimit}
use Rattle.level_core.specs.Codes.{HoldsLog}
use Rattle.compressed_level.specs.Compressed.{Holds, meaning}
use Rattle.compressed_level.proofs.CodeLaws.{append_does}
use Rattle.compressed_level.proofs.kind.CompressedLevelLevelKind.frag_append.Goals as goal

pub returns : goal.returns
returns c = λ can. λ setting l like k x may s held values.
    let here = subst (λ n. Holds l n c.args.level s.arrays) c.requires.result held in
    subst (λ n. Grows setting c.in_ok-code.code c.args._free n c.args.level no_turns s
    (λ t. HoldsLog meaning l (with_coord x l.log) n c.args.level t
    × (length l.log.coords + 1 ≤ greatest_position_count)) (PassesLimit n c.args.level (length l.log.coords + 1)))
    (sym c.requires.result)
    (append_does setting l c.args.level c.args._free x c.in_ok-code.code s k may here
    (c.in_ok-code.ensures setting c.args._free l.log.coords x s here.coords values))
