use Rattle.std.proofs.Common.{[], ◌∷◌, sym, subst}
use Rattle.kernel_code.specs.Keeps.{no_turns}
use Rattle.level_core.specs.Fragments.{Reads, SpanLeft}
use Rattle.hashed_level.specs.Hashed.{segment_of}
use Rattle.hashed_level.proofs.CodeLaws.{child_does}
use Rattle.hashed_level.proofs.kind.HashedLevelLevelKind.frag_child.Goals as goal

pub returns : goal.returns
returns c = λ setting l same parent ok e stands s held values.
    subst (λ code. Reads setting code c.args.free no_turns s (SpanLeft c.args.free e.child)) (sym c.in_ok-code.ensures)
    (child_does setting l c.args.free c.args.args.now c.in_ok-pos.pos parent e ((segment_of l parent).lo ∷ (segment_of l parent).hi
    ∷ []) s c.in_ok-pos.ensures c.requires.below ok stands values)
