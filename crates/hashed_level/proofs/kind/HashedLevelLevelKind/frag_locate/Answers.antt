use Rattle.std.proofs.Common.{◌≡◌, [], ◌∷◌, sym, subst, refl}
use Rattle.kernel_code.specs.Does.{Does, Never}
use Rattle.level_core.proofs.FragmentLaws.{argument_is}
use Rattle.hashed_level.specs.Code.{locate_code}
use Rattle.hashed_level.proofs.SearchCode.{Located}
use Rattle.hashed_level.proofs.CodeLaws.{locate_does}
use Rattle.hashed_level.proofs.kind.HashedLevelLevelKind.frag_locate.Goals as goal

pub returns : goal.returns
returns c = λ can setting l same parent ok x s held values.
    let is : c.in_ok-code.code ≡ locate_code c.args.tensor c.args.level c.in_ok-parent.parent c.in_ok-x.x c.args.free =
    c.in_ok-code.ensures in
    let at = argument_is c.args.args.now c.in_ok-x.x c.args.free 1 x (parent ∷ x ∷ []) s c.in_ok-x.ensures refl c.requires.below values in
    subst (λ code. Does setting code s
    (Located setting l c.args.tensor c.args.level c.args.free parent x c.in_ok-x.x s ok held at.0 at.1) Never) (sym is)
    (locate_does setting l c.args.tensor c.args.level c.args.free c.args.args.now c.in_ok-parent.parent c.in_ok-x.x parent x s
    c.in_ok-parent.ensures c.in_ok-x.ensures c.requires.below ok held values at.0 at.1)
