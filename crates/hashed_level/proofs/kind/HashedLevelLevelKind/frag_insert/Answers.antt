use Rattle.std.proofs.Common.{◌≡◌, [], ◌∷◌, sym, subst, refl}
use Rattle.kernel_code.specs.Does.{Does, Never}
use Rattle.level_core.proofs.FragmentLaws.{argument_is}
use Rattle.hashed_level.specs.Code.{insert_code}
use Rattle.hashed_level.proofs.SearchCode.{Stored}
use Rattle.hashed_level.proofs.CodeLaws.{insert_does}
use Rattle.hashed_level.proofs.kind.HashedLevelLevelKind.frag_insert.Goals as goal

pub returns : goal.returns
returns c = λ setting l same keeps parent x ok may s held values.
    let is : c.in_ok-code.code ≡ insert_code c.args.tensor c.args.level c.in_ok-parent.parent c.in_ok-x.x c.args.free =
    c.in_ok-code.ensures in
    let at = argument_is c.args.args.now c.in_ok-x.x c.args.free 1 x (parent ∷ x
    ∷ []) s c.in_ok-x.ensures refl c.requires.arguments.below values in
    subst (λ code. Does setting code s
    (Stored setting l c.args.tensor c.args.level c.args.free parent x c.in_ok-x.x s ok held at.0 at.1) Never) (sym is)
    (insert_does setting l c.args.tensor c.args.level c.args.free c.args.args.now c.in_ok-parent.parent c.in_ok-x.x parent x s
    c.requires.result c.in_ok-parent.ensures c.in_ok-x.ensures c.requires.arguments.below ok may held values at.0 at.1)
