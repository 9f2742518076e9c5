use Rattle.std.proofs.Common.{◌≡◌, sym, subst}
use Rattle.kernel_code.specs.Keeps.{no_turns}
use Rattle.level_core.specs.Fragments.{Grows, PassesLimitWithin}
use Rattle.level_core.specs.Kinds.{positions_for}
use Rattle.level_core.specs.declared.letter.Letter.TheVariants.{Hashed as HashedLetter}
use Rattle.hashed_level.specs.Code.{prepare_code}
use Rattle.hashed_level.proofs.CodeLaws.{Made, prepare_does}
use Rattle.hashed_level.proofs.kind.HashedLevelLevelKind.frag_prepare.Goals as goal

pub returns : goal.returns
returns c = λ setting l same keeps parents most may enough s held values.
    let is : c.in_ok-code.code ≡ prepare_code c.args.tensor c.args.level c.in_ok-parents.parents c.in_ok-most.most c.args.free =
    c.in_ok-code.ensures in
    subst (λ code. Grows setting code c.args.free c.args.tensor c.args.level no_turns s (Made l c.args.tensor c.args.level parents most)
    (PassesLimitWithin c.args.tensor c.args.level (positions_for HashedLetter l.size parents most))) (sym is)
    (prepare_does setting l c.args.tensor c.args.level c.args.free c.args.args.now c.in_ok-parents.parents c.in_ok-most.most parents most
    s c.requires.result c.in_ok-parents.ensures c.in_ok-most.ensures c.requires.arguments.below keeps may held values)
