use Rattle.std.specs.Prelude.{List, [], ◌∷◌, ◌++◌}
use Rattle.std.proofs.Common.{◌∙◌, ap}
use Rattle.kernel_code.specs.declared.syntax.KStmt.{KStmt}
use Rattle.kernel_read.specs.Drafts.{with_body}
use Rattle.kernel_read.proofs.drafts.Draft.behind_block.Goals as goal

pub returns-in_ok-push-in-Some-closing : goal.returns-in_ok-push-in-Some-closing
returns-in_ok-push-in-Some-closing c = (
  c.pop.new.self,
  (
    c.in-Some.block,
    (
      c.in-Some.ensures,
      (
        c.in-Some-closing.ensures.0,
        ap (λ (code : List KStmt). with_body c.args.self c.pop.new.self code) (c.in_ok-push-in-Some-closing.ensures.ok
            ∙ ap (λ (s : KStmt). c.in-Some.block.before ++ (s ∷ [])) c.in-Some-closing.ensures.1),
      ),
    ),
  ),
)

pub returns-in-None : goal.returns-in-None
returns-in-None c = (c.pop.new.self, (c.in-Some.block, (c.in-Some.ensures, c.in-None.ensures)))
