use Rattle.std.specs.Prelude.{suc, ◌+◌, ◌*◌}
use Rattle.std.proofs.Common.{◌∙◌, sym, subst}
use Rattle.kernel_code.specs.declared.syntax.KExpr.{Var}
use Rattle.level_appends.specs.declared.site.AppendSite.{AppendSite}
use Rattle.level_appends.specs.Codes.{ReservesParents}
use Rattle.tensor_storage.specs.Levels.{meaning}
use Rattle.appended_results.specs.Codes.{inner_of}
use Rattle.appended_results.specs.Parts.{Anew}
use Rattle.appended_results.proofs.levels.reserve.Goals as goal

pub returns : goal.returns
returns c letters kind is =
    let at = c.args.at in
    let inner = inner_of at.levels at.free in
    Anew (is ∙ c.if-fixed.false)
    (subst (λ k. ReservesParents meaning k (suc at.above) (at.base + 4 * at.above) (Var (at.free + 2 * at.above + 1)) inner
    c.in_ok-code.code)
    (sym kind)
    (subst (λ (site : AppendSite). ReservesParents meaning (meaning.kind c.args.level.now) site.level site.base
    (Var (at.free + 2 * at.above + 1)) inner c.in_ok-code.code) c.cursor.ensures c.in_ok-code.ensures))
