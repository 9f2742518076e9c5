use Rattle.std.specs.Prelude.{suc, ◌+◌, ◌*◌, [], ◌∷◌, ◌++◌}
use Rattle.kernel_code.specs.declared.syntax.KStmt.{If}
use Rattle.std.proofs.Common.{◌∙◌, sym, subst, arith, ap}
use Rattle.level_appends.specs.declared.site.AppendSite.{AppendSite}
use Rattle.level_appends.specs.Codes.{AppendsRow}
use Rattle.tensor_storage.specs.Levels.{meaning}
use Rattle.appended_results.specs.Codes.{inner_of}
use Rattle.appended_results.proofs.LevelSteps.{appends_to_level}
use Rattle.appended_results.proofs.levels.append_head.Goals as goal

pub returns : goal.returns
returns c letters head many kind is headed sparse mentions =
    let at = c.args.at in
    let inner = inner_of at.levels at.free in
    let result = c.requires.room.result in
    appends_to_level letters head at.base at.free at.above inner headed (omega (arith, result, many)) (omega (arith, many)) c.args.test
    c.args.coord (let low = c.requires.coord.below in omega (arith, low)) mentions sparse c.in_ok-reserved.reserved c.in_ok-append.append
    c.in_ok-code.code (c.in_ok-reserved.ensures letters kind is)
    (subst (λ k. AppendsRow meaning k (suc at.above) (at.base + 4 * at.above) (at.free + 2 * at.above) c.args.coord inner
    c.in_ok-append.append) (sym kind)
    (subst (λ (site : AppendSite). AppendsRow meaning (meaning.kind c.args.level.now) site.level site.base (at.free + 2 * at.above)
    c.args.coord inner c.in_ok-append.append) c.cursor.ensures c.in_ok-append.ensures))
    (c.in_ok-code.ensures ∙ ap (λ k. c.in_ok-reserved.reserved ++ (If c.args.test c.in_ok-append.append [] ∷ k)) c.in_ok-placed.ensures)
