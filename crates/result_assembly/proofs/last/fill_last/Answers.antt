use Rattle.std.specs.Prelude.{◌+◌, ◌-◌, ◌∷◌, [], ◌++◌, refl}
use Rattle.std.proofs.Common.{◌∙◌, sym, ap, subst, arith}
use Rattle.kernel_code.specs.Keeps.{Below}
use Rattle.kernel_code.specs.declared.syntax.Arr.TheVariants.{Values}
use Rattle.kernel_code.specs.declared.syntax.KExpr.{Num, Var}
use Rattle.kernel_code.specs.declared.syntax.KStmt.{Extend}
use Rattle.tensor_storage.specs.Levels.{meaning}
use Rattle.result_assembly.specs.Tests.{begins_test}
use Rattle.result_assembly.proofs.Codes.{below_more, key_below}
use Rattle.result_assembly.proofs.LastCode.{filled_of}
use Rattle.result_assembly.proofs.last.fill_last.Goals as goal

pub frag_insert-requires-clause-arguments : goal.frag_insert-requires-clause-arguments
frag_insert-requires-clause-arguments c =
    let base = ap (λ r. r.base) c.rows_site-rows.ensures in
    let room = c.requires.room in
    record {
      many = refl;
      below = (
        omega arith,
        (
          subst (Below (c.rows_site-rows.result.base + 6)) (sym c.in_ok-coord.ensures)
              (key_below (c.rows_site-rows.result.base + 6) c.args.at.workspace (c.args.at.level - 1) c.rows_site-rows.result.base
              (omega arith)),
          tt,
        ),
      );
      room = omega (arith, base, room);
    }

pub frag_prepare-requires-clause-arguments : goal.frag_prepare-requires-clause-arguments
frag_prepare-requires-clause-arguments c =
    let base = ap (λ r. r.base) c.rows_site-rows.ensures in
    let room = c.requires.room in
    record {
      many = refl;
      below = (
        below_more c.args.at.base (c.rows_site-rows.result.base + 6) c.args.parents (omega (arith, base)) c.requires.parents,
        (omega arith, tt),
      );
      room = omega (arith, base, room);
    }

pub returns : goal.returns
returns c =
    let at = c.args.at in
    let site = c.rows_site-rows.result in
    let insert = c.in_ok-insert.insert in
    let prepare = c.in_ok-prepare.prepare in
    let fill = c.in_ok-fill.fill in
    filled_of (meaning.kind c.args.level.now) c.requires.counted at site c.args.parents
    (begins_test site.base site.workspace site.level) c.in_ok-coord.coord c.args.zero c.in_ok-total.total c.in_ok-code.code prepare
    insert fill c.append-2.new.self c.requires.parents
    c.rows_site-rows.ensures (ap (λ r. begins_test site.base site.workspace r.level) c.rows_site-rows.ensures) c.in_ok-coord.ensures
    c.in_ok-total.ensures c.in_ok-code.ensures
    c.in_ok-prepare.ensures c.in_ok-insert.ensures
    c.in_ok-fill.ensures
    (c.in_ok-append-2.ensures.ok ∙ ap (λ k. k ++ fill)
    (c.in_ok-push-2.ensures.ok ∙ ap (λ k. k ++ Extend (Values 0) (Var at.base) (Num c.args.zero) ∷ [])
    (c.in_ok-append.ensures.ok ∙ ap (λ k. k ++ prepare) c.in_ok-push.ensures.ok)))
