use Rattle.std.proofs.Common.{sym, subst}
use denote.Hole.Carrier.{hidden}
use Rattle.index_notation.specs.Statement.{AccessesUnder}
use Rattle.index_notation.specs.declared.syntax.Expr.TheBlock.{hidden-the_row-Expr-0}
use Rattle.index_notation.proofs.checks.+is_under.Goals as goal

pub returns-then-is_under-clause-told : goal.returns-then-is_under-clause-told
unfolding hidden-the_row-Expr-0 hidden
returns-then-is_under-clause-told t c = λ told.
    let P = AccessesUnder c.args.count in
    subst P (sym c.in-Binary.is) (
      subst P c.get.ensures (c.is_under.ensures.told c.if-is_under.true),
      subst P c.get-then-is_under.ensures (c.is_under-then-is_under.ensures.told told),
    )

pub returns-then-is_under-clause-found : goal.returns-then-is_under-clause-found
unfolding hidden-the_row-Expr-0 hidden
returns-then-is_under-clause-found t c = λ has.
    let P = AccessesUnder c.args.count in
    c.is_under-then-is_under.ensures.found (subst P (sym c.get-then-is_under.ensures) (subst P c.in-Binary.is has).1)

pub returns-else-is_under-clause-found : goal.returns-else-is_under-clause-found
unfolding hidden-the_row-Expr-0 hidden
returns-else-is_under-clause-found t c = λ has.
    let P = AccessesUnder c.args.count in
    c.is_under.ensures.found (subst P (sym c.get.ensures) (subst P c.in-Binary.is has).0)

pub returns-in-Neg-clause-told : goal.returns-in-Neg-clause-told
unfolding hidden-the_row-Expr-0 hidden
returns-in-Neg-clause-told t c = λ told.
    let P = AccessesUnder c.args.count in
    subst P (sym c.in-Neg.is) (subst P c.get-in-Neg.ensures (c.is_under-in-Neg.ensures.told told))

pub returns-in-Neg-clause-found : goal.returns-in-Neg-clause-found
unfolding hidden-the_row-Expr-0 hidden
returns-in-Neg-clause-found t c = λ has.
    let P = AccessesUnder c.args.count in
    c.is_under-in-Neg.ensures.found (subst P (sym c.get-in-Neg.ensures) (subst P c.in-Neg.is has))
