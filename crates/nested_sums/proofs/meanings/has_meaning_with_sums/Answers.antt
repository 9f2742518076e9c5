use Rattle.std.proofs.Common.{sym, subst}
use Rattle.index_notation.specs.declared.syntax.NestedSum.{NestedSum}
use Rattle.lists.specs.Each.{Each}
use Rattle.expr_terms.specs.Minus.{HasMeaning}
use Rattle.nested_sums.proofs.MeaningOfSums.{meant_by_parts, parts_meant}
use Rattle.nested_sums.proofs.meanings.has_meaning_with_sums.Goals as goal

pub returns-then-has_meaning-clause-told : goal.returns-then-has_meaning-clause-told
returns-then-has_meaning-clause-told g c =
    let b = g.S.Semiring.has_minus in λ told.
    meant_by_parts b c.args.statement.now (c.has_meaning.ensures.told c.if-has_meaning.true)
    (subst (Each (λ (sum : NestedSum). HasMeaning b sum.inside)) c.as_slice.ensures (c.have_meaning.ensures.told told))

pub returns-then-has_meaning-clause-found : goal.returns-then-has_meaning-clause-found
returns-then-has_meaning-clause-found g c =
    let b = g.S.Semiring.has_minus in λ meant.
    c.have_meaning.ensures.found
    (subst (Each (λ (sum : NestedSum). HasMeaning b sum.inside)) (sym c.as_slice.ensures) (parts_meant b c.args.statement.now meant).1)
