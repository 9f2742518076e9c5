use Rattle.std.proofs.Common.{sym, ap, subst}
use Rattle.index_notation.specs.Operators.{is_minus, is_there}
use Rattle.expr_terms.specs.Value.{applied, minus}
use Rattle.workspaces.specs.Presence.{TellsPart}
use Rattle.workspaces.proofs.parts.applied.Goals as goal

pub returns-in-Add : goal.returns-in-Add
returns-in-Add g c = λ p q m n first second.
    let a = g.S.Semiring.arithmetic in
    subst (λ o. TellsPart a (is_there o p q) (applied a o m n) c.either.result) (sym c.in-Add.is)
    (c.either.ensures p q m n first second)

pub negated-less-requires : goal.negated-less-requires
negated-less-requires g c = c.requires (ap is_minus c.in-Sub.is)

pub returns-in-Sub : goal.returns-in-Sub
returns-in-Sub g c = λ p q m n first second.
    let a = g.S.Semiring.arithmetic in
    subst (λ o. TellsPart a (is_there o p q) (applied a o m n) c.either-in-Sub.result) (sym c.in-Sub.is)
    (c.either-in-Sub.ensures p q m (minus a n) first (c.negated-less.ensures q n second))

pub returns-in-Mul : goal.returns-in-Mul
returns-in-Mul g c = λ p q m n first second.
    let a = g.S.Semiring.arithmetic in
    subst (λ o. TellsPart a (is_there o p q) (applied a o m n) c.both.result) (sym c.in-Mul.is)
    (c.both.ensures p q m n first second)
