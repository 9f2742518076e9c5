use Rattle.std.specs.Prelude.{List, ◌++◌}
use Rattle.std.proofs.Common.{◌∙◌, sym, ap, arith}
use Rattle.kernel_code.specs.declared.syntax.KStmt.{KStmt}
use Rattle.index_notation.specs.Operators.{is_minus}
use Rattle.term_code.specs.OptionCodes.{applied_code, either_code}
use Rattle.term_code.proofs.values.applied.Goals as goal

pub negated-requires : goal.negated-requires
negated-requires g c = record { minus = c.requires.minus (ap is_minus c.in-Sub.is); room = omega (arith, c.requires.room) }

pub returns-in_ok-code-in-Add : goal.returns-in_ok-code-in-Add
returns-in_ok-code-in-Add g c =
    c.in_ok-code-in-Add.ensures
    ∙ ap (λ o. applied_code g.S.Semiring.arithmetic.minus_one o c.args.first c.args.second c.args.free)
    (sym c.in-Add.is)

pub returns-in_ok-code-in-Sub : goal.returns-in_ok-code-in-Sub
returns-in_ok-code-in-Sub g c =
    c.in_ok-code-in-Sub.ensures
    ∙ ap (λ (less : List KStmt). (c.args.first ++ less) ++ either_code c.args.free) c.in_ok-less-in-Sub.ensures
    ∙ ap (λ o. applied_code g.S.Semiring.arithmetic.minus_one o c.args.first c.args.second c.args.free)
    (sym c.in-Sub.is)

pub returns-in_ok-code-in-Mul : goal.returns-in_ok-code-in-Mul
returns-in_ok-code-in-Mul g c =
    c.in_ok-code-in-Mul.ensures
    ∙ ap (λ o. applied_code g.S.Semiring.arithmetic.minus_one o c.args.first c.args.second c.args.free)
    (sym c.in-Mul.is)
