use Rattle.std.proofs.Common.{◌∙◌, ap, sym, arith}
use Rattle.statement_facts.proofs.Held.{size_fact, coordinates_fact}
use Rattle.statement_facts.proofs.facts.fact_of.Goals as goal

pub returns-then-properties : goal.returns-then-properties
returns-then-properties c = λ arrays held.
    let within = c.if-variable-len.false in
    let many = c.len.ensures in
    size_fact c.args.statement.now c.args.tensor c.args.number c.args.level arrays c.in_ok-variable.variable c.in_ok-variable.ensures
    (omega (arith, within, many)) (ap (λ p. p.full) (sym c.props_of-properties.ensures) ∙ c.if-properties.true) held

pub returns-then-properties-2 : goal.returns-then-properties-2
returns-then-properties-2 c = λ arrays held.
    let within = c.if-variable-len.false in
    let many = c.len.ensures in
    coordinates_fact c.args.statement.now c.args.tensor c.args.number c.args.level arrays c.in_ok-variable.variable c.in_ok-variable.ensures
    (omega (arith, within, many)) (ap (λ p. p.full) (sym c.props_of-properties.ensures) ∙ c.if-properties.false)
    (ap (λ p. p.ordered) (sym c.props_of-properties.ensures) ∙ c.if-properties-2.true) held
