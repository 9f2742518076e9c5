use Rattle.std.specs.Prelude.{◌*◌, ◌≤◌, true, false, length}
use Rattle.std.proofs.Common.{◌∙◌, sym, ap, subst, arith}
use Rattle.limits.specs.Limits.{greatest_position_count}
use Rattle.limits.proofs.Limits.{positions_are_small}
use Rattle.level_checks.proofs.EachKind.{full_by, positions_within}
use Rattle.level_checks.proofs.words.level_positions.Goals as goal

pub overflow_mul-result : goal.overflow_mul-result
overflow_mul-result c =
    let a = c.args in
    let few = positions_within a.letter a.size a.parents a.words.now c.requires.0 c.requires.1 in
    let is = full_by a.letter a.size a.parents a.words.now true (ap (λ p. p.full) (sym c.props_of-full.ensures) ∙ c.if-full.true) in
    let within : a.parents * a.size ≤ greatest_position_count = subst (λ n. n ≤ greatest_position_count) is few in
    omega (arith, within, positions_are_small)

pub returns-then-full-clause-few : goal.returns-then-full-clause-few
returns-then-full-clause-few c =
    let a = c.args in
    let few = positions_within a.letter a.size a.parents a.words.now c.requires.0 c.requires.1 in
    let is = full_by a.letter a.size a.parents a.words.now true (ap (λ p. p.full) (sym c.props_of-full.ensures) ∙ c.if-full.true) in
    subst (λ n. n ≤ greatest_position_count) is few

pub returns-else-full-clause-few : goal.returns-else-full-clause-few
returns-else-full-clause-few c =
    let a = c.args in
    let few = positions_within a.letter a.size a.parents a.words.now c.requires.0 c.requires.1 in
    let is = full_by a.letter a.size a.parents a.words.now false (ap (λ p. p.full) (sym c.props_of-full.ensures) ∙ c.if-full.false) in
    let within : length a.words.now.coordinates.items ≤ greatest_position_count = subst (λ n. n ≤ greatest_position_count) is few in
    let count = c.len.ensures in
    omega (arith, within, count)
