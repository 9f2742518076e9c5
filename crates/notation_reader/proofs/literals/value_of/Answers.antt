use Rattle.std.proofs.Common.{◌≡◌, ℕ, ◌<◌, ◌≤◌, ◌+◌, ◌*◌, ◌-◌, List, [], ◌∷◌, length, drop, get_or, arith, ◌∙◌, ap}
use Rattle.std.proofs.lemmas.List.{drop_more}
use Rattle.limits.specs.Limits.{greatest_literal}
use Rattle.notation_grammar.specs.Faults.{value_after}
use Rattle.notation_reader.proofs.literals.value_of.Goals as goal

never_less : (n : ℕ) (digits : List ℕ) → n ≤ value_after n digits
never_less n [] = omega arith
never_less n (digit ∷ digits) = let h = never_less (n * 10 + (digit - 48)) digits in omega (arith, h)

past : (limit value i : ℕ) (digits : List ℕ) → i < length digits → value_after 0 digits ≡ value_after value (drop i digits)
    → limit < value * 10 + (get_or digits i 0 - 48) → limit < value_after 0 digits
past limit value i digits h e k =
    let next : value_after 0 digits ≡ value_after (value * 10 + (get_or digits i 0 - 48)) (drop (i + 1) digits) = e
    ∙ ap (value_after value) (drop_more digits i 0 h) in
    let up = never_less (value * 10 + (get_or digits i 0 - 48)) (drop (i + 1) digits) in
    omega (arith, next, up, k)

pub returns-then-next-greatest_literal_of_expression : goal.returns-then-next-greatest_literal_of_expression
returns-then-next-greatest_literal_of_expression c =
    past greatest_literal c.loop-digit.value c.loop-digit.digit-index c.args.digits.now c.loop-digit-test.true c.loop-digit.invariant.same
    (let next = c.if-next-greatest_literal_of_expression.true in let digit = c.saturating_sub.ensures in let limit =
    c.greatest_literal_of_expression.ensures in omega (arith, next, digit, limit))
