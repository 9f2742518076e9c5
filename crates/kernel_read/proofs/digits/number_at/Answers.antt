use Rattle.std.specs.Prelude.{take}
use Rattle.std.proofs.Common.{arith, ◌∙◌}
use Rattle.kernel_read.proofs.Bytes.{number_found, number_stands, number_told, not_zero, not_refused}
use Rattle.kernel_read.proofs.digits.number_at.Goals as goal

pub returns-then-begins_with_zero : goal.returns-then-begins_with_zero
returns-then-begins_with_zero c = λ n behind word plain same.
    let text = c.rest_at-text.result.now in
    let count = c.digit_count-count.result in
    let digits = c.digit_count-count.ensures in
    let zero = c.begins_with_zero.ensures.yes c.if-begins_with_zero.true in
    not_zero (take count text) n (number_told text count n behind digits.digits digits.stops word plain
    (c.rest_at-text.ensures ∙ same)) word zero.0 zero.1

pub returns-in-Ok : goal.returns-in-Ok
returns-in-Ok c =
    let text = c.rest_at-text.result.now in
    let count = c.digit_count-count.result in
    let digits = c.digit_count-count.ensures in
    let found = number_found 18446744073709551615 (take count text) c.in-Ok.number (omega arith) c.in-Ok.ensures
    (c.begins_with_zero.ensures.no c.if-begins_with_zero.false) in
    number_stands c.args.line.now c.args.at count c.in-Ok.number text c.rest_at-text.ensures c.requires digits.within found.0 found.1
    digits.stops

pub returns-in-Err : goal.returns-in-Err
returns-in-Err c = λ n behind word plain same.
    let text = c.rest_at-text.result.now in
    let count = c.digit_count-count.result in
    let digits = c.digit_count-count.ensures in
    not_refused 18446744073709551615 (take count text) n c.in-Err.field-0 (omega arith)
    (number_told text count n behind digits.digits digits.stops word plain (c.rest_at-text.ensures ∙ same)) word c.in-Err.ensures
