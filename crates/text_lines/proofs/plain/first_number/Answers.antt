use Rattle.std.proofs.Common.{◌≡◌, ℕ, ◌+◌, ◌*◌, ◌%◌, ◌^◌, ◌<◌, ◌≤◌, List, length, get_or, take, ap, sym, subst, ◌∙◌, arith}
use Rattle.std.specs.Char.{digit_value}
use Rattle.std.specs.Str.Parse.{digits_value}
use Rattle.std.proofs.lemmas.Int.Digits.{digits_more, digits_value_more}
use Rattle.std.proofs.lemmas.List.{length-take}
use Rattle.text_lines.proofs.NumberLaws.{digit_of_word}
use Rattle.text_lines.proofs.PlainLaws.{digits_below}
use Rattle.text_lines.proofs.plain.first_number.Goals as goal

pub overflow_mul-number : goal.overflow_mul-number
overflow_mul-number c =
    let digits : List ℕ = take c.loop-end.end c.args.text.now in
    let few : length digits ≤ 17 = omega (arith, length-take c.loop-end.end c.args.text.now) in
    let below : digits_value 10 digits < 10 ^ 17 = digits_below digits 17 few c.loop-end.invariant.digits in
    omega arith

pub overflow_add-number : goal.overflow_add-number
overflow_add-number c =
    let digits : List ℕ = take c.loop-end.end c.args.text.now in
    let few : length digits ≤ 17 = omega (arith, length-take c.loop-end.end c.args.text.now) in
    let below : digits_value 10 digits < 10 ^ 17 = digits_below digits 17 few c.loop-end.invariant.digits in
    omega arith

pub loop-end-preserved : goal.loop-end-preserved
loop-end-preserved c =
    let i : ℕ = c.loop-end.end in
    let text : List ℕ = c.args.text.now in
    let byte : ℕ = get_or text i 0 in
    let within : i < length text = omega arith in
    let few : (byte + 18446744073709551568) % 18446744073709551616 ≤ 9 =
    subst (λ (b : ℕ). (b + 18446744073709551568) % 18446744073709551616 ≤ 9) c.from-digit.ensures c.if-digit-gt9.false in
    let is = digit_of_word byte (omega (arith, c.type_inv.text i)) few in
    let before : ℕ = digits_value 10 (take i text) in
    let added : c.loop-end.number * 10 + (c.from-digit.result + 18446744073709551568) % 18446744073709551616
    ≡ before * 10 + digit_value byte =
    (λ k. c.loop-end.invariant.number k * 10 + (c.from-digit.ensures k + 18446744073709551568) % 18446744073709551616)
    ∙ ap (λ n. before * 10 + n) is.0 in
    record {
      digits = digits_more 10 text i within c.loop-end.invariant.digits is.1;
      number = added ∙ sym (digits_value_more 10 text i within);
    }

pub number_before-requires-2-clause-number : goal.number_before-requires-2-clause-number
number_before-requires-2-clause-number c =
    let end : c.loop-end.end ≡ 18 = omega arith in
    c.loop-end.invariant.number ∙ ap (λ n. digits_value 10 (take n c.args.text.now)) end
