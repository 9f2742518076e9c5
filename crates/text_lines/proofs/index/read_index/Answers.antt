use Rattle.std.proofs.Common.{◌≡◌, ℕ, ◌+◌, ◌-◌, ◌*◌, ◌<◌, false, nat_eq, length, get_or, take, arith, ap, subst, sym, ◌∙◌}
use Rattle.std.specs.Str.Parse.{AllDigits, digits_value}
use Rattle.std.proofs.lemmas.Bool.{eqb-false}
use Rattle.std.proofs.lemmas.List.{take_all}
use Rattle.std.proofs.lemmas.Int.Digits.{digits_more, digits_value_more}
use Rattle.text_lines.specs.Digits.{IsKept}
use Rattle.text_lines.specs.Numbers.{index_within}
use Rattle.text_lines.proofs.NumberLaws.{no_number_at, number_of_numeral, value_of_digit}
use Rattle.text_lines.proofs.index.read_index.Goals as goal

pub returns-then-not-is_ascii_digit : goal.returns-then-not-is_ascii_digit
returns-then-not-is_ascii_digit c =
    sym (ap (index_within c.args.greatest)
    (no_number_at c.args.token.now c.loop-byte.byte-index c.loop-byte-test.true (sym c.if-not-is_ascii_digit.ensures.value)))

pub loop-byte-preserved : goal.loop-byte-preserved
loop-byte-preserved c =
    let i : ℕ = c.loop-byte.byte-index in
    let byte : ℕ = get_or c.args.token.now i 0 in
    let is = value_of_digit byte (sym c.if-not-is_ascii_digit.ensures.value) in
    let before : ℕ = digits_value 10 (take i c.args.token.now) in
    let more : before * 10 + (byte - 48) ≡ digits_value 10 (take (i + 1) c.args.token.now) =
    ap (λ n. before * 10 + n) (sym is.0) ∙ sym (digits_value_more 10 c.args.token.now i c.loop-byte-test.true) in
    record {
      digits = digits_more 10 c.args.token.now i c.loop-byte-test.true c.loop-byte.invariant.digits is.1;
      kept = subst (λ (n : ℕ). IsKept c.with_digit-number.result n) more (c.with_digit-number.ensures before c.loop-byte.invariant.kept);
    }

pub returns : goal.returns
returns c =
    let filled : nat_eq (length c.args.token.now) 0 ≡ false = sym c.if-is_empty.ensures in
    let isnt = eqb-false (length c.args.token.now) 0 filled in
    let some : 0 < length c.args.token.now = omega (arith, isnt) in
    let whole = take_all c.loop-byte.byte-index c.args.token.now c.loop-byte-test.false in
    let digits : AllDigits 10 c.args.token.now = subst (AllDigits 10) whole c.loop-byte.invariant.digits in
    c.at_most.ensures (digits_value 10 c.args.token.now)
    (subst (λ xs. IsKept c.loop-byte.number (digits_value 10 xs)) whole c.loop-byte.invariant.kept)
    ∙ sym (ap (index_within c.args.greatest) (number_of_numeral c.args.token.now some digits))
