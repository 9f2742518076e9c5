-- Lemmas about what specs/PrintedLaws.antt defines.
use Rattle.std.specs.Prelude.{◌≡◌, ℕ, suc, ℤ, pos, negsuc, ◌-◌, ◌^◌, ◌<◌, ◌≤◌, true, false, nat_lt, nat_le, List, [], ◌∷◌, length, All}
use Rattle.std.specs.Prelude.{slice_index, slice_index_or}
use Rattle.std.specs.Char.{is_ascii_digit}
use Rattle.std.specs.Fmt.{decimal, signed_decimal}
use Rattle.std.specs.Str.{all_ascii_digits}
use Rattle.std.proofs.Common.{arith, inl, inr, lit≤}
use Rattle.std.proofs.lemmas.Bool.{and_parts, or_from, ne_eqb, leb-true, ltb-true, cases_lt}
use Rattle.std.proofs.lemmas.Fmt.{decimal_nonempty, length-decimal-le}
use Rattle.std.proofs.lemmas.List.{get_or_past}
use Rattle.std.proofs.lemmas.List.Elements.{All-nil, All-cons}
use Rattle.text_lines.specs.LineLaws.{IsLine}
use Rattle.text_lines.proofs.NumberLaws.{decimal_is_number}
use Rattle.text_lines.specs.Numbers.{fits_word}
use Rattle.text_lines.specs.TokenLaws.{IsToken}
use Rattle.lists.specs.Blanks.{is_blank}
use Rattle.text_lines.specs.PrintedLaws.{IsFilled}

not_blank : (byte : ℕ) → IsFilled byte → is_blank byte ≡ false
not_blank byte h = or_from _ _ (ne_eqb byte 32 (λ e. omega arith)) (ne_eqb byte 9 (λ e. omega arith))

pub filled_token : (token : List ℕ) → 0 < length token → All IsFilled token → IsToken token
filled_token token some all = record { some = some; whole = λ k d h. not_blank (slice_index_or token k d) (all k d h) }

pub digits_filled : (text : List ℕ) → all_ascii_digits text ≡ true → All IsFilled text
digits_filled [] all = All-nil IsFilled
digits_filled (c ∷ text) all =
    let parts = and_parts (is_ascii_digit c) (all_ascii_digits text) all in
    let ends = and_parts (nat_le 48 c) (nat_le c 57) parts.0 in
    let low : 48 ≤ c = leb-true 48 c ends.0 in
    All-cons IsFilled c text (omega arith) (digits_filled text parts.1)

pub decimal_filled : (n : ℕ) → n < 2 ^ 64 → All IsFilled (decimal n)
decimal_filled n h =
    digits_filled (decimal n) (and_parts (nat_lt 0 (length (decimal n))) (all_ascii_digits (decimal n)) (decimal_is_number n h)).1

pub decimal_is_token : (n : ℕ) → n < 2 ^ 64 → IsToken (decimal n)
decimal_is_token n h = filled_token (decimal n) (decimal_nonempty n h) (decimal_filled n h)

pub decimal_short : (n : ℕ) → n < 2 ^ 64 → length (decimal n) ≤ 20
decimal_short n h = length-decimal-le 20 n (omega arith) (let far : 2 ^ 64 ≤ 10 ^ 20 = lit≤ tt in omega arith) h

-- with a sign
pub signed_filled : (z : ℤ) → fits_word z ≡ true → All IsFilled (signed_decimal z)
signed_filled (pos n) e = let h : n < 2 ^ 63 = ltb-true n (2 ^ 63) e in decimal_filled n (omega arith)
signed_filled (negsuc n) e =
    let h : n < 2 ^ 63 = ltb-true n (2 ^ 63) e in
    All-cons IsFilled 45 (decimal (suc n)) (omega arith) (decimal_filled (suc n) (omega arith))

pub signed_some : (z : ℤ) → fits_word z ≡ true → 0 < length (signed_decimal z)
signed_some (pos n) e = let h : n < 2 ^ 63 = ltb-true n (2 ^ 63) e in decimal_nonempty n (omega arith)
signed_some (negsuc n) e = omega arith

pub signed_decimal_is_token : (z : ℤ) → fits_word z ≡ true → IsToken (signed_decimal z)
signed_decimal_is_token z e = filled_token (signed_decimal z) (signed_some z e) (signed_filled z e)

pub signed_short : (z : ℤ) → fits_word z ≡ true → length (signed_decimal z) ≤ 21
signed_short (pos n) e = let h : n < 2 ^ 63 = ltb-true n (2 ^ 63) e in let short = decimal_short n (omega arith) in omega arith
signed_short (negsuc n) e = let h : n < 2 ^ 63 = ltb-true n (2 ^ 63) e in let short = decimal_short (suc n) (omega arith) in omega arith

-- bytes behind the carriage return make a line
pub high_line : (line : List ℕ) → All (λ byte. 13 < byte) line → IsLine line
high_line line all = record {
  one = λ k d h e. let high = all k d h in omega (arith, high, e);
  bare = λ e. elim (cases_lt (length line - 1) (length line)) [
    | inl within ↦ (let high = all (length line - 1) 0 within in omega (arith, high, e))
    | inr past ↦ (let none : slice_index line (length line - 1) ≡ 0 = get_or_past line (length line - 1) 0 past in omega (arith, none, e))
  ];
}

-- printed numbers are short tokens
pub ruleset printed_laws = (decimal_is_token, decimal_short, signed_decimal_is_token, signed_short)
