-- What follows from the definitions of the numbers that tokens stand for.
use Rattle.std.specs.Prelude.{◌≡◌, ℕ, zero, suc, ℤ, pos, negsuc, ◌+◌, ◌-◌, ◌%◌, ◌^◌, ◌<◌, ◌≤◌, true, false, not, cond, ◌==◌, nat_lt, nat_le}
use Rattle.std.specs.Prelude.{List, [], ◌∷◌, length, drop, Some, None, Ok, Err, refl, slice_index}
use Rattle.std.specs.Char.{is_ascii_digit, digit_value}
use Rattle.std.specs.Fmt.{decimal, signed_decimal}
use Rattle.std.specs.List.{list_all, before_first, position_or_len}
use Rattle.std.specs.Option.{option_map}
use Rattle.std.specs.Str.{all_ascii_digits}
use Rattle.std.specs.Str.Parse.{AllDigits, digits_value}
use Rattle.std.proofs.Common.{arith, ap, sym, ◌∙◌, lit<}
use Rattle.std.proofs.lemmas.Bool.{and_parts, and_from, and_left, and_right, lt-ltb, leb-true, ne_eqb, ltb-true}
use Rattle.std.proofs.lemmas.Fmt.{decimal_is_IsNumeral}
use Rattle.std.proofs.lemmas.List.{take_all, drop_all}
use Rattle.std.proofs.lemmas.Str.{digit_value_digit}
use Rattle.std.proofs.lemmas.Str.Parse.{IsNumeralModel, numerals_by_value, tells_all_ascii_digits}
use Rattle.text_lines.specs.Numbers.{is_number, number_of, is_point, whole_part_of, with_sign, whole_of, fits_word, is_decimal}
use Rattle.text_lines.specs.Numbers.{whole_within, read_whole_of}
use Rattle.text_lines.specs.declared.num_fault.NumFault.TheVariants.{NumRange}

-- std's two words for digits
pub digits_model : IsNumeralModel (λ ds. all_ascii_digits ds ≡ true) (digits_value 10)
digits_model = numerals_by_value (λ ds. all_ascii_digits ds ≡ true) tells_all_ascii_digits

-- one or more digits stand for their number
pub number_of_digits : (token : List ℕ) → is_number token ≡ true → number_of token ≡ Some (digits_value 10 token)
number_of_digits token e = ap (λ b. cond b (Some (digits_value 10 token)) None) e

pub is_number_from : (token : List ℕ) → 0 < length token → all_ascii_digits token ≡ true → is_number token ≡ true
is_number_from token some all = and_from (nat_lt 0 (length token)) (all_ascii_digits token) (lt-ltb 0 (length token) some) all

-- anything else for none
pub no_number : (token : List ℕ) → is_number token ≡ false → number_of token ≡ None
no_number token e = ap (λ b. cond b (Some (digits_value 10 token)) None) e

-- the digits of a printed number
pub decimal_is_number : (n : ℕ) → n < 2 ^ 64 → is_number (decimal n) ≡ true
decimal_is_number n h = let is = decimal_is_IsNumeral n h in is_number_from (decimal n) is.0.0 (digits_model.from (decimal n) is.0.1)

-- the text of a number is read back
pub number_of_decimal : (n : ℕ) → n < 2 ^ 64 → number_of (decimal n) ≡ Some n
number_of_decimal n h = number_of_digits (decimal n) (decimal_is_number n h) ∙ ap Some (decimal_is_IsNumeral n h).1

-- a digit is no point and no sign
pub digit_is_not : (byte other : ℕ) → other < 48 → is_ascii_digit byte ≡ true → (byte == other) ≡ false
digit_is_not byte other low e =
    let ends = and_parts (nat_le 48 byte) (nat_le byte 57) e in
    let above : 48 ≤ byte = leb-true 48 byte ends.0 in
    ne_eqb byte other (λ is. omega arith)

points_none : (text : List ℕ) → all_ascii_digits text ≡ true → position_or_len is_point text ≡ length text
points_none [] all = refl
points_none (c ∷ text) all =
    let parts = and_parts (is_ascii_digit c) (all_ascii_digits text) all in
    let rest : position_or_len is_point text ≡ length text = points_none text parts.1 in
    let more : 1 + position_or_len is_point text ≡ suc (length text) = omega arith in
    ap (λ b. cond (not b) (1 + position_or_len is_point text) 0) (digit_is_not c 46 (lit< tt) parts.0) ∙ more

-- digits alone have no point among them
pub whole_part_of_digits : (text : List ℕ) → all_ascii_digits text ≡ true → whole_part_of text ≡ number_of text
whole_part_of_digits text all =
    let none : position_or_len is_point text ≡ length text = points_none text all in
    ap (λ (rest : List ℕ). cond (list_all (λ byte. byte == 48) rest) (number_of (before_first is_point text)) None)
    (drop_all (position_or_len is_point text + 1) text (omega arith))
    ∙ ap number_of (take_all (position_or_len is_point text) text (omega arith))

-- a minus before digits, and no sign before them
pub whole_of_minus : (text : List ℕ) → all_ascii_digits text ≡ true → whole_of (45 ∷ text) ≡ option_map (with_sign true) (number_of text)
whole_of_minus text all = ap (option_map (with_sign true)) (whole_part_of_digits text all)

pub whole_of_plain : (text : List ℕ) → all_ascii_digits text ≡ true → whole_of text ≡ option_map (with_sign false) (number_of text)
whole_of_plain [] all = refl
whole_of_plain (c ∷ text) all =
    let parts = and_parts (is_ascii_digit c) (all_ascii_digits text) all in
    let minus : (c == 45) ≡ false = digit_is_not c 45 (lit< tt) parts.0 in
    let plus : (c == 43) ≡ false = digit_is_not c 43 (lit< tt) parts.0 in
    ap (λ b. option_map (with_sign b) (whole_part_of (cond b text (drop (cond (c == 43) 1 0) (c ∷ text))))) minus
    ∙ ap (λ b. option_map (with_sign false) (whole_part_of (drop (cond b 1 0) (c ∷ text)))) plus
    ∙ ap (option_map (with_sign false)) (whole_part_of_digits (c ∷ text) all)

-- the text of a number with its sign is read back
pub whole_of_decimal : (n : ℕ) → n < 2 ^ 64 → whole_of (decimal n) ≡ Some (pos n)
whole_of_decimal n h =
    whole_of_plain (decimal n) (and_parts (nat_lt 0 (length (decimal n))) (all_ascii_digits (decimal n)) (decimal_is_number n h)).1
    ∙ ap (option_map (with_sign false)) (number_of_decimal n h)

pub whole_of_signed_decimal : (z : ℤ) → fits_word z ≡ true → whole_of (signed_decimal z) ≡ Some z
whole_of_signed_decimal (pos n) e = let h : n < 2 ^ 63 = ltb-true n (2 ^ 63) e in whole_of_decimal n (omega arith)
whole_of_signed_decimal (negsuc n) e =
    let h : n < 2 ^ 63 = ltb-true n (2 ^ 63) e in
    let fits : suc n < 2 ^ 64 = omega arith in
    whole_of_minus (decimal (suc n))
    (and_parts (nat_lt 0 (length (decimal (suc n)))) (all_ascii_digits (decimal (suc n))) (decimal_is_number (suc n) fits)).1
    ∙ ap (option_map (with_sign true)) (number_of_decimal (suc n) fits)

pub read_whole_of_signed_decimal : (z : ℤ) → fits_word z ≡ true → read_whole_of (signed_decimal z) ≡ Ok z
read_whole_of_signed_decimal z e =
    ap (whole_within (is_decimal (signed_decimal z))) (whole_of_signed_decimal z e) ∙ ap (λ b. cond b (Ok z) (Err NumRange)) e

-- a byte among them that is no digit
pub no_digits : (text : List ℕ) (i : ℕ) → i < length text → is_ascii_digit (slice_index text i) ≡ false → all_ascii_digits text ≡ false
no_digits [] i h e = absurd (omega arith)
no_digits (c ∷ text) zero h e = and_left (is_ascii_digit c) (all_ascii_digits text) e
no_digits (c ∷ text) (suc i) h e = and_right (is_ascii_digit c) (all_ascii_digits text) (no_digits text i (omega arith) e)

pub no_number_at : (text : List ℕ) (i : ℕ) → i < length text → is_ascii_digit (slice_index text i) ≡ false → number_of text ≡ None
no_number_at text i h e = no_number text (and_right (nat_lt 0 (length text)) (all_ascii_digits text) (no_digits text i h e))

pub number_of_numeral : (text : List ℕ) → 0 < length text → AllDigits 10 text → number_of text ≡ Some (digits_value 10 text)
number_of_numeral text some all = number_of_digits text (is_number_from text some (digits_model.from text all))

-- a digit's value
digit_within : (byte : ℕ) → 48 ≤ byte → byte ≤ 57 → (digit_value byte ≡ byte - 48) × (digit_value byte < 10)
digit_within byte low high =
    let is : digit_value byte + 48 ≡ byte = digit_value_digit byte (low, high) in
    (omega arith, omega arith)

pub value_of_digit : (byte : ℕ) → is_ascii_digit byte ≡ true → (digit_value byte ≡ byte - 48) × (digit_value byte < 10)
value_of_digit byte e =
    let ends = and_parts (nat_le 48 byte) (nat_le byte 57) e in
    digit_within byte (leb-true 48 byte ends.0) (leb-true byte 57 ends.1)

-- a byte less 48 that is a digit's value, as a word has it
pub digit_of_word : (byte : ℕ) → byte < 2 ^ 8 → (byte + 18446744073709551568) % 18446744073709551616 ≤ 9
    → ((byte + 18446744073709551568) % 18446744073709551616 ≡ digit_value byte) × (digit_value byte < 10)
digit_of_word byte fits small =
    let low : 48 ≤ byte = omega arith in
    let high : byte ≤ 57 = omega arith in
    let same : (byte + 18446744073709551568) % 18446744073709551616 ≡ byte - 48 = omega arith in
    let is = digit_within byte low high in
    (same ∙ sym is.0, is.1)
