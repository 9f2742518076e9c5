-- Lemmas about what specs/DecimalLaws.antt defines.
use Rattle.std.specs.Prelude.{◌≡◌, ℕ, zero, suc, ◌+◌, ◌<◌, Bool, true, false, not, cond, ◌==◌, ◌&&◌, ◌||◌, List, [], ◌∷◌, length, drop}
use Rattle.std.specs.Prelude.{MatchBool, refl}
use Rattle.std.specs.Char.{is_ascii_digit}
use Rattle.std.specs.List.{AllWithin, HoldsAt, list_any, position_or_len, before_first}
use Rattle.std.specs.Str.{all_ascii_digits}
use Rattle.std.specs.Str.Parse.{without_leading_sign}
use Rattle.std.proofs.Common.{◌∙◌, sym, ap, arith, drop-drop}
use Rattle.std.proofs.lemmas.Bool.Decides.{nat_tests}
use Rattle.text_lines.specs.Numbers.{is_exponent_mark, is_mantissa, is_number, is_unsigned_decimal}
use Rattle.text_lines.specs.DecimalLaws.{IsDigit, IsNoDigit}

all_digits : (text : List ℕ) → AllWithin IsDigit text 0 (length text) → all_ascii_digits text ≡ true
all_digits [] all = refl
all_digits (byte ∷ text) all =
    ap (λ b. b && all_ascii_digits text) (all 0 0 (omega arith) (omega arith))
    ∙ all_digits text (λ k d h g. all (suc k) d (omega arith) (omega (arith, g)))

some_no_digit : (text : List ℕ) (k : ℕ) → k < length text → HoldsAt IsNoDigit text k → all_ascii_digits text ≡ false
some_no_digit [] k h no_digit = absurd (omega (arith, h))
some_no_digit (byte ∷ text) zero h no_digit = ap (λ b. b && all_ascii_digits text) (no_digit 0)
some_no_digit (byte ∷ text) (suc k) h no_digit =
    ap (λ b. is_ascii_digit byte && b) (some_no_digit text k (omega (arith, h)) (λ d. no_digit d)) ∙ and_false (is_ascii_digit byte)
  where
    and_false : (b : Bool) → (b && false) ≡ false
    and_false true = refl
    and_false false = refl

pub digits_told : (text : List ℕ) (r : Bool)
    → MatchBool r (AllWithin IsDigit text 0 (length text)) ((k : ℕ) × (k < length text) × HoldsAt IsNoDigit text k)
    → r ≡ all_ascii_digits text
digits_told text true all = sym (all_digits text all)
digits_told text false some = sym (some_no_digit text some.0 some.1 some.2)

-- nothing is left from the first that passes on exactly where none passes
none_left : (p : ℕ → Bool) (text : List ℕ) → (length (drop (position_or_len p text) text) == 0) ≡ not (list_any p text)
none_left p [] = refl
none_left p (x ∷ xs) = by_test (p x) (none_left p xs)
  where
    by_test : (b : Bool) → (length (drop (position_or_len p xs) xs) == 0) ≡ not (list_any p xs)
        → (length (drop (cond (not b) (1 + position_or_len p xs) 0) (x ∷ xs)) == 0) ≡ not (b || list_any p xs)
    by_test true rest = grind (arith, nat_tests)
    by_test false rest =
        let more : 1 + position_or_len p xs ≡ suc (position_or_len p xs) = omega arith in
        ap (λ n. length (drop n (x ∷ xs)) == 0) more ∙ rest

pub unsigned_is : (text before rest : List ℕ) → before ≡ before_first is_exponent_mark text
    → rest ≡ drop (position_or_len is_exponent_mark text) text
    → (is_mantissa before && ((length rest == 0) || is_number (without_leading_sign (drop 1 rest)))) ≡ is_unsigned_decimal text
unsigned_is text before rest front back =
    ap (λ t. is_mantissa t && ((length rest == 0) || is_number (without_leading_sign (drop 1 rest)))) front
    ∙ ap (λ t. is_mantissa (before_first is_exponent_mark text) && ((length t == 0) || is_number (without_leading_sign (drop 1 t)))) back
    ∙ ap (λ b. is_mantissa (before_first is_exponent_mark text)
    && (b || is_number (without_leading_sign (drop 1 (drop (position_or_len is_exponent_mark text) text)))))
    (none_left is_exponent_mark text)
    ∙ ap (λ t. is_mantissa (before_first is_exponent_mark text)
    && (not (list_any is_exponent_mark text) || is_number (without_leading_sign t)))
    (drop-drop 1 (position_or_len is_exponent_mark text) text)
