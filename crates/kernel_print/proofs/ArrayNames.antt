-- Arrays told by their names: a left inverse of the text of an array.
use Rattle.std.specs.Prelude.{◌≡◌, ℕ, ◌<◌, ◌==◌, ◌&&◌, Bool, true, false, if◌then◌else◌, List, [], ◌∷◌, ◌++◌, codes, drop, length, refl}
use Rattle.std.specs.Char.{is_ascii_digit}
use Rattle.std.specs.Fmt.{decimal}
use Rattle.std.specs.Str.{all_ascii_digits}
use Rattle.std.specs.Str.Parse.{digits_value}
use Rattle.std.proofs.Common.{◌∙◌, ap, sym, append_assoc, arith}
use Rattle.std.proofs.lemmas.Fmt.{digits_decimal, digits_value-decimal, decimal_nonempty}
use Rattle.kernel_code.specs.declared.syntax.Arr.{Arr}
use Rattle.kernel_code.specs.declared.syntax.Arr.TheVariants as array
use Rattle.text_lines.proofs.NumberLaws.{digits_model}
use Rattle.kernel_print.specs.ArrayNames.{IsWord, HasWords, BeginsWithoutDigit, NamesTellArrays}
use Rattle.kernel_print.specs.Text.{array_text}

-- the digits in front, and what stands behind them
abbrev pub digits_in : List ℕ → List ℕ
digits_in [] = []
digits_in (byte ∷ text) = if is_ascii_digit byte then byte ∷ digits_in text else []

abbrev pub behind_digits : List ℕ → List ℕ
behind_digits [] = []
behind_digits (byte ∷ text) = if is_ascii_digit byte then behind_digits text else byte ∷ text

abbrev pub number_in : List ℕ → ℕ
number_in text = digits_value 10 (digits_in text)

pub first_true : (a b : Bool) → (a && b) ≡ true → (a ≡ true) × (b ≡ true)
first_true true b h = (refl, h)
first_true false b h = absurd (cc)

pub all_first : (byte : ℕ) (text : List ℕ) → all_ascii_digits (byte ∷ text) ≡ true
    → (is_ascii_digit byte ≡ true) × (all_ascii_digits text ≡ true)
all_first byte text all = first_true (is_ascii_digit byte) (all_ascii_digits text) all

none_first : (behind : List ℕ) → BeginsWithoutDigit behind → (digits_in behind ≡ []) × (behind_digits behind ≡ behind)
none_first [] plain = (refl, refl)
none_first (byte ∷ text) plain = (
  ap (λ (b : Bool). if b then byte ∷ digits_in text else []) plain,
  ap (λ (b : Bool). if b then behind_digits text else byte
      ∷ text) plain,
)

cut_digits : (digits behind : List ℕ) → all_ascii_digits digits ≡ true → BeginsWithoutDigit behind
    → (digits_in (digits ++ behind) ≡ digits) × (behind_digits (digits ++ behind) ≡ behind)
cut_digits [] behind all plain = none_first behind plain
cut_digits (byte ∷ digits) behind all plain =
    let first = all_first byte digits all in
    let rest = cut_digits digits behind first.1 plain in (
      ap (λ (b : Bool). if b then byte ∷ digits_in (digits ++ behind) else []) first.0 ∙ ap (λ (t : List ℕ). byte ∷ t) rest.0,
      ap (λ (b : Bool). if b then behind_digits (digits ++ behind) else byte ∷ (digits ++ behind)) first.0 ∙ rest.1,
    )

-- a printed number and what stands behind it
pub cut_number : (n : ℕ) (behind : List ℕ) → IsWord n → BeginsWithoutDigit behind
    → (number_in (decimal n ++ behind) ≡ n) × (behind_digits (decimal n ++ behind) ≡ behind)
cut_number n behind word plain =
    let cut = cut_digits (decimal n) behind (digits_decimal digits_model n word) plain in
    (ap (digits_value 10) cut.0 ∙ digits_value-decimal digits_model n word, cut.1)

-- what each part of a name tells of the array
abbrev pub second_byte : List ℕ → ℕ
second_byte [] = 0
second_byte (byte ∷ []) = 0
second_byte (byte ∷ next ∷ text) = next

abbrev pub level_array : ℕ → ℕ → ℕ → Arr
level_array n level kind =
    if kind == 100 then array.Dimension n level else (if kind == 112 then array.Ends n level
    else (if kind == 99 then array.Coordinates n level else array.Width n level))

abbrev pub level_told : ℕ → ℕ → List ℕ → Arr × List ℕ
level_told n level text = (level_array n level (second_byte text), drop 4 text)

abbrev pub tensor_told : ℕ → List ℕ → Arr × List ℕ
tensor_told n text =
    if is_ascii_digit (second_byte text) then level_told n (number_in (drop 1 text)) (behind_digits (drop 1 text)) else
    (array.Values n, drop 4 text)

abbrev pub workspace_told : ℕ → List ℕ → Arr × List ℕ
workspace_told n text =
    if second_byte text == 107 then (array.Key n (number_in (drop 4 text)), behind_digits (drop 4 text)) else (array.Sums n, drop 4 text)

abbrev pub list_told : ℕ → List ℕ → Arr × List ℕ
list_told n text = (if second_byte text == 99 then array.ListCoordinates n else array.ListPositions n, drop 4 text)

abbrev pub told : List ℕ → Arr × List ℕ
told [] = (array.Range, [])
told (byte ∷ text) =
    if byte == 114 then (array.Range, drop 4 text) else (if byte == 84 then tensor_told (number_in text) (behind_digits text)
    else (if byte == 119 then workspace_told (number_in text) (behind_digits text) else list_told (number_in text) (behind_digits text)))

-- where a number is followed by what doesn't begin with a digit
with_number : (f : ℕ → List ℕ → Arr × List ℕ) (n : ℕ) (tail behind : List ℕ) → IsWord n → BeginsWithoutDigit (tail ++ behind)
    → f (number_in ((decimal n ++ tail) ++ behind)) (behind_digits ((decimal n ++ tail) ++ behind)) ≡ f n (tail ++ behind)
with_number f n tail behind word plain =
    let cut = cut_number n (tail ++ behind) word plain in
    ap (λ (t : List ℕ). f (number_in t) (behind_digits t)) (append_assoc (decimal n) tail behind)
    ∙ ap (λ (m : ℕ). f m (behind_digits (decimal n ++ (tail ++ behind)))) cut.0 ∙ ap (f n) cut.1

pub second_digit : (byte : ℕ) (digits tail behind : List ℕ) → 0 < length digits → all_ascii_digits digits ≡ true
    → is_ascii_digit (second_byte (byte ∷ ((digits ++ tail) ++ behind))) ≡ true
second_digit byte [] tail behind some all = absurd (omega (arith, some))
second_digit byte (digit ∷ digits) tail behind some all = (all_first digit digits all).0

level_begins : (n level : ℕ) (tail behind : List ℕ) → IsWord level → BeginsWithoutDigit (tail ++ behind)
    → tensor_told n (95 ∷ ((decimal level ++ tail) ++ behind)) ≡ level_told n level (tail ++ behind)
level_begins n level tail behind word plain =
    let rest : List ℕ = (decimal level ++ tail) ++ behind in
    ap (λ (b : Bool). if b then level_told n (number_in rest) (behind_digits rest) else (array.Values n, drop 4 (95 ∷ rest)))
    (second_digit 95 (decimal level) tail behind (decimal_nonempty level word) (digits_decimal digits_model level word))
    ∙ with_number (level_told n) level tail behind word plain

-- the name of an array tells it
pub told_name : (a : Arr) (behind : List ℕ) → HasWords a → BeginsWithoutDigit behind → told (array_text a ++ behind) ≡ (a, behind)
told_name array.Range behind words plain = refl
told_name (array.Values n) behind words plain = with_number tensor_told n (codes "_val") behind words refl
told_name (array.Dimension n level) behind words plain =
    with_number tensor_told n (codes "_" ++ (decimal level ++ codes "_dim")) behind words.0 refl
    ∙ level_begins n level (codes "_dim") behind words.1 refl
told_name (array.Ends n level) behind words plain =
    with_number tensor_told n (codes "_" ++ (decimal level ++ codes "_pos")) behind words.0 refl
    ∙ level_begins n level (codes "_pos") behind words.1 refl
told_name (array.Coordinates n level) behind words plain =
    with_number tensor_told n (codes "_" ++ (decimal level ++ codes "_crd")) behind words.0 refl
    ∙ level_begins n level (codes "_crd") behind words.1 refl
told_name (array.Width n level) behind words plain =
    with_number tensor_told n (codes "_" ++ (decimal level ++ codes "_wid")) behind words.0 refl
    ∙ level_begins n level (codes "_wid") behind words.1 refl
told_name (array.Key n key) behind words plain =
    let cut = cut_number key behind words.1 plain in
    with_number workspace_told n (codes "_key" ++ decimal key) behind words.0 refl
    ∙ ap (λ (k : ℕ). (array.Key n k, behind_digits (decimal key ++ behind))) cut.0 ∙ ap (λ (t : List ℕ). (array.Key n key, t)) cut.1
told_name (array.Sums n) behind words plain = with_number workspace_told n (codes "_val") behind words refl
told_name (array.ListCoordinates n) behind words plain = with_number list_told n (codes "_crd") behind words refl
told_name (array.ListPositions n) behind words plain = with_number list_told n (codes "_pos") behind words refl

pub names_tell_arrays : NamesTellArrays
names_tell_arrays a b behind behind' words words' plain plain' same =
    let both : (a, behind) ≡ (b, behind') = sym (told_name a behind words plain) ∙ ap told same ∙ told_name b behind' words' plain' in
    (ap (λ (x : Arr × List ℕ). x.0) both, ap (λ (x : Arr × List ℕ). x.1) both)
