-- The numbers that tokens stand for, in decimal notation. What a printed number looks like is told by std's
-- `decimal` and `signed_decimal`.
use Rattle.std.specs.Prelude.{ℕ, ℤ, pos, negsuc, neg_ℤ, ◌+◌, ◌^◌, Bool, ◌==◌, ◌||◌, ◌&&◌, not, nat_lt, nat_le, List, length}
use Rattle.std.specs.Prelude.{Option, Some, None, Result, Ok, Err, if◌then◌else◌}
use Rattle.std.specs.List.{list_all, list_any, before_first, after_first}
use Rattle.std.specs.Option.{option_map}
use Rattle.std.specs.Str.{all_ascii_digits}
use Rattle.std.specs.Str.Parse.{digits_value, starts_with_minus, without_leading_sign}
use Rattle.text_lines.specs.declared.num_fault.NumFault.{NumFault}
use Rattle.text_lines.specs.declared.num_fault.NumFault.TheVariants.{NotNumber, NotWhole, NumRange}

-- one or more digits, and nothing else
abbrev pub is_number : List ℕ → Bool
is_number token = nat_lt 0 (length token) && all_ascii_digits token

-- the number that one or more digits stand for, zeros in front among them
abbrev pub number_of : List ℕ → Option ℕ
number_of token = if is_number token then Some (digits_value 10 token) else None

abbrev pub is_point : ℕ → Bool
is_point byte = byte == 46

-- the number of digits behind which there may be a point, and zeros behind that
abbrev pub whole_part_of : List ℕ → Option ℕ
whole_part_of text = if list_all (λ byte. byte == 48) (after_first is_point text) then number_of (before_first is_point text) else None

abbrev pub with_sign : Bool → ℕ → ℤ
with_sign negative n = if negative then neg_ℤ (pos n) else pos n

-- the whole number that a token stands for: a plus, a minus or no sign, and such a number
abbrev pub whole_of : List ℕ → Option ℤ
whole_of token = option_map (with_sign (starts_with_minus token)) (whole_part_of (without_leading_sign token))

-- digits with a point or none: before it, behind it or on both sides
abbrev pub is_mantissa : List ℕ → Bool
is_mantissa text = (all_ascii_digits (before_first is_point text) && all_ascii_digits (after_first is_point text))
    && nat_lt 0 (length (before_first is_point text) + length (after_first is_point text))

-- `e` or `E`
abbrev pub is_exponent_mark : ℕ → Bool
is_exponent_mark byte = (byte == 101) || (byte == 69)

-- a sign or none and digits with a point or none; behind that nothing, or the mark and a sign or none and digits
abbrev pub is_unsigned_decimal : List ℕ → Bool
is_unsigned_decimal text = is_mantissa (before_first is_exponent_mark text)
    && (not (list_any is_exponent_mark text) || is_number (without_leading_sign (after_first is_exponent_mark text)))

abbrev pub is_decimal : List ℕ → Bool
is_decimal token = is_unsigned_decimal (without_leading_sign token)

-- from -2^63 to 2^63 - 1
abbrev pub fits_word : ℤ → Bool
fits_word (pos n) = nat_lt n (2 ^ 63)
fits_word (negsuc n) = nat_lt n (2 ^ 63)

-- what a token that should be a whole number of 64 bits is
abbrev pub whole_within : Bool → Option ℤ → Result ℤ NumFault
whole_within decimal None = if decimal then Err NotWhole else Err NotNumber
whole_within decimal (Some z) = if fits_word z then Ok z else Err NumRange

abbrev pub read_whole_of : List ℕ → Result ℤ NumFault
read_whole_of token = whole_within (is_decimal token) (whole_of token)

-- what a token that should be a number up to a greatest one is
abbrev pub index_within : ℕ → Option ℕ → Result ℕ NumFault
index_within greatest None = Err NotNumber
index_within greatest (Some n) = if nat_le n greatest then Ok n else Err NumRange

abbrev pub read_index_of : ℕ → List ℕ → Result ℕ NumFault
read_index_of greatest token = index_within greatest (number_of token)
