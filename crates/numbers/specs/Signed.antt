-- Words as signed numbers, from -2^63 to 2^63 - 1.
use Rattle.std.specs.Prelude.{ℕ, ℤ, pos, negsuc, ◌-◌, ◌^◌, nat_lt, Bool, if◌then◌else◌}

-- the word itself where it is below 2^63, and 2^64 less otherwise
abbrev pub signed_of : ℕ → ℤ
signed_of v = if nat_lt v (2 ^ 63) then pos v else negsuc (2 ^ 64 - 1 - v)

-- the word that a signed number is
abbrev pub word_of_signed : ℤ → ℕ
word_of_signed (pos n) = n
word_of_signed (negsuc n) = 2 ^ 64 - 1 - n

-- the number that is written for a value: a signed one, or the word itself
abbrev pub written_of : Bool → ℕ → ℤ
written_of signed v = if signed then signed_of v else pos v
