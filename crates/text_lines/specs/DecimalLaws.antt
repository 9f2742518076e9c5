-- Where the parts of a decimal number end.
use Rattle.std.specs.Prelude.{◌≡◌, ℕ, true, false}
use Rattle.std.specs.Char.{is_ascii_digit}

abbrev pub IsDigit : ℕ → Type 0
IsDigit byte = is_ascii_digit byte ≡ true

abbrev pub IsNoDigit : ℕ → Type 0
IsNoDigit byte = is_ascii_digit byte ≡ false
