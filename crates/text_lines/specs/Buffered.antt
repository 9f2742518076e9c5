-- What a reader of lines keeps of the text.
use Rattle.std.specs.Prelude.{◌≡◌, ℕ, ◌+◌, ◌<◌, ◌≤◌, min, Bool, false, List}
use Rattle.std.specs.Prelude.{[], length, vec_len, vec_capacity, if◌then◌else◌}
use Rattle.limits.specs.Limits.{greatest_line_bytes}
use Rattle.text_lines.specs.Cutting.{begun_line, has_long_line, told_lines}
use Rattle.text_lines.specs.declared.line_reader.LineReader.TheInside.{Inside}

-- how many lines were told, which stands still at the greatest number of 64 bits
abbrev pub count_of : List (List ℕ) → ℕ
count_of lines = min (length lines) 18446744073709551615

-- what is kept of the line that has begun: nothing while the line before it is lent
abbrev pub kept : Bool → List ℕ → List ℕ
kept told bytes = if told then [] else bytes

pub record IsBuffered (reader : Inside) : Type 0 where
  pub room : greatest_line_bytes < vec_capacity reader.buffer
  pub fits : vec_len reader.buffer ≤ greatest_line_bytes + 1
  pub count : reader.number ≡ count_of (told_lines reader.fed.bytes)
  pub long : reader.is_long ≡ has_long_line reader.fed.bytes
  pub begun : reader.is_long ≡ false → kept reader.is_told reader.buffer.items ≡ begun_line reader.fed.bytes
