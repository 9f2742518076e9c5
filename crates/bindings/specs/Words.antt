-- What a word behind EXPR says, told apart by the byte behind the longest name at its front.
use Rattle.std.specs.Prelude.{ℕ, Bool, false, ◌==◌, ◌&&◌, ◌||◌, not, if◌then◌else◌}
use Rattle.std.specs.Prelude.{List, [], ◌∷◌, Option, Some, None, codes}
use Rattle.std.specs.Prelude.{slice_get, nat_eq, ◌+◌, drop}
use Rattle.std.specs.Option.{option_map}
use Rattle.std.specs.Char.{is_ascii_alphabetic}
use Rattle.std.specs.List.{before_first, after_first, position, position_or_len, list_all, ends_with}
use Rattle.index_notation.specs.Tokens.{goes_on}
use Rattle.text_lines.specs.Numbers.{is_number}

-- the letters of a format, and the order of its modes where one is given
pub record FormatText : Type 0 where
  pub letters : List ℕ
  pub order : Option (List ℕ)

pub data Said : Type 0 where
  SaysFormat : (name : List ℕ) → (text : FormatText) → Said
  SaysFile : (name path : List ℕ) → Said
  SaysRange : (name digits : List ℕ) → Said

-- a byte that no name has
abbrev pub ends_name : ℕ → Bool
ends_name byte = not (goes_on byte)

-- an ASCII letter and then letters, digits and underscores
abbrev pub is_name : List ℕ → Bool
is_name [] = false
is_name (byte ∷ bytes) = is_ascii_alphabetic byte && list_all goes_on bytes

-- LETTERS, which end at the first colon, and ORDER behind it
abbrev pub format_text_of : List ℕ → FormatText
format_text_of text = record {
  letters = before_first (λ byte. byte == 58) text;
  order = option_map (λ at. drop (at + 1) text) (position (λ byte. byte == 58) text);
}

-- `.tns`
abbrev pub is_tns : List ℕ → Bool
is_tns path = ends_with nat_eq path (codes ".tns")

-- `.mtx`
abbrev pub is_mtx : List ℕ → Bool
is_mtx path = ends_with nat_eq path (codes ".mtx")

-- by the byte behind the name: `:` a format, `=` a file with one of the two endings, `#` a range of one or more digits
abbrev pub said_behind : List ℕ → Option ℕ → List ℕ → Option Said
said_behind name None rest = None
said_behind name (Some byte) rest =
    if byte == 58 then Some (SaysFormat name (format_text_of rest))
    else (if byte == 61 then (if is_tns rest || is_mtx rest then Some (SaysFile name rest) else None)
    else (if byte == 35 then (if is_number rest then Some (SaysRange name rest) else None) else None))

-- what a word says, if it has one of the forms
abbrev pub said_of : List ℕ → Option Said
said_of word =
    if is_name (before_first ends_name word)
    then said_behind (before_first ends_name word) (slice_get word (position_or_len ends_name word)) (after_first ends_name word)
    else None
