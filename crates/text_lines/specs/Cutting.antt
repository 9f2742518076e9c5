-- The lines of a text of which more may come: those that have ended, and the one that has begun.
use Rattle.std.specs.Prelude.{◌≡◌, ℕ, Bool, true, nat_lt, List, [], ◌∷◌, ◌++◌, length, map}
use Rattle.std.specs.List.{slice_split, list_any, before_first}
use Rattle.std.specs.Str.Lines.{strip_carriage_return}
use Rattle.limits.specs.Limits.{greatest_line_bytes}
use Rattle.text_lines.specs.Lines.{is_line_feed, lines}

abbrev pub without_last : List (List ℕ) → List (List ℕ)
without_last [] = []
without_last (part ∷ []) = []
without_last (part ∷ next ∷ more) = part ∷ without_last (next ∷ more)

abbrev pub last_part : List (List ℕ) → List ℕ
last_part [] = []
last_part (part ∷ []) = part
last_part (part ∷ next ∷ more) = last_part (next ∷ more)

-- the lines that a line feed has ended
abbrev pub ended_lines : List ℕ → List (List ℕ)
ended_lines text = map strip_carriage_return (without_last (slice_split is_line_feed text))

-- the bytes behind the last line feed
abbrev pub begun_line : List ℕ → List ℕ
begun_line text = last_part (slice_split is_line_feed text)

-- a line may not be so long
abbrev pub is_long : List ℕ → Bool
is_long line = nat_lt greatest_line_bytes (length line)

-- whether a line of the text is too long, also one that has only begun
abbrev pub has_long_line : List ℕ → Bool
has_long_line text = list_any is_long (lines text)

-- the lines that have ended before the first one that is too long
abbrev pub told_lines : List ℕ → List (List ℕ)
told_lines text = before_first is_long (ended_lines text)

-- the first line of the text that is too long, behind those that are told
pub record BreaksOff (text : List ℕ) : Type 0 where
  pub line : List ℕ
  pub behind : List (List ℕ)
  pub long : is_long line ≡ true
  pub lines_are : lines text ≡ told_lines text ++ line ∷ behind
