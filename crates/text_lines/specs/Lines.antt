-- The lines of a text. A line ends with a line feed, as POSIX has it (section 'Line'), and the last one may end
-- with the text; a carriage return right before that belongs to the end.
use Rattle.std.specs.Prelude.{ℕ, Bool, ◌==◌, List, [], ◌∷◌, length, map, if◌then◌else◌}
use Rattle.std.specs.List.{slice_split}
use Rattle.std.specs.Str.Lines.{strip_carriage_return}

abbrev pub is_line_feed : ℕ → Bool
is_line_feed byte = byte == 10

-- the parts, but for an empty last one
abbrev pub without_empty_last : List (List ℕ) → List (List ℕ)
without_empty_last [] = []
without_empty_last (part ∷ []) = if length part == 0 then [] else part ∷ []
without_empty_last (part ∷ next ∷ more) = part ∷ without_empty_last (next ∷ more)

-- the parts of the text between line feeds, each without a carriage return at its end: nothing after the last
-- line feed is no line, and a carriage return alone after it is an empty line
abbrev pub lines : List ℕ → List (List ℕ)
lines text = map strip_carriage_return (without_empty_last (slice_split is_line_feed text))
