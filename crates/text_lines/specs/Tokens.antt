-- The tokens of a line: the longest runs of bytes that aren't blanks.
use Rattle.std.specs.Prelude.{ℕ, Bool, nat_lt, List, length, filter}
use Rattle.std.specs.List.{slice_split}
use Rattle.lists.specs.Blanks.{is_blank}

abbrev pub has_bytes : List ℕ → Bool
has_bytes part = nat_lt 0 (length part)

-- the parts of the line between blanks, but for the empty ones
abbrev pub tokens : List ℕ → List (List ℕ)
tokens line = filter has_bytes (slice_split is_blank line)
