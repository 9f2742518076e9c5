-- What follows from the definition of lines.
use Rattle.std.specs.Prelude.{◌≢◌, ℕ, ◌-◌, List, [], ◌∷◌, ◌++◌, length, slice_index}
use Rattle.std.specs.List.{All, flat_map}

-- it could stand on a line: it has no line feed, and no carriage return at its end
pub record IsLine (line : List ℕ) : Type 0 where
  pub one : All (λ byte. byte ≢ 10) line
  pub bare : slice_index line (length line - 1) ≢ 13

-- these, each followed by a line feed
abbrev pub joined_lines : List (List ℕ) → List ℕ
joined_lines parts = flat_map (λ part. part ++ 10 ∷ []) parts
