-- Positions in a dense tensor: its coordinate lists are numbered from 0 in lexicographic order, as a row-major
-- array stores them.
use Rattle.std.specs.Prelude.{ℕ, ◌+◌, ◌*◌, ◌/◌, ◌%◌, ◌<◌, List, [], ◌∷◌}

abbrev pub product : List ℕ → ℕ
product [] = 1
product (n ∷ ns) = n * product ns

-- a coordinate for each mode, below the mode's size
abbrev pub IsBelow : List ℕ → List ℕ → Type 0
IsBelow [] [] = Unit {0}
IsBelow (n ∷ ns) (c ∷ cs) = (c < n) × IsBelow ns cs
IsBelow _ _ = ⊥

-- how many coordinate lists below the sizes come before these coordinates
abbrev pub position : List ℕ → List ℕ → ℕ
position (n ∷ ns) (c ∷ cs) = c * product ns + position ns cs
position _ _ = 0

-- the coordinates at a position
abbrev pub coords_at : List ℕ → ℕ → List ℕ
coords_at [] i = []
coords_at (n ∷ ns) i = (i / product ns) ∷ coords_at ns (i % product ns)
