-- How many brackets are open.
use Rattle.std.specs.Prelude.{ℕ, ◌+◌, ◌-◌, ◌==◌, ◌||◌, Bool, nat_lt, List, [], ◌∷◌, Option, Some, None, if◌then◌else◌}

abbrev pub is_opening : ℕ → Bool
is_opening byte = (byte == 40) || ((byte == 91) || (byte == 123))

abbrev pub is_closing : ℕ → Bool
is_closing byte = (byte == 41) || ((byte == 93) || (byte == 125))

-- how many are open behind a byte; none where one opens while 4,096 are open
abbrev pub open_with : Option ℕ → ℕ → Option ℕ
open_with None byte = None
open_with (Some depth) byte =
    if is_opening byte then (if nat_lt depth 4096 then Some (depth + 1) else None)
    else (if is_closing byte then Some (depth - 1) else Some depth)

-- and behind a text
abbrev pub open_behind : Option ℕ → List ℕ → Option ℕ
open_behind depth [] = depth
open_behind depth (byte ∷ text) = open_behind (open_with depth byte) text
