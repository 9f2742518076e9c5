-- How many positions the levels of a format have for the rows of a table, told by the rows' coordinates alone.
use Rattle.std.specs.Prelude.{ℕ, zero, suc, ◌+◌, ◌≤◌, ◌&&◌, ◌||◌, not, max}
use Rattle.std.specs.Prelude.{Bool, false, if◌then◌else◌, List, [], ◌∷◌, All}
use Rattle.limits.specs.Limits.{greatest_position_count}
use Rattle.level_core.specs.declared.letter.Letter.{Letter}
use Rattle.level_core.specs.Kinds.{capabilities, positions_for}
use Rattle.format_spec.specs.declared.format.FormatLevel.{FormatLevel}
use Rattle.format_spec.specs.Formats.{letters_of}
use Rattle.tensor_storage.specs.Chains.{chain_length}
use Rattle.tensor_storage.specs.Storages.{in_level_order}
use Rattle.tensor_storage.specs.Tables.{Table, agree}

-- whether one of the rows below j has the coordinates of row i at the first n levels
abbrev pub is_met : (ℕ → ℕ → ℕ) → ℕ → ℕ → ℕ → Bool
is_met coords n i zero = false
is_met coords n i (suc j) = is_met coords n i j || agree coords n j i

-- how many different lists of coordinates the rows below i have at the first n levels: a row counts where no row before it has its list
abbrev pub different : (ℕ → ℕ → ℕ) → ℕ → ℕ → ℕ
different coords n zero = 0
different coords n (suc i) = if is_met coords n i i then different coords n i else different coords n i + 1

-- how many of those lists, one coordinate longer, go on from the first d coordinates of row i
abbrev pub different_below : (ℕ → ℕ → ℕ) → ℕ → ℕ → ℕ → ℕ
different_below coords d i zero = 0
different_below coords d i (suc j) =
    if agree coords d j i && not (is_met coords (suc d) j j) then different_below coords d i j + 1 else different_below coords d i j

-- the greatest number of different coordinates that so many rows have at the level numbered d below one list, of those of the rows
-- below i
abbrev pub greatest_below : (ℕ → ℕ → ℕ) → ℕ → ℕ → ℕ → ℕ
greatest_below coords d count zero = 0
greatest_below coords d count (suc i) = max (greatest_below coords d count i) (different_below coords d i count)

-- the positions of the level numbered d, of this kind and range, below so many parents: where it is appended to, as many as there
-- are different lists of coordinates through the end of its chain; else as many as the kind says
abbrev pub positions_at : Table → ℕ → ℕ → Letter → List Letter → ℕ → ℕ
positions_at table d parents letter letters size =
    if (capabilities letter).append then different table.coords (d + chain_length (letter ∷ letters)) table.count
    else positions_for letter size parents (greatest_below table.coords d table.count table.count)

-- the positions of each level from the one numbered d on, which has so many parents: each level's are the parents of the next
abbrev pub positions_from : Table → ℕ → ℕ → List Letter → List ℕ → List ℕ
positions_from table d parents [] sizes = []
positions_from table d parents (letter ∷ letters) [] = []
positions_from table d parents (letter ∷ letters) (size ∷ sizes) =
    positions_at table d parents letter letters size
    ∷ positions_from table (suc d) (positions_at table d parents letter letters size) letters sizes

-- of each level of a format, with these ranges of the modes
abbrev pub positions_of : List FormatLevel → List ℕ → Table → List ℕ
positions_of format ranges table = positions_from table 0 1 (letters_of format) (in_level_order format ranges)

-- those of the last level, or of the top where there is no level
abbrev pub last_of : ℕ → List ℕ → ℕ
last_of parents [] = parents
last_of parents (n ∷ ns) = last_of n ns

-- no number passes the limit
abbrev pub AreFew : List ℕ → Type 0
AreFew counts = All (λ count. count ≤ greatest_position_count) counts
