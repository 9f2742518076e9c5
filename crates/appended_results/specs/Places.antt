-- The positions of rows level by level, as their coordinates tell them: one after another where a level is appended to, and at a full
-- level as many below each parent as its range.
use Rattle.std.specs.Prelude.{ℕ, zero, suc, ◌+◌, ◌*◌, ◌&&◌, Bool, true, if◌then◌else◌, List, drop, slice_index}
use Rattle.level_core.specs.declared.letter.Letter.{Letter}
use Rattle.level_core.specs.Kinds.{properties}
use Rattle.level_rows.specs.Rows.{Rows, begun, place}
use Rattle.tensor_storage.specs.Chains.{chain_length}
use Rattle.tensor_storage.specs.Tables.{begins_at}
use Rattle.appended_results.specs.Heads.{letter_at}

-- where the chain of the level ends that stands below d others: the number of levels through its last one
abbrev pub through : List Letter → ℕ → ℕ
through letters d = d + chain_length (drop d letters)

-- which rows begin a position of that level
abbrev pub first_at : List Letter → (ℕ → ℕ → ℕ) → ℕ → ℕ → Bool
first_at letters coords d = begins_at coords (through letters d)

-- the position of each row at the first d levels
abbrev pub place_above : List Letter → List ℕ → (ℕ → ℕ → ℕ) → ℕ → ℕ → ℕ
place_above letters sizes coords zero i = 0
place_above letters sizes coords (suc d) i =
    if (properties (letter_at letters d)).full then place_above letters sizes coords d i * slice_index sizes d + coords d i
    else place (first_at letters coords d) i

-- how many positions there are for so many rows
abbrev pub positions_above : List Letter → List ℕ → (ℕ → ℕ → ℕ) → ℕ → ℕ → ℕ
positions_above letters sizes coords count zero = 1
positions_above letters sizes coords count (suc d) =
    if (properties (letter_at letters d)).full then positions_above letters sizes coords count d * slice_index sizes d
    else begun (first_at letters coords d) count

-- the rows that the level is given which stands below d others
abbrev pub rows_above : List Letter → List ℕ → (ℕ → ℕ → ℕ) → ℕ → ℕ → Rows
rows_above letters sizes coords count d =
    record { count = count; parent = place_above letters sizes coords d; coord = coords d; first = first_at letters coords d }

-- whether the first d levels are all full: as many positions from the start as at the end
abbrev pub is_fixed : List Letter → ℕ → Bool
is_fixed letters zero = true
is_fixed letters (suc d) = is_fixed letters d && (properties (letter_at letters d)).full
