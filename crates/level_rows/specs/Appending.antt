-- The cursor of the loops that append rows, and what each of their steps leaves.
use Rattle.std.specs.Prelude.{◌≡◌, ℕ, ◌+◌, ◌≤◌, ◌<◌, ◌==◌, Bool, if◌then◌else◌, List, length, slice_index}
use Rattle.level_core.specs.declared.letter.Letter.{Letter}
use Rattle.level_core.specs.Logs.{Log, with_coord, with_edges}
pub use Rattle.level_rows.specs.declared.appending.Cursor.{Cursor}

-- the cursor where the next row's parent is this
abbrev pub turned : Cursor → ℕ → Cursor
turned at next = if at.last == next then at else record { last = next; begin = at.count; count = at.count }

-- the last parent is given its positions where the next row's parent is another
abbrev pub turned_log : Letter → Cursor → ℕ → Log → Log
turned_log letter at next log = if at.last == next then log else with_edges letter at.last at.begin at.count log

-- a coordinate more, where a row begins a position
abbrev pub added : Cursor → Bool → Cursor
added at first = if first then record at { count = at.count + 1 } else at

abbrev pub added_log : Bool → ℕ → Log → Log
added_log first x log = if first then with_coord x log else log

-- the last parent is given its positions if there were rows
abbrev pub closed_log : Letter → Cursor → Bool → Log → Log
closed_log letter at some log = if some then with_edges letter at.last at.begin at.count log else log

-- the rows from one to before another stand for their own numbers, and the others are as before
pub record AreNumbered (from to : ℕ) (old new : List ℕ) : Type 0 where
  pub long : length new ≡ length old
  pub own : (i : ℕ) → from ≤ i → i < to → slice_index new i ≡ i
  pub before : (i : ℕ) → i < from → slice_index new i ≡ slice_index old i
  pub behind : (i : ℕ) → to ≤ i → slice_index new i ≡ slice_index old i
