-- How many coordinates stand below the parents of a level, and how wide the blocks of a level without order are by it.
use Rattle.std.specs.Prelude.{◌≡◌, ℕ, zero, suc, ◌==◌, false, if◌then◌else◌, List, length, max, Some}
use Rattle.kernel_code.specs.Widths.{slot_width}
use Rattle.hashed_level.specs.Slots.{empty_slot}
use Rattle.level_core.specs.declared.span.Span.{Span}
use Rattle.level_core.specs.declared.span.Entry.{Entry}
use Rattle.level_core.specs.Entries.{one}
use Rattle.level_core.specs.Kinds.{properties}
use Rattle.level_core.specs.Meaning.{Meaning}

-- how many coordinates a slot holds, by its word
abbrev pub coordinates_in : ℕ → ℕ
coordinates_in word = if word == empty_slot then 0 else 1

-- the greatest number of entries below one of so many parents
abbrev pub most_below : (Span → List Entry) → ℕ → ℕ
most_below entries zero = 0
most_below entries (suc p) = max (most_below entries p) (length (entries (one p)))

-- where coordinates stand without order, each block is no wider than the greatest number of them below one parent wants it
abbrev pub IsLeastWide : {L : Type 0} → Meaning L → ℕ → L → Type 0
IsLeastWide means parents l = (properties (means.kind l)).ordered ≡ false
    → means.width l ≡ Some (slot_width (most_below (means.entries l) parents))
