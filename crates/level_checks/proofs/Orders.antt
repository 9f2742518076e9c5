-- Coordinates that are gone over one after another.
use Rattle.std.specs.Prelude.{ℕ, ◌+◌, ◌≤◌, ◌<◌, Bool, List, length, drop, slice_index, Some}
use Rattle.level_core.specs.GroupLaws.{CoordsBelow}
use Rattle.level_core.specs.Logs.{Rises}
use Rattle.level_checks.specs.Orders.{least_behind}
use Rattle.level_checks.proofs.Loops.{Same, same_is, left_is}

-- what is left is below the range where the next one and those behind it are
pub below_next : (size : ℕ) (xs : List ℕ) (i : ℕ) → i < length xs
    → Same (CoordsBelow size (drop i xs)) ((slice_index xs i < size) × CoordsBelow size (drop (i + 1) xs))
below_next size xs i h = same_is (CoordsBelow size) _ _ (left_is xs i h)

-- what is left rises where the next one may follow and those behind it rise
pub rises_next : (unique : Bool) (least : ℕ) (xs : List ℕ) (i : ℕ) → i < length xs
    → Same (Rises unique least (drop i xs))
    ((least ≤ slice_index xs i) × Rises unique (least_behind unique (Some (slice_index xs i))) (drop (i + 1) xs))
rises_next unique least xs i h = same_is (Rises unique least) _ _ (left_is xs i h)
