-- The paths of a storage, one after another, and the entries that list them.
use Rattle.std.specs.Prelude.{◌≡◌, ◌↔◌, ℕ, ◌<◌, List, [], ◌∷◌, ◌++◌, length, map, All, slice_index}
use Rattle.level_core.specs.declared.span.Span.{Span}
use Rattle.level_core.specs.declared.span.Entry.{Entry}
use Rattle.level_core.specs.Meaning.{Meaning}
use Rattle.tensor_map.specs.Entries.{Entry as TensorEntry}
use Rattle.numbers.specs.Arithmetic.{Arithmetic}
use Rattle.tensor_map.specs.Entries.{Entries, IsEntry, Listed, value_at, SameListed, SameValues, StrictlyIncreasing}
use Rattle.tensor_storage.specs.Storages.{Storage, EndsAt}

-- the coordinates of a path in the order of the levels, and the position where it ends
pub record Route : Type 0 where
  pub coords : List ℕ
  pub end : ℕ

-- a path that has one coordinate more in front
abbrev pub longer : ℕ → Route → Route
longer x route = record { coords = x ∷ route.coords; end = route.end }

-- the paths through some entries, where below tells those below a span
abbrev pub routes_through : (Span → List Route) → List Entry → List Route
routes_through below [] = []
routes_through below (e ∷ es) = map (longer e.coord) (below e.child) ++ routes_through below es

-- the paths of levels below a span
abbrev pub routes : {L : Type 0} → Meaning L → List L → Span → List Route
routes means [] span = record { coords = []; end = span.lo } ∷ []
routes means (l ∷ ls) span = routes_through (routes means ls) (means.entries l span)

-- the coordinates of a path in the order of the modes, where places has the level of each mode, counted from 0
abbrev pub in_mode_order : List ℕ → List ℕ → List ℕ
in_mode_order places coords = map (λ place. slice_index coords place) places

-- the entry of a path that goes on from some coordinates
abbrev pub entry_of : List ℕ → List ℕ → List ℕ → Route → TensorEntry
entry_of places values front route = record { coords = in_mode_order places (front ++ route.coords); value = slice_index values route.end }

-- the entries are the storage's paths, each once and increasing, and the tensor that they stand for has at each the value where the
-- path ends
pub record ListsPaths (a : Arithmetic) (storage : Storage) (entries : Entries) : Type 0 where
  pub order : entries.order ≡ length storage.format
  pub increasing : StrictlyIncreasing entries.list
  pub listed : (coords : List ℕ) → Listed entries.list coords
      ↔ ((length coords ≡ length storage.format) × ((pos : ℕ) × EndsAt storage coords pos))
  pub values : (coords : List ℕ) (pos : ℕ) → length coords ≡ length storage.format → EndsAt storage coords pos
      → value_at a entries.list coords ≡ slice_index storage.values pos

-- entries that increase, and stand for the same tensor
pub record AreSorted (a : Arithmetic) (old new : List TensorEntry) : Type 0 where
  pub order : ℕ
  pub each : All (IsEntry order) old
  pub increasing : StrictlyIncreasing new
  pub listed : SameListed old new
  pub values : SameValues a old new

-- of each mode its level, counted from 0
pub record AreLevelsOf (modes places : List ℕ) : Type 0 where
  pub many : length places ≡ length modes
  pub within : All (λ place. place < length modes) places
  pub modes_are : (mode : ℕ) → mode < length modes → slice_index modes (slice_index places mode) ≡ mode
