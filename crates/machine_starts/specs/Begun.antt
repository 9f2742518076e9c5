-- The arrays that a run starts with, step by step: of the result's levels, its values, workspaces and scratch lists.
use Rattle.std.specs.Prelude.{◌≡◌, ℕ, zero, suc, ◌≤◌, true, List, [], ◌∷◌, replicate, Option, Some, None}
use Rattle.std.specs.Bool.{then_some}
use Rattle.limits.specs.Limits.{greatest_position_count}
use Rattle.kernel_code.specs.declared.syntax.Arr.TheVariants.{Values, Dimension, Key, Sums, ListCoordinates}
use Rattle.kernel_code.specs.declared.syntax.Arr.TheVariants.{ListPositions}
use Rattle.kernel_code.specs.Meaning.{State, set_array}
use Rattle.level_core.specs.declared.letter.Letter.{Letter}
use Rattle.level_core.specs.declared.arrays.LevelArray.{LevelArray}
use Rattle.level_core.specs.declared.arrays.LevelArray.TheVariants.{Ends as OfEnds, Coordinates as OfCoordinates, Width as OfWidth}
use Rattle.level_core.specs.Arrays.{array_of}
use Rattle.level_core.specs.Kinds.{properties, parents_below, zeros_at_start}
use Rattle.level_core.specs.Laws.{AreAtStart}
use Rattle.level_core.specs.Meaning.{Arrays}

-- zeros in an array of the level of this number, where there are some
abbrev pub filled_with : Option ℕ → LevelArray → ℕ → State → State
filled_with None array level s = s
filled_with (Some count) array level s = set_array s (array_of array 0 level) (replicate count 0)

-- an array of a level of this kind, below so many parents, as it starts, if it is one that the run makes
abbrev pub with_zeros : Letter → LevelArray → ℕ → ℕ → State → State
with_zeros letter array parents level s = filled_with (zeros_at_start letter array parents) array level s

-- a run makes no such array of a level of this kind
abbrev pub IsNotMade : Letter → LevelArray → Type 0
IsNotMade letter array = (parents : ℕ) → zeros_at_start letter array parents ≡ None

-- a level of the result with its arrays as they start
abbrev pub begun : Letter → ℕ → ℕ → State → State
begun letter parents level s =
    with_zeros letter OfCoordinates parents level (with_zeros letter OfWidth parents level (with_zeros letter OfEnds parents level s))

-- no dense level that has dense levels alone above it has more positions than may be
abbrev pub IsFew : List Letter → List ℕ → ℕ → Type 0
IsFew (letter ∷ letters) (size ∷ sizes) parents =
    (parents_below letter size parents ≤ greatest_position_count) × IsFew letters sizes (parents_below letter size parents)
IsFew _ _ parents = Unit {0}

-- the levels from this number on, and a value for each parent behind the last one
abbrev pub begun_result : ℕ → List Letter → List ℕ → ℕ → ℕ → State → State
begun_result nothing (letter ∷ letters) (size ∷ sizes) parents level s =
    begun_result nothing letters sizes (parents_below letter size parents) (suc level) (begun letter parents level s)
begun_result nothing _ _ parents level s = set_array s (Values 0) (replicate parents nothing)

-- so many keys of a workspace, with no words
abbrev pub with_keys : ℕ → ℕ → State → State
with_keys w zero s = s
with_keys w (suc n) s = set_array (with_keys w n s) (Key w n) []

-- workspaces from this number on, of so many keys each, with no rows
abbrev pub with_workspaces : List ℕ → ℕ → State → State
with_workspaces [] w s = s
with_workspaces (keys ∷ more) w s = with_workspaces more (suc w) (set_array (with_keys w keys s) (Sums w) [])

-- so many scratch lists, with no rows
abbrev pub with_lists : ℕ → State → State
with_lists zero s = s
with_lists (suc n) s = set_array (set_array (with_lists n s) (ListCoordinates n) []) (ListPositions n) []

-- the ranges of levels of the result, each where a run has an array of it: of full levels alone
abbrev pub sizes_lent : List Letter → List ℕ → List (Option ℕ)
sizes_lent (letter ∷ letters) (size ∷ sizes) = then_some (properties letter).full size ∷ sizes_lent letters sizes
sizes_lent _ _ = []

-- the ranges of full levels of the result from this number on stand in their arrays
abbrev pub HasSizes : List Letter → List ℕ → ℕ → Arrays → Type 0
HasSizes (letter ∷ letters) (size ∷ sizes) level a =
    ((properties letter).full ≡ true → a (Dimension 0 level) ≡ Some (size ∷ [])) × HasSizes letters sizes (suc level) a
HasSizes _ _ level a = Unit {0}

-- each level from this number on is as a run starts it, and there is a value for each parent behind the last one
abbrev pub AreBegun : ℕ → List Letter → List ℕ → ℕ → ℕ → Arrays → Type 0
AreBegun nothing (letter ∷ letters) (size ∷ sizes) parents level a =
    AreAtStart letter size parents 0 level a × AreBegun nothing letters sizes (parents_below letter size parents) (suc level) a
AreBegun nothing _ _ parents level a = a (Values 0) ≡ Some (replicate parents nothing)
