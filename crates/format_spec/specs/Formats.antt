-- Storage formats of tensors: the kind of each level and the mode that it stores.
use Rattle.std.specs.Prelude.{◌≡◌, ◌≢◌, ℕ, ◌≤◌, ◌<◌, Bool, true, false, not, List, [], ◌∷◌, length, map, All, AllPairs}
use Rattle.std.specs.List.{range_with_len}
use Rattle.limits.specs.Limits.{greatest_order}
use Rattle.smallvec.specs.SmallVec.{SmallVec}
pub use Rattle.level_core.specs.declared.letter.Letter.{Letter}
use Rattle.level_core.specs.Kinds.{properties, capabilities}
pub use Rattle.format_spec.specs.declared.format.FormatLevel.{FormatLevel}

abbrev pub letters_of : List FormatLevel → List Letter
letters_of levels = map (λ level. level.letter) levels

abbrev pub modes_of : List FormatLevel → List ℕ
modes_of levels = map (λ level. level.mode) levels

-- the modes of a tensor of order n in some order: as many numbers as modes, each below n, and none twice
pub record IsOrder (n : ℕ) (modes : List ℕ) : Type 0 where
  pub count : length modes ≡ n
  pub below : All (λ mode. mode < n) modes
  pub once : AllPairs (λ mode later. mode ≢ later) modes

-- a level with groups has a singleton level directly below it, and a singleton level one with groups directly above it
abbrev pub Chained : Bool → List Letter → Type 0
Chained groups [] = groups ≡ false
Chained groups (letter ∷ letters) = ((properties letter).branchless ≡ groups) × Chained (not (properties letter).unique) letters

-- each level below one without order can be inserted into
abbrev pub InsertedBelowUnordered : List Letter → Type 0
InsertedBelowUnordered letters = AllPairs (λ letter below. (properties letter).ordered ≡ false → (capabilities below).insert ≡ true) letters

-- what a check of the rule finds of a level
abbrev pub IsUnordered : FormatLevel → Type 0
IsUnordered level = (properties level.letter).ordered ≡ false

abbrev pub IsOrdered : FormatLevel → Type 0
IsOrdered level = (properties level.letter).ordered ≡ true

abbrev pub Inserts : FormatLevel → Type 0
Inserts level = (capabilities level.letter).insert ≡ true

-- the levels of a format: each mode is stored once, and the kinds can stand below one another
pub record IsFormat (levels : List FormatLevel) : Type 0 where
  pub short : length levels ≤ greatest_order
  pub order : IsOrder (length levels) (modes_of levels)
  pub chained : Chained false (letters_of levels)
  pub inserted : InsertedBelowUnordered (letters_of levels)

-- the levels stand in the value itself
pub record IsStored (levels : SmallVec FormatLevel) : Type 0 where
  pub format : IsFormat levels.items
  pub inline : levels.capacity ≡ 6

-- the modes in their own order
abbrev pub standing : ℕ → List ℕ
standing n = range_with_len 0 n
