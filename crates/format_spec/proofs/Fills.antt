-- The levels so far, of letters and modes that are gone over together.
use Rattle.std.specs.Prelude.{◌≡◌, ℕ, List, length, take}
use Rattle.smallvec.specs.SmallVec.{SmallVec}
use Rattle.format_spec.specs.Formats.{FormatLevel, letters_of, modes_of}
use Rattle.format_spec.specs.Words.{AreLetters}

-- the first letters and modes are those of the levels so far
pub record Filled (count : ℕ) (letters modes : List ℕ) (levels : SmallVec FormatLevel) : Type 0 where
  pub letters_are : AreLetters (take count letters) (letters_of levels.items)
  pub modes_are : modes_of levels.items ≡ take count modes
  pub length_is : length levels.items ≡ count
  pub inline : levels.capacity ≡ 6
