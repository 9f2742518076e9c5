-- The hashed level of the words that a kernel leaves of it.
use Rattle.std.specs.Prelude.{◌≡◌, ℕ, List}
use Rattle.hashed_level.specs.Hashed.{Hashed, HasParents, width_words, meaning}
use Rattle.level_checks.specs.Widths.{IsLeastWide}

-- a level of this range and so many prepared parents has these words: the width of its blocks, no wider than they have to be, and its slots
pub record HasSlots (size parents : ℕ) (width slots : List ℕ) (l : Hashed) : Type 0 where
  pub size_is : l.size ≡ size
  pub has_parents : HasParents l parents
  pub width_is : width_words l.width ≡ width
  pub slots_are : l.slots ≡ slots
  pub least : IsLeastWide meaning parents l
