-- The compressed level of the words that a kernel leaves of it.
use Rattle.std.specs.Prelude.{◌≡◌, ℕ, ◌-◌, Bool, List, length}
use Rattle.level_core.specs.declared.stage.Stage.TheVariants.{Finished}
use Rattle.level_core.specs.Logs.{running}
use Rattle.compressed_level.specs.Compressed.{CompressedLevel, HasParents, ends_of, stored}

-- a finished level of this range and so many parents has these words: numbers of positions behind a zero, whose sums are its segment
-- ends, and its coordinates
pub record HasWords (n : ℕ) (unique : Bool) (parents : ℕ) (numbers coords : List ℕ) (l : CompressedLevel) : Type 0 where
  pub size_is : l.size ≡ n
  pub unique_is : l.unique ≡ unique
  pub has_parents : HasParents l parents
  pub ends : ends_of l.log.stage l.log.counts ≡ running 0 numbers
  pub coords_are : l.log.coords ≡ coords

-- the level of such words; `spare` is the room for more, which no word tells
abbrev pub summed : ℕ → Bool → List ℕ → List ℕ → ℕ → CompressedLevel
summed n unique numbers coords spare = stored n unique Finished (running 0 numbers) coords (length numbers - 1) spare
