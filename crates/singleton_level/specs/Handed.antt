-- The singleton level of the words that a kernel leaves of it.
use Rattle.std.specs.Prelude.{◌≡◌, ℕ, Bool, List, length}
use Rattle.level_core.specs.declared.stage.Stage.TheVariants.{Finished}
use Rattle.singleton_level.specs.Singleton.{SingletonLevel, HasParents, stored}

-- a finished level of this range and so many parents has these coordinates
pub record HasWords (n : ℕ) (unique : Bool) (parents : ℕ) (coords : List ℕ) (l : SingletonLevel) : Type 0 where
  pub size_is : l.size ≡ n
  pub unique_is : l.unique ≡ unique
  pub has_parents : HasParents l parents
  pub coords_are : l.coords ≡ coords

-- the level of such words; `spare` is the room for more, which no word tells
abbrev pub listed : ℕ → Bool → List ℕ → ℕ → SingletonLevel
listed n unique coords spare = stored n unique Finished (length coords) coords spare
