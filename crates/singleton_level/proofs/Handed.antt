-- The level of the words that a kernel leaves keeps the rules, and is the level that has them.
use Rattle.std.specs.Prelude.{◌≡◌, ℕ, Bool, List, length, Some, refl}
use Rattle.std.proofs.Common.{◌∙◌, sym, subst}
use Rattle.level_core.specs.declared.arrays.LevelArray.{LevelArray}
use Rattle.level_core.specs.declared.arrays.LevelArray.TheVariants.{Dimension as OfSize, Ends as OfEnds}
use Rattle.level_core.specs.declared.arrays.LevelArray.TheVariants.{Coordinates as OfCoordinates, Width as OfWidth}
use Rattle.level_core.specs.Arrays.{array_of}
use Rattle.level_core.specs.GroupLaws.{CoordsBelow}
use Rattle.level_core.specs.declared.stage.Stage.TheVariants.{Finished}
use Rattle.level_core.specs.Meaning.{Arrays}
use Rattle.singleton_level.specs.Singleton.{SingletonLevel, Holds, KeepsRules, stored, words_of}
use Rattle.singleton_level.specs.Handed.{HasWords, listed}

module _ (n : ℕ) (unique : Bool) (parents : ℕ) (coords : List ℕ) (l : SingletonLevel) (h : HasWords n unique parents coords l) where
  keeps : KeepsRules l
  keeps = h.has_parents.keeps

  made_is : (spare : ℕ) → listed n unique coords spare ≡ stored l.size l.unique Finished (length l.coords) l.coords spare
  made_is spare =
      λ i. stored (sym h.size_is i) (sym h.unique_is i) Finished (length (sym h.coords_are i)) (sym h.coords_are i) spare

  -- it keeps the rules
  pub made_keeps : (spare : ℕ) → KeepsRules (listed n unique coords spare)
  made_keeps spare =
      subst KeepsRules (sym (made_is spare)) (record { small = keeps.small; few = keeps.few; below = keeps.below; given = λ _. refl })

  -- its coordinates are below its range
  pub coords_below : CoordsBelow n coords
  coords_below = subst (CoordsBelow n) h.coords_are (subst (λ m. CoordsBelow m l.coords) h.size_is keeps.below)

-- arrays that hold a level have its words
pub held_words : (l : SingletonLevel) (tensor level : ℕ) (arrays : Arrays) → Holds l tensor level arrays
    → (array : LevelArray) (words : List ℕ) → words_of l array ≡ Some words → arrays (array_of array tensor level) ≡ Some words
held_words l tensor level arrays held OfSize words is = absurd (cc)
held_words l tensor level arrays held OfEnds words is = absurd (cc)
held_words l tensor level arrays held OfWidth words is = absurd (cc)
held_words l tensor level arrays held OfCoordinates words is = held ∙ is
