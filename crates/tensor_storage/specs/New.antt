-- Levels before they are given anything.
use Rattle.std.specs.Prelude.{◌≡◌, ℕ, true, false, None}
use Rattle.level_core.specs.declared.letter.Letter.{Letter}
use Rattle.level_core.specs.Kinds.{capabilities}
use Rattle.level_core.specs.Logs.{nothing_reserved}
use Rattle.level_core.specs.Meaning.{Meaning}

-- a level of this kind and range to which nothing was appended, or for which nothing was prepared
pub record IsNew {L : Type 0} (means : Meaning L) (letter : Letter) (size : ℕ) (l : L) : Type 0 where
  pub kind : means.kind l ≡ letter
  pub size_is : means.size l ≡ size
  pub log : (capabilities letter).append ≡ true → means.log l ≡ nothing_reserved
  pub width : (capabilities letter).append ≡ false → means.width l ≡ None
