-- What letters of levels that are appended to tell.
use Rattle.std.specs.Prelude.{◌≡◌, Bool, true, false}
use Rattle.std.proofs.Common.{◌∙◌, sym}
use Rattle.level_core.specs.declared.letter.Letter.{Letter}
use Rattle.level_core.specs.Kinds.{properties, capabilities}
use Rattle.coordinate_lists.specs.Letters.{letter_by}

apart : true ≡ false → ⊥
apart e = cc

-- what is true of both letters
pub by_letter : (P : Letter → Type 0) (single groups : Letter) (unique : Bool) → P single → P groups → P (letter_by single groups unique)
by_letter P single groups true h g = h
by_letter P single groups false h g = g

-- the letter tells whether each coordinate stands once
pub unique_is : (single groups : Letter) (unique : Bool) → (properties single).unique ≡ true → (properties groups).unique ≡ false
    → (properties (letter_by single groups unique)).unique ≡ unique
unique_is single groups true h g = h
unique_is single groups false h g = g

-- neither letter's levels are located
pub never_located : (single groups : Letter) (unique : Bool) → (capabilities single).locate ≡ false → (capabilities groups).locate ≡ false
    → (capabilities (letter_by single groups unique)).locate ≡ true → ⊥
never_located single groups true h g can = apart (sym can ∙ h)
never_located single groups false h g can = apart (sym can ∙ g)
