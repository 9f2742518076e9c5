-- What the words of a list of indices can hold.
use Rattle.std.specs.Prelude.{◌≡◌, ◌<◌, ℕ, Bool, true, false, List, [], ◌∷◌, All}
use Rattle.std.proofs.Common.{◌∙◌, sym, arith}
use Rattle.std.proofs.lemmas.Bool.Decides.{nat_tests}
use Rattle.std.proofs.lemmas.List.Elements.{All-nil, All-cons}
use Rattle.seg_buffer.specs.WordBuffer.{FitsWord}
use Rattle.level_core.specs.GroupLaws.{CoordsBelow}
use Rattle.coordinate_lists.specs.Widths.{needs_wide}

apart : true ≡ false → ⊥
apart e = cc

-- a wide list has room for any word
pub fits_wide : (wide : Bool) (x : ℕ) → wide ≡ true → FitsWord wide x
fits_wide wide x is = λ narrow. absurd (apart (sym is ∙ narrow))

-- a list that is as wide as a range needs it has room for a coordinate below the range
pub fits_below : (wide : Bool) (range x : ℕ) → wide ≡ needs_wide range → x < range → FitsWord wide x
fits_below wide range x is h = λ narrow. grind (arith, nat_tests, h, is, narrow)

pub all_fit : (wide : Bool) (range : ℕ) (coords : List ℕ) → wide ≡ needs_wide range → CoordsBelow range coords → All (FitsWord wide) coords
all_fit wide range [] is below = All-nil (FitsWord wide)
all_fit wide range (x ∷ xs) is below =
    All-cons (FitsWord wide) x xs (fits_below wide range x is below.0) (all_fit wide range xs is below.1)
