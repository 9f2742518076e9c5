-- What is true of each element, by recursion on the list: definitions on trees use it where std's All, which goes by places,
-- doesn't compute.
use Rattle.std.specs.Prelude.{List, [], ◌∷◌}

abbrev pub Each : {A : Type 0} → (A → Type 0) → List A → Type 0
Each P [] = Unit {0}
Each P (x ∷ xs) = P x × Each P xs
