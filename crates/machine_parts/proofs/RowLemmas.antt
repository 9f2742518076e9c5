-- Rows of a scratch list as the machine has them.
use Rattle.std.specs.Prelude.{◌≡◌, List, [], ◌∷◌, ◌++◌, map, refl}
use Rattle.std.proofs.Common.{◌∙◌, ap}
use Rattle.std.proofs.lemmas.List.{map-append}
use Rattle.kernel_code.specs.Rows.{ListRow}
use Rattle.machine_parts.specs.declared.rows.ScratchRow.{ScratchRow}
use Rattle.machine_parts.specs.Rows.{as_row}

pub scratch_row_added : (xs : List ScratchRow) (x : ScratchRow) (rs : List ListRow) → map as_row xs ≡ rs
    → map as_row (xs ++ x ∷ []) ≡ rs ++ as_row x ∷ []
scratch_row_added xs x rs h = map-append as_row xs (x ∷ []) ∙ ap (λ ys. ys ++ as_row x ∷ []) h

pub coordinates_as_rows : (xs : List ScratchRow) → map (λ (r : ScratchRow). r.coordinate) xs
    ≡ map (λ (r : ListRow). r.coordinate) (map as_row xs)
coordinates_as_rows [] = refl
coordinates_as_rows (x ∷ xs) = ap (λ ys. x.coordinate ∷ ys) (coordinates_as_rows xs)

pub positions_as_rows : (xs : List ScratchRow) → map (λ (r : ScratchRow). r.position) xs ≡ map (λ (r : ListRow). r.position) (map as_row xs)
positions_as_rows [] = refl
positions_as_rows (x ∷ xs) = ap (λ ys. x.position ∷ ys) (positions_as_rows xs)
