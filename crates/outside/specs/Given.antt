-- What reads gave of each file that was opened, in order.
use Rattle.std.specs.Prelude.{ℕ, List, [], ◌∷◌, ◌++◌}

-- one more file, of which nothing was read
abbrev pub opened : List (List ℕ × List ℕ) → List ℕ → List (List ℕ × List ℕ)
opened files name = files ++ (name, []) ∷ []

-- more bytes of the last file
abbrev pub extended : List (List ℕ × List ℕ) → List ℕ → List (List ℕ × List ℕ)
extended [] bytes = []
extended (file ∷ []) bytes = (file.0, file.1 ++ bytes) ∷ []
extended (file ∷ next ∷ more) bytes = file ∷ extended (next ∷ more) bytes
