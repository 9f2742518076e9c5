-- The operands of the workload as square matrices with few entries.
use Rattle.std.specs.Prelude.{◌≡◌, ℕ, ◌≤◌, List, [], ◌∷◌, length, All}
use Rattle.tensor_map.specs.Entries.{Entries}
use Rattle.tns_io.specs.Positions.{IsBelow}

-- a matrix of n rows and columns, with at most n entries
pub record IsMatrix (n : ℕ) (entries : Entries) : Type 0 where
  pub order : entries.order ≡ 2
  pub below : All (λ entry. IsBelow (n ∷ n ∷ []) entry.coords) entries.list
  pub few : length entries.list ≤ n

-- three of them
abbrev pub AreMatrices : ℕ → List Entries → Type 0
AreMatrices n (first ∷ second ∷ third ∷ []) = IsMatrix n first × IsMatrix n second × IsMatrix n third
AreMatrices n _ = ⊥
