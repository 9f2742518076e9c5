-- At most one storage stands for a table.
use Rattle.std.specs.Prelude.{◌≡◌, ℕ, List, [], ◌∷◌, length}
use Rattle.level_core.specs.Meaning.{Arrays, Meaning}
use Rattle.level_rows.specs.Tables.{Increase}
use Rattle.format_spec.specs.declared.format.FormatLevel.{FormatLevel}
use Rattle.tensor_storage.specs.Levels.{meaning}
use Rattle.tensor_storage.specs.Stands.{IsPacked}
use Rattle.tensor_storage.specs.Storages.{Storage, IsStorage}
use Rattle.tensor_storage.specs.Tables.{Table}

-- wherever arrays hold a level of the first storage they hold that of the second, level by level
abbrev pub AreHeldAlike : {L : Type 0} → Meaning L → List L → List L → Type 0
AreHeldAlike means [] [] = Unit {0}
AreHeldAlike means [] (m ∷ ms) = ⊥
AreHeldAlike means (l ∷ ls) [] = ⊥
AreHeldAlike means (l ∷ ls) (m ∷ ms) =
    ((tensor level : ℕ) (arrays : Arrays) → means.holds l tensor level arrays → means.holds m tensor level arrays)
    × AreHeldAlike means ls ms

-- two storages have the same arrays and the same values
pub record AreOne (s t : Storage) : Type 0 where
  pub levels : AreHeldAlike meaning s.levels t.levels
  pub values : s.values ≡ t.values

-- so have any two that stand for the same rows, in the same format and with the same ranges
abbrev pub OneStands : Type 0
OneStands = (zero : ℕ) (format : List FormatLevel) (ranges : List ℕ) (table : Table) (s t : Storage)
    → Increase table.coords (length format) table.count → IsStorage s → IsStorage t
    → IsPacked zero format ranges table s → IsPacked zero format ranges table t → AreOne s t
