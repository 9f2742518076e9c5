-- What is lent of operands.
use Rattle.std.specs.Prelude.{ℕ, List}
use Rattle.lent_arrays.specs.declared.lent.Operand.{Operand}
use Rattle.tensor_storage.specs.declared.level.StorageLevel.{StorageLevel}
use Rattle.tensor_storage.specs.Storages.{Storage}

-- levels and values
pub record Parts : Type 0 where
  pub levels : List StorageLevel
  pub values : List ℕ

-- those that are lent of an operand
abbrev pub lent_of : Operand → Parts
lent_of o = record { levels = o.levels.now; values = o.values.now }

-- those of what is stored
abbrev pub parts_of : Storage → Parts
parts_of s = record { levels = s.levels; values = s.values }
