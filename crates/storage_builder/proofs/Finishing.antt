-- What follows once everything was handed over.
use Rattle.std.specs.Prelude.{◌≡◌, ℕ, ◌≤◌, true, false, List, length}
use Rattle.std.proofs.Common.{subst, arith}
use Rattle.format_spec.specs.declared.format.FormatLevel.{FormatLevel}
use Rattle.format_spec.specs.Formats.{letters_of}
use Rattle.tensor_storage.specs.declared.level.StorageLevel.{StorageLevel}
use Rattle.tensor_storage.specs.declared.words.LevelWords.{LevelWords}
use Rattle.tensor_storage.specs.Storages.{IsStorage, storage_of}
use Rattle.storage_builder.specs.Building.{Building, building, AreDense, IsBuilding, MayFinish}
use Rattle.storage_builder.specs.Made.{AllAlike, AreHandedOver}
use Rattle.storage_builder.proofs.Alike.{alike_storage}
use Rattle.storage_builder.proofs.Room.{room_enough}

pub not_refused : false ≡ true → ⊥
not_refused e = cc

module _ (b : Building) (format : List FormatLevel) (sizes : List ℕ) (parts : List LevelWords) (values : List ℕ)
    (is : b ≡ building format sizes parts) (may : MayFinish b values) where
  may_finish : MayFinish (building format sizes parts) values
  may_finish = subst (λ k. MayFinish k values) is may

  -- there are levels that have what was handed over
  pub some_handed : (ls : List StorageLevel) × AreHandedOver (letters_of format) sizes parts 1 ls
  some_handed = (may_finish.levels, may_finish.handed)

  -- levels that are made are a storage with the values
  pub finished_is_storage : (levels : List StorageLevel)
      → ((ls : List StorageLevel) → AreHandedOver (letters_of format) sizes parts 1 ls → AllAlike ls levels)
      → IsStorage (storage_of format levels values)
  finished_is_storage levels made =
      alike_storage format may_finish.levels levels values (made may_finish.levels may_finish.handed) may_finish.whole

  -- the room that was taken is enough for the values where all levels are dense
  pub values_fit : (levels room : ℕ) → IsBuilding format sizes parts levels room → AreDense b.format → length values ≤ room
  values_fit levels room holds dense =
      let are_dense : AreDense format = subst (λ k. AreDense k.format) is dense in
      let many = may_finish.many in
      let same = room_enough format sizes parts 1 may_finish.levels holds.sizes_long are_dense may_finish.handed in
      let fits = holds.values_room are_dense in
      omega (arith, many, same, fits)
