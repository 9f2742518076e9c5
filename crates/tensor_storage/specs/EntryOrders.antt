-- The order of the entries of a tensor, as the numbers that it names.
use Rattle.std.specs.Prelude.{◌≡◌, ℕ, List, Vec}
use Rattle.std.specs.List.{range_with_len}
use Rattle.std.specs.declared.alloc.Global.{Global}
use Rattle.format_spec.specs.declared.format.FormatLevel.{FormatLevel}
use Rattle.tensor_map.specs.Entries.{Entry}
use Rattle.tensor_storage.specs.declared.entries.EntryOrder.{EntryOrder}
use Rattle.tensor_storage.specs.declared.entries.EntryOrder.TheVariants.{Own, Sorted}
use Rattle.tensor_storage.specs.Columns.{AreColumns}

-- the numbers of so many entries, one after another in the order
abbrev pub numbers_of : ℕ → EntryOrder → List ℕ
numbers_of count Own = range_with_len 0 count
numbers_of count (Sorted numbers columns) = numbers.items

-- where it names numbers, its columns are those of the numbers
abbrev pub HasColumns : List FormatLevel → List Entry → EntryOrder → Type 0
HasColumns format entries order =
    (numbers : Vec ℕ Global) (columns : List (List ℕ)) → order ≡ Sorted numbers columns → AreColumns format entries numbers.items columns
