-- Operands as they are packed: in their formats, with level sizes by the ranges of the variables.
use Rattle.std.specs.Prelude.{◌≡◌, ℕ, suc, ◌<◌, ◌^◌, List, length, All, Some, slice_get}
use Rattle.numbers.specs.Arithmetic.{Arithmetic}
use Rattle.tensor_map.specs.Coords.{IsShape}
use Rattle.tensor_map.specs.Entries.{Entry, Entries, IsEntry, SameListed, SameValues, StrictlyIncreasing}
use Rattle.format_spec.specs.declared.format.FormatLevel.{FormatLevel}
use Rattle.format_spec.specs.Formats.{IsFormat}
use Rattle.index_notation.specs.declared.syntax.Statement.{Statement}
use Rattle.iteration_graph.specs.Edges.{format_of}
use Rattle.tensor_storage.specs.Arranged.{AreArranged, AreInside, IsPackedFrom, table_of}
use Rattle.tensor_storage.specs.Counts.{AreFew, positions_of}
use Rattle.tensor_storage.specs.Packed.{IsFirstAbove}
use Rattle.tensor_storage.specs.Storages.{Storage, IsStorage}
use Rattle.operand_packing.specs.Operands.{mode_sizes}
use Rattle.operand_packing.specs.declared.packing.PackFault.{PackFault}
use Rattle.operand_packing.specs.declared.packing.PackFault.TheVariants.{SizeLimit, Memory}

-- entries that increase, and have the values and the coordinate lists of others: equal coordinates are summed up
pub record AreSummed (a : Arithmetic) (order : ℕ) (entries summed : List Entry) : Type 0 where
  pub each : All (IsEntry order) summed
  pub increasing : StrictlyIncreasing summed
  pub values : SameValues a entries summed
  pub listed : SameListed entries summed

-- a storage stands for the entries, summed up where several have the same coordinates, all of them named; its values are words
pub record IsPackedOperand (a : Arithmetic) (format : List FormatLevel) (sizes : List ℕ) (entries : List Entry)
    (storage : Storage) : Type 0 where
  pub is_format : IsFormat format
  pub long : length sizes ≡ length format
  pub summed : List Entry
  pub are_summed : AreSummed a (length format) entries summed
  pub inside : AreInside sizes summed
  pub packed : IsPackedFrom a.zero format sizes summed storage
  pub whole : IsStorage storage
  pub words : All (λ v. v < 2 ^ 64) storage.values

-- the levels of a tensor of this format have so many positions for its entries, told by the coordinates that these name
pub record HavePositions (a : Arithmetic) (format : List FormatLevel) (sizes : List ℕ) (entries : List Entry)
    (counts : List ℕ) : Type 0 where
  pub summed : List Entry
  pub numbers : List ℕ
  pub are_summed : AreSummed a (length format) entries summed
  pub arranged : AreArranged format summed numbers
  pub counts_are : counts ≡ positions_of format sizes (table_of format summed numbers)

-- no level has more positions than may be
abbrev pub FitsLevels : Arithmetic → List FormatLevel → List ℕ → List Entry → Type 0
FitsLevels a format sizes entries = (counts : List ℕ) → HavePositions a format sizes entries counts → AreFew counts

-- this level is the first that has more positions than may be, and it has so many
pub record IsLargeOperand (a : Arithmetic) (format : List FormatLevel) (sizes : List ℕ) (entries : List Entry)
    (level count : ℕ) : Type 0 where
  pub counts : List ℕ
  pub have : HavePositions a format sizes entries counts
  pub first : IsFirstAbove counts level count

-- the sizes of the modes of operand n, counted from 0, which is tensor suc n
abbrev pub operand_sizes : Statement → (ℕ → ℕ) → ℕ → Entries → List ℕ
operand_sizes s ranges n entries = mode_sizes s ranges (suc n) entries.order

-- an operand may be packed: it has the order of the format, a size for each mode, and coordinates below these
pub record MayBePacked (format : List FormatLevel) (sizes : List ℕ) (entries : Entries) : Type 0 where
  pub order : entries.order ≡ length format
  pub long : length sizes ≡ length format
  pub shape : IsShape sizes
  pub inside : AreInside sizes entries.list

-- so may all operands, each in the format of its tensor
abbrev pub MayAllBePacked : Statement → List (List FormatLevel) → (ℕ → ℕ) → List Entries → Type 0
MayAllBePacked s formats ranges operands =
    (n : ℕ) (entries : Entries) → slice_get operands n ≡ Some entries
    → MayBePacked (format_of formats (suc n)) (operand_sizes s ranges n entries) entries

-- the storage stands for operand n, in the format of its tensor
pub record IsPackedAt (a : Arithmetic) (s : Statement) (formats : List (List FormatLevel)) (ranges : ℕ → ℕ) (operands : List Entries)
    (n : ℕ) (storage : Storage) : Type 0 where
  pub entries : Entries
  pub is : slice_get operands n ≡ Some entries
  pub order : entries.order ≡ length (format_of formats (suc n))
  pub packed : IsPackedOperand a (format_of formats (suc n)) (operand_sizes s ranges n entries) entries.list storage

-- there is a storage for each operand, which stands for it
pub record ArePackedOperands (a : Arithmetic) (s : Statement) (formats : List (List FormatLevel)) (ranges : ℕ → ℕ)
    (operands : List Entries) (storages : List Storage) : Type 0 where
  pub many : length storages ≡ length operands
  pub each : (n : ℕ) (storage : Storage) → slice_get storages n ≡ Some storage → IsPackedAt a s formats ranges operands n storage

-- no level of an operand has more positions than may be
abbrev pub OperandsFit : Arithmetic → Statement → List (List FormatLevel) → (ℕ → ℕ) → List Entries → Type 0
OperandsFit a s formats ranges operands =
    (n : ℕ) (entries : Entries) → slice_get operands n ≡ Some entries
    → FitsLevels a (format_of formats (suc n)) (operand_sizes s ranges n entries) entries.list

-- of the operands, in order of their numbers, this tensor is the first that has a level with more positions than may be, since some
-- storage stands for each before it; and of its levels this is the first, and has so many
pub record IsFirstLargeOperand (a : Arithmetic) (s : Statement) (formats : List (List FormatLevel)) (ranges : ℕ → ℕ)
    (operands : List Entries) (tensor level count : ℕ) : Type 0 where
  pub n : ℕ
  pub tensor_is : tensor ≡ suc n
  pub entries : Entries
  pub is : slice_get operands n ≡ Some entries
  pub earlier : (m : ℕ) → m < n → (storage : Storage) × IsPackedAt a s formats ranges operands m storage
  pub large : IsLargeOperand a (format_of formats (suc n)) (operand_sizes s ranges n entries) entries.list level count

-- why one operand isn't packed
abbrev pub IsPackRefusal : Arithmetic → List FormatLevel → List ℕ → List Entry → ℕ → PackFault → Type 0
IsPackRefusal a format sizes entries tensor (SizeLimit large) =
    (large.tensor ≡ tensor) × IsLargeOperand a format sizes entries large.level large.count
IsPackRefusal a format sizes entries tensor (Memory error) = Unit {0}

-- why the operands aren't packed
abbrev pub MayNotPack : Arithmetic → Statement → List (List FormatLevel) → (ℕ → ℕ) → List Entries → PackFault → Type 0
MayNotPack a s formats ranges operands (SizeLimit large) =
    IsFirstLargeOperand a s formats ranges operands large.tensor large.level large.count
MayNotPack a s formats ranges operands (Memory error) = Unit {0}
