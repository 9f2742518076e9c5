-- The operands of a store as loops find them.
use Rattle.std.specs.Prelude.{◌≡◌, ℕ, ◌-◌, nat_lt, nat_le, List, [], ◌∷◌, length, take, Option, Some, None, slice_get, slice_index}
use Rattle.numbers.specs.Arithmetic.{Arithmetic, Laws}
use Rattle.level_core.specs.Meaning.{Arrays}
use Rattle.format_spec.specs.declared.format.FormatLevel.{FormatLevel}
use Rattle.index_notation.specs.Statement.{IsNumbered, IsWellNamed}
use Rattle.index_notation.specs.declared.syntax.Access.{Access}
use Rattle.index_notation.specs.declared.syntax.Statement.{Statement}
use Rattle.iteration_graph.specs.Edges.{HasFormat}
use Rattle.lists.specs.Each.{Each}
use Rattle.workspaces.specs.PresenceLaws.{AreZeroElsewhere}
use Rattle.tensor_storage.specs.Storages.{Storage}
use Rattle.loop_code.specs.Loops.{start}
use Rattle.lowering.specs.Held.{AreHeld}
use Rattle.lowering.specs.Layouts.{layout_of}
use Rattle.lowering.specs.Stored.{levels_stored, stored_of}
use Rattle.lowering.specs.Sums.{first_sum}
use Rattle.kernel_correctness.specs.Stores.{Store, IsFlat, IsStoreOf, IsGiven, operand_of, told_by}
use Rattle.term_code.specs.declared.places.AccessPlace.{AccessPlace}
use Rattle.operand_arrays.specs.Operands.{Operands, stored_in, AreReady, AreOpen, HasRanges, AreOperands}

-- the values of an access, and one zero where there is no access: as below every format without levels
abbrev pub values_at : (ℕ → Storage) → Option Access → List ℕ
values_at storages None = 0 ∷ []
values_at storages (Some access) = (storages access.tensor).values

-- the levels and values of the store's operands behind the accesses of a statement, of which the last ones read its sums
abbrev pub operands_in : Statement → Store → Operands
operands_in s store = record {
  levels = λ k. levels_stored (operand_of store) (slice_get s.accesses k);
  words = λ k. values_at (operand_of store) (slice_get s.accesses k);
  stored = λ k. nat_lt k (first_sum s);
}

-- each access of a tensor has a format
abbrev pub AreFormatted : Statement → List (List FormatLevel) → Type 0
AreFormatted s formats = Each (HasFormat formats) (take (first_sum s) s.accesses)

-- the number of the first tensor that stands for a sum
abbrev pub first_summed : Statement → ℕ
first_summed s = length s.tensors - length s.sums

-- a statement that reads no tensor that it writes, with a format for each access of a tensor, and a store of it
pub record IsReadStore (s : Statement) (formats : List (List FormatLevel)) (store : Store) : Type 0 where
  pub numbered : IsNumbered s
  pub named : IsWellNamed s
  pub flat : IsFlat s formats
  pub read : AreFormatted s formats
  pub is : IsStoreOf s formats store

-- the access of each place reads its tensor, and is told to be that of a sum where this stands for one
abbrev pub ArePlacesOf : Statement → List AccessPlace → Type 0
ArePlacesOf s accesses =
    (k : ℕ) (p : AccessPlace) → slice_get accesses k ≡ Some p
    → (x : Access) × (slice_get s.accesses k ≡ Some x) × (p.tensor ≡ x.tensor) × (p.is_sum ≡ nat_le (first_summed s) x.tensor)

-- as a run starts: the arrays hold the levels and values of all accesses of tensors, none of which is the result, and the ranges; and
-- before all loops each of them may be asked from its top
pub record ArrayStands (s : Statement) (formats : List (List FormatLevel)) (store : Store) (accesses : List AccessPlace) (arrays : Arrays)
    : Type 0 where
  pub ready : AreReady s formats accesses (operands_in s store) arrays
  pub operands : AreOperands accesses
  pub opened : AreOpen (operands_in s store) (λ k. 0) start
  pub ranges : HasRanges s (slice_index store.ranges) arrays

abbrev pub ArraysStandForOperands : Type 0
ArraysStandForOperands = (s : Statement) (formats : List (List FormatLevel)) (store : Store) → IsReadStore s formats store
    → (nothing : ℕ) (arrays : Arrays) → IsGiven nothing store arrays → (accesses : List AccessPlace) → ArePlacesOf s accesses
    → ArrayStands s formats store accesses arrays

-- what is stored of the accesses is what the store's operands store, and tells what the store tells, which is zero elsewhere
pub record AreTold (a : Arithmetic) (s : Statement) (formats : List (List FormatLevel)) (store : Store) : Type 0 where
  pub stored : stored_in (operands_in s store) ≡ stored_of s (operand_of store)
  pub held : AreHeld a (layout_of s formats) (stored_in (operands_in s store)) s (told_by a s store)
  pub elsewhere : AreZeroElsewhere a (told_by a s store).paths (told_by a s store).values

abbrev pub OperandsAreTold : Type 0
OperandsAreTold = (a : Arithmetic) → Laws a → (s : Statement) (formats : List (List FormatLevel)) (store : Store)
    → IsReadStore s formats store → AreTold a s formats store
