-- Operands whose entries are stored more than once: of each tensor that is packed, the operand whose entries it stores.
use Rattle.std.specs.Prelude.{◌≡◌, ℕ, ◌≤◌, ◌<◌, List, [], length, map, All, Option, None, Some}
use Rattle.numbers.specs.Arithmetic.{Arithmetic}
use Rattle.tensor_map.specs.Entries.{Entries, SameListed, SameValues}
use Rattle.operand_packing.specs.Operands.{operand_of}

-- an operand, and no entries where there is none
abbrev pub or_no_entries : Option Entries → Entries
or_no_entries None = record { order = 0; list = [] }
or_no_entries (Some entries) = entries

-- for each of these tensors its operand
abbrev pub drawn : List ℕ → List Entries → List Entries
drawn origins operands = map (λ origin. or_no_entries (operand_of operands origin)) origins

-- each of these tensors has an operand
abbrev pub HaveOperands : List ℕ → List Entries → Type 0
HaveOperands origins operands = All (λ origin. (0 < origin) × (origin ≤ length operands)) origins

-- the entries stand for what others stood for: they may have been put in order, and summed up where several have the same coordinates
pub record StandsFor (a : Arithmetic) (old new : Entries) : Type 0 where
  pub order : new.order ≡ old.order
  pub values : SameValues a old.list new.list
  pub listed : SameListed old.list new.list
