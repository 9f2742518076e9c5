-- Entries in one of three forms.
use Rattle.std.specs.Prelude.{◌≡◌, ℕ, ◌≤◌, List}
use Rattle.limits.specs.Limits.{greatest_order}
use Rattle.tensor_map.specs.Entries.{Entry, StrictlyIncreasing}
use Rattle.tensor_map.specs.declared.entry_list.EntryForm.{EntryForm}
use Rattle.tensor_map.specs.declared.entry_list.EntryForm.TheVariants.{Columns, Pairs, Rows}

-- the entries
abbrev pub listed_in : EntryForm → List Entry
listed_in (Columns columns) = columns.list
listed_in (Pairs pairs) = pairs.items
listed_in (Rows rows) = rows.items

-- there are as many columns as the tensor has modes, and the entries increase; pairs are those of a matrix
abbrev pub AreInOrder : ℕ → EntryForm → Type 0
AreInOrder order (Columns columns) = (columns.order ≡ order) × StrictlyIncreasing columns.list
AreInOrder order (Pairs pairs) = order ≡ 2
AreInOrder order (Rows rows) = Unit {0}

pub record IsForm (order : ℕ) (form : EntryForm) : Type 0 where
  pub short : order ≤ greatest_order
  pub in_order : AreInOrder order form
