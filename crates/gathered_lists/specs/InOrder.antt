-- Entries in order of their coordinates, which may stand in any order of positions.
use Rattle.std.specs.Prelude.{◌≡◌, ℕ, nat_lt, List, length}
use Rattle.kernel_code.specs.Rows.{sorted_by}
use Rattle.level_core.specs.declared.span.Entry.{Entry}
use Rattle.level_core.specs.Entries.{Rising}
use Rattle.tensor_storage.specs.Children.{child_of}

abbrev pub in_order : List Entry → List Entry
in_order es = sorted_by (λ d e. nat_lt d.coord e.coord) es

-- the second list has the same children of each coordinate, in increasing order of coordinates
pub record AreInOrder (es sorted : List Entry) : Type 0 where
  pub rising : Rising 0 sorted
  pub children : (x : ℕ) → child_of sorted x ≡ child_of es x
  pub many : length sorted ≡ length es
