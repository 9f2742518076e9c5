-- Rows as the machine has them while it sorts.
use Rattle.std.specs.Prelude.{ℕ, List}
use Rattle.kernel_code.specs.Rows.{ListRow, Row, keys_at}
use Rattle.machine_parts.specs.declared.rows.ScratchRow.{ScratchRow}
use Rattle.machine_parts.specs.declared.sums.PlacedRow.{PlacedRow}

-- a row of a scratch list
abbrev pub as_row : ScratchRow → ListRow
as_row r = record { coordinate = r.coordinate; position = r.position }

-- a row of which only the place of its keys is kept
abbrev pub row_of : List (List ℕ) → PlacedRow → Row
row_of columns p = record { keys = keys_at columns p.place; value = p.value }
