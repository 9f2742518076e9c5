use Rattle.std.proofs.Common.{◌≤◌, arith, subst}
use Rattle.mtx_io.specs.Places.{first_row}
use Rattle.mtx_io.proofs.PlaceLaws.{columns_end}
use Rattle.mtx_io.proofs.due.first_from_column.Goals as goal

pub returns-else-row-header : goal.returns-else-row-header
returns-else-row-header c =
    let above : c.args.header.now.rows ≤ first_row c.args.header.now.symmetry c.args.column =
    subst (λ row. c.args.header.now.rows ≤ row) (c.first_row_of-row.ensures (omega arith)) (omega arith) in
    columns_end _ _ _ _ above
