use Rattle.std.proofs.Common.{◌≡◌, map, reverse, length}
use Rattle.kernel_code.specs.Rows.{joined_rows}
use Rattle.machine_parts.specs.Rows.{row_of}
use Rattle.machine_parts.proofs.SumLemmas.{read, onto}
use Rattle.machine_parts.proofs.sums.join_places.Given as goal

-- the rows that are left, joined ahead of the sums, are those of all rows
abbrev pub invariant-loop-row : goal.invariant-loop-row
invariant-loop-row g l =
    onto g.S.Semiring.arithmetic (map (row_of (read l.columns)) l.rest.items)
    (reverse (map (row_of (read l.columns)) l.sums.items)) ≡ joined_rows g.S.Semiring.arithmetic
    (map (row_of (read l.columns)) l.fn.rows.items)

abbrev pub decreases-loop-row : goal.decreases-loop-row
decreases-loop-row g l = length l.rest.items
