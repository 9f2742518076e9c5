use Rattle.tensor_map.proofs.Neighbours.{Adds}
use Rattle.tensor_map.proofs.sorted_rows.add_neighbours.Given as goal

abbrev pub invariant-loop-next : goal.invariant-loop-next
invariant-loop-next g l = Adds g.S.Semiring.arithmetic (g.R.Rows.entries l.fn.rows) (g.R.Rows.entries l.rows) l.last l.next
