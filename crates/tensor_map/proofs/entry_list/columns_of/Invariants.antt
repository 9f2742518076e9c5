use Rattle.std.proofs.Common.{◌≡◌, take}
use Rattle.tensor_map.proofs.entry_list.columns_of.Given as goal

abbrev pub invariant-loop-i : goal.invariant-loop-i
invariant-loop-i g l = record {
  as_many : l.columns.order ≡ l.order;
  so_far : l.columns.list ≡ take l.i (g.R.Rows.entries l.rows);
}
