use Rattle.std.proofs.Common.{◌≡◌}
use Rattle.tensor_map.specs.Entries.{is_nonzero}
use Rattle.tensor_map.proofs.Kept.{Keeps}
use Rattle.tensor_map.proofs.entry_list.keep_nonzero.Given as goal

abbrev pub invariant-loop-next : goal.invariant-loop-next
invariant-loop-next g l = record {
  as_many : l.columns.order ≡ l.fn.columns.order;
  keeps : Keeps (is_nonzero g.S.Semiring.arithmetic) l.fn.columns.list l.columns.list l.kept l.next;
}
