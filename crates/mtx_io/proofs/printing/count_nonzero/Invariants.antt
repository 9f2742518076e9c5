use Rattle.std.proofs.Common.{◌≡◌, ◌≤◌, length, take}
use Rattle.std.specs.Prelude.{filter}
use Rattle.tensor_map.specs.Entries.{is_nonzero}
use Rattle.mtx_io.proofs.printing.count_nonzero.Given as goal

abbrev pub invariant-loop-i : goal.invariant-loop-i
invariant-loop-i g l = record {
  counted : l.count ≡ length (filter (is_nonzero g.S.Semiring.arithmetic) (take l.i l.entries.list));
  within : l.count ≤ l.i;
}
