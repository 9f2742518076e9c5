-- A workspace of pairs as one that is drained: once its rows are sorted and summed, they stay where they are until all were taken.
use Rattle.std.specs.Prelude.{◌≡◌, List, ◌++◌, Some, slice_get}
use Rattle.lists.specs.Each.{Each}
use Rattle.kernel_code.specs.Meaning.{State}
use Rattle.tensor_map.specs.Entries.{Entry}
use Rattle.term_code.specs.WorkspaceSinks.{HoldsRows}
use Rattle.sparse_results.specs.Tables.{IsRow}
use Rattle.drained_workspaces.specs.Draining.{Draining}
use Rattle.pair_workspaces.specs.Sinks.{PairSink}

-- of the rows that it holds, these were taken and those wait
pub record IsDraining (k : PairSink) (taken waiting : List Entry) (s : State) : Type 0 where
  pub held : HoldsRows k.number k.keys (taken ++ waiting) s.arrays
  pub each : Each (IsRow k.keys) waiting

abbrev pub pair_draining : Draining PairSink
pair_draining = record {
  suits = λ k keys. slice_get keys k.number ≡ Some k.keys;
  draining = λ k a ranges taken waiting s. IsDraining k taken waiting s;
}
