-- A workspace of pairs as the place where rows go: each row is a pair of its coordinates and its value, in arrays that grow.
use Rattle.std.specs.Prelude.{List}
use Rattle.lists.specs.Each.{Each}
use Rattle.kernel_code.specs.Keeps.{NoVariable}
use Rattle.kernel_code.specs.Meaning.{State}
use Rattle.kernel_code.specs.declared.syntax.Arr.{Arr}
use Rattle.tensor_map.specs.Entries.{Entry}
use Rattle.result_targets.specs.Sinks.{Sink}
use Rattle.term_code.specs.WorkspaceSinks.{HoldsRows, IsOfWorkspace, PassesPairs}
use Rattle.sparse_results.specs.Tables.{IsRow}
pub use Rattle.pair_workspaces.specs.declared.sink.PairSink.{PairSink}

-- the array is none of the workspace
abbrev pub IsOther : PairSink → Arr → Type 0
IsOther k b = IsOfWorkspace k.number b → ⊥

-- the workspace holds these rows, each with a coordinate for each key and a word as its value
pub record HoldsPairs (k : PairSink) (rows : List Entry) (s : State) : Type 0 where
  pub held : HoldsRows k.number k.keys rows s.arrays
  pub each : Each (IsRow k.keys) rows

abbrev pub pair_sink : Sink PairSink
pair_sink = record {
  mine = λ k. NoVariable;
  kept = λ k. IsOther k;
  keys = λ k. k.keys;
  takes = λ k ranges rows. IsRow k.keys;
  holds = λ k a ranges rows s. HoldsPairs k rows s;
  refused = λ k ranges. PassesPairs k.number;
}
