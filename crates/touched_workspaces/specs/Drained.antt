-- A workspace of one key as one that is drained.
use Rattle.std.specs.Prelude.{◌≡◌, ℕ, List, [], ◌∷◌, Some, slice_get}
use Rattle.numbers.specs.Arithmetic.{Arithmetic}
use Rattle.kernel_code.specs.Meaning.{State}
use Rattle.tensor_map.specs.Entries.{Entry}
use Rattle.drained_workspaces.specs.Draining.{Draining}
use Rattle.touched_workspaces.specs.Drains.{IsDraining}
use Rattle.touched_workspaces.specs.Sinks.{TouchedSink}

-- of rows that increase, these were taken and those wait; the one range is that of the key
pub record IsDrained (k : TouchedSink) (a : Arithmetic) (ranges : List ℕ) (taken waiting : List Entry) (s : State) : Type 0 where
  pub size : ℕ
  pub ranges_are : ranges ≡ size ∷ []
  pub draining : IsDraining k a size taken waiting s

-- the list has one key
abbrev pub touched_draining : Draining TouchedSink
touched_draining = record {
  suits = λ k keys. slice_get keys k.list ≡ Some 1;
  draining = λ k a ranges taken waiting s. IsDrained k a ranges taken waiting s;
}
