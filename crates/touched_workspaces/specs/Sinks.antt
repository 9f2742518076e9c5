-- A workspace of one key as the place where rows go: its rows are kept by marks and sums where the key's range isn't large, else in a list.
use Rattle.std.specs.Prelude.{◌≡◌, ◌⊎◌, ℕ, ◌<◌, ◌≤◌, ◌^◌, List, [], ◌∷◌, length, Some, slice_get, slice_index}
use Rattle.numbers.specs.Arithmetic.{Arithmetic}
use Rattle.lists.specs.Each.{Each}
use Rattle.kernel_code.specs.declared.syntax.Arr.{Arr}
use Rattle.kernel_code.specs.declared.syntax.Arr.TheVariants.{Range}
use Rattle.kernel_code.specs.Keeps.{NoVariable}
use Rattle.kernel_code.specs.Meaning.{State}
use Rattle.tensor_map.specs.Entries.{Entry}
use Rattle.tns_io.specs.Positions.{IsBelow}
use Rattle.result_targets.specs.Sinks.{Sink}
use Rattle.term_code.specs.WorkspaceSinks.{HoldsRows, IsOfWorkspace, PassesPairs}
use Rattle.touched_workspaces.specs.Sizes.{greatest_marked_range}
use Rattle.touched_workspaces.specs.Touched.{HoldsMarked}
pub use Rattle.touched_workspaces.specs.declared.sink.TouchedSink.{TouchedSink}

-- the kernel's ranges give this one for the variable
pub record HasRange (variable size : ℕ) (s : State) : Type 0 where
  pub words : List ℕ
  pub words_are : s.arrays Range ≡ Some words
  pub told : slice_get words variable ≡ Some size

-- the array is one of the two workspaces
abbrev pub IsOfTouched : TouchedSink → Arr → Type 0
IsOfTouched k b = IsOfWorkspace k.dense b ⊎ IsOfWorkspace k.list b

abbrev pub IsOther : TouchedSink → Arr → Type 0
IsOther k b = IsOfTouched k b → ⊥

-- a row has one coordinate, below the range, and a word as its value
pub record IsTouching (ranges : List ℕ) (row : Entry) : Type 0 where
  pub one : length ranges ≡ 1
  pub below : IsBelow ranges row.coords
  pub word : row.value < 2 ^ 64

-- the two workspaces hold these rows: by marks and sums, or in the list, as the range of the key's variable tells
pub record HoldsTouched (k : TouchedSink) (a : Arithmetic) (ranges : List ℕ) (rows : List Entry) (s : State) : Type 0 where
  pub size : ℕ
  pub ranges_are : ranges ≡ size ∷ []
  pub range : HasRange k.variable size s
  pub zero_is : k.zero ≡ a.zero
  pub apart : k.dense ≡ k.list → ⊥
  pub each : Each (IsTouching ranges) rows
  pub marked : size ≤ greatest_marked_range → HoldsMarked k.dense k.list size a rows s.arrays
  pub pushed : greatest_marked_range < size → HoldsRows k.list 1 rows s.arrays

-- a row is refused only above that range, where the list would hold more pairs than it may
pub record PassesList (k : TouchedSink) (ranges : List ℕ) (rows : List Entry) (b : Arr) (count : ℕ) : Type 0 where
  pub large : greatest_marked_range < slice_index ranges 0
  pub passes : PassesPairs k.list rows b count

-- the one range is that of the key
abbrev pub touched_sink : Sink TouchedSink
touched_sink = record {
  mine = λ k. NoVariable;
  kept = λ k. IsOther k;
  keys = λ k. 1;
  takes = λ k ranges rows. IsTouching ranges;
  holds = λ k a ranges rows. HoldsTouched k a ranges rows;
  refused = λ k ranges rows. PassesList k ranges rows;
}
