-- A workspace as the place where rows go.
use Rattle.std.specs.Prelude.{◌≡◌, ℕ, ◌+◌, ◌≤◌, ◌<◌, List, [], ◌∷◌, length, map, Option, Some, slice_index}
use Rattle.limits.specs.Limits.{greatest_workspace_pairs}
use Rattle.kernel_code.specs.declared.syntax.Arr.{Arr}
use Rattle.kernel_code.specs.declared.syntax.Arr.TheVariants.{Range, Values, Dimension, Ends, Coordinates, Width, Key, Sums}
use Rattle.kernel_code.specs.declared.syntax.Arr.TheVariants.{ListCoordinates, ListPositions}
use Rattle.kernel_code.specs.declared.syntax.KExpr.{Var}
use Rattle.kernel_code.specs.declared.syntax.KStmt.{KStmt, Push}
use Rattle.kernel_code.specs.Keeps.{NoVariable}
use Rattle.tensor_map.specs.Entries.{Entry}
use Rattle.result_targets.specs.Sinks.{Sink}
pub use Rattle.term_code.specs.declared.workspace_sink.WorkspaceSink.{WorkspaceSink}

-- the coordinates of rows in one mode, and their values
abbrev pub column : ℕ → List Entry → List ℕ
column k rows = map (λ (e : Entry). slice_index e.coords k) rows

abbrev pub values : List Entry → List ℕ
values rows = map (λ (e : Entry). e.value) rows

-- the array is one of workspace w
abbrev pub IsOfWorkspace : ℕ → Arr → Type 0
IsOfWorkspace w Range = ⊥
IsOfWorkspace w (Values n) = ⊥
IsOfWorkspace w (Dimension n k) = ⊥
IsOfWorkspace w (Ends n k) = ⊥
IsOfWorkspace w (Coordinates n k) = ⊥
IsOfWorkspace w (Width n k) = ⊥
IsOfWorkspace w (Key n k) = n ≡ w
IsOfWorkspace w (Sums n) = n ≡ w
IsOfWorkspace w (ListCoordinates n) = ⊥
IsOfWorkspace w (ListPositions n) = ⊥

-- the arrays of a workspace hold rows of so many keys, no more than may be
pub record HoldsRows (w keys : ℕ) (rows : List Entry) (arrays : Arr → Option (List ℕ)) : Type 0 where
  pub key : (k : ℕ) → k < keys → arrays (Key w k) ≡ Some (column k rows)
  pub sums : arrays (Sums w) ≡ Some (values rows)
  pub few : length rows ≤ greatest_workspace_pairs

-- a workspace is refused a row where it would hold more than may be, and no more than so many rows
pub record PassesPairs (w : ℕ) (rows : List Entry) (a : Arr) (count : ℕ) : Type 0 where
  pub array : IsOfWorkspace w a
  pub above : greatest_workspace_pairs < count
  pub within : count ≤ length rows

-- rows are given with a coordinate for each key
abbrev pub workspace_sink : Sink WorkspaceSink
workspace_sink = record {
  mine = λ k. NoVariable;
  kept = λ k a. IsOfWorkspace k.number a → ⊥;
  keys = λ k. k.keys;
  takes = λ k ranges rows row. length row.coords ≡ k.keys;
  holds = λ k a ranges rows s. HoldsRows k.number k.keys rows s.arrays;
  refused = λ k ranges. PassesPairs k.number;
}

-- a row pushed, its coordinates on the keys from the one numbered k on, then its value
abbrev pub push_code : ℕ → ℕ → List ℕ → ℕ → List KStmt
push_code w k [] v = Push (Sums w) (Var v) ∷ []
push_code w k (y ∷ ys) v = Push (Key w k) (Var y) ∷ push_code w (k + 1) ys v
