-- A workspace as the pairs that were added since it was empty, and the row of their sums. As in Kjolstad and others,
-- 'Tensor Algebra Compilation with Workspaces' (CGO 2019), what is drained is what the pairs add up to, by coordinates.
use Rattle.std.specs.Prelude.{ℕ, List}
use Rattle.numbers.specs.Arithmetic.{Arithmetic}
use Rattle.tensor_map.specs.Entries.{Entry, SameListed, SameValues, StrictlyIncreasing}

-- the number of coordinates of each pair, and the pairs in the order in which they were added
pub record Workspace : Type 0 where
  pub keys : ℕ
  pub pairs : List Entry

-- the row has the coordinates of the pairs and no others, each once and in increasing order, and beside them the sum
-- of the values of all pairs that have them
pub record AreSums (a : Arithmetic) (pairs sums : List Entry) : Type 0 where
  pub listed : SameListed pairs sums
  pub values : SameValues a pairs sums
  pub increasing : StrictlyIncreasing sums
