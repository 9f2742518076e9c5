-- The values of a dense result as the place where rows go.
use Rattle.std.specs.Prelude.{◌≡◌, ℕ, ◌+◌, ◌^◌, ◌≤◌, ◌<◌, true, false, List}
use Rattle.std.specs.Prelude.{[], ◌∷◌, length, map, Option, Some, All, slice_index}
use Rattle.limits.specs.Limits.{greatest_position_count}
use Rattle.numbers.specs.Arithmetic.{Arithmetic}
use Rattle.kernel_code.specs.declared.syntax.Arr.{Arr}
use Rattle.kernel_code.specs.declared.syntax.Arr.TheVariants.{Values, Dimension}
use Rattle.kernel_code.specs.declared.syntax.Op.TheVariants.{Add, Mul}
use Rattle.kernel_code.specs.declared.syntax.KExpr.{KExpr, Num, Var, At, Bin}
use Rattle.kernel_code.specs.Arrays.{same_arr}
use Rattle.kernel_code.specs.Keeps.{NoVariable}
use Rattle.tensor_map.specs.Entries.{Entry, value_at}
use Rattle.tns_io.specs.Positions.{product, IsBelow, position}
use Rattle.expr_terms.specs.Terms.{contains}
use Rattle.result_targets.specs.Sinks.{Sink}
pub use Rattle.term_code.specs.declared.dense_sink.DenseSink.{DenseSink}

-- numbers of the modes, as ranges or coordinates, in the order of the levels
abbrev pub by_level : List ℕ → List ℕ → List ℕ
by_level modes numbers = map (slice_index numbers) modes

-- the position of coordinates among the values, where the levels store these modes
abbrev pub place : List ℕ → List ℕ → List ℕ → ℕ
place modes ranges coords = position (by_level modes ranges) (by_level modes coords)

-- the levels from this one on have these sizes
abbrev pub HasSizes : ℕ → List ℕ → (Arr → Option (List ℕ)) → Type 0
HasSizes level [] arrays = Unit {0}
HasSizes level (n ∷ ns) arrays = (arrays (Dimension 0 level) ≡ Some (n ∷ [])) × HasSizes (level + 1) ns arrays

-- a value is held at each position: at that of coordinates the sum of the values of the rows there, zero where there are none
pub record HoldsSums (modes : List ℕ) (a : Arithmetic) (ranges : List ℕ) (rows : List Entry) (arrays : Arr → Option (List ℕ)) : Type 0 where
  pub sizes : HasSizes 1 (by_level modes ranges) arrays
  pub words : List ℕ
  pub held : arrays (Values 0) ≡ Some words
  pub long : length words ≡ product (by_level modes ranges)
  pub few : length words ≤ greatest_position_count
  pub each : (coords : List ℕ) → IsBelow ranges coords → slice_index words (place modes ranges coords) ≡ value_at a rows coords

-- each level stores a mode, and each mode is stored
pub record AreModes (modes : List ℕ) : Type 0 where
  pub below : All (λ m. m < length modes) modes
  pub each : (m : ℕ) → m < length modes → contains modes m ≡ true

-- a row whose coordinates are within the ranges of the modes, and whose value is a word
pub record IsWithin (modes ranges : List ℕ) (row : Entry) : Type 0 where
  pub stored : AreModes modes
  pub many : length ranges ≡ length modes
  pub below : IsBelow ranges row.coords
  pub word : row.value < 2 ^ 64

abbrev pub dense_sink : Sink DenseSink
dense_sink = record {
  mine = λ k. NoVariable;
  kept = λ k b. same_arr (Values 0) b ≡ false;
  keys = λ k. length k.modes;
  takes = λ k ranges rows. IsWithin k.modes ranges;
  holds = λ k a ranges rows s. HoldsSums k.modes a ranges rows s.arrays;
  refused = λ k ranges rows b count. ⊥;
}

-- the position of the coordinates in these variables below a position of the level above, from this level on
abbrev pub position_below : ℕ → KExpr → List ℕ → KExpr
position_below level above [] = above
position_below level above (y ∷ ys) = position_below (level + 1) (Bin Add (Bin Mul above (At (Dimension 0 level) (Num 0))) (Var y)) ys

abbrev pub position_code : List ℕ → KExpr
position_code [] = Num 0
position_code (y ∷ ys) = position_below 2 (Var y) ys
