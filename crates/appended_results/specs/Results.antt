-- A result that rows are appended to: its heads are those of the rows, and its values their sums.
use Rattle.std.specs.Prelude.{◌≡◌, ℕ, ◌^◌, ◌<◌, List, length, Some}
use Rattle.numbers.specs.Arithmetic.{Arithmetic}
use Rattle.kernel_code.specs.Meaning.{State}
use Rattle.kernel_code.specs.declared.syntax.Arr.{Arr}
use Rattle.kernel_code.specs.declared.syntax.Arr.TheVariants.{Values}
use Rattle.tensor_map.specs.Entries.{Entry}
use Rattle.tns_io.specs.Positions.{IsBelow}
use Rattle.level_core.specs.declared.letter.Letter.{Letter}
use Rattle.appended_results.specs.Heads.{AreHeads, Follows}
use Rattle.appended_results.specs.Levels.{MayHold, PassesPlace}
use Rattle.appended_results.specs.Rows.{HoldsHeads}
use Rattle.appended_results.specs.Sums.{HoldsSums}

-- the rows are appended to the levels and their values added
pub record HoldsRows (a : Arithmetic) (letters : List Letter) (sizes : List ℕ) (head base nothing : ℕ) (rows : List Entry) (s : State)
    : Type 0 where
  pub heads : List (List ℕ)
  pub are : AreHeads head rows heads
  pub may : MayHold letters sizes head heads
  pub holds : HoldsHeads letters sizes head base heads s
  pub words : List ℕ
  pub held : s.arrays (Values 0) ≡ Some words
  pub sums : HoldsSums a letters sizes head heads rows words
  pub zeros : a.zero ≡ nothing

-- a row whose coordinates are below the ranges, whose value is a word, and whose head isn't before that of the last row
pub record MayCome (sizes : List ℕ) (head : ℕ) (rows : List Entry) (row : Entry) : Type 0 where
  pub below : IsBelow sizes row.coords
  pub word : row.value < 2 ^ 64
  pub follows : Follows head rows row

-- a growth that is refused where a result is to hold these rows: to a count that passes the limit and is at most as many positions as they
-- tell for a level
pub record RefusesRows (letters : List Letter) (sizes : List ℕ) (head : ℕ) (rows : List Entry) (a : Arr) (count : ℕ) : Type 0 where
  pub heads : List (List ℕ)
  pub are : AreHeads head rows heads
  pub may : MayHold letters sizes head heads
  pub level : ℕ
  pub inside : level < length letters
  pub passes : PassesPlace letters sizes heads level a count
