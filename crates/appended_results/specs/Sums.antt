-- The values of a result that heads are appended to: at each position the sum of the rows that have its coordinates.
use Rattle.std.specs.Prelude.{◌≡◌, ℕ, ◌+◌, ◌*◌, ◌<◌, List, [], ◌++◌, length, drop, slice_index, slice_index_or}
use Rattle.numbers.specs.Arithmetic.{Arithmetic}
use Rattle.tensor_map.specs.Entries.{Entry, value_at}
use Rattle.tns_io.specs.Positions.{product, IsBelow, position}
use Rattle.level_core.specs.declared.letter.Letter.{Letter}
use Rattle.appended_results.specs.Heads.{key_in}
use Rattle.appended_results.specs.Places.{place_above}
use Rattle.appended_results.specs.Rows.{all_positions}

abbrev pub head_at : List (List ℕ) → ℕ → List ℕ
head_at heads j = slice_index_or heads j []

-- the position of coordinates below a head
abbrev pub spot_of : List Letter → List ℕ → ℕ → List (List ℕ) → ℕ → List ℕ → ℕ
spot_of letters sizes head heads j xs =
    place_above letters sizes (key_in heads) head j * product (drop head sizes) + position (drop head sizes) xs

-- there is a value for each position: below each head that of the coordinates at the other levels is the sum of the rows there
pub record HoldsSums (a : Arithmetic) (letters : List Letter) (sizes : List ℕ) (head : ℕ) (heads : List (List ℕ)) (rows : List Entry)
    (words : List ℕ) : Type 0 where
  pub many : length words ≡ all_positions letters sizes heads
  pub each : (j : ℕ) (xs : List ℕ) → j < length heads → IsBelow (drop head sizes) xs
      → slice_index words (spot_of letters sizes head heads j xs) ≡ value_at a rows (head_at heads j ++ xs)
