-- A workspace whose rows have one coordinate, over a range that isn't large: an array of marks and one of sums, with a word for each
-- coordinate, and beside them the list of the coordinates that have rows. As in Kjolstad and others, 'Tensor Algebra Compilation with
-- Workspaces' (CGO 2019), the sums are dense, and the list tells where some are.
use Rattle.std.specs.Prelude.{◌≡◌, ℕ, ◌<◌, Bool, true, false, nat_eq, List, [], ◌∷◌, length, map, Option, Some, slice_index}
use Rattle.std.specs.List.{list_any}
use Rattle.numbers.specs.Arithmetic.{Arithmetic}
use Rattle.kernel_code.specs.declared.syntax.Arr.{Arr}
use Rattle.kernel_code.specs.declared.syntax.Arr.TheVariants.{Key, Sums}
use Rattle.kernel_code.specs.Meaning.{word_of}
use Rattle.tensor_map.specs.Entries.{Entry, SameListed, value_at}
use Rattle.term_code.specs.WorkspaceSinks.{HoldsRows}

-- whether a coordinate stands in a list
abbrev pub stands : List ℕ → ℕ → Bool
stands xs x = list_any (nat_eq x) xs

-- no coordinate stands twice
abbrev pub AreOnce : List ℕ → Type 0
AreOnce [] = Unit {0}
AreOnce (x ∷ xs) = (stands xs x ≡ false) × AreOnce xs

-- a row of each of these coordinates, with one and the same value
abbrev pub touched_row : ℕ → ℕ → Entry
touched_row value x = record { coords = x ∷ []; value = value }

abbrev pub touched_rows : ℕ → List ℕ → List Entry
touched_rows value xs = map (touched_row value) xs

-- the marks are 1 exactly at the coordinates of the list, which has each once, with the value zero
pub record AreMarked (dense list size zero : ℕ) (touched : List ℕ) (arrays : Arr → Option (List ℕ)) : Type 0 where
  pub marks : List ℕ
  pub held : arrays (Key dense 0) ≡ Some marks
  pub many : length marks ≡ size
  pub each : (x : ℕ) → x < size → slice_index marks x ≡ word_of (stands touched x)
  pub once : AreOnce touched
  pub below : (x : ℕ) → stands touched x ≡ true → x < size
  pub listed : HoldsRows list 1 (touched_rows zero touched) arrays

-- the sums are those of the rows at each coordinate
pub record AreSummed (dense size : ℕ) (a : Arithmetic) (rows : List Entry) (arrays : Arr → Option (List ℕ)) : Type 0 where
  pub sums : List ℕ
  pub held : arrays (Sums dense) ≡ Some sums
  pub many : length sums ≡ size
  pub each : (x : ℕ) → x < size → slice_index sums x ≡ value_at a rows (x ∷ [])

-- the arrays hold these rows: the coordinates of the list are those that rows have
pub record HoldsMarked (dense list size : ℕ) (a : Arithmetic) (rows : List Entry) (arrays : Arr → Option (List ℕ)) : Type 0 where
  pub touched : List ℕ
  pub marked : AreMarked dense list size a.zero touched arrays
  pub summed : AreSummed dense size a rows arrays
  pub same : SameListed rows (touched_rows a.zero touched)
