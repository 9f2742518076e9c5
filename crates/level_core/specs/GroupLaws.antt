-- Laws of groups of equal coordinates.
use Rattle.std.specs.Prelude.{◌≡◌, ◌≢◌, ℕ, ◌+◌, ◌-◌, ◌≤◌, ◌<◌, List, [], ◌∷◌, length, Some, slice_get}
use Rattle.level_core.specs.Entries.{Entry}

-- each is below n
abbrev pub CoordsBelow : ℕ → List ℕ → Type 0
CoordsBelow n [] = Unit {0}
CoordsBelow n (x ∷ xs) = (x < n) × CoordsBelow n xs

-- a group of the coordinates xs, whose positions begin at p: a run of equal ones that is as long as can be to the right
pub record IsGroup (p : ℕ) (xs : List ℕ) (e : Entry) : Type 0 where
  pub from : p ≤ e.child.lo
  pub some : e.child.lo < e.child.hi
  pub inside : e.child.hi ≤ p + length xs
  pub equal : (q : ℕ) → e.child.lo ≤ q → q < e.child.hi → slice_get xs (q - p) ≡ Some e.coord
  pub whole : e.child.hi < p + length xs → slice_get xs (e.child.hi - p) ≢ Some e.coord
