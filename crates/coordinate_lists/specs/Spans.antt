-- The entries of some positions of a list of coordinates: what a kind of level promises of them.
use Rattle.std.specs.Prelude.{◌≡◌, ◌≢◌, ℕ, ◌≤◌, ◌<◌, List, length, Some, slice_get}
use Rattle.level_core.specs.declared.span.Span.{Span}
use Rattle.level_core.specs.declared.span.Entry.{Entry}

-- the positions are those of coordinates in the list
pub record Within (coords : List ℕ) (s : Span) : Type 0 where
  pub order : s.lo ≤ s.hi
  pub inside : s.hi ≤ length coords

-- a group among these positions: a run of equal coordinates that is as long as can be to the right
pub record IsGroupIn (coords : List ℕ) (s : Span) (e : Entry) : Type 0 where
  pub from : s.lo ≤ e.child.lo
  pub some : e.child.lo < e.child.hi
  pub inside : e.child.hi ≤ s.hi
  pub equal : (q : ℕ) → e.child.lo ≤ q → q < e.child.hi → slice_get coords q ≡ Some e.coord
  pub whole : e.child.hi < s.hi → slice_get coords e.child.hi ≢ Some e.coord
