-- How far the entries below a parent are gone over, from position to position.
use Rattle.std.specs.Prelude.{◌≡◌, ℕ, ◌≤◌, ◌<◌, List, [], ◌∷◌, ◌++◌}
use Rattle.level_core.specs.declared.span.Span.{Span}
use Rattle.level_core.specs.declared.span.Entry.{Entry}
use Rattle.level_core.specs.Entries.{Placed, StandsAt}

-- up to a position of the segment the entries are done, and the others stand from there to its end
pub record Walking (segment : Span) (pos : ℕ) (done all : List Entry) : Type 0 where
  pub rest : List Entry
  pub parts : all ≡ done ++ rest
  pub behind : Placed segment.lo pos done
  pub ahead : Placed pos segment.hi rest

-- the entry is the first of those that aren't done
pub record IsNext (segment : Span) (from : ℕ) (done all : List Entry) (e : Entry) : Type 0 where
  pub stands : StandsAt e.child.lo e all
  pub further : from < e.child.hi
  pub within : e.child.hi ≤ segment.hi
  pub walks : Walking segment e.child.hi (done ++ e ∷ []) all
