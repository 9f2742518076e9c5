-- Laws of entries, of any kind of level.
use Rattle.std.specs.Prelude.{◌≡◌, ℕ, List, ◌∷◌}
use Rattle.level_core.specs.Entries.{Entry}

-- the entries begin with one that has this coordinate, and its children begin here
pub record Begins (pos x : ℕ) (es : List Entry) : Type 0 where
  pub entry : Entry
  pub others : List Entry
  pub is : es ≡ entry ∷ others
  pub at : entry.child.lo ≡ pos
  pub coord : entry.coord ≡ x
