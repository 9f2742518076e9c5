-- The name of a semiring, as a kernel's text and a command line have it.
use Rattle.std.specs.Prelude.{◌≡◌, ◌≢◌, ℕ, true, List, [], codes, refl}
use Rattle.std.specs.List.{list_all}
use Rattle.std.specs.Char.{is_ascii_lowercase}

-- some small letters, and nothing else
pub record IsName (name : List ℕ) : Type 0 where
  pub some : name ≢ []
  pub letters : list_all is_ascii_lowercase name ≡ true

ring_has_letters : codes "ring" ≢ []
ring_has_letters e = cc

pub ring_is_named : IsName (codes "ring")
ring_is_named = record { some = ring_has_letters; letters = refl }
