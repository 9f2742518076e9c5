-- Texts without a line feed.
use Rattle.std.specs.Prelude.{◌≢◌, ℕ, List, [], ◌∷◌}

abbrev pub HasNoFeed : List ℕ → Type 0
HasNoFeed [] = Unit {0}
HasNoFeed (byte ∷ text) = (byte ≢ 10) × HasNoFeed text
