-- The tensor that a row of entries stands for does not depend on their order.
use Rattle.std.specs.Prelude.{ℕ, suc, List, [], ◌∷◌, Contains}
use Rattle.std.proofs.Common.{arith, inl, inr}
use Rattle.tensor_map.specs.Entries.{Entry, coords_of, Listed}

-- listed coordinates are those of some place
pub place_of : (coords : List ℕ) (entries : List Entry) → Listed entries coords → Contains (coords_of entries) coords
place_of coords [] listed = absurd listed
place_of coords (entry ∷ entries) (inl here) = (0, omega arith, here)
place_of coords (entry ∷ entries) (inr more) = let there = place_of coords entries more in (suc there.0, omega (arith, there.1), there.2)
