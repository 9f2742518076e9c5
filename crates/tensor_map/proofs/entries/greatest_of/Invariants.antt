use Rattle.std.proofs.Common.{◌≡◌, ℕ, get_or, take}
use Rattle.tensor_map.specs.Entries.{greatest_in}
use Rattle.tensor_map.proofs.entries.greatest_of.Given as goal

abbrev pub invariant-loop-i : goal.invariant-loop-i
invariant-loop-i l = (mode : ℕ) → get_or l.greatest mode 0 ≡ greatest_in (take l.i l.entries.list) mode
