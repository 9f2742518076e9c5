use Rattle.std.proofs.Common.{◌≡◌, ◌+◌, drop}
use Rattle.index_notation.specs.Numbering.{place_of}
use Rattle.bindings.proofs.names.place.Given as goal

abbrev pub invariant-loop-i : goal.invariant-loop-i
invariant-loop-i l = place_of l.names (record { bytes = l.name }) ≡ place_of (drop l.i l.names) (record { bytes = l.name }) + l.i
