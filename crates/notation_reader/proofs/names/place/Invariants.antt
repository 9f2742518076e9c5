use Rattle.std.proofs.Common.{◌≡◌, ◌+◌, drop}
use Rattle.index_notation.specs.Numbering.{place_of}
use Rattle.notation_reader.proofs.names.place.Given as goal

abbrev pub invariant-loop-i : goal.invariant-loop-i
invariant-loop-i l = place_of l.names l.name ≡ place_of (drop l.i l.names) l.name + l.i
