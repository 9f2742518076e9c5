use Rattle.std.proofs.Common.{◌≡◌, take, map}
use Rattle.index_notation.specs.Numbering.{place_of}
use Rattle.notation_reader.proofs.numbering.number_access.Given as goal

abbrev pub invariant-loop-var : goal.invariant-loop-var
invariant-loop-var l = l.numbers ≡ map (place_of l.vars) (take l.var-index l.access.vars)
