use Rattle.std.proofs.Common.{◌≡◌, drop, map, []}
use Rattle.index_notation.specs.Numbering.{name_of}
use Rattle.notation_reader.specs.Added.{with_names}
use Rattle.notation_reader.proofs.numbering.tensor_names.Given as goal

abbrev pub invariant-loop-access : goal.invariant-loop-access
invariant-loop-access l = with_names [] (map name_of l.accesses) ≡ with_names l.names (map name_of (drop l.access-index l.accesses))
