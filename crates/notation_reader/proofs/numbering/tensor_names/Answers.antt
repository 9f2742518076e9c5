use Rattle.std.proofs.Common.{map}
use Rattle.index_notation.specs.Numbering.{name_of}
use Rattle.notation_reader.proofs.Adding.{tensors_end}
use Rattle.notation_reader.proofs.numbering.tensor_names.Goals as goal

pub returns : goal.returns
returns c = tensors_end
    (map name_of c.args.accesses.now) c.loop-access.names c.args.accesses.now c.loop-access.access-index c.loop-access.invariant
    c.loop-access-test.false
