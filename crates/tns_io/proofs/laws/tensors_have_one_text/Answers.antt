use Rattle.tns_io.proofs.TextLaws.{one_text}
use Rattle.tns_io.proofs.laws.tensors_have_one_text.Goals as goal

pub returns : goal.returns
returns c = one_text
