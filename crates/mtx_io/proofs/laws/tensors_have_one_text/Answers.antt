use Rattle.mtx_io.proofs.WrittenLaws.{one_text}
use Rattle.mtx_io.proofs.laws.tensors_have_one_text.Goals as goal

pub returns : goal.returns
returns c = one_text
