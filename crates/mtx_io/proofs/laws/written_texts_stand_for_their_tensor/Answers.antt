use Rattle.mtx_io.proofs.WrittenLaws.{written_stands}
use Rattle.mtx_io.proofs.laws.written_texts_stand_for_their_tensor.Goals as goal

pub returns : goal.returns
returns c = written_stands
