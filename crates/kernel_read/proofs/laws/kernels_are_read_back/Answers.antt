use Rattle.kernel_read.proofs.ReadBack.{kernels_are_read_back}
use Rattle.kernel_read.proofs.laws.kernels_are_read_back.Goals as goal

pub returns : goal.returns
returns c = kernels_are_read_back
