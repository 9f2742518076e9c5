use Rattle.storage_cases.proofs.Finished.{finished}
use Rattle.storage_cases.proofs.tensors.packed.Goals as goal

pub returns : goal.returns
returns c = finished _ _ _ _ _ c.pack.ensures.packed
