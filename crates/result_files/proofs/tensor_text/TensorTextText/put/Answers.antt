use Rattle.result_files.proofs.SmallCoordinates.{below_small}
use Rattle.result_files.proofs.tensor_text.TensorTextText.put.Goals as goal

pub put_tns-requires : goal.put_tns-requires
put_tns-requires g c =
    λ k d h. below_small c.args.self.now.shape.now _ c.requires.shape.within (c.requires.below k d h)
