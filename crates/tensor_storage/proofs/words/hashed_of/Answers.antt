use Rattle.tensor_storage.proofs.Handed.{width_there}
use Rattle.tensor_storage.proofs.words.hashed_of.Goals as goal

pub get-requires : goal.get-requires
get-requires c = width_there c.args.size c.args.parents c.args.words c.requires.0 c.requires.1
