use Rattle.loop_lattices.proofs.PointLaws.{only_full}
use Rattle.loop_lattices.proofs.laws.whole_ranges_are_full.Goals as goal

pub returns : goal.returns
returns c = λ iterates ordered cursor present e walked gathered is. only_full iterates ordered cursor present e walked gathered is
