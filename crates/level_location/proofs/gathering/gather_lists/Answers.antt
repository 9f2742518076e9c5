use Rattle.level_location.proofs.GatherSteps.{all_gathered}
use Rattle.level_location.proofs.gathering.gather_lists.Goals as goal

pub returns : goal.returns
returns c =
    all_gathered c.args.statement.now c.args.formats.now c.args.places.now c.args.gathered.now c.args.seeks.now c.args.list c.args.free
    c.in_ok-made.made c.in_ok-made.ensures
