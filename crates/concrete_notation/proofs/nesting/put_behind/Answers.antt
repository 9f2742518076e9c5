use Rattle.concrete_notation.proofs.Trees.{put_last}
use Rattle.concrete_notation.proofs.nesting.put_behind.Goals as goal

pub returns : goal.returns
returns c =
    put_last c.args.loops.now c.args.term c.args.tree c.in_ok-more.more c.in_ok-all.all c.requires c.in_ok-more.ensures c.in_ok-all.ensures
