use Rattle.kernel_read.proofs.CommentLaws.{comment_step}
use Rattle.kernel_read.proofs.comments.behind_comments.Goals as goal

pub loop-count-preserved : goal.loop-count-preserved
loop-count-preserved c =
    comment_step c.args.text.now c.rest_at.result.now c.loop-count.at c.loop-count.lines c.in-Some.count c.rest_at.ensures
    c.loop-count.invariant c.in-Some.ensures
