use Rattle.kernel_read.proofs.CommentLaws.{comment_found}
use Rattle.kernel_read.proofs.comments.comment.Goals as goal

pub returns : goal.returns
returns c = comment_found c.args.text.now c.in_ok-behind.field-0 c.first_line.result c.in_ok-behind.ensures c.first_line.ensures
