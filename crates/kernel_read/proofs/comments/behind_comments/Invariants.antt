use Rattle.std.specs.Prelude.{length, ◌-◌}
use Rattle.kernel_read.proofs.CommentLaws.{CommentsSoFar}
use Rattle.kernel_read.proofs.comments.behind_comments.Given as goal

abbrev pub invariant-loop-count : goal.invariant-loop-count
invariant-loop-count l = CommentsSoFar l.text l.at l.lines

abbrev pub decreases-loop-count : goal.decreases-loop-count
decreases-loop-count l = length l.text - l.at
