use Rattle.std.proofs.Common.{◌∙◌}
use Rattle.kernel_read.proofs.Forms.{not_short}
use Rattle.kernel_read.proofs.operators.operator_at.Goals as goal

pub returns-in_default : goal.returns-in_default
returns-in_default c = λ op rest same. absurd (not_short c.rest_at.result.now op rest (c.rest_at.ensures ∙ same) c.in_default.len_below)
