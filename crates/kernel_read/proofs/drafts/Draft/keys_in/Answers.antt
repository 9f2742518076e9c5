use Rattle.kernel_read.proofs.FrontLines.{many_keys, no_keys}
use Rattle.kernel_read.proofs.drafts.Draft.keys_in.Goals as goal

pub returns-in_err-keys : goal.returns-in_err-keys
returns-in_err-keys c =
    rw c.from_residual.ensures (no_keys c.args.self.now c.args.line.now c.len-number.result c.len-number.ensures c.in_err-keys.ensures)

pub returns-else-keys-le-MOST_KEYS : goal.returns-else-keys-le-MOST_KEYS
returns-else-keys-le-MOST_KEYS c =
    many_keys c.args.self.now c.args.line.now c.len-number.result c.in_ok-keys.keys c.len-number.ensures c.in_ok-keys.ensures
    c.if-keys-le-MOST_KEYS.false
