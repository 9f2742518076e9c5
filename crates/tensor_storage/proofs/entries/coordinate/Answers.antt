use Rattle.std.proofs.Common.{sym, subst}
use Rattle.std.specs.Prelude.{◌≤◌}
use Rattle.tensor_storage.proofs.Arranging.{no_number}
use Rattle.tensor_storage.proofs.entries.coordinate.Goals as goal

pub returns-then-number-len : goal.returns-then-number-len
returns-then-number-len c =
    sym (no_number c.args.format.now c.args.entries.now.list c.args.number c.args.level
    (subst (λ n. n ≤ c.args.number) c.len.ensures.value c.if-number-len.true))
