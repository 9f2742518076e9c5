use Rattle.std.specs.Prelude.{ℕ, IfOk}
use Rattle.std.proofs.Common.{subst}
use Rattle.nested_sums.specs.Multiplied.{KeepsValue}
use Rattle.nested_sums.proofs.multiplying.multiply_out.Goals as goal

pub returns-clause-value : goal.returns-clause-value
returns-clause-value g c =
    subst (λ (one : ℕ). IfOk c.multiplied_by.result (KeepsValue one c.args.statement)) c.one.ensures c.multiplied_by.ensures.value
