use Rattle.std.proofs.Common.{arith}
use Rattle.std.proofs.lemmas.Bool.Decides.{nat_tests}
use Rattle.level_checks.proofs.dense.is_dense.Goals as goal

pub returns : goal.returns
returns c = (
  λ e. record { size = c.requires.small; positions = grind (arith, nat_tests, e) },
  λ h. let within = h.positions in grind (arith, nat_tests, within),
)
