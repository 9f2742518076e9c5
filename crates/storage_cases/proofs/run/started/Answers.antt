use Rattle.std.proofs.Common.{◌∙◌, ap}
use Rattle.kernel_code.specs.Kernels.{all_turns}
use Rattle.kernel_code.specs.Meaning.{State}
use Rattle.storage_cases.proofs.run.started.Goals as goal

pub loop-number-init : goal.loop-number-init
loop-number-init c = ap all_turns (λ i k. c.new-machine.ensures.turns k i)

pub loop-number-preserved : goal.loop-number-preserved
loop-number-preserved c = ap (λ (s : State). all_turns s.turns) c.in_ok-add_array.ensures ∙ c.loop-number.invariant

pub returns-clause-made : goal.returns-clause-made
returns-clause-made c = ap (λ (s : State). all_turns s.turns) c.in_ok-make_room.ensures.state ∙ c.loop-number.invariant
