use Rattle.std.specs.Prelude.{◌∷◌}
use Rattle.kernel_flow.specs.Choices.{is_value}
use Rattle.kernel_flow.specs.Facts.{Gives}
use Rattle.kernel_flow.proofs.choices.under_test.Given as goal

abbrev pub invariant-loop-fact : goal.invariant-loop-fact
invariant-loop-fact l = record {
  first : Gives (is_value l.test 1 ∷ l.yielded) l.out;
  second : Gives (is_value l.test 0 ∷ l.elsewhere) l.out;
}
