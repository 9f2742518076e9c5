-- What is known of how a kernel ends within some number of turns holds of how it ends within the most.
use Rattle.std.specs.Prelude.{◌≡◌, ◌⊎◌, ℕ, ◌≤◌, true}
use Rattle.std.proofs.Common.{◌∙◌, sym, subst, arith, inl, inr}
use Rattle.numbers.specs.Arithmetic.{Arithmetic}
use Rattle.kernel_code.specs.declared.syntax.Kernel.{Kernel}
use Rattle.kernel_code.specs.Kernels.{KernelOutcome, NotFinished, go}
use Rattle.kernel_code.proofs.More.{goes_on}
use Rattle.level_core.specs.Meaning.{Arrays}
use Rattle.kernel_correctness.specs.Kernels.{Ends}
use Rattle.kernel_machine.specs.Runs.{most_turns}

one_first : (n m : ℕ) → (n ≤ m) ⊎ (m ≤ n)
one_first n m = grind arith

pub outcome_is : (a : Arithmetic) (order : ℕ) (kernel : Kernel) (given : Arrays) (P : KernelOutcome → Type 0) (o : KernelOutcome)
    → Ends a order kernel given P → (P NotFinished → ⊥) → go a order kernel given most_turns ≡ o → (o ≡ NotFinished → ⊥) → P o
outcome_is a order kernel given P o e none is finished = by (one_first e.turns most_turns)
  where
    by : (e.turns ≤ most_turns) ⊎ (most_turns ≤ e.turns) → P o
    by (inl l) = subst P
        (sym e.is ∙ sym (goes_on true a order kernel given e.turns most_turns l (λ n. none (subst P (sym e.is ∙ n) e.so))) ∙ is) e.so
    by (inr l) = subst P (sym e.is ∙ goes_on true a order kernel given most_turns e.turns l (λ n. finished (sym is ∙ n)) ∙ is) e.so
