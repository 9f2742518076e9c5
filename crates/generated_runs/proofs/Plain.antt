-- The workload's statement has no nested sums, so that its loops go through itself.
use Rattle.std.specs.Prelude.{◌≡◌, ℕ, List, refl}
use Rattle.numbers.specs.Arithmetic.{Arithmetic}
use Rattle.expr_terms.specs.Nested.{flat}
use Rattle.kernel_correctness.specs.Kernels.{looped}
use Rattle.kernel_correctness.specs.Stores.{Store, told_alone, told_by}
use Rattle.generated_runs.specs.Workloads.{workload_statement}

pub flat_workload : flat workload_statement ≡ workload_statement
unfolding workload_statement
flat_workload = refl

pub looped_workload : (a : Arithmetic) (order : List ℕ) → looped a workload_statement order ≡ workload_statement
unfolding workload_statement
looped_workload a order = refl

pub told_workload : (a : Arithmetic) (store : Store) → told_by a workload_statement store ≡ told_alone a store
unfolding workload_statement
told_workload a store = refl
