-- What is left or refused by the ranges is what a planned run leaves or is refused with.
use Rattle.std.specs.Prelude.{◌≡◌, ℕ, List, Option, Ok, Vec, slice_index}
use Rattle.std.specs.declared.alloc.Global.{Global}
use Rattle.numbers.specs.Arithmetic.{Arithmetic}
use Rattle.tensor_map.specs.Entries.{Entries}
use Rattle.kernel_code.specs.declared.syntax.Kernel.{Kernel}
use Rattle.kernel_code.specs.declared.syntax.Turns.{Turns}
use Rattle.index_notation.specs.declared.syntax.Statement.{Statement}
use Rattle.expr_terms.specs.declared.bound.Bound.{Bound}
use Rattle.mode_planner.specs.declared.planned.Planned.{Planned}
use Rattle.tensor_storage.specs.Storages.{Storage}
use Rattle.operand_packing.specs.Drawn.{drawn}
use Rattle.operand_packing.specs.Runnable.{told_ranges}
use Rattle.kernel_runs.specs.declared.fault.RunFault.{RunFault}
use Rattle.kernel_runs.specs.declared.fault.RunFault.TheVariants.{Range, SizeLimit, Workspace, Memory}
use Rattle.kernel_runs.specs.Planned.{IsPlannedRun, IsPlannedRunnable, MayRefusePlanned}
use Rattle.kernel_runs.proofs.PlannedOperands.{planned_tensor}
use Rattle.kernel_runs.proofs.Whole.{IsRunBy, RefusedBy}

module _ (a : Arithmetic) (s : Statement) (plan : Planned) (given : List (Option ℕ)) (operands : List Entries)
    (bounds : List (Vec Bound Global)) (ranges : List ℕ) (told : told_ranges s given bounds ≡ Ok ranges) where
  pub planned_refusal : (kernel : Kernel) (fault : RunFault)
      → RefusedBy a plan.statement plan.formats kernel ranges (drawn plan.origins operands) fault
      → MayRefusePlanned a s plan kernel given operands bounds fault
  planned_refusal kernel (Range fault) why = absurd why
  planned_refusal kernel (SizeLimit large) why = record { ranges = ranges; ranges_are = told; by = why }
  planned_refusal kernel (Workspace count) why = record {
    ranges = ranges;
    ranges_are = told;
    store = why.store;
    is_store = why.is_store;
    passes = why.passes;
    most = why.most;
    sparse = why.sparse;
    stops = why.stops;
  }
  planned_refusal kernel (Memory error) why = tt

  pub planned_run : (kernel : Kernel) → IsPlannedRunnable s plan given operands bounds → (shape : List ℕ) (entries : Entries)
      (tensor : Storage) (turns : Turns)
      → IsRunBy a plan.statement plan.formats kernel ranges (drawn plan.origins operands) shape entries tensor turns
      → IsPlannedRun a s plan kernel given operands bounds shape entries tensor turns
  planned_run kernel runnable shape entries tensor turns run = record {
    ranges = ranges;
    ranges_are = told;
    store = run.store;
    is_store = run.is_store;
    runs = run.runs;
    lists = run.lists;
    tensor_of = planned_tensor s runnable.formats plan runnable.planned operands runnable.runnable.operands_are a (slice_index ranges) shape
        entries run.tensor_of;
  }
