use Rattle.std.specs.Prelude.{◌≤◌, [], ◌∷◌, Some}
use Rattle.std.proofs.Common.{sym, subst, arith}
use Rattle.limits.specs.Limits.{greatest_position_count}
use Rattle.limits.proofs.Limits.{workloads_are_ranges}
use Rattle.numbers.specs.Ring.{ring}
use Rattle.operand_packing.specs.Runnable.{IsRunnable}
use Rattle.kernel_correctness.specs.Kernels.{IsRightFor}
use Rattle.kernel_runs.specs.Runs.{MayRefuseRun}
use Rattle.kernel_runs.proofs.Fits.{none_refused}
use Rattle.generated_runs.specs.Workloads.{workload_statement, workload_formats}
use Rattle.generated_runs.proofs.Fits.{refused_for_memory}
use Rattle.generated_runs.proofs.Runnable.{runnable}
use Rattle.generated_runs.proofs.computing.run_on.Goals as goal

pub run_kernel-requires-clause-runnable : goal.run_kernel-requires-clause-runnable
run_kernel-requires-clause-runnable c =
    let given = Some c.args.size ∷ Some c.args.size ∷ [] in
    let operands = c.args.operands.entries.items in
    let small : c.args.size ≤ greatest_position_count =
    (let few = c.requires.small in let ranges = workloads_are_ranges in omega (arith, few, ranges)) in
    subst (λ s. IsRunnable s c.args.formats.now given operands c.args.operands.bounds.items) (sym c.requires.statement)
    (subst (λ formats. IsRunnable workload_statement formats given operands c.args.operands.bounds.items) (sym c.requires.formats)
    (subst (IsRunnable workload_statement workload_formats given operands) (sym c.requires.untold)
    (runnable c.args.size operands small c.requires.matrices)))

pub memory_of-requires : goal.memory_of-requires
memory_of-requires c =
    let given = Some c.args.size ∷ Some c.args.size ∷ [] in
    let operands = c.args.operands.entries.items in
    let kernel = c.args.kernel.now in
    refused_for_memory ring kernel c.args.size operands c.requires.small c.requires.matrices none_refused c.in-Err.fault
    (subst (λ bounds. MayRefuseRun ring workload_statement workload_formats kernel given operands bounds c.in-Err.fault) c.requires.untold
    (subst (λ formats. MayRefuseRun ring workload_statement formats kernel given operands c.args.operands.bounds.items c.in-Err.fault)
    c.requires.formats
    (subst (λ s. MayRefuseRun ring s c.args.formats.now kernel given operands c.args.operands.bounds.items c.in-Err.fault)
    c.requires.statement c.in-Err.ensures.refused)))

pub run_kernel-requires-clause-right : goal.run_kernel-requires-clause-right
run_kernel-requires-clause-right c =
    subst (λ s. IsRightFor ring s c.args.formats.now c.args.kernel.now) (sym c.requires.statement)
    (subst (λ formats. IsRightFor ring workload_statement formats c.args.kernel.now) (sym c.requires.formats) c.requires.right)
