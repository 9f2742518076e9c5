use Rattle.std.specs.Prelude.{[], ◌∷◌, Some}
use Rattle.std.proofs.Common.{subst}
use Rattle.numbers.specs.Ring.{ring}
use Rattle.kernel_runs.specs.Runs.{IsRun}
use Rattle.generated_runs.specs.Workloads.{workload_statement, workload_formats}
use Rattle.generated_runs.proofs.computing.compute.Goals as goal

pub returns : goal.returns
returns c =
    let run = c.in_ok-run.run' in
    let given = Some c.args.size ∷ Some c.args.size ∷ [] in
    record {
      order = c.in_ok-compiled.compiled.order;
      is_order = c.in_ok-compiled.ensures.order;
      kernel = c.in_ok-compiled.compiled.kernel;
      compiled = c.in_ok-compiled.ensures.kernel;
      shape = run.shape;
      tensor = run.tensor;
      run = subst (λ operands. IsRun ring workload_statement workload_formats c.in_ok-compiled.compiled.kernel given operands [] run.shape
          run.entries run.tensor run.turns) c.in_ok-operands.ensures.entries c.in_ok-run.ensures;
    }
