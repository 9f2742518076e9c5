use Rattle.std.proofs.Common.{arith}
use Rattle.generated_runs.proofs.Matrices.{matrix_of, cost_fits}
use Rattle.generated_runs.proofs.Turns.{turns_few}
use Rattle.generated_runs.proofs.telling.run_workload.Goals as goal

pub compute-requires-clause-matrices : goal.compute-requires-clause-matrices
compute-requires-clause-matrices c = (
  matrix_of c.args.size _ c.in_ok-first.first c.in_ok-first.ensures.0 c.len-first_count.ensures.entries,
  matrix_of c.args.size _ c.in_ok-first.second c.in_ok-first.ensures.1 c.len-second_count.ensures.entries,
  matrix_of c.args.size _ c.in_ok-first.third c.in_ok-first.ensures.2 c.len-third_count.ensures.entries,
)

pub overflow_add-result : goal.overflow_add-result
overflow_add-result c =
    let first = c.in_ok-first.ensures.0.few in
    let second = c.in_ok-first.ensures.1.few in
    let third = c.in_ok-first.ensures.2.few in
    let fits = cost_fits c.args.size _ _ _ c.requires first second third in
    omega (arith, fits)

pub overflow_add-result-2 : goal.overflow_add-result-2
overflow_add-result-2 c =
    let first = c.in_ok-first.ensures.0.few in
    let second = c.in_ok-first.ensures.1.few in
    let third = c.in_ok-first.ensures.2.few in
    let fits = cost_fits c.args.size _ _ _ c.requires first second third in
    omega (arith, fits)

pub overflow_add-result-3 : goal.overflow_add-result-3
overflow_add-result-3 c =
    let first = c.in_ok-first.ensures.0.few in
    let second = c.in_ok-first.ensures.1.few in
    let third = c.in_ok-first.ensures.2.few in
    let fits = cost_fits c.args.size _ _ _ c.requires first second third in
    omega (arith, fits)

pub returns-clause-few : goal.returns-clause-few
returns-clause-few c =
    let few = turns_few c.args.size c.in_ok-first.first c.in_ok-first.second c.in_ok-first.third _ _ c.in_ok-run.ensures in
    omega (arith, few)
