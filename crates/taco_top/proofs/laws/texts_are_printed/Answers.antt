use Rattle.taco_top.proofs.TextLaws.{kernel_ends, plan_ends, workload_ends}
use Rattle.taco_top.proofs.laws.texts_are_printed.Goals as goal

pub returns-clause-kernels : goal.returns-clause-kernels
returns-clause-kernels c = kernel_ends

pub returns-clause-workloads : goal.returns-clause-workloads
returns-clause-workloads c = workload_ends

pub returns-clause-plans : goal.returns-clause-plans
returns-clause-plans c = plan_ends
