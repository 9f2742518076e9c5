use Rattle.std.specs.Prelude.{◌≤◌, List, Err, length}
use Rattle.std.proofs.Common.{sym, subst}
use Rattle.lists.specs.Each.{Each}
use Rattle.numbers.specs.Ring.{ring}
use Rattle.format_spec.specs.declared.format.FormatLevel.{FormatLevel}
use Rattle.index_notation.specs.Statement.{IsNumberedWithSums, IsWellNamed}
use Rattle.index_notation.specs.declared.syntax.Statement.{Statement}
use Rattle.iteration_graph.specs.Edges.{HasFormat}
use Rattle.taco_compiler.specs.Compiled.{Answers, HasCycle, IsCompiled, IsOrder}
use Rattle.generated_runs.specs.Workloads.{workload_statement}
use Rattle.generated_runs.proofs.Cycles.{no_cycle}
use Rattle.kernel_correctness.specs.Kernels.{IsRightFor, looped}
use Rattle.nested_sums.specs.Bound.{HasNoBadSum}
use Rattle.generated_runs.proofs.Facts.{few_formats, left_format, named, no_bad_sum, right_formats, written_numbered}
use Rattle.generated_runs.proofs.Plain.{looped_workload}
use Rattle.generated_runs.proofs.computing.workload_kernel.Goals as goal

pub compile-requires-clause-numbered : goal.compile-requires-clause-numbered
compile-requires-clause-numbered c = subst IsNumberedWithSums (sym c.requires.statement) written_numbered

pub compile-requires-clause-bound : goal.compile-requires-clause-bound
compile-requires-clause-bound c = subst HasNoBadSum (sym c.requires.statement) no_bad_sum

pub compile-requires-clause-few : goal.compile-requires-clause-few
compile-requires-clause-few c =
    subst (λ (s : Statement). length c.args.formats.now ≤ length s.tensors) (sym c.requires.statement)
    (subst (λ (formats : List (List FormatLevel)). length formats ≤ length workload_statement.tensors) (sym c.requires.formats) few_formats)

pub compile-requires-clause-meant : goal.compile-requires-clause-meant
compile-requires-clause-meant c = tt

pub compile-requires-clause-named : goal.compile-requires-clause-named
compile-requires-clause-named c = subst IsWellNamed (sym c.requires.statement) named

pub compile-requires-clause-left : goal.compile-requires-clause-left
compile-requires-clause-left c =
    subst (λ (s : Statement). HasFormat c.args.formats.now s.left) (sym c.requires.statement)
    (subst (λ formats. HasFormat formats workload_statement.left) (sym c.requires.formats) left_format)

pub compile-requires-clause-right : goal.compile-requires-clause-right
compile-requires-clause-right c =
    subst (λ (s : Statement). Each (HasFormat c.args.formats.now) s.accesses) (sym c.requires.statement)
    (subst (λ formats. Each (HasFormat formats) workload_statement.accesses) (sym c.requires.formats) right_formats)

pub returns-in-Ok-clause-order : goal.returns-in-Ok-clause-order
returns-in-Ok-clause-order c =
    subst (λ formats. IsOrder workload_statement formats c.in-Ok.compiled.order) c.requires.formats
    (subst (λ s. IsOrder s c.args.formats.now c.in-Ok.compiled.order) c.requires.statement c.in-Ok.ensures.answers.0)

pub returns-in-Ok-clause-kernel : goal.returns-in-Ok-clause-kernel
returns-in-Ok-clause-kernel c =
    subst (λ formats. IsCompiled ring workload_statement formats c.in-Ok.compiled.order c.in-Ok.compiled.kernel) c.requires.formats
    (subst (λ s. IsCompiled ring s c.args.formats.now c.in-Ok.compiled.order c.in-Ok.compiled.kernel)
    (looped_workload ring c.in-Ok.compiled.order)
    (subst (λ s. IsCompiled ring (looped ring s c.in-Ok.compiled.order) c.args.formats.now c.in-Ok.compiled.order c.in-Ok.compiled.kernel)
    c.requires.statement c.in-Ok.ensures.answers.2))

pub returns-in-Ok-clause-right : goal.returns-in-Ok-clause-right
returns-in-Ok-clause-right c =
    subst (λ formats. IsRightFor ring workload_statement formats c.in-Ok.compiled.kernel) c.requires.formats
    (subst (λ s. IsRightFor ring s c.args.formats.now c.in-Ok.compiled.kernel) c.requires.statement c.in-Ok.ensures.answers.1)

pub unreachable-requires : goal.unreachable-requires
unreachable-requires c =
    let has : HasCycle c.args.statement.now c.args.formats.now c.in-Err-Cycle.field-0-0 =
    subst (λ fault. Answers ring c.args.statement.now c.args.formats.now (Err fault)) c.in-Err-Cycle.field-0-is
    c.in-Err-Cycle.ensures.answers in
    no_cycle c.in-Err-Cycle.field-0-0
    (subst (λ formats. HasCycle workload_statement formats c.in-Err-Cycle.field-0-0) c.requires.formats
    (subst (λ s. HasCycle s c.args.formats.now c.in-Err-Cycle.field-0-0) c.requires.statement has))
