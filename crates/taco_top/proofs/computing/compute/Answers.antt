use Rattle.std.proofs.Common.{sym, subst, refl}
use Rattle.kernel_correctness.specs.Kernels.{IsRightFor}
use Rattle.mode_planner.specs.Planned.{Answers}
use Rattle.taco_top.specs.Values.{semiring}
use Rattle.taco_top.specs.Stored.{stored_statement, stored_formats}
use Rattle.taco_top.specs.Run.{request_of}
use Rattle.taco_top.proofs.Reading.{runnable, run_of_request, uncomputed_of_request}
use Rattle.taco_top.proofs.Prepares.{prepared}
use Rattle.taco_top.proofs.Stopped.{stops_uncomputed}
use Rattle.taco_top.proofs.computing.compute.Goals as goal

pub run_stored-requires-clause-runnable : goal.run_stored-requires-clause-runnable
run_stored-requires-clause-runnable g c =
    let over = semiring g.S.Semiring.arithmetic g.S.Semiring.has_minus g.S.Semiring.is_ring g.S.Semiring.is_signed g.S.Semiring.name in
    runnable over (request_of c.args.accepted.asked) c.as_slice.result.now c.as_slice.ensures.value c.as_slice-2.result.now
    c.as_slice-2.ensures.value c.in-Ok.operands.entries.items c.in-Ok.operands.bounds.items c.requires.accepted.0
    (g.F.Folder.state c.args.files.now) (g.F.Folder.state c.operands_of.new.files)
    (c.in-Ok.ensures.read c.requires.accepted.0 c.requires.accepted.1) c.requires.numbered

pub run_stored-requires-clause-right : goal.run_stored-requires-clause-right
run_stored-requires-clause-right g c =
    subst (λ formats. IsRightFor g.S.Semiring.arithmetic (stored_statement c.args.accepted.asked.statement c.args.accepted.plan)
    (stored_formats formats c.args.accepted.plan) c.args.accepted.compiled.kernel)
    (sym c.as_slice.ensures.value) c.requires.kernel.right

pub run_stored-requires-clause-plan : goal.run_stored-requires-clause-plan
run_stored-requires-clause-plan g c =
    subst (λ formats. Answers c.args.accepted.asked.statement formats c.args.accepted.plan) (sym c.as_slice.ensures.value)
    c.requires.plan

pub returns-in-Ok-run_stored-clause-computed : goal.returns-in-Ok-run_stored-clause-computed
returns-in-Ok-run_stored-clause-computed g c = λ words accepted.
    let over = semiring g.S.Semiring.arithmetic g.S.Semiring.has_minus g.S.Semiring.is_ring g.S.Semiring.is_signed g.S.Semiring.name in
    prepared over words (g.F.Folder.state c.args.files.now) (g.F.Folder.state c.operands_of.new.files)
    (request_of c.args.accepted.asked) _ c.in-Ok.operands.entries.items c.in-Ok.operands.bounds.items
    c.args.accepted.plan c.requires.plan c.file_of-file.ensures refl refl (c.in-Ok.ensures.read words accepted) c.requires.kernel
    (run_of_request over (request_of c.args.accepted.asked) c.as_slice.result.now c.as_slice.ensures.value c.as_slice-2.result.now
    c.as_slice-2.ensures.value c.in-Ok.operands.entries.items c.in-Ok.operands.bounds.items c.args.accepted.plan
    c.args.accepted.compiled.kernel
    c.in-Ok-run_stored.result.shape c.in-Ok-run_stored.result.entries c.in-Ok-run_stored.result.tensor
    c.in-Ok-run_stored.result.turns c.in-Ok-run_stored.ensures.run)
    c.in-Ok-run_stored.ensures.entries c.requires.numbered

pub returns-clause-stops : goal.returns-clause-stops
returns-clause-stops g c = λ words accepted.
    let over = semiring g.S.Semiring.arithmetic g.S.Semiring.has_minus g.S.Semiring.is_ring g.S.Semiring.is_signed g.S.Semiring.name in
    stops_uncomputed over words (g.F.Folder.state c.args.files.now) (g.F.Folder.state c.operands_of.new.files)
    (request_of c.args.accepted.asked) c.args.accepted.plan c.requires.plan c.args.accepted.compiled.order
    c.args.accepted.compiled.kernel c.requires.kernel c.in-Ok.operands.entries.items
    c.in-Ok.operands.bounds.items (c.in-Ok.ensures.read words accepted) c.fault_of.result
    (uncomputed_of_request over (request_of c.args.accepted.asked) c.as_slice.result.now c.as_slice.ensures.value c.as_slice-2.result.now
    c.as_slice-2.ensures.value c.in-Ok.operands.entries.items c.in-Ok.operands.bounds.items c.args.accepted.plan
    c.args.accepted.compiled.kernel c.fault_of.result
    (c.fault_of.ensures over c.as_slice.result.now c.args.accepted.compiled.kernel c.as_slice-2.result.now
    c.in-Ok.operands.entries.items c.in-Ok.operands.bounds.items c.in-Err-run_stored.ensures.refused))
