use Rattle.std.proofs.Common.{subst, sym}
use Rattle.taco_top.specs.Exec.{exec_request}
use Rattle.taco_top.specs.Executed.{StopsExec}
use Rattle.taco_top.specs.Values.{semiring}
use Rattle.taco_top.proofs.Executes.{handed_runnable, no_run, runs_ready}
use Rattle.taco_top.proofs.executing.run_kernel.Goals as goal

pub run_given-requires : goal.run_given-requires
run_given-requires g c = record {
  runnable =
      (let over = semiring g.S.Semiring.arithmetic g.S.Semiring.has_minus g.S.Semiring.is_ring g.S.Semiring.is_signed g.S.Semiring.name in
      let words = c.requires.asked.0 in
      let before = c.requires.read.0 in
      let input = c.in-Ok.ensures.read words before c.requires.asked.1 c.requires.read.1 in
      handed_runnable words before (g.F.Folder.state c.read_inputs.new.files) (exec_request c.args.execution) c.args.kernel.now
      c.in-Ok.operands.entries.items c.in-Ok.operands.bounds.items input over c.requires.over c.as_slice.result.now
      c.as_slice.ensures.value c.as_slice-2.result.now c.as_slice-2.ensures.value c.requires.numbered);
}

pub returns-in-Ok-run_given-clause-ready : goal.returns-in-Ok-run_given-clause-ready
returns-in-Ok-run_given-clause-ready g c = λ words before asks has_kernel.
    let over = semiring g.S.Semiring.arithmetic g.S.Semiring.has_minus g.S.Semiring.is_ring g.S.Semiring.is_signed g.S.Semiring.name in
    let r = exec_request c.args.execution in
    let input = c.in-Ok.ensures.read words before asks has_kernel in
    runs_ready words before (g.F.Folder.state c.read_inputs.new.files) r c.args.kernel.now c.in-Ok.operands.entries.items
    c.in-Ok.operands.bounds.items input over c.requires.over c.as_slice.result.now c.as_slice.ensures.value c.as_slice-2.result.now
    c.as_slice-2.ensures.value _ c.file_of-file.ensures c.requires.numbered c.in-Ok-run_given.ensures.run c.in-Ok-run_given.ensures.entries

pub returns-clause-stops : goal.returns-clause-stops
returns-clause-stops g c = λ words before asks has_kernel.
    let over = semiring g.S.Semiring.arithmetic g.S.Semiring.has_minus g.S.Semiring.is_ring g.S.Semiring.is_signed g.S.Semiring.name in
    let r = exec_request c.args.execution in
    let input = c.in-Ok.ensures.read words before asks has_kernel in
    let new = g.F.Folder.state c.read_inputs.new.files in
    subst (StopsExec words before new) (sym c.fault_of.ensures)
    (no_run words before new r c.args.kernel.now c.in-Ok.operands.entries.items c.in-Ok.operands.bounds.items input over c.requires.over
    c.as_slice.result.now c.as_slice.ensures.value c.as_slice-2.result.now c.as_slice-2.ensures.value c.in-Err-run_given.why
    c.in-Err-run_given.ensures.refused)
