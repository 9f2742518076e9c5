use Rattle.std.proofs.Common.{◌≡◌, ◌∙◌, List, ℕ, ap, rules, sym}
use Rattle.std.proofs.lemmas.List.{length-map}
use Rattle.bindings.specs.Tables.{paths_in}
use Rattle.operand_files.specs.declared.fault.OperandFault.TheVariants as operand
use Rattle.taco_top.specs.Exec.{exec_request}
use Rattle.taco_top.specs.Values.{semiring}
use Rattle.outside.specs.Folder.{FolderState}
use Rattle.refusals.specs.declared.fault.Fault.TheVariants as fault
use Rattle.taco_top.specs.Exec.{AsksExec}
use Rattle.taco_top.specs.Executed.{HasKernel, StopsExec}
use Rattle.taco_top.proofs.Executes.{exec_readable, has_input, no_operands, wants_behind_kernel}
use Rattle.taco_top.proofs.executing.read_inputs.Goals as goal

pub read_operands-requires : goal.read_operands-requires
read_operands-requires g c =
    exec_readable c.requires.asked.0 (exec_request c.args.execution.now) c.requires.asked.1
    c.as_slice.result.now (paths_in c.as_slice-2.result.now)
    (c.as_slice.ensures.value ∙ c.in_ok-orders.ensures)
    (ap paths_in c.as_slice-2.ensures.value ∙ c.in_ok-sources.ensures) c.requires.numbered

pub returns-in-Ok-clause-read : goal.returns-in-Ok-clause-read
returns-in-Ok-clause-read g c = λ words before asks has_kernel.
    let over = semiring g.S.Semiring.arithmetic g.S.Semiring.has_minus g.S.Semiring.is_ring g.S.Semiring.is_signed g.S.Semiring.name in
    has_input words before (g.F.Folder.state c.args.files.now) (g.F.Folder.state c.read_operands.new.files)
    (exec_request c.args.execution.now) asks c.args.kernel.now has_kernel over c.requires.over
    c.as_slice.result.now (paths_in c.as_slice-2.result.now)
    (c.as_slice.ensures.value ∙ c.in_ok-orders.ensures)
    (ap paths_in c.as_slice-2.ensures.value ∙ c.in_ok-sources.ensures) _ c.in-Ok.operands.entries.items c.in-Ok.operands.bounds.items
    (sym (length-map c.as_slice-2.result.now (λ source. source.path.now))) c.in-Ok.ensures.operands

pub returns-in-Err-ReadFault-clause-stops : goal.returns-in-Err-ReadFault-clause-stops
returns-in-Err-ReadFault-clause-stops g c = λ words before asks has_kernel.
    let over = semiring g.S.Semiring.arithmetic g.S.Semiring.has_minus g.S.Semiring.is_ring g.S.Semiring.is_signed g.S.Semiring.name in
    let told = c.in-Err-ReadFault.field-0-is in
    let same : c.in-Err-ReadFault.field-0 ≡ (operand.ReadFault c.in-Err-ReadFault.path) = cc in
    no_operands words before (g.F.Folder.state c.args.files.now) (g.F.Folder.state c.read_operands.new.files)
    (exec_request c.args.execution.now) asks c.args.kernel.now has_kernel over c.requires.over
    c.as_slice.result.now (paths_in c.as_slice-2.result.now)
    (c.as_slice.ensures.value ∙ c.in_ok-orders.ensures)
    (ap paths_in c.as_slice-2.ensures.value ∙ c.in_ok-sources.ensures)
    c.in-Err-ReadFault.field-0 (operand.ReadFault c.in-Err-ReadFault.path) same c.in-Err-ReadFault.ensures.refused

pub returns-in-Err-FileBytes-clause-stops : goal.returns-in-Err-FileBytes-clause-stops
returns-in-Err-FileBytes-clause-stops g c = λ words before asks has_kernel.
    let over = semiring g.S.Semiring.arithmetic g.S.Semiring.has_minus g.S.Semiring.is_ring g.S.Semiring.is_signed g.S.Semiring.name in
    let told = c.in-Err-FileBytes.field-0-is in
    let same : c.in-Err-FileBytes.field-0 ≡ (operand.FileBytes c.in-Err-FileBytes.path) = cc in
    no_operands words before (g.F.Folder.state c.args.files.now) (g.F.Folder.state c.read_operands.new.files)
    (exec_request c.args.execution.now) asks c.args.kernel.now has_kernel over c.requires.over
    c.as_slice.result.now (paths_in c.as_slice-2.result.now)
    (c.as_slice.ensures.value ∙ c.in_ok-orders.ensures)
    (ap paths_in c.as_slice-2.ensures.value ∙ c.in_ok-sources.ensures)
    c.in-Err-FileBytes.field-0 (operand.FileBytes c.in-Err-FileBytes.path) same c.in-Err-FileBytes.ensures.refused

pub returns-in-Err-BadFile-clause-stops : goal.returns-in-Err-BadFile-clause-stops
returns-in-Err-BadFile-clause-stops g c = λ words before asks has_kernel.
    let over = semiring g.S.Semiring.arithmetic g.S.Semiring.has_minus g.S.Semiring.is_ring g.S.Semiring.is_signed g.S.Semiring.name in
    let told = c.in-Err-BadFile.field-0-is in
    let same : c.in-Err-BadFile.field-0 ≡ (operand.BadFile c.in-Err-BadFile.path c.in-Err-BadFile.line c.in-Err-BadFile.kind) = cc in
    no_operands words before (g.F.Folder.state c.args.files.now) (g.F.Folder.state c.read_operands.new.files)
    (exec_request c.args.execution.now) asks c.args.kernel.now has_kernel over c.requires.over
    c.as_slice.result.now (paths_in c.as_slice-2.result.now)
    (c.as_slice.ensures.value ∙ c.in_ok-orders.ensures)
    (ap paths_in c.as_slice-2.ensures.value ∙ c.in_ok-sources.ensures)
    c.in-Err-BadFile.field-0 (operand.BadFile c.in-Err-BadFile.path c.in-Err-BadFile.line c.in-Err-BadFile.kind) same
    c.in-Err-BadFile.ensures.refused

pub returns-clause-stops : goal.returns-clause-stops
returns-clause-stops g c = λ words before asks has_kernel.
    let over = semiring g.S.Semiring.arithmetic g.S.Semiring.has_minus g.S.Semiring.is_ring g.S.Semiring.is_signed g.S.Semiring.name in
    let told = c.in-Err-Memory.field-0-is in
    let same : c.in-Err-Memory.field-0 ≡ operand.Memory = cc in
    no_operands words before (g.F.Folder.state c.args.files.now) (g.F.Folder.state c.read_operands.new.files)
    (exec_request c.args.execution.now) asks c.args.kernel.now has_kernel over c.requires.over
    c.as_slice.result.now (paths_in c.as_slice-2.result.now)
    (c.as_slice.ensures.value ∙ c.in_ok-orders.ensures)
    (ap paths_in c.as_slice-2.ensures.value ∙ c.in_ok-sources.ensures)
    c.in-Err-Memory.field-0 operand.Memory same c.in-Err-Memory.ensures.refused

pub returns-in_err-orders-clause-stops : goal.returns-in_err-orders-clause-stops
returns-in_err-orders-clause-stops g c =
    let h : (words : List (List ℕ)) (before : FolderState) → AsksExec words (exec_request c.args.execution.now)
    → HasKernel c.args.execution.now.path.now before (g.F.Folder.state c.args.files.now) c.args.kernel.now
    → StopsExec words before (g.F.Folder.state c.args.files.now) fault.Memory =
    λ words before asks has_kernel. wants_behind_kernel words before (g.F.Folder.state c.args.files.now)
    (exec_request c.args.execution.now) asks c.args.kernel.now has_kernel in
    search (rules, h)

pub returns-in_err-sources-clause-stops : goal.returns-in_err-sources-clause-stops
returns-in_err-sources-clause-stops g c =
    let h : (words : List (List ℕ)) (before : FolderState) → AsksExec words (exec_request c.args.execution.now)
    → HasKernel c.args.execution.now.path.now before (g.F.Folder.state c.args.files.now) c.args.kernel.now
    → StopsExec words before (g.F.Folder.state c.args.files.now) fault.Memory =
    λ words before asks has_kernel. wants_behind_kernel words before (g.F.Folder.state c.args.files.now)
    (exec_request c.args.execution.now) asks c.args.kernel.now has_kernel in
    search (rules, h)
