use Rattle.std.proofs.Common.{◌≡◌, refl}
use Rattle.operand_files.specs.declared.kernel_file.KernelFileFault.TheVariants as file
use Rattle.taco_top.specs.Exec.{exec_request}
use Rattle.taco_top.proofs.Executes.{no_kernel}
use Rattle.taco_top.proofs.executing.read_kernel.Goals as goal

pub returns-in-Err-ReadFault-clause-stops : goal.returns-in-Err-ReadFault-clause-stops
returns-in-Err-ReadFault-clause-stops g c = λ words asks.
    let told = c.in-Err-ReadFault.field-0-is in
    let same : c.in-Err-ReadFault.field-0 ≡ file.ReadFault = cc in
    no_kernel words (g.F.Folder.state c.args.files.now) (g.F.Folder.state c.read_kernel_file.new.files)
    (exec_request c.args.execution.now) asks c.args.execution.now.path refl c.in-Err-ReadFault.field-0 file.ReadFault same
    c.in-Err-ReadFault.ensures.refused

pub returns-in-Err-FileBytes-clause-stops : goal.returns-in-Err-FileBytes-clause-stops
returns-in-Err-FileBytes-clause-stops g c = λ words asks.
    let told = c.in-Err-FileBytes.field-0-is in
    let same : c.in-Err-FileBytes.field-0 ≡ file.FileBytes = cc in
    no_kernel words (g.F.Folder.state c.args.files.now) (g.F.Folder.state c.read_kernel_file.new.files)
    (exec_request c.args.execution.now) asks c.args.execution.now.path refl c.in-Err-FileBytes.field-0 file.FileBytes same
    c.in-Err-FileBytes.ensures.refused

pub returns-in-Err-KernelDepth-clause-stops : goal.returns-in-Err-KernelDepth-clause-stops
returns-in-Err-KernelDepth-clause-stops g c = λ words asks.
    let told = c.in-Err-KernelDepth.field-0-is in
    let same : c.in-Err-KernelDepth.field-0 ≡ file.KernelDepth c.in-Err-KernelDepth.line = cc in
    no_kernel words (g.F.Folder.state c.args.files.now) (g.F.Folder.state c.read_kernel_file.new.files)
    (exec_request c.args.execution.now) asks c.args.execution.now.path refl c.in-Err-KernelDepth.field-0
    (file.KernelDepth c.in-Err-KernelDepth.line) same c.in-Err-KernelDepth.ensures.refused

pub returns-in-Err-BadKernel-clause-stops : goal.returns-in-Err-BadKernel-clause-stops
returns-in-Err-BadKernel-clause-stops g c = λ words asks.
    let told = c.in-Err-BadKernel.field-0-is in
    let same : c.in-Err-BadKernel.field-0 ≡ file.BadKernel c.in-Err-BadKernel.line = cc in
    no_kernel words (g.F.Folder.state c.args.files.now) (g.F.Folder.state c.read_kernel_file.new.files)
    (exec_request c.args.execution.now) asks c.args.execution.now.path refl c.in-Err-BadKernel.field-0
    (file.BadKernel c.in-Err-BadKernel.line) same c.in-Err-BadKernel.ensures.refused

pub returns-in-Err-Memory-clause-stops : goal.returns-in-Err-Memory-clause-stops
returns-in-Err-Memory-clause-stops g c = λ words asks.
    let told = c.in-Err-Memory.field-0-is in
    let same : c.in-Err-Memory.field-0 ≡ file.Memory = cc in
    no_kernel words (g.F.Folder.state c.args.files.now) (g.F.Folder.state c.read_kernel_file.new.files)
    (exec_request c.args.execution.now) asks c.args.execution.now.path refl c.in-Err-Memory.field-0 file.Memory same
    c.in-Err-Memory.ensures.refused

pub returns-in-Ok-clause-kernel : goal.returns-in-Ok-clause-kernel
returns-in-Ok-clause-kernel g c = record { only_reads = c.in-Ok.ensures.only_reads; reads = c.in-Ok.ensures.kernel }
