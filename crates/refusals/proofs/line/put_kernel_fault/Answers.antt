use Rattle.std.specs.Prelude.{OnOk, IfErr}
use Rattle.std.proofs.Common.{subst, sym}
use Rattle.outside.specs.Sink.{Appends}
use Rattle.text_lines.specs.Puts.{AppendsPart}
use Rattle.refusals.specs.Lines.{kernel_line}
use Rattle.refusals.specs.declared.fault.KernelFault.{KernelFault}
use Rattle.refusals.proofs.line.put_kernel_fault.Goals as goal

pub returns-in-KernelDepth-clause-part : goal.returns-in-KernelDepth-clause-part
returns-in-KernelDepth-clause-part g c =
    subst (λ (why : KernelFault). IfErr c.put_kernel_line.result
    (AppendsPart (g.S.Sink.state c.args.sink.now) (g.S.Sink.state c.put_kernel_line.new.sink) (kernel_line why)))
    (sym c.in-KernelDepth.is) c.put_kernel_line.ensures.part

pub returns-in-BadStore-clause-whole : goal.returns-in-BadStore-clause-whole
returns-in-BadStore-clause-whole g c =
    subst (λ (why : KernelFault). OnOk c.put_all.result
    (Appends (g.S.Sink.state c.args.sink.now) (g.S.Sink.state c.put_all.new.sink) (kernel_line why)))
    (sym c.in-BadStore.is) c.put_all.ensures.whole

pub returns-in-BadStore-clause-part : goal.returns-in-BadStore-clause-part
returns-in-BadStore-clause-part g c =
    subst (λ (why : KernelFault). IfErr c.put_all.result
    (AppendsPart (g.S.Sink.state c.args.sink.now) (g.S.Sink.state c.put_all.new.sink) (kernel_line why)))
    (sym c.in-BadStore.is) c.put_all.ensures.part
