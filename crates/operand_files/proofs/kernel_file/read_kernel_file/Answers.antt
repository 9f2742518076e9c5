use Rattle.operand_files.proofs.KernelLaws.{kernel_read}
use Rattle.operand_files.proofs.kernel_file.read_kernel_file.Goals as goal

pub returns-in-Ok-clause-kernel : goal.returns-in-Ok-clause-kernel
returns-in-Ok-clause-kernel g c =
    (kernel_read c.args.path.now (g.F.Folder.state c.args.files.now) (g.F.Folder.state c.feed_file.new.files) c.new-text.result.items
    c.feed_file.new.eater.items c.deref.result.now c.new-text.ensures.items c.in-Ok.ensures.whole c.deref.ensures.value c.kernel_of.result
    c.kernel_of.ensures).0

pub returns-in-Ok-clause-refused : goal.returns-in-Ok-clause-refused
returns-in-Ok-clause-refused g c =
    (kernel_read c.args.path.now (g.F.Folder.state c.args.files.now) (g.F.Folder.state c.feed_file.new.files) c.new-text.result.items
    c.feed_file.new.eater.items c.deref.result.now c.new-text.ensures.items c.in-Ok.ensures.whole c.deref.ensures.value c.kernel_of.result
    c.kernel_of.ensures).1

pub returns-clause-refused : goal.returns-clause-refused
returns-clause-refused g c =
    c.fault_of.ensures c.args.path.now (g.F.Folder.state c.args.files.now) (g.F.Folder.state c.feed_file.new.files) c.in-Err.ensures.stops
