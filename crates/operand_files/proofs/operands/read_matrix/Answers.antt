use Rattle.operand_files.proofs.FileLaws.{matrix_read}
use Rattle.operand_files.specs.Decoded.{operand_of}
use Rattle.operand_files.proofs.operands.read_matrix.Goals as goal

pub returns-in-Ok-clause-operand : goal.returns-in-Ok-clause-operand
returns-in-Ok-clause-operand g c =
    let eater = c.feed_file.new.eater.reader in
    (matrix_read g.S.Semiring.arithmetic g.S.Semiring.has_minus g.S.Semiring.is_signed c.args.order c.args.path.now
    (g.F.Folder.state c.args.files.now)
    (g.F.Folder.state c.feed_file.new.files)
    c.in_ok-file.file.reader.order c.in_ok-file.file.reader.text eater.order eater.text c.decode_matrix.result c.requires.ending
    c.in_ok-file.ensures.order c.in_ok-file.ensures.text
    c.in-Ok.ensures.whole c.decode_matrix.ensures).0

pub returns-in-Ok-clause-refused : goal.returns-in-Ok-clause-refused
returns-in-Ok-clause-refused g c =
    let eater = c.feed_file.new.eater.reader in
    (matrix_read g.S.Semiring.arithmetic g.S.Semiring.has_minus g.S.Semiring.is_signed c.args.order c.args.path.now
    (g.F.Folder.state c.args.files.now)
    (g.F.Folder.state c.feed_file.new.files)
    c.in_ok-file.file.reader.order c.in_ok-file.file.reader.text eater.order eater.text c.decode_matrix.result c.requires.ending
    c.in_ok-file.ensures.order c.in_ok-file.ensures.text
    c.in-Ok.ensures.whole c.decode_matrix.ensures).1

pub returns-clause-refused : goal.returns-clause-refused
returns-clause-refused g c =
    c.fault_of.ensures (operand_of g.S.Semiring.arithmetic g.S.Semiring.has_minus g.S.Semiring.is_signed) c.args.order
    (g.F.Folder.state c.args.files.now) (g.F.Folder.state c.feed_file.new.files) c.in-Err.ensures.stops
