use Rattle.operand_files.proofs.StopLaws.{fault_stops}
use Rattle.operand_files.proofs.feeding.feed_file.Goals as goal

pub returns-in-Err-ReadFault-clause-stops : goal.returns-in-Err-ReadFault-clause-stops
returns-in-Err-ReadFault-clause-stops g c =
    fault_stops (g.F.Folder.state c.args.files.now) (g.F.Folder.state c.read_through.new.files) c.args.path.now
    (g.E.Eater.eaten c.args.eater.now) (g.E.Eater.eaten c.read_through.new.eater) c.greatest_bytes_of_file.result
    c.greatest_bytes_of_file.ensures (rw c.in-Err-ReadFault.field-0-is at c.in-Err-ReadFault.ensures.stops)
