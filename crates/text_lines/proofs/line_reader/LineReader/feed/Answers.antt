use Rattle.text_lines.proofs.CuttingLaws.{run_alone}
use Rattle.text_lines.proofs.line_reader.LineReader.feed.Goals as goal

pub take_run-requires : goal.take_run-requires
take_run-requires c = run_alone c.args.piece.now c.in-None.ensures
