use Rattle.std.proofs.Common.{◌∙◌, sym}
use Rattle.text_lines.proofs.PutPieces.{retold}
use Rattle.tensor_storage.specs.Levels.{meaning}
use Rattle.storage_text.proofs.Lines.{line_there}
use Rattle.storage_text.proofs.levels.put_array.Goals as goal

pub returns-in-Some : goal.returns-in-Some
returns-in-Some g c =
    let l = c.args.level.now in
    retold _ _ _ _ _ (line_there c.args.number (meaning.kind l) c.args.array (meaning.words l c.args.array) c.in-Some.count
    (sym c.array_len.ensures ∙ c.in-Some.is)) c.put_line.ensures
