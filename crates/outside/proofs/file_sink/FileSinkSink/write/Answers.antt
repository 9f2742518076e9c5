use Rattle.std.proofs.lemmas.Result.{IfOk-weaker}
use Rattle.outside.proofs.Files.{file_takes}
use Rattle.outside.proofs.file_sink.FileSinkSink.write.Goals as goal

pub returns-clause-taken : goal.returns-clause-taken
returns-clause-taken g c =
    IfOk-weaker c.write.result _ _
    (λ n. file_takes (g.F.Folder.state c.args.self.now.files.now)
    (g.F.Folder.state c.write.new.self) _ c.args.piece.now n c.args.self.now.is_open) c.write.ensures.written
