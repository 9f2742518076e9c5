use Rattle.std.proofs.Common.{ap, sym, ◌∙◌, rules}
use Rattle.outside.specs.Told.{Bytes}
use Rattle.outside.proofs.FilesByName.{emptied-told}
use Rattle.outside.proofs.memory_files.MemoryFilesFolder.start_write.Goals as goal

pub returns-in-Ok-clause-started : goal.returns-in-Ok-clause-started
returns-in-Ok-clause-started c =
    let empty = c.in-Ok.ensures.changes.told_is ∙ ap Bytes c.new.ensures.items
    ∙ sym (emptied-told c.args.self.now.files.items c.args.name.now) in
    search (rules, empty)
