use Rattle.std.proofs.Common.{◌≡◌, Some, ap, ◌∙◌, rules}
use Rattle.outside.specs.Told.{Bytes, told_bytes}
use Rattle.outside.specs.MemoryFile.{told}
use Rattle.outside.proofs.FilesByName.{told_read}
use Rattle.outside.proofs.memory_files.MemoryFilesFolder.start_read.Goals as goal

pub returns-in-Ok-clause-opened : goal.returns-in-Ok-clause-opened
returns-in-Ok-clause-opened c =
    let first = rw c.as_slice.ensures.value at c.in-Some.ensures in
    let is : told c.args.self.now.files.items c.args.name.now ≡ Bytes c.index.result.now.bytes.items =
    told_read _ _ _ c.index.result.now first c.index.ensures in
    let rest : Some c.in-Ok.text.items ≡ told_bytes (told c.args.self.now.files.items c.args.name.now) =
    rw is (ap Some (c.in-Ok.ensures.items ∙ c.as_slice-2.ensures.value)) in
    search (rules, rest, is)
