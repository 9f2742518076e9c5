use Rattle.std.proofs.Common.{ap, sym, ◌∙◌}
use Rattle.outside.specs.Told.{Bytes}
use Rattle.outside.proofs.FilesByName.{told_read}
use Rattle.outside.proofs.memory_files.MemoryFiles.bytes.Goals as goal

pub returns-in-Some : goal.returns-in-Some
returns-in-Some c =
    told_read _ _ _ c.index.result.now (rw c.as_slice.ensures.value at c.in-Some.ensures) c.index.ensures
    ∙ ap Bytes (sym c.as_slice-in-Some.ensures.value)
