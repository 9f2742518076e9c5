use Rattle.std.proofs.Common.{refl}
use Rattle.outside.proofs.FilesByName.{told_present}
use Rattle.outside.specs.MemoryFile.{IsFirst}
use Rattle.outside.proofs.memory_files.MemoryFiles.fail_start.Goals as goal

pub returns : goal.returns
returns c =
    let first : IsFirst c.args.self.now.files.items c.in-Some.i c.args.name.now = rw c.as_slice.ensures.value at c.in-Some.ensures in
    record {
      present = told_present _ _ _ first;
      faulted_is = first.named;
      reading_is = refl;
      taken_is = refl;
      files_is = refl;
      writing_is = refl;
      unfinished_is = refl;
      wants_is = refl;
      given_is = refl;
    }
