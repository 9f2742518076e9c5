use Rattle.std.proofs.Common.{ℕ, List, Some, ◌≡◌, refl, rules}
use Rattle.std.proofs.Math.Seq.{take-length}
use Rattle.outside.specs.Told.{grown}
use Rattle.outside.specs.MemoryFile.{Changes, name_of, told}
use Rattle.outside.proofs.FilesByName.{first_of_name}
use Rattle.outside.proofs.memory_files.MemoryFilesFolder.write.Goals as goal

pub returns-in-Ok-clause-written : goal.returns-in-Ok-clause-written
returns-in-Ok-clause-written c =
    let changes : (name : List ℕ) → name_of c.args.self.now.files.items c.args.self.now.writing ≡ Some name
    → Changes c.args.self.now.files.items c.append_to_file.new.files.items name
    (grown (told c.args.self.now.files.items name) c.args.piece.now) =
    λ name e. c.in-Ok.ensures.changes name
    (first_of_name _ _ name (c.args.self.now.writing_first _ c.in-Some.is) (rw c.in-Some.is at e)) in
    record {
      within = search rules;
      progress = search rules;
      holds_is = λ name e. rw (take-length c.args.piece.now) (changes name e).told_is;
      others = λ name e. (changes name e).others;
      writing_is = search rules;
      unfinished_is = refl;
      write_faults_are = refl;
      wants_are = refl;
      keeps_reading = search rules;
    }
