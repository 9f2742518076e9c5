-- What the calls of a folder in memory leave as it was.
use Rattle.std.specs.Prelude.{None, Some, List, ℕ, ◌≡◌, ◌≢◌}
use Rattle.outside.specs.Told.{NoFile}
use Rattle.outside.specs.MemoryFile.{told, name_of}
use Rattle.outside.specs.declared.memory_files.MemoryFiles.{MemoryFiles}

-- the file being read and its rest, the one being written, the faulted one and the count are as before
pub record KeepsPlaces (old new : MemoryFiles) : Type 0 where
  pub reading_is : new.reading ≡ old.reading
  pub read_name_is : name_of new.files.items new.reading ≡ name_of old.files.items old.reading
  pub writing_is : name_of new.files.items new.writing ≡ name_of old.files.items old.writing
  pub faulted_is : name_of new.files.items new.faulted ≡ name_of old.files.items old.faulted
  pub text_is : new.text.items ≡ old.text.items
  pub taken_is : new.taken ≡ old.taken
  pub unfinished_is : new.is_unfinished ≡ old.is_unfinished
  pub wants_is : new.wants ≡ old.wants
  pub given_is : new.given.files ≡ old.given.files

-- there is a file of this name, the fault is about it, no file is read any longer, and all else is as before
pub record FailsToStart (old new : MemoryFiles) (name : List ℕ) : Type 0 where
  pub present : told old.files.items name ≢ NoFile
  pub faulted_is : name_of new.files.items new.faulted ≡ Some name
  pub reading_is : new.reading ≡ None
  pub taken_is : new.taken ≡ 0
  pub files_is : new.files ≡ old.files
  pub writing_is : new.writing ≡ old.writing
  pub unfinished_is : new.is_unfinished ≡ old.is_unfinished
  pub wants_is : new.wants ≡ old.wants
  pub given_is : new.given.files ≡ old.given.files

-- the fault is about the file being read, and all else is as before
pub record FailsToRead (old new : MemoryFiles) : Type 0 where
  pub faulted_is : new.faulted ≡ old.reading
  pub reading_is : new.reading ≡ old.reading
  pub text_is : new.text ≡ old.text
  pub taken_is : new.taken ≡ old.taken
  pub files_is : new.files ≡ old.files
  pub writing_is : new.writing ≡ old.writing
  pub unfinished_is : new.is_unfinished ≡ old.is_unfinished
  pub wants_is : new.wants ≡ old.wants
  pub given_is : new.given.files ≡ old.given.files
