-- What a folder in memory keeps when it is told which calls fail and how it cuts.
use Rattle.std.specs.Prelude.{◌≡◌}
use Rattle.outside.specs.declared.mem_folder.MemFolder.{MemFolder}

-- its files and counts are as before: all that a folder's ghost members tell
pub record IsSameButScript (old new : MemFolder) : Type 0 where
  pub files_is : new.files ≡ old.files
  pub read_faults_is : new.read_faults ≡ old.read_faults
  pub write_faults_is : new.write_faults ≡ old.write_faults
