-- What contracts see of a sink that writes to a folder's file.
use Rattle.std.specs.Borrow.{GName}
use Rattle.outside.specs.declared.file_sink.FileSink.{FileSink}
use Rattle.outside.specs.declared.folder.Folder.{Ghosts}

-- the folder
abbrev pub folder_of : {F : Type 0} {g : Ghosts F} → FileSink F g → F
folder_of sink = sink.files.now

-- the name of the borrow of that folder
abbrev pub borrow_of : {F : Type 0} {g : Ghosts F} → FileSink F g → GName
borrow_of sink = sink.files.ghost_name
