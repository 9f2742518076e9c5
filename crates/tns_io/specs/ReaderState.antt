-- What is true of a reader of `.tns` files at all times.
use Rattle.std.specs.Prelude.{◌≡◌, ℕ, Bool, List, Option, Some, None}
use Rattle.tensor_map.specs.Entries.{Entry}
use Rattle.tns_io.specs.ReadSoFar.{IsReadSoFar, StaysBad}
use Rattle.tns_io.specs.declared.file_fault.FileFault.{FileFault}
use Rattle.tns_io.specs.declared.file_fault.FileFault.TheVariants.{Line, Memory}

-- what is known of the text: its lines so far are read, or the first bad one is told
abbrev pub IsKnown : Bool → Option FileFault → ℕ → (text taken : List ℕ) → List Entry → Type 0
IsKnown signed None order text taken list = (taken ≡ text) × IsReadSoFar signed order text list
IsKnown signed (Some (Line line kind)) order text taken list = StaysBad signed order text line kind
IsKnown signed (Some (Memory e)) order text taken list = Unit {0}
