-- What contracts see of a batch.
use Rattle.std.specs.Prelude.{List, ℕ}
use Rattle.std.specs.Borrow.{GName}
use Rattle.outside.specs.declared.batch.Batch.{Batch}

-- the sink that it hands bytes on to
abbrev pub lower_of : {S : Type 0} → Batch S → S
lower_of batch = batch.lower.now

-- the name of the borrow of that sink
abbrev pub borrow_of : {S : Type 0} → Batch S → GName
borrow_of batch = batch.lower.ghost_name

-- the bytes that it keeps back
abbrev pub kept_of : {S : Type 0} → Batch S → List ℕ
kept_of batch = batch.kept
