-- What contracts see of a sink that remembers how much it handed on.
use Rattle.std.specs.Prelude.{ℕ, ◌-◌, List, ◌∷◌, length, Option, Some, None}
use Rattle.std.specs.Borrow.{GName}
use Rattle.outside.specs.Sink.{SinkState}
use Rattle.result_files.specs.declared.tally.Tally.{Tally}

-- told bytes behind the number of them that stood there before the last n
abbrev pub marked : Option (List ℕ) → ℕ → Option (List ℕ)
marked None n = None
marked (Some bytes) n = Some ((length bytes - n) ∷ bytes)

abbrev pub tallied : SinkState → GName → ℕ → SinkState
tallied lower borrow n = record {
  written = marked lower.written n;
  unfinished = lower.unfinished;
  faults = lower.faults;
  wants = lower.wants;
  beside = record { borrows = borrow ∷ lower.beside.borrows; folder = lower.beside.folder };
}

-- the sink that it hands bytes on to
abbrev pub lower_of : {S : Type 0} → Tally S → S
lower_of tally = tally.lower.now

-- the name of the borrow of that sink
abbrev pub borrow_of : {S : Type 0} → Tally S → GName
borrow_of tally = tally.lower.ghost_name
