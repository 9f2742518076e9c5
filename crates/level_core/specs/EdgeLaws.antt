-- What giving parents their positions leaves: each parent's positions are what was given to it, and stay so.
use Rattle.std.specs.Prelude.{◌≡◌, ℕ, ◌≤◌, ◌<◌, false}
use Rattle.level_core.specs.Entries.{span, one}
use Rattle.level_core.specs.Kinds.{Letter, properties}
use Rattle.level_core.specs.Logs.{Log, IsLog, with_edges, segment_in, MayGive}

abbrev pub EdgesTell : Type 0
EdgesTell = (letter : Letter) (parent begin end : ℕ) (log : Log) → (properties letter).branchless ≡ false → IsLog log
    → MayGive parent begin end log → segment_in (with_edges letter parent begin end log).counts (one parent) ≡ span begin end

abbrev pub EdgesKeep : Type 0
EdgesKeep = (letter : Letter) (p parent begin end : ℕ) (log : Log) → (properties letter).branchless ≡ false → p < parent
    → segment_in (with_edges letter parent begin end log).counts (one p) ≡ segment_in log.counts (one p)

abbrev pub NoneGiven : Type 0
NoneGiven = (p : ℕ) (log : Log) → IsLog log → log.next ≤ p → (segment_in log.counts (one p)).lo ≡ (segment_in log.counts (one p)).hi
