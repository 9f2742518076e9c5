-- What is appended to a level before it is finished: coordinates in the order of positions, and how many of them stand
-- below each parent.
use Rattle.std.specs.Prelude.{◌≡◌, ◌≢◌, ℕ, zero, suc, ◌+◌, ◌-◌, ◌≤◌, ◌<◌, ◌^◌}
use Rattle.std.specs.Prelude.{◌==◌, Bool, true, false, if◌then◌else◌, List, [], ◌∷◌}
use Rattle.std.specs.Prelude.{◌++◌, length, take, drop, replicate, slice_set}
use Rattle.limits.specs.Limits.{greatest_position_count}
pub use Rattle.level_core.specs.declared.stage.Stage.{Stage}
pub use Rattle.level_core.specs.declared.stage.Stage.TheVariants.{Fresh, Unfinished, Finished}
use Rattle.level_core.specs.Kinds.{Letter, properties}
use Rattle.level_core.specs.Entries.{Span, Entry, span}
use Rattle.level_core.specs.GroupLaws.{CoordsBelow}

-- the stage, the coordinates appended, the number of positions of each reserved parent, and the least parent that may be given positions
pub record Log : Type 0 where
  pub stage : Stage
  pub coords : List ℕ
  pub counts : List ℕ
  pub next : ℕ

-- of levels that are never appended to
abbrev pub nothing_appended : Log
nothing_appended = record { stage = Finished; coords = []; counts = []; next = 0 }

-- of a level that is to be appended to, before parents are reserved
abbrev pub nothing_reserved : Log
nothing_reserved = record { stage = Fresh; coords = []; counts = []; next = 0 }

-- the sum of numbers of positions
abbrev pub total : List ℕ → ℕ
total [] = 0
total (n ∷ ns) = n + total ns

-- the sums of the numbers up to each and of what is before them
abbrev pub running : ℕ → List ℕ → List ℕ
running before [] = []
running before (n ∷ ns) = (before + n) ∷ running (before + n) ns

-- how far apart coordinates in a row are at least
abbrev pub gap : Bool → ℕ
gap true = 1
gap false = 0

-- the coordinates rise from at least `least` on: strictly where each stands once, else they never fall
abbrev pub Rises : Bool → ℕ → List ℕ → Type 0
Rises unique least [] = Unit {0}
Rises unique least (x ∷ xs) = (least ≤ x) × Rises unique (x + gap unique) xs

-- the coordinates of some positions
abbrev pub slice : List ℕ → Span → List ℕ
slice xs s = take (s.hi - s.lo) (drop s.lo xs)

-- one more position, with the coordinate x, in front of groups
abbrev pub join : ℕ → ℕ → List Entry → List Entry
join p x [] = record { coord = x; child = span p (p + 1) } ∷ []
join p x (e ∷ es) =
    if e.coord == x then record { coord = x; child = span p e.child.hi } ∷ es else record { coord = x; child = span p (p + 1) } ∷ e ∷ es

-- the groups of equal coordinates of positions from p on: a group is a run of equal coordinates, and its span of positions is the child
abbrev pub groups : ℕ → List ℕ → List Entry
groups p [] = []
groups p (x ∷ xs) = join p x (groups (p + 1) xs)

-- the entries of positions whose coordinates stand in a list
abbrev pub entries_between : List ℕ → Span → List Entry
entries_between coords s = groups s.lo (slice coords s)

-- the positions of parents whose numbers of positions are counted
abbrev pub segment_in : List ℕ → Span → Span
segment_in counts parent = span (total (take parent.lo counts)) (total (take parent.hi counts))

-- the parents from the one numbered k on are given no positions
abbrev pub NoneFrom : ℕ → List ℕ → Type 0
NoneFrom k [] = Unit {0}
NoneFrom zero (n ∷ ns) = (n ≡ 0) × NoneFrom zero ns
NoneFrom (suc k) (n ∷ ns) = NoneFrom k ns

-- a log of parents that are given positions one after another: none from the next on, and no more positions than coordinates
pub record IsLog (log : Log) : Type 0 where
  pub ahead : NoneFrom log.next log.counts
  pub given : total log.counts ≤ length log.coords

-- how many positions a parent has that is given none: one at branchless levels
abbrev pub ungiven : Letter → ℕ
ungiven letter = if (properties letter).branchless then 1 else 0

-- with room for so many parents
abbrev pub with_parents : Letter → ℕ → Log → Log
with_parents letter parents log =
    record {
      stage = Unfinished;
      coords = log.coords;
      counts = log.counts ++ replicate (parents - length log.counts) (ungiven letter);
      next = log.next;
    }

-- with a coordinate more
abbrev pub with_coord : ℕ → Log → Log
with_coord x log = record log { coords = log.coords ++ x ∷ [] }

-- with coordinates more, one after another
abbrev pub with_coords : List ℕ → Log → Log
with_coords xs log = record log { coords = log.coords ++ xs }

-- with the positions of a parent given; at branchless levels nothing is to be given
abbrev pub with_edges : Letter → ℕ → ℕ → ℕ → Log → Log
with_edges letter parent begin end log = if
    (properties letter).branchless then log else record log { counts = slice_set log.counts parent (end - begin); next = parent + 1 }

-- finished
abbrev pub finished : Log → Log
finished log = record log { stage = Finished }

-- parents within the limit on positions may be reserved until the level is finished
pub record MayReserve (parents : ℕ) (log : Log) : Type 0 where
  pub within : parents ≤ greatest_position_count
  pub reservable : log.stage ≢ Finished

-- the code of it may be run for more parents too, which it refuses where it stores their ends: a branchless level stores none
pub record CodeMayReserve (letter : Letter) (parents : ℕ) (log : Log) : Type 0 where
  pub word : parents < 2 ^ 64
  pub within : (properties letter).branchless ≡ true → parents ≤ greatest_position_count
  pub reservable : log.stage ≢ Finished

-- a coordinate below the range n that may come next: what no parent has been given yet goes on rising with it, unless the level
-- is branchless
pub record MayAppend (letter : Letter) (n x : ℕ) (log : Log) : Type 0 where
  pub unfinished : log.stage ≡ Unfinished
  pub below : x < n
  pub rises : (properties letter).branchless ≡ false → Rises (properties letter).unique 0 (drop (total log.counts) log.coords ++ x ∷ [])

-- coordinates below the range n that may come next, one after another: what no parent has been given yet goes on rising with all of
-- them, unless the level is branchless
pub record MayAppendAll (letter : Letter) (n : ℕ) (xs : List ℕ) (log : Log) : Type 0 where
  pub unfinished : log.stage ≡ Unfinished
  pub below : CoordsBelow n xs
  pub rises : (properties letter).branchless ≡ false → Rises (properties letter).unique 0 (drop (total log.counts) log.coords ++ xs)

-- the positions from the last end to the last coordinate, for a reserved parent above those that were given any
pub record MayGive (parent begin end : ℕ) (log : Log) : Type 0 where
  pub reserved : parent < length log.counts
  pub above : log.next ≤ parent
  pub begins : begin ≡ total log.counts
  pub ends : end ≡ length log.coords

pub record MayAppendEdges (letter : Letter) (parent begin end : ℕ) (log : Log) : Type 0 where
  pub unfinished : log.stage ≡ Unfinished
  pub gives : (properties letter).branchless ≡ false → MayGive parent begin end log

-- each reserved parent has its positions, and each coordinate is one of them
pub record MayFinish (parents : ℕ) (log : Log) : Type 0 where
  pub unfinished : log.stage ≡ Unfinished
  pub reserved : length log.counts ≡ parents
  pub given : total log.counts ≡ length log.coords
