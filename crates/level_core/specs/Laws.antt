-- The laws that the levels of every kind keep.
use Rattle.std.specs.Prelude.{◌≡◌, ℕ, ◌+◌, ◌≤◌, ◌<◌, true, false, List, [], ◌∷◌, Some, None, replicate}
use Rattle.limits.specs.Limits.{greatest_position_count}
use Rattle.kernel_code.specs.declared.syntax.Arr.{Arr}
use Rattle.kernel_code.specs.declared.syntax.Arr.TheVariants.{Dimension, Ends}
use Rattle.kernel_code.specs.Arrays.{same_arr}
use Rattle.level_core.specs.Arrays.{LevelArray, array_of}
use Rattle.level_core.specs.Entries.{Span, AreInRow, one}
use Rattle.level_core.specs.Kinds.{Letter, properties, capabilities, positions_for, zeros_at_start, AreEntries, MayPrepare, MayInsert}
use Rattle.level_core.specs.Logs.{IsLog, MayFinish, nothing_reserved, with_parents, running}
use Rattle.level_core.specs.Fragments.{IsOf}
use Rattle.level_core.specs.Meaning.{Arrays, Meaning, Prepares, Inserts, Finishes, AgreeBelow}

-- the arrays of a level of range n and so many parents as the run of a kernel starts: the size of a full level, which is lent, and as
-- many zeros as its kind says in each array that the run makes
pub record AreAtStart (letter : Letter) (n parents tensor level : ℕ) (arrays : Arrays) : Type 0 where
  pub size : (properties letter).full ≡ true → arrays (Dimension tensor level) ≡ Some (n ∷ [])
  pub zeros : (array : LevelArray) (count : ℕ) → zeros_at_start letter array parents ≡ Some count
      → arrays (array_of array tensor level) ≡ Some (replicate count 0)

-- the numbers of positions in the array of segment ends are summed up, and every other array stays
pub record SumsUp (tensor level : ℕ) (before after : Arrays) : Type 0 where
  pub ends : (counts : List ℕ) → before (Ends tensor level) ≡ Some counts → after (Ends tensor level) ≡ Some (running 0 counts)
  pub others : (a : Arr) → same_arr (Ends tensor level) a ≡ false → after a ≡ before a

-- a level as a kernel begins it, which arrays hold
pub record HoldsStart {L : Type 0} (means : Meaning L) (letter : Letter) (n parents tensor level : ℕ) (arrays : Arrays) : Type 0 where
  pub start : L
  pub keeps : means.keeps start
  pub kind : means.kind start ≡ letter
  pub size : means.size start ≡ n
  pub width : means.width start ≡ None
  pub log : (capabilities letter).append ≡ true → means.log start ≡ with_parents letter parents nothing_reserved
  pub held : means.holds start tensor level arrays

-- a finished level, which arrays hold
pub record HoldsFinished {L : Type 0} (means : Meaning L) (l : L) (parents tensor level : ℕ) (arrays : Arrays) : Type 0 where
  pub done : L
  pub finishes : Finishes means parents l done
  pub held : means.holds done tensor level arrays

pub record Laws {L : Type 0} (means : Meaning L) : Type 0 where
  -- what a level's arrays are depends on those of that level of that tensor alone
  pub held_there : (l : L) (tensor level : ℕ) (a b : Arrays) → ((x : Arr) → IsOf tensor level x → b x ≡ a x)
      → means.holds l tensor level a → means.holds l tensor level b
  -- arrays that have the words of each array of a level hold it
  pub words_hold : (l : L) (tensor level : ℕ) (arrays : Arrays)
      → ((array : LevelArray) (words : List ℕ) → means.words l array ≡ Some words → arrays (array_of array tensor level) ≡ Some words)
      → means.holds l tensor level arrays
  -- the entries below an allowed parent are such as the kind promises
  pub entries : (l : L) (parent : Span) → means.allowed l parent
      → AreEntries (properties (means.kind l)) (means.size l) parent (means.segment_of l parent) (means.entries l parent)
  -- parents one after another have positions one after another, from 0 on: so no position is below two parents, and the positions
  -- below the first parents are as many as the end of the last one's segment says
  pub in_row : (l : L) → AreInRow (means.allowed l) (means.segment_of l)
  -- a parent is one position, unless the level is branchless
  pub one_parent : (l : L) (parent : Span) → means.allowed l parent → (properties (means.kind l)).branchless ≡ false
      → parent.hi ≡ parent.lo + 1
  -- each of a level's parents may be asked
  pub parents : (l : L) (parents p : ℕ) → means.has_parents l parents → p < parents → means.allowed l (one p)
  -- the last parent's positions end with the level's
  pub last_end : (l : L) (parents p : ℕ) → means.has_parents l parents → p + 1 ≡ parents
      → (means.segment_of l (one p)).hi ≡ means.positions l parents
  -- without parents there are no positions
  pub none_without : (l : L) → means.has_parents l 0 → means.positions l 0 ≡ 0
  -- a level that has a width has so many positions below each parent
  pub wide : (l : L) (w : ℕ) (parent : Span) → means.width l ≡ Some w → means.allowed l parent
      → (means.segment_of l parent).hi ≡ (means.segment_of l parent).lo + w
  -- parents are given positions one after another, unless the level is branchless
  pub logs : (l : L) → means.keeps l → (properties (means.kind l)).branchless ≡ false → IsLog (means.log l)
  -- what preparing parents leaves
  pub prepares : (l m : L) (parents most : ℕ) → means.keeps l → MayPrepare (means.kind l) (means.width l) most
      → positions_for (means.kind l) (means.size l) parents most ≤ greatest_position_count → means.prepared l parents most m
      → Prepares means parents most l m
  -- what inserting a coordinate leaves
  pub inserts : (l m : L) (parent x slot : ℕ) → means.allowed l (one parent)
      → MayInsert (means.kind l) (means.size l) (means.segment_of l (one parent)) (means.entries l (one parent)) x
      → means.inserted l parent x slot m → Inserts means parent x slot l m
  -- for each range and number of parents there is a level of the same kind that a kernel's arrays hold at their start
  pub starts : (l : L) (n parents tensor level : ℕ) (arrays : Arrays) → n ≤ greatest_position_count → parents ≤ greatest_position_count
      → AreAtStart (means.kind l) n parents tensor level arrays → HoldsStart means (means.kind l) n parents tensor level arrays
  -- where fragments have appended all, the arrays hold the finished level once the numbers of positions are summed up
  pub finishes : (l : L) (parents tensor level : ℕ) (before after : Arrays) → means.keeps l → MayFinish parents (means.log l)
      → means.holds l tensor level before → SumsUp tensor level before after → HoldsFinished means l parents tensor level after
  -- levels that agree below all their parents are held by the same arrays
  pub same_arrays : (l m : L) (parents tensor level : ℕ) (arrays : Arrays) → means.has_parents l parents → means.has_parents m parents
      → AgreeBelow means parents l m → means.holds l tensor level arrays → means.holds m tensor level arrays
