-- What a level means, of whatever kind: what is seen of it, and what the calls that change it leave.
use Rattle.std.specs.Prelude.{◌≡◌, ◌≢◌, ℕ, ◌+◌, ◌-◌, ◌*◌, ◌≤◌, ◌<◌, true, false, List, [], Option, Some}
use Rattle.kernel_code.specs.declared.syntax.Arr.{Arr}
use Rattle.kernel_code.specs.Widths.{slot_width}
use Rattle.level_core.specs.Arrays.{LevelArray}
use Rattle.level_core.specs.Entries.{Span, Entry, IsIn, Gains, FirstFree, one}
use Rattle.level_core.specs.Kinds.{Letter, properties, positions_for}
use Rattle.level_core.specs.Logs.{Log, Rises, slice, segment_in, entries_between, finished}

-- what each array holds, of those that exist
abbrev pub Arrays : Type 0
Arrays = Arr → Option (List ℕ)

-- what is seen of the levels of a type
pub record Meaning (L : Type 0) : Type 1 where
  -- the kind's letter
  pub kind : L → Letter
  -- the level keeps the rules of its kind, and of how far its making is
  pub keeps : L → Type 0
  -- the range of the mode that the level stores: its coordinates are below it
  pub size : L → ℕ
  -- how many positions each parent has, where that is settled when parents are prepared, and has been
  pub width : L → Option ℕ
  -- the arrays of this level of this tensor are those of the level
  pub holds : L → ℕ → ℕ → Arrays → Type 0
  -- the words of each array that the level has, as a kernel has them
  pub words : L → LevelArray → Option (List ℕ)
  -- the level's making is done, and its parents are the positions below this number
  pub has_parents : L → ℕ → Type 0
  -- how many positions so many parents have, where the level has so many
  pub positions : L → ℕ → ℕ
  -- the span of positions of the level above may be asked for its entries
  pub allowed : L → Span → Type 0
  -- the positions below an allowed parent
  pub segment_of : L → Span → Span
  -- the coordinates below an allowed parent, each with its child positions
  pub entries : L → Span → List Entry
  -- what was appended
  pub log : L → Log
  -- the second level is the first with so many parents of at most so many coordinates each prepared
  pub prepared : L → ℕ → ℕ → L → Type 0
  -- the second level is the first with a coordinate inserted below a parent, at a position
  pub inserted : L → ℕ → ℕ → ℕ → L → Type 0

-- what was appended is now this, and the level is of the same kind and range
pub record ChangesLog {L : Type 0} (means : Meaning L) (appended : Log) (old new : L) : Type 0 where
  pub kind : means.kind new ≡ means.kind old
  pub size : means.size new ≡ means.size old
  pub log : means.log new ≡ appended

-- a level is made ready for so many parents of at most `most` coordinates each: they may be asked, and have as many
-- positions as the kind says; where the level isn't full each has a block of slots without entries
pub record Prepares {L : Type 0} (means : Meaning L) (parents most : ℕ) (old new : L) : Type 0 where
  pub keeps : means.keeps new
  pub kind : means.kind new ≡ means.kind old
  pub size : means.size new ≡ means.size old
  pub has_parents : means.has_parents new parents
  pub positions : (p : ℕ) → p + 1 ≡ parents → (means.segment_of new (one p)).hi ≡ positions_for (means.kind old)
      (means.size old) parents most
  pub width : (properties (means.kind old)).full ≡ false → means.width new ≡ Some (slot_width most)
  pub empty : (properties (means.kind old)).full ≡ false → (p : ℕ) → p < parents → means.entries new (one p) ≡ []
  pub room : (properties (means.kind old)).full ≡ false → (p : ℕ) → p < parents
      → 2 * most ≤ (means.segment_of new (one p)).hi - (means.segment_of new (one p)).lo

-- a coordinate is inserted below a parent and stands at its slot, the first that is free where the level has no order; all
-- other entries stay
pub record Inserts {L : Type 0} (means : Meaning L) (parent x slot : ℕ) (old new : L) : Type 0 where
  pub keeps : means.keeps new
  pub kind : means.kind new ≡ means.kind old
  pub size : means.size new ≡ means.size old
  pub width : means.width new ≡ means.width old
  pub inside : IsIn slot (means.segment_of old (one parent))
  pub gains : Gains x slot (means.entries old (one parent)) (means.entries new (one parent))
  pub first : (properties (means.kind old)).ordered ≡ false
      → FirstFree (means.segment_of old (one parent)) (means.entries old (one parent)) x slot
  pub has_parents : (n : ℕ) → means.has_parents old n → means.has_parents new n
  pub allowed : (p : ℕ) → means.allowed old (one p) → means.allowed new (one p)
  pub segments : (p : ℕ) → means.allowed old (one p) → means.segment_of new (one p) ≡ means.segment_of old (one p)
  pub others : (p : ℕ) → means.allowed old (one p) → p ≢ parent → means.entries new (one p) ≡ means.entries old (one p)

-- a level is finished: each parent has the positions that it was given, none if it was given none, and its entries are the
-- groups of their coordinates; where the level is branchless, parents in a row whose coordinates keep the order may be asked too
pub record Finishes {L : Type 0} (means : Meaning L) (parents : ℕ) (old new : L) : Type 0 where
  pub keeps : means.keeps new
  pub kind : means.kind new ≡ means.kind old
  pub size : means.size new ≡ means.size old
  pub log : means.log new ≡ finished (means.log old)
  pub has_parents : means.has_parents new parents
  pub groups : (properties (means.kind old)).branchless ≡ true → (parent : Span) → parent.lo ≤ parent.hi → parent.hi ≤ parents
      → Rises (properties (means.kind old)).unique 0 (slice (means.log old).coords parent) → means.allowed new parent
  pub segments : (parent : Span) → means.allowed new parent → means.segment_of new parent ≡ segment_in (means.log old).counts parent
  pub entries : (parent : Span) → means.allowed new parent
      → means.entries new parent ≡ entries_between (means.log old).coords (means.segment_of new parent)

-- two levels with so many parents have the same below each
pub record AgreeBelow {L : Type 0} (means : Meaning L) (parents : ℕ) (l m : L) : Type 0 where
  pub kind : means.kind m ≡ means.kind l
  pub size : means.size m ≡ means.size l
  pub width : means.width m ≡ means.width l
  pub segments : (p : ℕ) → p < parents → means.segment_of m (one p) ≡ means.segment_of l (one p)
  pub entries : (p : ℕ) → p < parents → means.entries m (one p) ≡ means.entries l (one p)
