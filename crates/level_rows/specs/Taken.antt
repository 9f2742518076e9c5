-- What a level is once it was given rows.
use Rattle.std.specs.Prelude.{◌≡◌, ℕ, ◌+◌, ◌≤◌, ◌<◌, true, false, List, length, slice_index, Some}
use Rattle.kernel_code.specs.Widths.{slot_width}
use Rattle.level_core.specs.declared.span.Span.{Span}
use Rattle.level_core.specs.Entries.{one}
use Rattle.level_core.specs.Kinds.{properties, positions_for}
use Rattle.level_core.specs.Meaning.{Meaning}
use Rattle.level_core.specs.Orders.{InOrder}
use Rattle.level_rows.specs.Rows.{Rows, begun, place, StandsFor, RiseIn}

-- a span of a level's parents that may be asked
abbrev pub Asked : {L : Type 0} → Meaning L → L → ℕ → Span → Type 0
Asked means l parents span = means.allowed l span × (span.hi ≤ parents)

-- a level with so many parents and so many positions that stands for rows, each at its place; where it is branchless, parents in
-- a row may be asked if the coordinates of their rows rise
pub record Stores {L : Type 0} (means : Meaning L) (parents positions : ℕ) (rows : Rows) (place : ℕ → ℕ) (l : L) : Type 0 where
  pub has_parents : means.has_parents l parents
  pub stands : StandsFor (properties (means.kind l)).full (Asked means l parents) (means.segment_of l) (means.entries l) rows place
  pub ends : (p : ℕ) → p + 1 ≡ parents → (means.segment_of l (one p)).hi ≡ positions
  pub groups : (properties (means.kind l)).branchless ≡ true → (span : Span) → span.lo ≤ span.hi → span.hi ≤ parents
      → RiseIn (properties (means.kind l)).unique rows span → means.allowed l span

-- a level is given rows: it is of the same kind and range, and stores the rows at the places in the list
pub record Takes {L : Type 0} (means : Meaning L) (parents positions : ℕ) (rows : Rows) (places : List ℕ) (old new : L) : Type 0 where
  pub keeps : means.keeps new
  pub kind : means.kind new ≡ means.kind old
  pub size : means.size new ≡ means.size old
  pub many : length places ≡ rows.count
  pub stored : Stores means parents positions rows (slice_index places) new

-- rows are appended: positions are numbered in the order in which rows begin them, and there are no others
pub record AppendsRows {L : Type 0} (means : Meaning L) (parents : ℕ) (rows : Rows) (places : List ℕ) (old new : L) : Type 0 where
  pub takes : Takes means parents (begun rows.first rows.count) rows places old new
  pub numbered : (i : ℕ) → i < rows.count → slice_index places i ≡ place rows.first i

-- rows are inserted: there are as many positions as the kind says for at most `most` coordinates below each parent, and where
-- coordinates stand without order each is sought past smaller ones alone
pub record InsertsRows {L : Type 0} (means : Meaning L) (parents most : ℕ) (rows : Rows) (places : List ℕ) (old new : L) : Type 0 where
  pub takes : Takes means parents (positions_for (means.kind old) (means.size old) parents most) rows places old new
  pub width : (properties (means.kind old)).full ≡ false → means.width new ≡ Some (slot_width most)
  pub order : (properties (means.kind old)).ordered ≡ false → (p : ℕ) → p < parents → InOrder means new p
