-- The code that inserts the rows of a workspace into a level of the result, one drain turn for each row.
use Rattle.std.specs.Prelude.{◌≡◌, ℕ, zero, suc, ◌+◌, ◌≤◌, ◌<◌, ◌^◌, false, if◌then◌else◌}
use Rattle.std.specs.Prelude.{List, [], ◌∷◌, ◌++◌, length, slice_index, Some}
use Rattle.kernel_code.specs.Widths.{slot_width}
use Rattle.kernel_code.specs.Meaning.{Setting, State, value}
use Rattle.kernel_code.specs.Does.{Does}
use Rattle.kernel_code.specs.Keeps.{Leaves, NoVariable}
use Rattle.kernel_code.specs.declared.syntax.Arr.TheVariants.{Sums, ListPositions}
use Rattle.kernel_code.specs.declared.syntax.LoopKind.{LoopKind}
use Rattle.kernel_code.specs.declared.syntax.LoopKind.TheVariants.{Drain, Probe}
use Rattle.kernel_code.specs.declared.syntax.Op.TheVariants.{Add, Less}
use Rattle.kernel_code.specs.declared.syntax.KExpr.{KExpr, Num, Var, At, Len, Bin}
use Rattle.kernel_code.specs.declared.syntax.KStmt.{KStmt, Set, Put, If, While}
use Rattle.level_core.specs.declared.letter.Letter.{Letter}
use Rattle.level_core.specs.Kinds.{properties, positions_for, MayPrepare, CodeMayPrepare}
use Rattle.level_core.specs.Fragments.{RefusedWithin, PassesLimitWithin, turns_of}
use Rattle.level_core.specs.Meaning.{Meaning}
use Rattle.level_rows.specs.Rows.{Rows, begun_below, MayInsertRows}
use Rattle.level_rows.specs.Taken.{InsertsRows}
use Rattle.level_rows.specs.Draining.{Stays, TellsFirst, TellsCoord}

-- variables, from base on: the row, its position, the last parent (3), the row's parent (4), whether the row begins a position (5),
-- and the answer of an insertion (6)
abbrev pub insert_code : ℕ → List KStmt → List KStmt
insert_code base insert = insert ++ Set (base + 1) (Var (base + 6)) ∷ []

abbrev pub store_code : ℕ → ℕ → List KStmt
store_code base g = Put (ListPositions g) (Var base) (Var (base + 1)) ∷ Set base (Bin Add (Var base) (Num 1)) ∷ []

abbrev pub insert_row_code : ℕ → ℕ → KExpr → List KStmt → List KStmt
insert_row_code base g test insert =
    Set (base + 4) (At (ListPositions g) (Var base)) ∷ Set (base + 5) test ∷ Set (base + 3) (Var (base + 4))
    ∷ If (Var (base + 5)) (insert_code base insert) [] ∷ store_code base g

abbrev pub insert_rows_code : ℕ → ℕ → ℕ → KExpr → List KStmt → List KStmt
insert_rows_code base w g test insert =
    Set base (Num 0) ∷ Set (base + 1) (Num 0) ∷ Set (base + 3) (Num 0)
    ∷ While Drain (Bin Less (Var base) (Len (Sums w))) (insert_row_code base g test insert) ∷ []

-- so many times a number
abbrev pub times : ℕ → ℕ → ℕ
times zero width = 0
times (suc n) width = times n width + width

-- how many probe turns a row takes at most: where coordinates stand without order as many as a block is wide, which has room for `most`
-- coordinates, and else none
abbrev pub probes_each : Letter → ℕ → ℕ
probes_each letter most = if (properties letter).ordered then 0 else slot_width most

-- a drain turn for each of so many rows, and for each so many probe turns
abbrev pub insert_turns : ℕ → ℕ → LoopKind → ℕ
insert_turns width n k = turns_of Drain n k + turns_of Probe (times n width) k

-- what the code is run on: the rows of workspace w, whose parents stand in scratch list g, a number of parents, and the greatest
-- number of positions that rows begin below one
pub record MayPlace (level base w g parents most : ℕ) (parents_is most_is test coord : KExpr) (rows : Rows) (s : State) : Type 0 where
  pub few : rows.count < 2 ^ 63
  pub parents_value : value parents_is s ≡ Some parents
  pub most_value : value most_is s ≡ Some most
  pub first : TellsFirst base level g test rows s
  pub coord_value : TellsCoord base level g coord rows s
  pub values : List ℕ
  pub values_are : s.arrays (Sums w) ≡ Some values
  pub many : length values ≡ rows.count
  pub positions : List ℕ
  pub places : s.arrays (ListPositions g) ≡ Some positions
  pub length_is : length positions ≡ rows.count
  pub parents_are : (i : ℕ) → i < rows.count → slice_index positions i ≡ rows.parent i

-- what the code leaves: the arrays of a level that the rows are inserted into, at the places that stand in the list; all other
-- variables below base and arrays that stay as they were
pub record LeavesPlaced {L : Type 0} (means : Meaning L) (l : L) (level g base parents most : ℕ) (rows : Rows) (s0 s : State) : Type 0 where
  pub left : L
  pub held : means.holds left 0 level s.arrays
  pub positions : List ℕ
  pub places : s.arrays (ListPositions g) ≡ Some positions
  pub inserted : InsertsRows means parents most rows positions l left
  pub width : (properties (means.kind l)).full ≡ false → means.width left ≡ Some (slot_width most)
  pub leaves : Leaves NoVariable (Stays level g) base (insert_turns (probes_each (means.kind l) most) rows.count) s0 s

-- what the code does, wherever arrays hold a level of the kind that isn't prepared: it is refused a growth only where the positions
-- that the kind says pass the limit
abbrev pub PlacesRows : {L : Type 0} → Meaning L → Letter → ℕ → ℕ → ℕ → ℕ → KExpr → KExpr → KExpr → KExpr → List KStmt → Type 0
PlacesRows {L} means letter level base w g parents_is most_is test coord code =
    (c : Setting) (l : L) → means.kind l ≡ letter → means.keeps l → (rows : Rows) (parents most : ℕ)
    → MayPrepare (means.kind l) (means.width l) most
    → CodeMayPrepare (means.kind l) (positions_for (means.kind l) (means.size l) parents most)
    → MayInsertRows (means.size l) parents rows
    → ((properties (means.kind l)).full ≡ false → (p : ℕ) → p < parents → begun_below rows p rows.count ≤ most)
    → (s : State) → means.holds l 0 level s.arrays → MayPlace level base w g parents most parents_is most_is test coord rows s
    → Does c code s (LeavesPlaced means l level g base parents most rows s)
    (RefusedWithin (insert_turns (probes_each (means.kind l) most) rows.count) s
    (PassesLimitWithin 0 level (positions_for (means.kind l) (means.size l) parents most)))
