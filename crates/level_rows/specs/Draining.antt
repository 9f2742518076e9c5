-- The code that appends the rows of a workspace to a level of the result, one drain turn for each row.
use Rattle.std.specs.Prelude.{◌≡◌, ℕ, suc, ◌+◌, ◌≤◌, ◌<◌, ◌^◌, true, false}
use Rattle.std.specs.Prelude.{List, [], ◌∷◌, ◌++◌, length, slice_index, Some}
use Rattle.limits.specs.Limits.{greatest_position_count}
use Rattle.kernel_code.specs.Arrays.{same_arr}
use Rattle.kernel_code.specs.Meaning.{Setting, State, value, word_of}
use Rattle.kernel_code.specs.Does.{Does}
use Rattle.kernel_code.specs.Keeps.{Leaves, NoVariable}
use Rattle.kernel_code.specs.declared.syntax.Arr.{Arr}
use Rattle.kernel_code.specs.declared.syntax.Arr.TheVariants.{Sums, ListPositions}
use Rattle.kernel_code.specs.declared.syntax.LoopKind.TheVariants.{Drain}
use Rattle.kernel_code.specs.declared.syntax.Op.TheVariants.{Add, Sub, Less, NotEqual}
use Rattle.kernel_code.specs.declared.syntax.KExpr.{KExpr, Num, Var, At, Len, Bin}
use Rattle.kernel_code.specs.declared.syntax.KStmt.{KStmt, Set, Put, If, While}
use Rattle.level_core.specs.declared.letter.Letter.{Letter}
use Rattle.level_core.specs.Kinds.{capabilities}
use Rattle.level_core.specs.Logs.{Log, MayFinish, nothing_reserved, with_parents}
use Rattle.level_core.specs.Fragments.{IsOutside, RefusedWithin, PassesLimitWithin, turns_of}
use Rattle.level_core.specs.Meaning.{Meaning, Finishes}
use Rattle.level_rows.specs.Rows.{Rows, begun, place, MayAppendRows}
use Rattle.level_rows.specs.Taken.{Stores}

-- variables, from base on: the row, how many coordinates are appended, where the last parent's positions begin, the last parent,
-- the row's parent, and whether the row begins a position
abbrev pub turn_code : ℕ → List KStmt → List KStmt
turn_code base edges = edges ++ Set (base + 2) (Var (base + 1)) ∷ Set (base + 3) (Var (base + 4)) ∷ []

abbrev pub first_code : ℕ → List KStmt → List KStmt
first_code base append = append ++ Set (base + 1) (Bin Add (Var (base + 1)) (Num 1)) ∷ []

abbrev pub place_code : ℕ → ℕ → List KStmt
place_code base g = Put (ListPositions g) (Var base) (Bin Sub (Var (base + 1)) (Num 1)) ∷ Set base (Bin Add (Var base) (Num 1)) ∷ []

abbrev pub row_code : ℕ → ℕ → KExpr → List KStmt → List KStmt → List KStmt
row_code base g test append edges =
    Set (base + 4) (At (ListPositions g) (Var base)) ∷ Set (base + 5) test
    ∷ If (Bin NotEqual (Var (base + 3)) (Var (base + 4))) (turn_code base edges) []
    ∷ If (Var (base + 5)) (first_code base append) [] ∷ place_code base g

abbrev pub drain_code : ℕ → ℕ → ℕ → KExpr → List KStmt → List KStmt → List KStmt
drain_code base w g test append edges =
    Set base (Num 0) ∷ Set (base + 1) (Num 0) ∷ Set (base + 2) (Num 0) ∷ Set (base + 3) (Num 0)
    ∷ While Drain (Bin Less (Var base) (Len (Sums w))) (row_code base g test append edges) ∷ If (Var (base + 1)) edges [] ∷ []

-- the arrays that stay: those of other levels, and all scratch but the positions of the rows
abbrev pub Stays : ℕ → ℕ → Arr → Type 0
Stays level g a = IsOutside 0 level a × (same_arr (ListPositions g) a ≡ false)

-- the expression tells whether a row begins a position, from the row, the parent of the row before, its own, and arrays that stay
abbrev pub TellsFirst : ℕ → ℕ → ℕ → KExpr → Rows → State → Type 0
TellsFirst base level g test rows s0 =
    (t : State) (i last : ℕ) → i < rows.count → t.vars base ≡ Some i
    → t.vars (base + 3) ≡ Some last → t.vars (base + 4) ≡ Some (rows.parent i)
    → ((j : ℕ) → i ≡ suc j → last ≡ rows.parent j) → ((a : Arr) → Stays level g a → t.arrays a ≡ s0.arrays a)
    → value test t ≡ Some (word_of (rows.first i))

-- the expression's value is the row's coordinate
abbrev pub TellsCoord : ℕ → ℕ → ℕ → KExpr → Rows → State → Type 0
TellsCoord base level g coord rows s0 =
    (t : State) (i : ℕ) → i < rows.count → t.vars base ≡ Some i → ((a : Arr) → Stays level g a → t.arrays a ≡ s0.arrays a)
    → value coord t ≡ Some (rows.coord i)

-- what the code is run on: the rows of workspace w, whose parents stand in scratch list g, and a number of parents
pub record IsGiven (level base w g parents : ℕ) (parents_is test coord : KExpr) (rows : Rows) (s : State) : Type 0 where
  pub few : rows.count < 2 ^ 63
  pub within : parents ≤ greatest_position_count
  pub parents_value : value parents_is s ≡ Some parents
  pub first : TellsFirst base level g test rows s
  pub coord_value : TellsCoord base level g coord rows s
  pub values : List ℕ
  pub values_are : s.arrays (Sums w) ≡ Some values
  pub many : length values ≡ rows.count
  pub positions : List ℕ
  pub places : s.arrays (ListPositions g) ≡ Some positions
  pub length_is : length positions ≡ rows.count
  pub parents_are : (i : ℕ) → i < rows.count → slice_index positions i ≡ rows.parent i

-- what the code leaves: the arrays of a level that may be finished, and stores the rows then, at the places that stand in the list;
-- how many positions it has; all other variables below base and arrays that stay as they were, and a drain turn for each row at most
pub record LeavesDrained {L : Type 0} (means : Meaning L) (l : L) (level g base parents : ℕ) (rows : Rows) (s0 s : State) : Type 0 where
  pub left : L
  pub keeps : means.keeps left
  pub kind : means.kind left ≡ means.kind l
  pub size : means.size left ≡ means.size l
  pub held : means.holds left 0 level s.arrays
  pub may_finish : MayFinish parents (means.log left)
  pub positions : List ℕ
  pub places : s.arrays (ListPositions g) ≡ Some positions
  pub many : length positions ≡ rows.count
  pub numbered : (i : ℕ) → i < rows.count → slice_index positions i ≡ place rows.first i
  pub stores : (done : L) → Finishes means parents left done
      → Stores means parents (begun rows.first rows.count) rows (slice_index positions) done
  pub count : s.vars (base + 1) ≡ Some (begun rows.first rows.count)
  pub leaves : Leaves NoVariable (Stays level g) base (turns_of Drain rows.count) s0 s

-- nothing was appended yet, and no more parents than so many are reserved, as where a kernel begins
abbrev pub IsBegun : Letter → ℕ → Log → Type 0
IsBegun letter parents log = (n : ℕ) × (n ≤ parents) × (log ≡ with_parents letter n nothing_reserved)

-- what the code does, wherever arrays hold a level of the kind to which nothing was appended: it is refused a growth only where so
-- many positions pass the limit, which are no more than the rows begin
abbrev pub DrainsRows : {L : Type 0} → Meaning L → Letter → ℕ → ℕ → ℕ → ℕ → KExpr → KExpr → KExpr → List KStmt → Type 0
DrainsRows {L} means letter level base w g parents_is test coord code =
    (capabilities letter).append ≡ true
    → (c : Setting) (l : L) → means.kind l ≡ letter → means.keeps l
    → (rows : Rows) (parents : ℕ) → IsBegun letter parents (means.log l) → MayAppendRows letter (means.size l) parents rows
    → (s : State) → means.holds l 0 level s.arrays → IsGiven level base w g parents parents_is test coord rows s
    → Does c code s (LeavesDrained means l level g base parents rows s)
    (RefusedWithin (turns_of Drain rows.count) s (PassesLimitWithin 0 level (begun rows.first rows.count)))
