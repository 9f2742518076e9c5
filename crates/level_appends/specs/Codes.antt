-- What the code does that appends rows to a level: before the first row, where the level above has got positions, of a row that begins a
-- position, and behind the last row.
use Rattle.std.specs.Prelude.{◌≡◌, ℕ, suc, ◌+◌, ◌≤◌, ◌<◌, true, List, [], ◌∷◌, ◌++◌, Some}
use Rattle.limits.specs.Limits.{greatest_position_count}
use Rattle.kernel_code.specs.Does.{Does, Never}
use Rattle.kernel_code.specs.Keeps.{Leaves, NoVariable, EveryArray, no_turns}
use Rattle.kernel_code.specs.Meaning.{Setting, State, value}
use Rattle.kernel_code.specs.declared.syntax.Op.TheVariants.{Add, NotEqual}
use Rattle.kernel_code.specs.declared.syntax.KExpr.{KExpr, Num, Var, Bin}
use Rattle.kernel_code.specs.declared.syntax.KStmt.{KStmt, Set, If}
use Rattle.level_core.specs.declared.letter.Letter.{Letter}
use Rattle.level_core.specs.Kinds.{capabilities}
use Rattle.level_core.specs.Fragments.{IsOutside, RefusedWithin, PassesLimit}
use Rattle.level_core.specs.Meaning.{Meaning}
use Rattle.level_rows.specs.Rows.{Rows, begun, MayAppendRows}
use Rattle.level_appends.specs.Appended.{IsOfCursor, LevelAt, LevelFilled}

-- no row yet
abbrev pub begin_code : ℕ → List KStmt
begin_code base = Set base (Num 0) ∷ Set (base + 1) (Num 0) ∷ Set (base + 2) (Num 0) ∷ []

-- the last parent is given its positions where the row's parent, in a variable, is another
abbrev pub turn_code : ℕ → ℕ → List KStmt → List KStmt
turn_code base parent edges =
    If (Bin NotEqual (Var base) (Var parent)) (edges ++ Set (base + 1) (Var (base + 2)) ∷ Set base (Var parent) ∷ []) [] ∷ []

-- a coordinate more
abbrev pub add_code : ℕ → List KStmt → List KStmt
add_code base append = append ++ Set (base + 2) (Bin Add (Var (base + 2)) (Num 1)) ∷ []

-- the last parent is given its positions, if there are rows
abbrev pub end_code : ℕ → List KStmt → List KStmt
end_code base edges = If (Var (base + 2)) edges [] ∷ []

-- a variable below free that isn't the cursor's
pub record IsBeside (base free y : ℕ) : Type 0 where
  pub below : y < free
  pub apart : IsOfCursor base y → ⊥

-- the cursor before the first row
pub record IsAtStart (base : ℕ) (s : State) : Type 0 where
  pub parent : s.vars base ≡ Some 0
  pub begin : s.vars (base + 1) ≡ Some 0
  pub count : s.vars (base + 2) ≡ Some 0

abbrev pub BeginsCursor : ℕ → List KStmt → Type 0
BeginsCursor base code =
    (c : Setting) (top : ℕ) (s : State)
    → Does c code s (λ t. Leaves (IsOfCursor base) EveryArray top no_turns s t × IsAtStart base t) Never

-- more parents are reserved
abbrev pub ReservesParents : {L : Type 0} → Meaning L → Letter → ℕ → ℕ → KExpr → ℕ → List KStmt → Type 0
ReservesParents means letter level base parents_is free code =
    (capabilities letter).append ≡ true
    → (c : Setting) (size parents more n : ℕ) (rows : Rows) → parents ≤ more → more ≤ greatest_position_count
    → (s : State) → LevelAt means letter size level base parents n rows s → value parents_is s ≡ Some more
    → Does c code s
    (λ t. Leaves NoVariable (IsOutside 0 level) free no_turns s t × LevelAt means letter size level base more n rows t) Never

-- one row is appended, which begins a position; its parent and its coordinate stand in variables. A growth is refused where the
-- position passes the limit
abbrev pub AppendsRow : {L : Type 0} → Meaning L → Letter → ℕ → ℕ → ℕ → ℕ → ℕ → List KStmt → Type 0
AppendsRow means letter level base parent coord free code =
    (capabilities letter).append ≡ true
    → (c : Setting) (size parents n : ℕ) (rows : Rows) → MayAppendRows letter size parents rows → n < rows.count → rows.first n ≡ true
    → (s : State) → LevelAt means letter size level base parents n rows s
    → s.vars parent ≡ Some (rows.parent n) → s.vars coord ≡ Some (rows.coord n)
    → Does c code s
    (λ t. Leaves (IsOfCursor base) (IsOutside 0 level) free no_turns s t × LevelAt means letter size level base parents (suc n) rows t
    × (begun rows.first (suc n) ≤ greatest_position_count))
    (RefusedWithin no_turns s (PassesLimit 0 level (begun rows.first (suc n))))

-- each parent is given its positions
abbrev pub EndsLevel : {L : Type 0} → Meaning L → Letter → ℕ → ℕ → ℕ → List KStmt → Type 0
EndsLevel means letter level base free code =
    (capabilities letter).append ≡ true
    → (c : Setting) (size parents : ℕ) (rows : Rows) → MayAppendRows letter size parents rows
    → (s : State) → LevelAt means letter size level base parents rows.count rows s
    → Does c code s
    (λ t. Leaves NoVariable (IsOutside 0 level) free no_turns s t × LevelFilled means letter size level parents rows t) Never
