-- The code that finds the greatest number of positions that the rows of a workspace begin below one parent.
use Rattle.std.specs.Prelude.{◌≡◌, ℕ, ◌+◌, ◌<◌, ◌^◌, List, [], ◌∷◌, length, slice_index, Some}
use Rattle.kernel_code.specs.Meaning.{Setting, State}
use Rattle.kernel_code.specs.Does.{Does, Never}
use Rattle.kernel_code.specs.Keeps.{Leaves, NoVariable, EveryArray}
use Rattle.kernel_code.specs.declared.syntax.Arr.TheVariants.{Sums, ListPositions}
use Rattle.kernel_code.specs.declared.syntax.LoopKind.TheVariants.{Drain}
use Rattle.kernel_code.specs.declared.syntax.Op.TheVariants.{Add, Less, NotEqual}
use Rattle.kernel_code.specs.declared.syntax.KExpr.{KExpr, Num, Var, At, Len, Bin}
use Rattle.kernel_code.specs.declared.syntax.KStmt.{KStmt, Set, If, While}
use Rattle.level_core.specs.Fragments.{turns_of}
use Rattle.level_rows.specs.Rows.{Rows, AreTogether, IsGreatestBelow}
use Rattle.level_rows.specs.Draining.{TellsFirst}

-- variables, from base on: the row, how many positions rows begin below its parent (1), the greatest such number (2), the last parent
-- (3), the row's parent (4), and whether the row begins a position (5)
abbrev pub other_parent_code : ℕ → List KStmt
other_parent_code base = Set (base + 1) (Num 0) ∷ []

abbrev pub one_more_code : ℕ → List KStmt
one_more_code base = Set (base + 1) (Bin Add (Var (base + 1)) (Num 1)) ∷ []

abbrev pub greater_code : ℕ → List KStmt
greater_code base = Set (base + 2) (Var (base + 1)) ∷ []

abbrev pub count_row_code : ℕ → ℕ → KExpr → List KStmt
count_row_code base g test =
    Set (base + 4) (At (ListPositions g) (Var base)) ∷ Set (base + 5) test
    ∷ If (Bin NotEqual (Var (base + 3)) (Var (base + 4))) (other_parent_code base) [] ∷ Set (base + 3) (Var (base + 4))
    ∷ If (Var (base + 5)) (one_more_code base) []
    ∷ If (Bin Less (Var (base + 2)) (Var (base + 1))) (greater_code base) [] ∷ Set base (Bin Add (Var base) (Num 1)) ∷ []

abbrev pub greatest_code : ℕ → ℕ → ℕ → KExpr → List KStmt
greatest_code base w g test =
    Set base (Num 0) ∷ Set (base + 1) (Num 0) ∷ Set (base + 2) (Num 0) ∷ Set (base + 3) (Num 0)
    ∷ While Drain (Bin Less (Var base) (Len (Sums w))) (count_row_code base g test) ∷ []

-- the rows of workspace w, whose parents stand in scratch list g; the rows of each parent stand together
pub record MayCount (base w g level : ℕ) (test : KExpr) (rows : Rows) (s : State) : Type 0 where
  pub few : rows.count < 2 ^ 63
  pub together : AreTogether rows
  pub first : TellsFirst base level g test rows s
  pub values : List ℕ
  pub values_are : s.arrays (Sums w) ≡ Some values
  pub many : length values ≡ rows.count
  pub positions : List ℕ
  pub places : s.arrays (ListPositions g) ≡ Some positions
  pub length_is : length positions ≡ rows.count
  pub parents_are : (i : ℕ) → i < rows.count → slice_index positions i ≡ rows.parent i

-- the greatest number is left in a variable; no array has changed
pub record LeavesGreatest (base : ℕ) (rows : Rows) (s0 s : State) : Type 0 where
  pub most : ℕ
  pub greatest : IsGreatestBelow rows most
  pub answer : s.vars (base + 2) ≡ Some most
  pub leaves : Leaves NoVariable EveryArray base (turns_of Drain rows.count) s0 s

abbrev pub FindsGreatest : ℕ → ℕ → ℕ → ℕ → KExpr → List KStmt → Type 0
FindsGreatest base w g level test code =
    (c : Setting) (rows : Rows) (s : State) → MayCount base w g level test rows s → Does c code s (LeavesGreatest base rows s) Never
