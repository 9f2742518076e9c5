-- Entries below a parent of a level that has them in any order of positions, gathered into a scratch list and sorted by coordinates. As in
-- Chou and others, 'Format Abstraction for Sparse Tensor Algebra Compilers' (OOPSLA 2018), of levels without order.
use Rattle.std.specs.Prelude.{◌≡◌, ℕ, suc, ◌+◌, ◌-◌, true, List, [], ◌∷◌, ◌++◌, Some}
use Rattle.kernel_code.specs.declared.syntax.Arr.TheVariants.{ListCoordinates, ListPositions}
use Rattle.kernel_code.specs.declared.syntax.LoopKind.{LoopKind}
use Rattle.kernel_code.specs.declared.syntax.LoopKind.TheVariants.{Gather}
use Rattle.kernel_code.specs.declared.syntax.Op.TheVariants.{Add, Less}
use Rattle.kernel_code.specs.declared.syntax.KExpr.{KExpr, Num, Var, Bin}
use Rattle.kernel_code.specs.declared.syntax.KStmt.{KStmt, Set, Push, Cut, Sort, If, While}
use Rattle.kernel_code.specs.Meaning.{Setting, State, value}
use Rattle.kernel_code.specs.Does.{Never}
use Rattle.kernel_code.specs.Keeps.{no_turns}
use Rattle.level_core.specs.declared.span.Span.{Span}
use Rattle.level_core.specs.declared.span.Entry.{Entry}
use Rattle.level_core.specs.declared.letter.Letter.{Letter}
use Rattle.level_core.specs.Kinds.{properties, capabilities}
use Rattle.level_core.specs.Fragments.{Runs, ValuesAre, turns_of}
use Rattle.level_core.specs.Meaning.{Meaning}
use Rattle.gathered_lists.specs.InOrder.{in_order}
use Rattle.gathered_lists.specs.Rows.{IsOffList, HasList, HoldsEntries}

-- the coordinates are stored, each with one position
pub record IsGathered (letter : Letter) : Type 0 where
  pub unique : (properties letter).unique ≡ true
  pub positions : (capabilities letter).position_iteration ≡ true

-- how many positions are below a parent
abbrev pub width_below : {L : Type 0} → Meaning L → L → Span → ℕ
width_below means l parent = (means.segment_of l parent).hi - (means.segment_of l parent).lo

-- code that changes no array but the list's, and leaves these entries in it
abbrev pub Fills : Setting → List KStmt → ℕ → ℕ → (LoopKind → ℕ) → State → List Entry → Type 0
Fills c code list top most s es = Runs c code top (IsOffList list) most s (HoldsEntries list es) Never

-- Where the flag isn't 0 the code leaves all entries below a parent, whose two ends are given, of a level that the arrays hold, in the
-- list, in increasing order of their coordinates, with one turn for each position of the segment at most. Where the flag is 0 it leaves
-- none.
pub record Gathers {L : Type 0} (means : Meaning L) (letter : Letter) (tensor level list top : ℕ) (flag : KExpr) (parent : List KExpr)
    (code : List KStmt) : Type 0 where
  pub off : (c : Setting) (s : State) → value flag s ≡ Some 0 → HasList list s → Fills c code list top no_turns s []
  pub on : (c : Setting) (s : State) (n : ℕ) → value flag s ≡ Some (suc n) → HasList list s
      → (l : L) → means.kind l ≡ letter → (p : Span) → means.allowed l p → means.holds l tensor level s.arrays
      → ValuesAre parent s (p.lo ∷ p.hi ∷ [])
      → Fills c code list top (turns_of Gather (width_below means l p)) s (in_order (means.entries l p))

-- the list without rows
abbrev pub clear_code : ℕ → List KStmt
clear_code list = Cut (ListCoordinates list) (Num 0) ∷ Cut (ListPositions list) (Num 0) ∷ []

-- a turn of gathering: the entry at a position is pushed, by the code of a coordinate
abbrev pub push_code : ℕ → ℕ → List KStmt
push_code list top =
    If (Var (top + 2)) (Push (ListCoordinates list) (Var (top + 2 + 1)) ∷ Push (ListPositions list) (Var top) ∷ []) []
    ∷ Set top (Bin Add (Var top) (Num 1)) ∷ []

-- the positions of a segment whose ends are left are gone through, and the rows sorted
abbrev pub fill_code : ℕ → ℕ → List KStmt → List KStmt
fill_code list top coord =
    Cut (ListCoordinates list) (Num 0) ∷ Cut (ListPositions list) (Num 0)
    ∷ While Gather (Bin Less (Var top) (Var (top + 1))) (coord ++ push_code list top) ∷ Sort list ∷ []

abbrev pub gather_code : ℕ → ℕ → KExpr → List KStmt → List KStmt → List KStmt
gather_code list top flag segment coord = If flag (segment ++ fill_code list top coord) (clear_code list) ∷ []
