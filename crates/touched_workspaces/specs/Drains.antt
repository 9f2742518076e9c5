-- Draining: once the list is sorted, its rows are taken from the top. Those that wait have their marks and sums, those that were taken have
-- their sums in the list, and neither marks nor sums any more. So whether a range is large or not, what is left of rows are their sums.
use Rattle.std.specs.Prelude.{◌≡◌, ℕ, ◌+◌, ◌<◌, ◌≤◌, List, [], ◌∷◌, ◌++◌, length, replicate, Option, Some, slice_get}
use Rattle.std.specs.Prelude.{slice_index}
use Rattle.limits.specs.Limits.{greatest_workspace_pairs}
use Rattle.numbers.specs.Arithmetic.{Arithmetic, Laws}
use Rattle.lists.specs.Each.{Each}
use Rattle.kernel_code.specs.declared.syntax.Arr.{Arr}
use Rattle.kernel_code.specs.declared.syntax.Arr.TheVariants.{Key, Sums}
use Rattle.kernel_code.specs.declared.syntax.KExpr.{KExpr}
use Rattle.kernel_code.specs.declared.syntax.KStmt.{KStmt, SortSum}
use Rattle.kernel_code.specs.Does.{Does, Never}
use Rattle.kernel_code.specs.Keeps.{Leaves, NoVariable, no_turns}
use Rattle.kernel_code.specs.Meaning.{Setting, State, value, word_of}
use Rattle.tensor_map.specs.Entries.{Entry, StrictlyIncreasing}
use Rattle.workspaces.specs.Workspaces.{AreSums}
use Rattle.concrete_notation.specs.Contributions.{sums_of}
use Rattle.term_code.specs.WorkspaceSinks.{HoldsRows, column, values}
use Rattle.touched_workspaces.specs.Sinks.{TouchedSink, HasRange, IsOther, HoldsTouched, IsTouching}
use Rattle.touched_workspaces.specs.Sizes.{greatest_marked_range}
use Rattle.touched_workspaces.specs.Touched.{stands, AreSummed}

-- the marks are 1 exactly at the coordinates of these rows
pub record AreMarksOf (dense size : ℕ) (rows : List Entry) (arrays : Arr → Option (List ℕ)) : Type 0 where
  pub marks : List ℕ
  pub held : arrays (Key dense 0) ≡ Some marks
  pub many : length marks ≡ size
  pub each : (x : ℕ) → x < size → slice_index marks x ≡ word_of (stands (column 0 rows) x)

-- the list has the values of rows that were taken and zeros for those that wait, and these have marks and sums
pub record AreWaiting (k : TouchedSink) (a : Arithmetic) (size : ℕ) (taken waiting : List Entry) (arrays : Arr → Option (List ℕ))
    : Type 0 where
  pub values_are : arrays (Sums k.list) ≡ Some (values taken ++ replicate (length waiting) a.zero)
  pub marked : AreMarksOf k.dense size waiting arrays
  pub summed : AreSummed k.dense size a waiting arrays

-- of rows that increase, these were taken and those wait
pub record IsDraining (k : TouchedSink) (a : Arithmetic) (size : ℕ) (taken waiting : List Entry) (s : State) : Type 0 where
  pub range : HasRange k.variable size s
  pub zero_is : k.zero ≡ a.zero
  pub apart : k.dense ≡ k.list → ⊥
  pub increasing : StrictlyIncreasing waiting
  pub each : Each (IsTouching (size ∷ [])) waiting
  pub few : length (taken ++ waiting) ≤ greatest_workspace_pairs
  pub keys_are : s.arrays (Key k.list 0) ≡ Some (column 0 (taken ++ waiting))
  pub marked : size ≤ greatest_marked_range → AreWaiting k a size taken waiting s.arrays
  pub pushed : greatest_marked_range < size → s.arrays (Sums k.list) ≡ Some (values (taken ++ waiting))

-- the list sorted, the sums of the rows wait: they are those of the rows that were added, by coordinates, in increasing order
abbrev pub SortingTouched : Type 0
SortingTouched = (k : TouchedSink) (c : Setting) → Laws c.arithmetic → slice_get c.workspaces k.list ≡ Some 1
    → (size : ℕ) (rows : List Entry) (s : State) → HoldsTouched k c.arithmetic (size ∷ []) rows s → (top : ℕ)
    → Does c (SortSum k.list ∷ []) s
    (λ t. Leaves NoVariable (IsOther k) top no_turns s t × IsDraining k c.arithmetic size [] (sums_of c.arithmetic rows) t) Never

-- the code takes the next row: the place of that row stands in a variable
abbrev pub TakesNext : TouchedSink → ℕ → ℕ → List KStmt → Type 0
TakesNext k at free code =
    (c : Setting) → Laws c.arithmetic → (size : ℕ) (taken : List Entry) (row : Entry) (waiting : List Entry) (s : State)
    → IsDraining k c.arithmetic size taken (row ∷ waiting) s → s.vars at ≡ Some (length taken)
    → Does c code s
    (λ t. Leaves NoVariable (IsOther k) free no_turns s t × IsDraining k c.arithmetic size (taken ++ row ∷ []) waiting t) Never

-- and leaves its coordinate in variable free, and its value in the next one
pub record IsTakenRow (k : TouchedSink) (a : Arithmetic) (size free : ℕ) (taken : List Entry) (row : Entry) (waiting : List Entry)
    (s t : State) : Type 0 where
  pub coordinate : t.vars free ≡ Some (slice_index row.coords 0)
  pub value_is : t.vars (free + 1) ≡ Some row.value
  pub draining : IsDraining k a size (taken ++ row ∷ []) waiting t
  pub leaves : Leaves NoVariable (IsOther k) free no_turns s t

abbrev pub TakesRow : TouchedSink → ℕ → ℕ → List KStmt → Type 0
TakesRow k at free code =
    (c : Setting) → Laws c.arithmetic → (size : ℕ) (taken : List Entry) (row : Entry) (waiting : List Entry) (s : State)
    → IsDraining k c.arithmetic size taken (row ∷ waiting) s → s.vars at ≡ Some (length taken)
    → Does c code s (IsTakenRow k c.arithmetic size free taken row waiting s) Never

-- the test is 0 where no row waits, else 1: the place of the next one stands in a variable
pub record TellsWaiting (k : TouchedSink) (at : ℕ) (test : KExpr) : Type 0 where
  pub none : (a : Arithmetic) (size : ℕ) (taken : List Entry) (s : State) → IsDraining k a size taken [] s
      → s.vars at ≡ Some (length taken) → value test s ≡ Some 0
  pub some : (a : Arithmetic) (size : ℕ) (taken : List Entry) (row : Entry) (waiting : List Entry) (s : State)
      → IsDraining k a size taken (row ∷ waiting) s → s.vars at ≡ Some (length taken) → value test s ≡ Some 1

-- all rows were taken: the list has them, and where the range isn't large no mark and no sum is left
pub record HoldsTaken (k : TouchedSink) (a : Arithmetic) (size : ℕ) (taken : List Entry) (s : State) : Type 0 where
  pub listed : HoldsRows k.list 1 taken s.arrays
  pub unmarked : size ≤ greatest_marked_range → AreMarksOf k.dense size [] s.arrays
  pub no_sums : size ≤ greatest_marked_range → AreSummed k.dense size a [] s.arrays

abbrev pub TakenAll : Type 0
TakenAll =
    (k : TouchedSink) (a : Arithmetic) (size : ℕ) (taken : List Entry) (s : State) → IsDraining k a size taken [] s
    → HoldsTaken k a size taken s

-- the list holds the sums that a workspace of pairs drains to which these rows were added
pub record HoldsPairSums (k : TouchedSink) (a : Arithmetic) (rows : List Entry) (s : State) : Type 0 where
  pub sums : List Entry
  pub held : HoldsRows k.list 1 sums s.arrays
  pub are : AreSums a rows sums

abbrev pub DrainedAsPairs : Type 0
DrainedAsPairs =
    (k : TouchedSink) (a : Arithmetic) → Laws a → (size : ℕ) (rows : List Entry) (s : State)
    → IsDraining k a size (sums_of a rows) [] s → HoldsPairSums k a rows s

-- the code empties the list once all rows were taken: the two workspaces hold no rows
abbrev pub EmptiesTouched : TouchedSink → List KStmt → Type 0
EmptiesTouched k code =
    (c : Setting) (size : ℕ) (taken : List Entry) (s : State) → IsDraining k c.arithmetic size taken [] s → (top : ℕ)
    → Does c code s (λ t. Leaves NoVariable (IsOther k) top no_turns s t × HoldsTouched k c.arithmetic (size ∷ []) [] t) Never
