-- Where the rows that loops add go, what it is that code adds rows, and the code of one row.
use Rattle.std.specs.Prelude.{◌≡◌, ℕ, ◌<◌, List, [], ◌∷◌, ◌++◌, length, Some}
use Rattle.numbers.specs.Arithmetic.{Arithmetic, Laws}
use Rattle.kernel_code.specs.declared.syntax.Arr.{Arr}
use Rattle.kernel_code.specs.declared.syntax.LoopKind.{LoopKind}
use Rattle.kernel_code.specs.declared.syntax.KStmt.{KStmt}
use Rattle.kernel_code.specs.Meaning.{Setting, State}
use Rattle.kernel_code.specs.Does.{Does}
use Rattle.kernel_code.specs.Keeps.{Leaves, no_turns}
use Rattle.level_core.specs.Fragments.{RefusedWithin}
use Rattle.tensor_map.specs.Entries.{Entry}
use Rattle.result_targets.specs.Scratch.{SameButLists}

-- what is seen of the sinks of a type. The numbers in a list are the ranges of the modes of the result.
pub record Sink (K : Type 0) : Type 1 where
  -- the variables that it changes
  pub mine : K → ℕ → Type 0
  -- the arrays that it leaves
  pub kept : K → Arr → Type 0
  -- how many coordinates a row has
  pub keys : K → ℕ
  -- the row that it may be given behind those that it holds
  pub takes : K → List ℕ → List Entry → Entry → Type 0
  -- it holds these rows, as far as a sink tells: one that adds the values at equal coordinates does so by this arithmetic
  pub holds : K → Arithmetic → List ℕ → List Entry → State → Type 0
  -- the growth that may be refused where it is to hold these rows: of an array, to a count that is told
  pub refused : K → List ℕ → List Entry → Arr → ℕ → Type 0

pub record SinkLaws {K : Type 0} (sink : Sink K) : Type 0 where
  -- a row that may be given has so many coordinates
  pub long : (k : K) (ranges : List ℕ) (rows : List Entry) (row : Entry) → sink.takes k ranges rows row
      → length row.coords ≡ sink.keys k
  -- what it holds stays while its variables and the arrays do, whatever rows scratch lists have
  pub same : (k : K) (a : Arithmetic) (ranges : List ℕ) (rows : List Entry) (s t : State)
      → ((y : ℕ) → sink.mine k y → t.vars y ≡ s.vars y) → SameButLists s t
      → sink.holds k a ranges rows s → sink.holds k a ranges rows t
  -- more rows are refused no less
  pub more : (k : K) (ranges : List ℕ) (rows others : List Entry) (b : Arr) (count : ℕ) → sink.refused k ranges rows b count
      → sink.refused k ranges (rows ++ others) b count

-- each of these rows may be given in its turn, behind some that are held
abbrev pub TakesAll : {K : Type 0} → Sink K → K → List ℕ → List Entry → List Entry → Type 0
TakesAll sink k ranges before [] = Unit {0}
TakesAll sink k ranges before (row ∷ rows) = sink.takes k ranges before row × TakesAll sink k ranges (before ++ row ∷ []) rows

-- the code adds rows to those that the sink holds, and leaves all else below free, within so many turns of each kind; or it is
-- refused a growth, as the sink may be
abbrev pub Adds : {K : Type 0} → Sink K → K → Setting → List ℕ → List KStmt → ℕ → (LoopKind → ℕ) → List Entry → List Entry
    → State → Type 0
Adds sink k c ranges code free most before rows s =
    Does c code s (λ t. Leaves (sink.mine k) (sink.kept k) free most s t × sink.holds k c.arithmetic ranges (before ++ rows) t)
    (RefusedWithin most s (sink.refused k ranges (before ++ rows)))

-- these variables have these numbers
abbrev pub VarsAre : List ℕ → List ℕ → State → Type 0
VarsAre [] [] s = Unit {0}
VarsAre [] (x ∷ xs) s = ⊥
VarsAre (y ∷ ys) [] s = ⊥
VarsAre (y ∷ ys) (x ∷ xs) s = (s.vars y ≡ Some x) × VarsAre ys xs s

-- code that adds a row to those that the sink holds, whose variables are all below free: the row's coordinates and its value
-- stand in variables. It takes no turns.
abbrev pub AddsTo : {K : Type 0} → Sink K → K → List ℕ → ℕ → ℕ → List KStmt → Type 0
AddsTo sink k keys value free code =
    (c : Setting) → Laws c.arithmetic → ((y : ℕ) → sink.mine k y → y < free)
    → (ranges : List ℕ) (rows : List Entry) (row : Entry) → sink.takes k ranges rows row
    → (s : State) → VarsAre keys row.coords s → s.vars value ≡ Some row.value → sink.holds k c.arithmetic ranges rows s
    → Adds sink k c ranges code free no_turns rows (row ∷ []) s
