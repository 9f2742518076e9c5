-- What is seen of workspaces that are drained: their rows are sorted and summed, the sums are taken one by one, and at last the workspace
-- is emptied.
use Rattle.std.specs.Prelude.{◌≡◌, ℕ, ◌+◌, ◌<◌, ◌≤◌, ◌^◌, List, [], ◌∷◌, ◌++◌, length, Some}
use Rattle.std.specs.List.{range_with_len}
use Rattle.limits.specs.Limits.{greatest_workspace_pairs}
use Rattle.numbers.specs.Arithmetic.{Arithmetic, Laws}
use Rattle.lists.specs.Each.{Each}
use Rattle.kernel_code.specs.declared.syntax.Arr.{Arr}
use Rattle.kernel_code.specs.declared.syntax.Arr.TheVariants.{Range}
use Rattle.kernel_code.specs.declared.syntax.KExpr.{KExpr}
use Rattle.kernel_code.specs.declared.syntax.KStmt.{KStmt}
use Rattle.kernel_code.specs.Does.{Does, Never}
use Rattle.kernel_code.specs.Keeps.{Leaves, NoVariable, no_turns}
use Rattle.kernel_code.specs.Meaning.{Setting, State, value}
use Rattle.tensor_map.specs.Entries.{Entry}
use Rattle.workspaces.specs.Workspaces.{AreSums}
use Rattle.result_targets.specs.Beside.{LeavesLists}
use Rattle.result_targets.specs.Sinks.{Sink, VarsAre}

-- what is seen of the workspaces of a type that are drained; the ranges are those that their sink is told
pub record Draining (W : Type 0) : Type 1 where
  -- the workspaces of a kernel have these numbers of keys: so they suit this one
  pub suits : W → List ℕ → Type 0
  -- of rows that increase, these were taken and those wait
  pub draining : W → Arithmetic → List ℕ → List Entry → List Entry → State → Type 0

pub record DrainingLaws {W : Type 0} (sink : Sink W) (drains : Draining W) : Type 0 where
  -- draining goes on while the workspace's arrays and the ranges stay, whatever else is done
  pub stays : (w : W) (a : Arithmetic) (ranges : List ℕ) (taken waiting : List Entry) (s t : State)
      → ((b : Arr) → (sink.kept w b → ⊥) → t.arrays b ≡ s.arrays b) → t.arrays Range ≡ s.arrays Range
      → drains.draining w a ranges taken waiting s → drains.draining w a ranges taken waiting t
  -- and what it holds stays then too
  pub holds_on : (w : W) (a : Arithmetic) (ranges : List ℕ) (rows : List Entry) (s t : State)
      → ((b : Arr) → (sink.kept w b → ⊥) → t.arrays b ≡ s.arrays b) → t.arrays Range ≡ s.arrays Range
      → sink.holds w a ranges rows s → sink.holds w a ranges rows t
  -- it has no variables, and leaves each scratch list
  pub plain : (w : W) (y : ℕ) → sink.mine w y → ⊥
  pub lists : (w : W) → LeavesLists sink w
  -- there are no more rows than a workspace may have
  pub few : (w : W) (a : Arithmetic) (ranges : List ℕ) (taken waiting : List Entry) (s : State)
      → drains.draining w a ranges taken waiting s → length (taken ++ waiting) ≤ greatest_workspace_pairs

-- each row has a word as its value
abbrev pub AreWords : List Entry → Type 0
AreWords rows = Each (λ (row : Entry). row.value < 2 ^ 64) rows

-- the code sorts and sums the rows that the workspace holds: their sums wait
abbrev pub Sorts : {W : Type 0} → Sink W → Draining W → W → List KStmt → Type 0
Sorts sink drains w code =
    (c : Setting) → Laws c.arithmetic → drains.suits w c.workspaces → (ranges : List ℕ) (rows sums : List Entry)
    → AreSums c.arithmetic rows sums → AreWords sums → (s : State) → sink.holds w c.arithmetic ranges rows s → (top : ℕ)
    → Does c code s (λ t. Leaves NoVariable (sink.kept w) top no_turns s t × drains.draining w c.arithmetic ranges [] sums t) Never

-- the test is 0 where no row waits, else 1: a variable has the place of the next one
pub record TellsWaiting {W : Type 0} (drains : Draining W) (w : W) (at : ℕ) (test : KExpr) : Type 0 where
  pub none : (a : Arithmetic) (ranges : List ℕ) (taken : List Entry) (s : State) → drains.draining w a ranges taken [] s
      → s.vars at ≡ Some (length taken) → value test s ≡ Some 0
  pub some : (a : Arithmetic) (ranges : List ℕ) (taken : List Entry) (row : Entry) (waiting : List Entry) (s : State)
      → drains.draining w a ranges taken (row ∷ waiting) s → s.vars at ≡ Some (length taken) → value test s ≡ Some 1

-- a row was taken: its coordinates stand in the variables from free on, and its value behind them
pub record IsTaken {W : Type 0} (sink : Sink W) (drains : Draining W) (w : W) (a : Arithmetic) (ranges : List ℕ) (free : ℕ)
    (taken : List Entry) (row : Entry) (waiting : List Entry) (s t : State) : Type 0 where
  pub coordinates : VarsAre (range_with_len free (sink.keys w)) row.coords t
  pub value_is : t.vars (free + sink.keys w) ≡ Some row.value
  pub draining : drains.draining w a ranges (taken ++ row ∷ []) waiting t
  pub leaves : Leaves NoVariable (sink.kept w) free no_turns s t

-- the code takes the next row, whose place stands in a variable
abbrev pub TakesRow : {W : Type 0} → Sink W → Draining W → W → ℕ → ℕ → List KStmt → Type 0
TakesRow sink drains w at free code =
    (c : Setting) → Laws c.arithmetic → (ranges : List ℕ) (taken : List Entry) (row : Entry) (waiting : List Entry) (s : State)
    → drains.draining w c.arithmetic ranges taken (row ∷ waiting) s → s.vars at ≡ Some (length taken)
    → Does c code s (IsTaken sink drains w c.arithmetic ranges free taken row waiting s) Never

-- the code empties the workspace once all rows were taken
abbrev pub Empties : {W : Type 0} → Sink W → Draining W → W → List KStmt → Type 0
Empties sink drains w code =
    (c : Setting) (ranges : List ℕ) (taken : List Entry) (s : State) → drains.draining w c.arithmetic ranges taken [] s → (top : ℕ)
    → Does c code s (λ t. Leaves NoVariable (sink.kept w) top no_turns s t × sink.holds w c.arithmetic ranges [] t) Never
