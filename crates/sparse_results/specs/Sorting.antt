-- What sorting a workspace leaves: the sums of its rows.
use Rattle.std.specs.Prelude.{◌≡◌, ℕ, List, [], ◌∷◌, length, slice_get, Some}
use Rattle.kernel_code.specs.Does.{Does, Never}
use Rattle.kernel_code.specs.Keeps.{Leaves, NoVariable, no_turns}
use Rattle.kernel_code.specs.Meaning.{Setting, State}
use Rattle.kernel_code.specs.declared.syntax.KStmt.{SortSum}
use Rattle.tensor_map.specs.Entries.{Entry}
use Rattle.lists.specs.Each.{Each}
use Rattle.concrete_notation.specs.Contributions.{sums_of}
use Rattle.term_code.specs.WorkspaceSinks.{HoldsRows, IsOfWorkspace}

-- a workspace that held rows holds their sums, and nothing else has changed
pub record LeavesSums (w keys : ℕ) (sums : List Entry) (s t : State) : Type 0 where
  pub holds : HoldsRows w keys sums t.arrays
  pub leaves : (top : ℕ) → Leaves NoVariable (λ b. IsOfWorkspace w b → ⊥) top no_turns s t

abbrev pub SortingSums : Type 0
SortingSums = (c : Setting) (w keys : ℕ) → slice_get c.workspaces w ≡ Some keys
    → (rows : List Entry) → Each (λ (row : Entry). length row.coords ≡ keys) rows
    → (s : State) → HoldsRows w keys rows s.arrays
    → Does c (SortSum w ∷ []) s (LeavesSums w keys (sums_of c.arithmetic rows) s) Never
