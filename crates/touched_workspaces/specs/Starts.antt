-- Before the first row.
use Rattle.std.specs.Prelude.{◌≡◌, ℕ, List, [], ◌∷◌, Some}
use Rattle.kernel_code.specs.declared.syntax.Arr.TheVariants.{Key, Sums}
use Rattle.kernel_code.specs.declared.syntax.KStmt.{KStmt}
use Rattle.kernel_code.specs.Does.{Does, Never}
use Rattle.kernel_code.specs.Keeps.{Leaves, NoVariable, no_turns}
use Rattle.kernel_code.specs.Meaning.{Setting, State}
use Rattle.touched_workspaces.specs.Sinks.{TouchedSink, HasRange, IsOther, HoldsTouched}

-- the workspace has one key, and no rows
pub record HasNoRows (w : ℕ) (s : State) : Type 0 where
  pub key : s.arrays (Key w 0) ≡ Some []
  pub sums : s.arrays (Sums w) ≡ Some []

-- where two workspaces have no rows and sums begin at zero, the code leaves that they hold none as one of marks and sums does, and
-- nothing else has changed. No growth is refused.
abbrev pub BeginsTouched : TouchedSink → List KStmt → Type 0
BeginsTouched k code =
    (c : Setting) → k.zero ≡ c.arithmetic.zero → (k.dense ≡ k.list → ⊥) → (size : ℕ) (s : State) → HasRange k.variable size s
    → HasNoRows k.dense s → HasNoRows k.list s → (top : ℕ)
    → Does c code s (λ t. Leaves NoVariable (IsOther k) top no_turns s t × HoldsTouched k c.arithmetic (size ∷ []) [] t) Never
