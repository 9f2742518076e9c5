-- When statements right before a choice may stand in its bodies.
use Rattle.std.specs.Prelude.{◌≡◌, ◌≢◌, ℕ, ◌-◌, List, length, drop}
use Rattle.kernel_code.specs.declared.syntax.KExpr.{KExpr}
use Rattle.kernel_code.specs.declared.syntax.KStmt.{KStmt}
use Rattle.kernel_code.specs.Keeps.{Mentions, EveryArray}
use Rattle.kernel_code.specs.Meaning.{Setting, State, Outcome, Ended, Stuck, Over, More, value}
use Rattle.simplifier.specs.Refines.{plain}

-- an expression doesn't mention a variable
pub record Avoids (x : ℕ) (e : KExpr) : Type 0 where
  pub mentions : Mentions (λ y. x ≢ y) EveryArray e

-- a run from a state that makes no turn: it ends in a state in which an expression has the same value, or is stuck
abbrev pub LeavesValueTo : KExpr → State → Outcome → Type 0
LeavesValueTo e s (Ended t) = (value e t ≡ value e s) × (t.turns ≡ s.turns)
LeavesValueTo e s (Stuck turns statement) = (turns ≡ s.turns) × (statement ≡ 1)
LeavesValueTo e s (Over turns a count) = ⊥
LeavesValueTo e s More = ⊥

-- so it is of every run of code
pub record LeavesValue (code : List KStmt) (e : KExpr) : Type 0 where
  pub at : (c : Setting) (n : ℕ) (s : State) → LeavesValueTo e s (plain c n code s)

-- the last so many statements
abbrev pub last_of : ℕ → List KStmt → List KStmt
last_of n code = drop (length code - n) code
