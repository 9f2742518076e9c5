-- When code does what other code does, from a state with other variables.
use Rattle.std.specs.Prelude.{◌≡◌, ℕ, List, Option}
use Rattle.kernel_code.specs.declared.syntax.KExpr.{KExpr}
use Rattle.kernel_code.specs.declared.syntax.KStmt.{KStmt}
use Rattle.kernel_code.specs.Meaning.{Setting, State, Outcome, Ended, Stuck, Over, More, value}
use Rattle.simplifier.specs.Refines.{plain}

-- the value of each variable that has one
abbrev pub Vars : Type 0
Vars = ℕ → Option ℕ

-- what ties the variables of one run to those of another
abbrev pub Tie : Type 1
Tie = Vars → Vars → Type 0

-- a state with other variables
abbrev pub with_vars : State → Vars → State
with_vars s vars = record s { vars = vars }

-- a run that ends in this state but for its variables, which are tied
pub record EndsTied (tie : Tie) (s : State) (o : Outcome) : Type 0 where
  pub vars : Vars
  pub is : o ≡ Ended (with_vars s vars)
  pub tied : tie s.vars vars

-- unless the first run is stuck, the second ends as it does, but for its variables, which are tied
abbrev pub EndsAlike : Tie → Outcome → Outcome → Type 0
EndsAlike tie (Ended s) o = EndsTied tie s o
EndsAlike tie (Stuck t statement) o = Unit {0}
EndsAlike tie (Over t a count) o = o ≡ Over t a count
EndsAlike tie More o = o ≡ More

-- From every state and one whose variables are tied to its own, however values are added, and whatever number of turns each loop entry
-- may make: unless the old code is stuck, the new code ends as it does, but for the variables, which are tied.
pub record Follows (before : Tie) (old new : List KStmt) (after : Tie) : Type 0 where
  pub at : (c : Setting) (n : ℕ) (s : State) (vars : Vars) → before s.vars vars
      → EndsAlike after (plain c n old s) (plain c n new (with_vars s vars))

-- where variables are tied, the second expression has the value of the first
pub record ReadsAs (tie : Tie) (e f : KExpr) : Type 0 where
  pub at : (s : State) (vars : Vars) → tie s.vars vars → value f (with_vars s vars) ≡ value e s
