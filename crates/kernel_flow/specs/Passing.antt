-- When code passes for other code where facts hold, and which facts hold behind it.
use Rattle.std.specs.Prelude.{◌≡◌, ℕ, suc, List, Some}
use Rattle.kernel_code.specs.declared.syntax.KExpr.{KExpr}
use Rattle.kernel_code.specs.declared.syntax.KStmt.{KStmt}
use Rattle.kernel_code.specs.Meaning.{Setting, State, Outcome, Ended, Stuck, Over, More, value}
use Rattle.kernel_code.specs.More.{IsGood}
use Rattle.simplifier.specs.Refines.{plain}
use Rattle.kernel_flow.specs.declared.facts.Fact.{Fact}
use Rattle.kernel_flow.specs.Facts.{Known, Becomes}

-- the facts hold where a run ends
abbrev pub KnownAfter : List Fact → Outcome → Type 0
KnownAfter facts (Ended s) = Known facts s
KnownAfter facts (Stuck t statement) = Unit {0}
KnownAfter facts (Over t a count) = Unit {0}
KnownAfter facts More = Unit {0}

-- From every state in which the facts hold, however values are added, and whatever number of turns each loop entry may make: unless
-- the old code is stuck the new code ends as it does, with the same variables, arrays and turns, refused the same growth, or without
-- a turn left; and where the old code ends, the other facts hold.
pub record Passes (facts : List Fact) (old new : List KStmt) (after : List Fact) : Type 0 where
  pub same : (c : Setting) (n : ℕ) (s : State) → Known facts s → IsGood (plain c n old s) → plain c n new s ≡ plain c n old s
  pub known : (c : Setting) (n : ℕ) (s : State) → Known facts s → KnownAfter after (plain c n old s)

-- the same of a loop's test and its body, whose facts hold before the test
pub record PassesTurn (facts : List Fact) (test : KExpr) (body : List KStmt) (test' : KExpr) (body' : List KStmt) (after : List Fact)
    : Type 0 where
  pub becomes : Becomes facts test test'
  pub same : (c : Setting) (n : ℕ) (s : State) (v : ℕ) → Known facts s → value test s ≡ Some (suc v) → IsGood (plain c n body s)
      → plain c n body' s ≡ plain c n body s
  pub known : (c : Setting) (n : ℕ) (s : State) (v : ℕ) → Known facts s → value test s ≡ Some (suc v)
      → KnownAfter after (plain c n body s)
