-- When code does the same as other code.
use Rattle.std.specs.Prelude.{List}
use Rattle.numbers.specs.Arithmetic.{Arithmetic}
use Rattle.kernel_code.specs.declared.syntax.KStmt.{KStmt}
use Rattle.simplifier.specs.Same.{SameRuns}

-- However values are added, from every state, and whatever number of turns each loop entry may make, both end alike; where they are stuck,
-- at whichever statement.
pub record DoesAlike (new old : List KStmt) : Type 0 where
  pub over : (arithmetic : Arithmetic) → SameRuns arithmetic new old
