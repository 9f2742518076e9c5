-- Facts that code keeps since it sets none of their variables.
use Rattle.std.specs.Prelude.{◌≡◌, ℕ, Bool, true, false, List, Option, Some, None, slice_get}
use Rattle.kernel_code.specs.declared.syntax.KStmt.{KStmt}
use Rattle.kernel_flow.specs.declared.facts.Fact.{Fact}
use Rattle.kernel_flow.specs.Facts.{Survives}
use Rattle.kernel_flow.specs.Passing.{Passes}

abbrev pub told_in : Option Bool → Bool
told_in None = false
told_in (Some b) = b

-- whether a variable is one of some, of which there is a test for each; one past the end isn't
abbrev pub is_in : List Bool → ℕ → Bool
is_in some x = told_in (slice_get some x)

-- the facts hold on while any of some variables changes
pub record AreApart (some : List Bool) (facts : List Fact) : Type 0 where
  pub at : (x : ℕ) → is_in some x ≡ true → Survives x facts facts

-- code keeps all facts that hold on while any of some variables changes
pub record KeepsApart (some : List Bool) (code : List KStmt) : Type 0 where
  pub at : (facts : List Fact) → AreApart some facts → Passes facts code code facts
