-- What is known under a test.
use Rattle.std.specs.Prelude.{◌≡◌, ℕ, suc, List, Some}
use Rattle.kernel_code.specs.declared.syntax.KExpr.{KExpr, Num}
use Rattle.kernel_code.specs.Meaning.{State, value}
use Rattle.kernel_flow.specs.declared.facts.Fact.{Fact}
use Rattle.kernel_flow.specs.Facts.{Holds, AllHold}

-- an expression's value is this number
abbrev pub is_value : KExpr → ℕ → Fact
is_value e n = record { left = e; right = Num n }

-- where two expressions have one value, others hold
pub record WhereSame (a b : KExpr) (facts others : List Fact) : Type 0 where
  pub at : (s : State) → value a s ≡ value b s → AllHold facts s → AllHold others s

-- where an expression isn't 0, others hold
pub record Sides (t : KExpr) (facts others : List Fact) : Type 0 where
  pub at : (s : State) (v : ℕ) → value t s ≡ Some (suc v) → AllHold facts s → AllHold others s

-- where a fact holds and a test's value is this number, others hold
pub record Tells (f : Fact) (test : KExpr) (n : ℕ) (facts others : List Fact) : Type 0 where
  pub at : (s : State) → Holds f s → value test s ≡ Some n → AllHold facts s → AllHold others s

-- Others hold where a test is 1 and a fact holds beside these, and where the test is 0 and what is known elsewhere holds beside these.
pub record Joins (f : Fact) (test : KExpr) (elsewhere facts others : List Fact) : Type 0 where
  pub there : (s : State) → Holds f s → Holds (is_value test 1) s → AllHold facts s → AllHold others s
  pub otherwise : (s : State) → AllHold elsewhere s → Holds (is_value test 0) s → AllHold facts s → AllHold others s
