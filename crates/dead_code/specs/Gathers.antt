-- When the values that statements give to variables are written where these are read.
use Rattle.std.specs.Prelude.{◌≡◌, ℕ, ◌-◌, ◌≤◌, List, [], ◌∷◌, ◌++◌, Bool, Option, Some, None, length, drop}
use Rattle.kernel_code.specs.declared.syntax.KExpr.{KExpr, Num}
use Rattle.kernel_code.specs.declared.syntax.KStmt.{KStmt, If}
use Rattle.kernel_code.specs.Meaning.{Setting, State, Outcome, Ended, Stuck, Over, More, value, set_var}
use Rattle.simplifier.specs.Refines.{plain}
use Rattle.dead_code.specs.Follows.{with_vars, Follows}
use Rattle.dead_code.specs.Live.{ReadsLive, Agree, Covers, left_of}

-- where the first expression has a value, the third has the value that the second has once the variable has that value
pub record PutIn (x : ℕ) (e f g : KExpr) : Type 0 where
  pub at : (s : State) (n : ℕ) → value e s ≡ Some n → value g s ≡ value f (set_var s x n)

-- In the second state, which differs from the first in variables that aren't live alone, these expressions have the values that
-- others have in the first.
pub record ReadsBack (live : List Bool) (e f g h : KExpr) (s t : State) : Type 0 where
  pub is : t ≡ with_vars s t.vars
  pub agree : Agree live t.vars s.vars
  pub first : value g s ≡ value e t
  pub second : value h s ≡ value f t

-- so it is of the state in which a run ends
abbrev pub ReadsBackTo : List Bool → KExpr → KExpr → KExpr → KExpr → State → Outcome → Type 0
ReadsBackTo live e f g h s (Ended t) = ReadsBack live e f g h s t
ReadsBackTo live e f g h s (Stuck turns statement) = Unit {0}
ReadsBackTo live e f g h s (Over turns a count) = ⊥
ReadsBackTo live e f g h s More = ⊥

-- Code that isn't stuck does no more than to change variables that aren't live, and two expressions have before it the values that two
-- others have behind it.
pub record Gathers (live : List Bool) (code : List KStmt) (e f g h : KExpr) : Type 0 where
  pub at : (c : Setting) (n : ℕ) (s : State) → ReadsBackTo live e f g h s (plain c n code s)

-- the last so many statements
abbrev pub last_of : ℕ → List KStmt → List KStmt
last_of n code = drop (length code - n) code

-- two operands, with the values that the last statements give to variables written in them: these statements may go where the new
-- operands are read, and all of their variables are live
pub record AreGathered (live after : List Bool) (before : List KStmt) (e f g h : KExpr) (taken : ℕ) : Type 0 where
  pub within : taken ≤ length before
  pub gathers : Gathers after (last_of taken before) e f g h
  pub covers : Covers live after
  pub first : ReadsLive live g
  pub second : ReadsLive live h

-- what is left of a statement and of the last statements before it
pub record Leaves (live : List Bool) (before : List KStmt) (s : KStmt) (left : Option KStmt) (taken : ℕ) (after : List Bool) : Type 0 where
  pub within : taken ≤ length before
  pub follows : Follows (Agree live) (last_of taken before ++ s ∷ []) (left_of left) (Agree after)

-- What is left of a choice, before whose bodies these variables are live: nothing where nothing is left of them; and else its test is
-- read before them.
pub data IsLeftOfChoice (live there elsewhere : List Bool) (before : List KStmt) (test : KExpr) (one other : List KStmt)
    (left : Option KStmt) (taken : ℕ) : Type 0 where
  Nothing : one ≡ [] → other ≡ [] → left ≡ None → taken ≡ 0 → Covers live there → Covers live elsewhere
      → IsLeftOfChoice live there elsewhere before test one other left taken
  Choice : (inside : List Bool) (g h : KExpr) → Covers inside there → Covers inside elsewhere
      → AreGathered live inside before test (Num 0) g h taken → left ≡ Some (If g one other)
      → IsLeftOfChoice live there elsewhere before test one other left taken
