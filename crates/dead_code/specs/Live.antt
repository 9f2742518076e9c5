-- Which variables may be read behind a place of code: a test for each variable, and those past the end may be.
use Rattle.std.specs.Prelude.{◌≡◌, ◌≢◌, ℕ, ◌<◌, Bool, true, List, [], ◌∷◌, Option, Some, None, slice_get}
use Rattle.kernel_code.specs.declared.syntax.KExpr.{KExpr}
use Rattle.kernel_code.specs.declared.syntax.KStmt.{KStmt}
use Rattle.kernel_code.specs.Keeps.{Mentions, EveryArray}
use Rattle.dead_code.specs.Follows.{Vars}

abbrev pub told_live : Option Bool → Bool
told_live None = true
told_live (Some b) = b

-- whether a variable may be read
abbrev pub is_live : List Bool → ℕ → Bool
is_live live x = told_live (slice_get live x)

-- whichever variable is live in the second is live in the first
pub record Covers (live other : List Bool) : Type 0 where
  pub at : (x : ℕ) → is_live other x ≡ true → is_live live x ≡ true

-- so it is but for one variable
pub record CoversBut (x : ℕ) (live other : List Bool) : Type 0 where
  pub at : (y : ℕ) → x ≢ y → is_live other y ≡ true → is_live live y ≡ true

-- so it is of the variables below a number
pub record CoversBelow (n : ℕ) (live other : List Bool) : Type 0 where
  pub at : (x : ℕ) → x < n → is_live other x ≡ true → is_live live x ≡ true

-- each variable that an expression mentions is live
pub record ReadsLive (live : List Bool) (e : KExpr) : Type 0 where
  pub mentions : Mentions (λ x. is_live live x ≡ true) EveryArray e

-- live variables have one value
pub record Agree (live : List Bool) (v w : Vars) : Type 0 where
  pub at : (x : ℕ) → is_live live x ≡ true → w x ≡ v x

-- what is left of a statement, if anything
abbrev pub left_of : Option KStmt → List KStmt
left_of None = []
left_of (Some s) = s ∷ []
