-- A run that ends, is stuck or is refused a growth within n turns does the same within more. One that isn't stuck where arrays of the
-- result are only appended to does the same where they may be cut.
use Rattle.std.specs.Prelude.{◌≡◌, ℕ, ◌≤◌, Bool, false, List, Option}
use Rattle.numbers.specs.Arithmetic.{Arithmetic}
use Rattle.kernel_code.specs.declared.syntax.Arr.{Arr}
use Rattle.kernel_code.specs.declared.syntax.Kernel.{Kernel}
use Rattle.kernel_code.specs.declared.syntax.KStmt.{KStmt}
use Rattle.kernel_code.specs.Meaning.{Setting, State, Outcome, Ended, Stuck, Over, More, run_list}
use Rattle.kernel_code.specs.Kernels.{go_by, NotFinished}

-- a run that more turns don't change
abbrev pub Settled : Outcome → Type 0
Settled (Ended s) = Unit {0}
Settled (Stuck t statement) = Unit {0}
Settled (Over t a count) = Unit {0}
Settled More = ⊥

-- a run that isn't stuck
abbrev pub IsGood : Outcome → Type 0
IsGood (Ended s) = Unit {0}
IsGood (Stuck t statement) = ⊥
IsGood (Over t a count) = Unit {0}
IsGood More = Unit {0}

-- the same setting, where arrays of the result may not be cut
abbrev pub appending : Setting → Setting
appending c = record c { cuts_results = false }

-- code that isn't stuck where arrays of the result may not be cut does the same where they may
abbrev pub AppendsAlike : Type 0
AppendsAlike = (c : Setting) (n : ℕ) (code : List KStmt) (s : State) → IsGood (run_list (appending c) n code s)
    → run_list c n code s ≡ run_list (appending c) n code s

-- a kernel that finishes, is stuck or is refused a growth within n turns does the same within more
abbrev pub GoesOn : Type 0
GoesOn = (cuts : Bool) (arithmetic : Arithmetic) (order : ℕ) (k : Kernel) (given : Arr → Option (List ℕ)) (n m : ℕ) → n ≤ m
    → (go_by cuts arithmetic order k given n ≡ NotFinished → ⊥)
    → go_by cuts arithmetic order k given m ≡ go_by cuts arithmetic order k given n
