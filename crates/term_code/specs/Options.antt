-- Code that leaves a value that may be absent, by where loops are.
use Rattle.std.specs.Prelude.{◌≡◌, ℕ, Bool, List, Option}
use Rattle.numbers.specs.Arithmetic.{Arithmetic}
use Rattle.kernel_code.specs.declared.syntax.KStmt.{KStmt}
use Rattle.kernel_code.specs.Meaning.{Setting, State}
use Rattle.kernel_code.specs.Keeps.{no_turns}
use Rattle.level_core.specs.Fragments.{Reads, OptionLeft}
use Rattle.loop_code.specs.Loops.{Env, Stored}
use Rattle.term_code.specs.Places.{Places, Keeps, HasValues}

-- wherever the places are kept and those of these accesses that are present have their values, the code leaves, in two variables from
-- free on, 1 and the value, or 0 where there is none. It changes nothing else and takes no turns.
abbrev pub LeavesOption : Arithmetic → Places → (ℕ → Bool) → (Stored → Env → Option ℕ) → ℕ → List KStmt → Type 0
LeavesOption a places these option free code =
    (c : Setting) → c.arithmetic ≡ a → (stored : Stored) (bound : List ℕ) (env : Env) (s : State)
    → Keeps places bound env s → HasValues these places stored env s → Reads c code free no_turns s (OptionLeft free (option stored env))
