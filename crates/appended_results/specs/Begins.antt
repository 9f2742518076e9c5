-- Before the first row: the variables of each level are set.
use Rattle.std.specs.Prelude.{◌≡◌, ℕ, ◌+◌, ◌*◌, ◌≤◌, ◌<◌, true, false, List, []}
use Rattle.kernel_code.specs.Does.{Does, Never}
use Rattle.kernel_code.specs.Keeps.{Leaves, EveryArray, no_turns}
use Rattle.kernel_code.specs.Meaning.{Setting, State}
use Rattle.kernel_code.specs.declared.syntax.KStmt.{KStmt}
use Rattle.level_core.specs.declared.letter.Letter.{Letter}
use Rattle.level_core.specs.Kinds.{properties}
use Rattle.level_appends.specs.Codes.{IsAtStart, BeginsCursor}
use Rattle.appended_results.specs.Heads.{letter_at}
use Rattle.appended_results.specs.Levels.{cursor_at, IsMine}

-- the cursors of the first d levels that aren't full are at their start, and below `top` only variables of so many levels have changed
pub record Beginning (letters : List Letter) (levels base top d : ℕ) (s0 s : State) : Type 0 where
  pub started : (e : ℕ) → e < d → (properties (letter_at letters e)).full ≡ false → IsAtStart (cursor_at base e) s
  pub leaves : Leaves (IsMine base levels) EveryArray top no_turns s0 s

-- the code of one level: none where it is full
pub record BeginsOne (letter : Letter) (base : ℕ) (code : List KStmt) : Type 0 where
  pub full : (properties letter).full ≡ true → code ≡ []
  pub sparse : (properties letter).full ≡ false → BeginsCursor base code

-- the code begins the first d of so many levels
abbrev pub BeginsFirst : List Letter → ℕ → ℕ → ℕ → List KStmt → Type 0
BeginsFirst letters levels base d code =
    (c : Setting) (top : ℕ) → base + 4 * levels ≤ top → (s : State) → Does c code s (Beginning letters levels base top d s) Never
