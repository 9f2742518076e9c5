-- Pieces of the code of one level: what changes the number of its parents or positions, where that number isn't the same from the start.
use Rattle.std.specs.Prelude.{◌≡◌, ℕ, suc, ◌+◌, ◌*◌, true, false, List, []}
use Rattle.kernel_code.specs.declared.syntax.KExpr.{Var}
use Rattle.kernel_code.specs.declared.syntax.KStmt.{KStmt}
use Rattle.level_core.specs.declared.letter.Letter.{Letter}
use Rattle.tensor_storage.specs.Levels.{meaning}
use Rattle.level_appends.specs.Codes.{ReservesParents}
use Rattle.level_appends.specs.Positions.{CountsPositions}
use Rattle.appended_results.specs.Heads.{letter_at}
use Rattle.appended_results.specs.Places.{is_fixed}
use Rattle.appended_results.specs.Levels.{cursor_at}

-- a code that reserves as many parents as there are, if their number changes
pub data Reserves (letters : List Letter) (base free d inner : ℕ) (code : List KStmt) : Type 0 where
  AsBefore : is_fixed letters d ≡ true → code ≡ [] → Reserves letters base free d inner code
  Anew : is_fixed letters d ≡ false
      → ReservesParents meaning (letter_at letters d) (suc d) (cursor_at base d) (Var (free + 2 * d + 1)) inner code
      → Reserves letters base free d inner code

-- a code that counts the level's positions, if their number changes
pub data Counts (letters : List Letter) (free d : ℕ) (code : List KStmt) : Type 0 where
  AsCounted : is_fixed letters d ≡ true → code ≡ [] → Counts letters free d code
  Recounted : is_fixed letters d ≡ false → CountsPositions (suc d) (free + 2 * suc d + 1) (Var (free + 2 * d + 1)) code
      → Counts letters free d code
