-- One level of a kernel's result to which rows are appended one after another: what arrays and variables have after the first rows.
use Rattle.std.specs.Prelude.{◌≡◌, ℕ, suc, ◌+◌, ◌≤◌, ◌<◌, false, length, Some}
use Rattle.kernel_code.specs.Meaning.{State}
use Rattle.level_core.specs.declared.letter.Letter.{Letter}
use Rattle.level_core.specs.Kinds.{properties}
use Rattle.level_core.specs.Logs.{Log}
use Rattle.level_core.specs.Meaning.{Meaning}
use Rattle.level_rows.specs.Rows.{Rows}
use Rattle.level_rows.proofs.EmitLaws.{HasLog}
use Rattle.level_rows.proofs.Progress.{Progress, Filled}

-- three variables, from base on: the last row's parent, where its positions begin, and how many coordinates are appended
pub record IsOfCursor (base y : ℕ) : Type 0 where
  pub from : base ≤ y
  pub before : y < base + 3

-- the last of the first n rows has this parent
pub record EndsAt (n last : ℕ) (rows : Rows) : Type 0 where
  pub none : n ≡ 0 → last ≡ 0
  pub some : (i : ℕ) → n ≡ suc i → last ≡ rows.parent i

-- the first n rows are appended to a level of this kind and range, for which so many parents are reserved: the positions of all parents
-- before the last row's are given, and those of the last one are pending, as the variables tell where the level isn't branchless
pub record LevelAt {L : Type 0} (means : Meaning L) (letter : Letter) (size level base parents n : ℕ) (rows : Rows) (s : State)
    : Type 0 where
  pub log : Log
  pub held : HasLog means letter size level log s.arrays
  pub last : ℕ
  pub begin : ℕ
  pub progress : Progress letter parents n last begin rows log
  pub ends : EndsAt n last rows
  pub parent_is : (properties letter).branchless ≡ false → s.vars base ≡ Some last
  pub begin_is : (properties letter).branchless ≡ false → s.vars (base + 1) ≡ Some begin
  pub count_is : s.vars (base + 2) ≡ Some (length log.coords)

-- all rows are appended, and each parent has its positions
pub record LevelFilled {L : Type 0} (means : Meaning L) (letter : Letter) (size level parents : ℕ) (rows : Rows) (s : State)
    : Type 0 where
  pub log : Log
  pub held : HasLog means letter size level log s.arrays
  pub filled : Filled parents rows log
