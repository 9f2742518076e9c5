-- Coordinates that are appended, one or more.
use Rattle.std.specs.Prelude.{ℕ, List, [], ◌∷◌, ◌++◌}
use Rattle.level_core.specs.declared.letter.Letter.{Letter}
use Rattle.level_core.specs.GroupLaws.{CoordsBelow}
use Rattle.level_core.specs.Logs.{Log, MayAppend, MayAppendAll}

-- one coordinate that may come
pub may_append_one : (letter : Letter) (n x : ℕ) (log : Log) → MayAppend letter n x log → MayAppendAll letter n (x ∷ []) log
may_append_one letter n x log may = record { unfinished = may.unfinished; below = (may.below, tt); rises = may.rises }

-- coordinates below a range, and more of them
pub below_append : (n : ℕ) (xs ys : List ℕ) → CoordsBelow n xs → CoordsBelow n ys → CoordsBelow n (xs ++ ys)
below_append n [] ys b c = c
below_append n (x ∷ xs) ys b c = (b.0, below_append n xs ys b.1 c)
