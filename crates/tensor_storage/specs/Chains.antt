-- Chains of levels with groups, whose positions all begin where coordinates through the chain's end differ.
use Rattle.std.specs.Prelude.{ℕ, ◌+◌, if◌then◌else◌, List, [], ◌∷◌}
use Rattle.level_core.specs.declared.letter.Letter.{Letter}
use Rattle.level_core.specs.Kinds.{properties}

-- how many levels there are through the first that is unique: behind the last one more
abbrev pub chain_length : List Letter → ℕ
chain_length [] = 1
chain_length (letter ∷ letters) = if (properties letter).unique then 1 else chain_length letters + 1
