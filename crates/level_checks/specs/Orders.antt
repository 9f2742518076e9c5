-- The least coordinate that may stand behind another.
use Rattle.std.specs.Prelude.{ℕ, ◌+◌, Bool, Option, Some, None}
use Rattle.level_core.specs.Logs.{gap}

-- the least coordinate that may stand behind this one, if there is one
abbrev pub least_behind : Bool → Option ℕ → ℕ
least_behind unique None = 0
least_behind unique (Some x) = x + gap unique
