use Rattle.std.specs.Prelude.{◌≤◌, ◌+◌, ℕ, drop}
use Rattle.limits.specs.Limits.{greatest_position_count}
use Rattle.format_spec.specs.Formats.{letters_of}
use Rattle.kernel_correctness.specs.Stores.{StartsFew}
use Rattle.kernel_machine.specs.Begins.{IsTooLarge}
use Rattle.kernel_machine.proofs.sizes.first_too_large.Given as goal

-- no level so far is too large: what is said of those that are left is said of all
abbrev pub invariant-loop-number : goal.invariant-loop-number
invariant-loop-number l = (l.parents ≤ greatest_position_count)
    × (StartsFew (drop l.number (letters_of l.format)) (drop l.number l.sizes) l.parents → StartsFew (letters_of l.format) l.sizes 1)
    × ((level count : ℕ) → IsTooLarge (drop l.number (letters_of l.format)) (drop l.number l.sizes) l.parents (l.number + 1) level count
    → IsTooLarge (letters_of l.format) l.sizes 1 1 level count)
