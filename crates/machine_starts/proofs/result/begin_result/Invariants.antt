use Rattle.std.proofs.Common.{◌≡◌, ◌+◌, ◌≤◌, drop}
use Rattle.limits.specs.Limits.{greatest_position_count}
use Rattle.format_spec.specs.Formats.{letters_of}
use Rattle.kernel_interpreter.specs.Store.{state_of}
use Rattle.machine_starts.specs.Begun.{begun_result, IsFew}
use Rattle.machine_starts.proofs.result.begin_result.Given as goal

-- what is left of the levels makes the rest
abbrev pub invariant-loop-number : goal.invariant-loop-number
invariant-loop-number l = (l.parents ≤ greatest_position_count)
    × IsFew (drop l.number (letters_of l.format)) (drop l.number l.sizes) l.parents
    × (begun_result l.nothing (drop l.number (letters_of l.format)) (drop l.number l.sizes) l.parents (l.number + 1) (state_of l.machine)
    ≡ begun_result l.nothing (letters_of l.format) l.sizes 1 1 (state_of l.fn.machine))
