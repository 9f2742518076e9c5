use Rattle.std.proofs.Common.{◌≡◌, ◌++◌, drop}
use Rattle.format_spec.specs.Formats.{letters_of}
use Rattle.machine_starts.specs.Begun.{sizes_lent}
use Rattle.machine_starts.proofs.result.sizes_lent.Given as goal

-- what is left of the levels has the rest
abbrev pub invariant-loop-number : goal.invariant-loop-number
invariant-loop-number l =
    l.lent.items ++ sizes_lent (drop l.number (letters_of l.format)) (drop l.number l.sizes) ≡ sizes_lent (letters_of l.format) l.sizes
