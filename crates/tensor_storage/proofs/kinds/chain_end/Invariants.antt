use Rattle.std.specs.Prelude.{◌≡◌, ◌≤◌, ◌+◌, ◌-◌, length, drop}
use Rattle.format_spec.specs.Formats.{letters_of}
use Rattle.tensor_storage.specs.Chains.{chain_length}
use Rattle.tensor_storage.proofs.kinds.chain_end.Given as goal

abbrev pub invariant-loop-end : goal.invariant-loop-end
invariant-loop-end l = (l.end ≤ length l.format)
    × (l.end + chain_length (drop l.end (letters_of l.format)) ≡ l.fn.level + chain_length (drop l.fn.level (letters_of l.format)))

abbrev pub decreases-loop-end : goal.decreases-loop-end
decreases-loop-end l = length l.format - l.end
