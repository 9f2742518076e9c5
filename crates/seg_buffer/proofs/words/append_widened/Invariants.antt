use Rattle.std.proofs.Common.{◌≡◌, ◌+◌, ◌++◌, take}
use Rattle.seg_buffer.proofs.words.append_widened.Given as goal

abbrev pub invariant-loop-x : goal.invariant-loop-x
invariant-loop-x l = (l.words.items ≡ l.fn.words.items ++ take l.x-index l.xs) × (l.words.spare + l.x-index ≡ l.fn.words.spare)
