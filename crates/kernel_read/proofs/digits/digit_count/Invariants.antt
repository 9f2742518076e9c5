use Rattle.std.specs.Prelude.{◌≡◌, true, take}
use Rattle.std.specs.Str.{all_ascii_digits}
use Rattle.kernel_read.proofs.digits.digit_count.Given as goal

abbrev pub invariant-loop-i : goal.invariant-loop-i
invariant-loop-i l = all_ascii_digits (take l.i l.text) ≡ true
