use Rattle.std.proofs.Common.{◌≡◌, ℕ, ◌<◌, ◌≤◌, get_or}
use Rattle.std.specs.Prelude.{Some, Ok}
use Rattle.tns_io.specs.Reading.{coordinate_from}
use Rattle.tns_io.proofs.plain_lines.count_from_zero.Given as goal

abbrev pub invariant-loop-number : goal.invariant-loop-number
invariant-loop-number l = record {
  done : (mode : ℕ) → mode < l.number-index → coordinate_from (Some (get_or l.initial.numbers mode 0)) ≡ Ok (get_or l.numbers mode 0);
  left : (mode : ℕ) → l.number-index ≤ mode → get_or l.numbers mode 0 ≡ get_or l.initial.numbers mode 0;
}
