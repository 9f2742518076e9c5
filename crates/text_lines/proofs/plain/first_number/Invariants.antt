use Rattle.std.proofs.Common.{◌≡◌, take}
use Rattle.std.specs.Str.Parse.{AllDigits, digits_value}
use Rattle.text_lines.proofs.plain.first_number.Given as goal

abbrev pub invariant-loop-end : goal.invariant-loop-end
invariant-loop-end l = record {
  digits : AllDigits 10 (take l.end l.text);
  number : l.number ≡ digits_value 10 (take l.end l.text);
}
