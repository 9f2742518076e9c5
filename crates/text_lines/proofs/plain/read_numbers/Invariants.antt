use Rattle.std.proofs.Common.{take}
use Rattle.text_lines.specs.Plain.{LeadsWith}
use Rattle.text_lines.proofs.plain.read_numbers.Given as goal

abbrev pub invariant-loop-number : goal.invariant-loop-number
invariant-loop-number l = LeadsWith l.text (take l.number-index l.numbers) l.rest
