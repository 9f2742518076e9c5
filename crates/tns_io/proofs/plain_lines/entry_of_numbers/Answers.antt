use Rattle.std.proofs.Common.{ap, ◌∙◌, w64}
use Rattle.std.proofs.lemmas.Int.{to_z-of_z}
use Rattle.tns_io.specs.Reading.{word_from}
use Rattle.tns_io.proofs.NumberEntries.{numbers_are_entry}
use Rattle.tns_io.proofs.plain_lines.entry_of_numbers.Goals as goal

pub returns-then-count_from_zero : goal.returns-then-count_from_zero
returns-then-count_from_zero c = λ tokens are.
    numbers_are_entry c.args.signed tokens c.args.numbers.now c.count_from_zero.new.numbers c.args.value c.in-Ok.word are
    (c.count_from_zero.ensures c.if-count_from_zero.true)
    (c.in-Ok.ensures ∙ ap (word_from c.args.signed) (to_z-of_z w64 c.args.value c.ranges.value))
