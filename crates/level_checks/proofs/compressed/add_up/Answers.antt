use Rattle.std.specs.Prelude.{◌<◌, slice_index}
use Rattle.std.proofs.Common.{ap, arith, rules}
use Rattle.std.proofs.lemmas.List.{drop_all}
use Rattle.level_core.specs.Logs.{total}
use Rattle.level_checks.proofs.Loops.{no}
use Rattle.level_checks.proofs.CompressedWords.{total_next}
use Rattle.level_checks.proofs.compressed.add_up.Goals as goal

pub returns-then-number-left : goal.returns-then-number-left
returns-then-number-left c =
    let l = c.loop-number in
    let next = total_next c.args.numbers.now l.number-index c.loop-number-test.true in
    let sum = l.invariant in
    let more : l.left < slice_index c.args.numbers.now l.number-index = search rules in
    no (λ p. omega (arith, next, sum, more, p))

pub loop-number-preserved : goal.loop-number-preserved
loop-number-preserved c =
    let l = c.loop-number in
    let next = total_next c.args.numbers.now l.number-index c.loop-number-test.true in
    let sum = l.invariant in
    grind (arith, next, sum)

pub returns : goal.returns
returns c =
    let l = c.loop-number in
    let none = ap total (drop_all l.number-index c.args.numbers.now c.loop-number-test.false) in
    let sum = l.invariant in
    grind (arith, none, sum)
