use Rattle.std.proofs.Common.{rules}
use Rattle.std.proofs.lemmas.Iterator.{cases_from_all, YieldsList-from_slice}
use borrow.Author.Tests.{tests}
use Rattle.text_lines.specs.DecimalLaws.{IsDigit, IsNoDigit}
use Rattle.text_lines.proofs.DecimalLaws.{digits_told}
use Rattle.text_lines.proofs.whole.are_digits.Goals as goal

pub returns : goal.returns
returns c = digits_told c.args.text.now c.all.result
    (cases_from_all _ _ _ IsDigit IsNoDigit c.all.ensures.ran (YieldsList-from_slice c.args.text.now cc)
    (λ x q k. search (rules, tests)) (λ x q k. search (rules, tests)))
