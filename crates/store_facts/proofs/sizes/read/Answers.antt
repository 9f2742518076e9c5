use Rattle.kernel_code.specs.declared.syntax.Arr.TheVariants.{Range}
use Rattle.kernel_code.specs.declared.syntax.KExpr.{At, Num}
use Rattle.std.proofs.Common.{◌≡◌}
use Rattle.store_facts.specs.Facts.{Becomes}
use Rattle.store_facts.proofs.CodeLemmas.{if_ok_more}
use Rattle.store_facts.proofs.FactLemmas.{read_range}
use Rattle.store_facts.proofs.sizes.read.Goals as goal

pub returns-in-Some : goal.returns-in-Some
returns-in-Some c =
    let fs = c.args.facts.now in
    let size = c.in-Dimension in
    let variable = c.in-Some.variable in
    if_ok_more c.word_at.result (λ r. r ≡ At Range (Num variable)) (Becomes fs (At c.args.array c.args.index)) c.word_at.ensures
    (λ r is. read_range fs c.args.array c.args.index r size.tensor size.level variable size.is (c.is_number.ensures c.if-is_number.true) is
    c.in-Some.ensures)
