use Rattle.std.specs.Prelude.{◌≡◌, IfOk}
use Rattle.std.proofs.Common.{◌∙◌, sym, ap, subst}
use Rattle.index_notation.specs.declared.syntax.Expr.{Binary, Neg}
use Rattle.notation_reader.specs.Sums.{rebased}
use Rattle.notation_reader.proofs.TreeSums.{rebased_binary, rebased_neg}
use Rattle.notation_reader.proofs.numbering.+rebased.Goals as goal

pub returns-in_ok-second-in-Binary : goal.returns-in_ok-second-in-Binary
returns-in_ok-second-in-Binary t c =
    let o = c.in-Binary.operator in
    let count = c.args.count in
    subst (λ v. IfOk c.binary.result (λ whole. whole ≡ v))
    ((λ i. Binary o ((c.in_ok-first-in-Binary.ensures ∙ ap (rebased count) c.get.ensures) i)
    ((c.in_ok-second-in-Binary.ensures ∙ ap (rebased count) c.get-in-Binary.ensures) i))
    ∙ sym (rebased_binary count o c.in-Binary.first c.in-Binary.second) ∙ ap (rebased count) (sym c.in-Binary.is))
    c.binary.ensures

pub returns-in_ok-new-in-Neg : goal.returns-in_ok-new-in-Neg
returns-in_ok-new-in-Neg t c =
    let count = c.args.count in
    ap Neg (c.in_ok-new-in-Neg.ensures ∙ c.in_ok-inner-in-Neg.ensures ∙ ap (rebased count) c.get-in-Neg.ensures)
    ∙ sym (rebased_neg count c.in-Neg.inner) ∙ ap (rebased count) (sym c.in-Neg.is)
