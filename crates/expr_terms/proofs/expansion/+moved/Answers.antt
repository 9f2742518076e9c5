use Rattle.std.specs.Prelude.{◌≡◌, IfOk}
use Rattle.std.proofs.Common.{◌∙◌, sym, ap, subst}
use Rattle.index_notation.specs.declared.syntax.Expr.{Binary, Neg}
use Rattle.expr_terms.specs.Expanded.{moved}
use Rattle.expr_terms.proofs.Heights.{falls, parts_of_binary, part_of_neg}
use Rattle.expr_terms.proofs.ExpandLaws.{moved_binary, moved_neg, under_first, under_second, under_neg}
use Rattle.expr_terms.proofs.expansion.+moved.Goals as goal

pub moved-requires : goal.moved-requires
moved-requires t c =
    let o = c.in-Binary.operator in
    let e = c.in-Binary.first in
    let f = c.in-Binary.second in (
      falls t c.args.expr.now (Binary o e f) e c.get.result.now c.in-Binary.is c.get.ensures (parts_of_binary o e f).0 c.decreases,
      under_first c.args.accesses c.args.expr.now o e f c.get.result.now c.in-Binary.is c.get.ensures c.requires,
    )

pub moved-requires-in-Binary : goal.moved-requires-in-Binary
moved-requires-in-Binary t c =
    let o = c.in-Binary.operator in
    let e = c.in-Binary.first in
    let f = c.in-Binary.second in (
      falls t c.args.expr.now (Binary o e f) f c.get-in-Binary.result.now c.in-Binary.is c.get-in-Binary.ensures
          (parts_of_binary o e f).1 c.decreases,
      under_second c.args.accesses c.args.expr.now o e f c.get-in-Binary.result.now c.in-Binary.is c.get-in-Binary.ensures c.requires,
    )

pub moved-requires-in-Neg : goal.moved-requires-in-Neg
moved-requires-in-Neg t c =
    let e = c.in-Neg.inner in (
      falls t c.args.expr.now (Neg e) e c.get-in-Neg.result.now c.in-Neg.is c.get-in-Neg.ensures (part_of_neg e) c.decreases,
      under_neg c.args.accesses c.args.expr.now e c.get-in-Neg.result.now c.in-Neg.is c.get-in-Neg.ensures c.requires,
    )

pub returns-in_ok-second-in-Binary : goal.returns-in_ok-second-in-Binary
returns-in_ok-second-in-Binary t c =
    let o = c.in-Binary.operator in
    subst (λ v. IfOk c.binary.result (λ whole. whole ≡ v))
    ((λ i. Binary o ((c.in_ok-first-in-Binary.ensures ∙ ap moved c.get.ensures) i)
    ((c.in_ok-second-in-Binary.ensures ∙ ap moved c.get-in-Binary.ensures) i))
    ∙ sym (moved_binary o c.in-Binary.first c.in-Binary.second) ∙ ap moved (sym c.in-Binary.is))
    c.binary.ensures

pub returns-in_ok-new-in-Neg : goal.returns-in_ok-new-in-Neg
returns-in_ok-new-in-Neg t c =
    ap Neg (c.in_ok-new-in-Neg.ensures ∙ c.in_ok-inner-in-Neg.ensures ∙ ap moved c.get-in-Neg.ensures)
    ∙ sym (moved_neg c.in-Neg.inner) ∙ ap moved (sym c.in-Neg.is)
