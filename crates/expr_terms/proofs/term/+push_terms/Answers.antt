use Rattle.std.specs.Prelude.{◌≡◌, List, OnOk}
use Rattle.std.proofs.Common.{◌∙◌, sym, subst}
use Rattle.expr_terms.specs.Terms.{Term}
use Rattle.expr_terms.proofs.PushedTerms.{pushed_sides, pushed_negation}
use Rattle.expr_terms.proofs.TermSums.{product_is_one_term, leaf_is_one_term}
use Rattle.expr_terms.proofs.term.+push_terms.Goals as goal

pub push_one-requires : goal.push_one-requires
push_one-requires t c =
    product_is_one_term c.args.expr.now c.in-Binary.operator c.in-Binary.first c.in-Binary.second c.in-Binary.is
    (sym c.is_product.ensures ∙ c.if-is_product.true)

pub push_one-requires-in-Num : goal.push_one-requires-in-Num
push_one-requires-in-Num t c = leaf_is_one_term c.args.expr.now c.in-Num.is

pub returns-in_ok-push_terms-in-Binary : goal.returns-in_ok-push_terms-in-Binary
returns-in_ok-push_terms-in-Binary t c =
    subst (λ (list : List Term). OnOk c.push_terms-in-Binary.result (c.push_terms-in-Binary.new.list ≡ list))
    (pushed_sides c.args.negated c.sign_behind-behind.result c.args.expr.now c.in-Binary.operator c.in-Binary.first c.in-Binary.second
    c.get.result.now c.get-in-Binary.result.now c.args.list.now c.push_terms.new.list c.in-Binary.is
    (sym c.is_product.ensures ∙ c.if-is_product.false) c.sign_behind-behind.ensures c.get.ensures c.get-in-Binary.ensures
    c.in_ok-push_terms-in-Binary.ensures)
    c.push_terms-in-Binary.ensures

pub returns-in-Neg : goal.returns-in-Neg
returns-in-Neg t c =
    subst (λ (list : List Term). OnOk c.push_terms-in-Neg.result (c.push_terms-in-Neg.new.list ≡ list))
    (pushed_negation c.args.negated c.args.expr.now c.in-Neg.inner c.get-in-Neg.result.now c.args.list.now c.in-Neg.is c.get-in-Neg.ensures)
    c.push_terms-in-Neg.ensures
