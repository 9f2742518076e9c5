use Rattle.std.specs.Prelude.{◌<◌, length, IfOk}
use Rattle.std.proofs.Common.{◌∙◌, sym, ap, subst}
use Rattle.kernel_code.specs.declared.syntax.KExpr.{Bin}
use Rattle.index_notation.specs.Operators.{is_there}
use Rattle.index_notation.specs.declared.syntax.Expr.{Binary, Neg}
use Rattle.expr_terms.proofs.Heights.{falls, parts_of_binary, part_of_neg}
use Rattle.loop_code.specs.Parts.{here, is_full, is_other}
use Rattle.term_code.specs.Presence.{Tells}
use Rattle.term_code.proofs.Parts.{first_side, second_side, negated_part, full_binary, full_neg}
use Rattle.term_code.proofs.PresenceLaws.{tells_there, tells_same}
use Rattle.term_code.proofs.presence.+fullness_of.Goals as goal

pub fullness_of-requires : goal.fullness_of-requires
fullness_of-requires t c =
    let o = c.in-Binary.operator in
    let e = c.in-Binary.first in
    let f = c.in-Binary.second in (
      falls t c.args.expr.now (Binary o e f) e c.get.result.now c.in-Binary.is c.get.ensures (parts_of_binary o e f).0 c.decreases,
      first_side (λ k. k < length c.args.places.now.accesses) c.args.expr.now o e f c.get.result.now c.in-Binary.is c.get.ensures
          c.requires,
    )

pub fullness_of-requires-in-Binary : goal.fullness_of-requires-in-Binary
fullness_of-requires-in-Binary t c =
    let o = c.in-Binary.operator in
    let e = c.in-Binary.first in
    let f = c.in-Binary.second in (
      falls t c.args.expr.now (Binary o e f) f c.get-in-Binary.result.now c.in-Binary.is c.get-in-Binary.ensures
          (parts_of_binary o e f).1 c.decreases,
      second_side (λ k. k < length c.args.places.now.accesses) c.args.expr.now o e f c.get-in-Binary.result.now c.in-Binary.is
          c.get-in-Binary.ensures c.requires,
    )

pub fullness_of-requires-in-Neg : goal.fullness_of-requires-in-Neg
fullness_of-requires-in-Neg t c = (
  falls t c.args.expr.now (Neg c.in-Neg.inner) c.in-Neg.inner c.get-in-Neg.result.now c.in-Neg.is c.get-in-Neg.ensures
      (part_of_neg c.in-Neg.inner) c.decreases,
  negated_part (λ k. k < length c.args.places.now.accesses) c.args.expr.now c.in-Neg.inner c.get-in-Neg.result.now c.in-Neg.is
      c.get-in-Neg.ensures c.requires,
)

pub returns-in_ok-flag-in-Binary : goal.returns-in_ok-flag-in-Binary
returns-in_ok-flag-in-Binary t c =
    let places = c.args.places.now in
    let F = is_other c.args.seeks.now in
    let o = c.in-Binary.operator in
    let e = c.in-Binary.first in
    let f = c.in-Binary.second in
    let x = c.in_ok-x-in-Binary.x in
    let y = c.in_ok-y-in-Binary.y in
    let one = subst (λ w. Tells places (λ env. is_full F (here env) w) x) c.get.ensures c.in_ok-x-in-Binary.ensures in
    let two = subst (λ w. Tells places (λ env. is_full F (here env) w) y) c.get-in-Binary.ensures c.in_ok-y-in-Binary.ensures in
    subst (λ whole. Tells places (λ env. is_full F (here env) whole) c.in_ok-flag-in-Binary.flag) (sym c.in-Binary.is)
    (subst (Tells places (λ env. is_full F (here env) (Binary o e f)))
    (sym (c.in_ok-flag-in-Binary.ensures ∙ ap (λ q. Bin q x y) c.flag_operator.ensures))
    (tells_same places (λ env. is_there o (is_full F (here env) e) (is_full F (here env) f)) (λ env. is_full F (here env) (Binary o e f)) _
    (λ env. sym (full_binary F (here env) o e f))
    (tells_there places o (λ env. is_full F (here env) e) (λ env. is_full F (here env) f) x y one two)))

pub returns-in-Neg : goal.returns-in-Neg
returns-in-Neg t c =
    let places = c.args.places.now in
    let F = is_other c.args.seeks.now in
    let e = c.in-Neg.inner in
    subst (λ whole. IfOk c.fullness_of-in-Neg.result (Tells places (λ env. is_full F (here env) whole))) (sym c.in-Neg.is)
    (subst (λ f. IfOk c.fullness_of-in-Neg.result (Tells places f)) (λ i env. sym (full_neg F (here env) e) i)
    (subst (λ x. IfOk c.fullness_of-in-Neg.result (Tells places (λ env. is_full F (here env) x))) c.get-in-Neg.ensures
    c.fullness_of-in-Neg.ensures))
