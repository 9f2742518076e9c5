use Rattle.std.specs.Prelude.{◌≡◌, ◌+◌, ◌-◌, length, take}
use Rattle.std.specs.Option.{option_copied}
use Rattle.std.proofs.Common.{◌∙◌, sym, ap, arith, inl, inr}
use Rattle.index_notation.specs.declared.syntax.Expr.{Binary, Neg}
use Rattle.expr_terms.proofs.Heights.{parts_of_binary, part_of_neg}
use Rattle.nested_sums.specs.Inner.{standing_in, standings, sum_standing}
use Rattle.nested_sums.proofs.Standings.{standing_access, standing_sum, standing_beyond, made_binary, made_neg, weight, lighter}
use Rattle.nested_sums.proofs.Standings.{part_lower, get_none}
use Rattle.nested_sums.proofs.inner_sums.+expr_standing.Goals as goal

pub returns-in-Some : goal.returns-in-Some
returns-in-Some t c =
    let s = c.args.statement.now in
    let told = standings s (take c.args.count s.sums) c.args.order.now c.args.var in
    c.access_standing.ensures
    ∙ sym (standing_access s c.args.order.now c.args.var c.args.count c.in-Access.n c.in-Some.access.now
    (sym c.get.ensures.value ∙ ap option_copied c.in-Some.is))
    ∙ ap (standing_in told) (sym c.in-Access.is)

pub overflow_sub-number : goal.overflow_sub-number
overflow_sub-number t c =
    let beyond = get_none c.args.statement.now.accesses c.in-Access.n (sym c.get.ensures.value ∙ ap option_copied c.in_default.is) in
    omega (arith, beyond)

pub returns-then-number-count : goal.returns-then-number-count
returns-then-number-count t c =
    let s = c.args.statement.now in
    let told = standings s (take c.args.count s.sums) c.args.order.now c.args.var in
    let beyond = get_none s.accesses c.in-Access.n (sym c.get.ensures.value ∙ ap option_copied c.in_default.is) in
    let number : c.in-Access.n ≡ length s.accesses + (c.in-Access.n - c.len.result) = omega (arith, beyond) in
    c.none_stands-then-number-count.ensures
    ∙ sym (standing_beyond s c.args.order.now c.args.var c.args.count c.in-Access.n (c.in-Access.n - c.len.result) number
    (inl c.if-number-count.true))
    ∙ ap (standing_in told) (sym c.in-Access.is)

pub returns-in_default-get : goal.returns-in_default-get
returns-in_default-get t c =
    let s = c.args.statement.now in
    let told = standings s (take c.args.count s.sums) c.args.order.now c.args.var in
    let beyond = get_none s.accesses c.in-Access.n (sym c.get.ensures.value ∙ ap option_copied c.in_default.is) in
    let number : c.in-Access.n ≡ length s.accesses + (c.in-Access.n - c.len.result) = omega (arith, beyond) in
    c.none_stands-in_default-get.ensures
    ∙ sym (standing_beyond s c.args.order.now c.args.var c.args.count c.in-Access.n (c.in-Access.n - c.len.result) number
    (inr (sym c.get-in-Access.ensures.value ∙ ap option_copied c.in_default-get.is)))
    ∙ ap (standing_in told) (sym c.in-Access.is)

pub expr_standing-inside-requires : goal.expr_standing-inside-requires
expr_standing-inside-requires t c =
    let s = c.args.statement.now in
    let lower = lighter c.args.count s.sums (c.in-Access.n - c.len.result) c.in-Some-get.sum.now c.if-number-count.false
    (sym c.get-in-Access.ensures.value ∙ ap option_copied c.in-Some-get.is) in
    omega (arith, lower, c.decreases)

pub expr_standing-first-requires : goal.expr_standing-first-requires
expr_standing-first-requires t c =
    let o = c.in-Binary.field-0 in
    let e = c.in-Binary.first in
    let f = c.in-Binary.second in (
      part_lower t (weight (take c.args.count c.args.statement.now.sums)) c.args.expr.now (Binary o e f) e c.get-in-Binary.result.now
          c.in-Binary.is c.get-in-Binary.ensures (parts_of_binary o e f).0 c.decreases,
      tt,
    )

pub expr_standing-second-requires : goal.expr_standing-second-requires
expr_standing-second-requires t c =
    let o = c.in-Binary.field-0 in
    let e = c.in-Binary.first in
    let f = c.in-Binary.second in (
      part_lower t (weight (take c.args.count c.args.statement.now.sums)) c.args.expr.now (Binary o e f) f c.get-in-Binary-2.result.now
          c.in-Binary.is c.get-in-Binary-2.ensures (parts_of_binary o e f).1 c.decreases,
      tt,
    )

pub expr_standing-requires : goal.expr_standing-requires
expr_standing-requires t c =
    let e = c.in-Neg.inner in (
      part_lower t (weight (take c.args.count c.args.statement.now.sums)) c.args.expr.now (Neg e) e c.get-in-Neg.result.now c.in-Neg.is
          c.get-in-Neg.ensures (part_of_neg e) c.decreases,
      tt,
    )

pub returns-in-Some-get : goal.returns-in-Some-get
returns-in-Some-get t c =
    let s = c.args.statement.now in
    let told = standings s (take c.args.count s.sums) c.args.order.now c.args.var in
    let sum = c.in-Some-get.sum.now in
    let beyond = get_none s.accesses c.in-Access.n (sym c.get.ensures.value ∙ ap option_copied c.in_default.is) in
    let number : c.in-Access.n ≡ length s.accesses + (c.in-Access.n - c.len.result) = omega (arith, beyond) in
    c.sum_standing.ensures ∙ ap (sum_standing c.args.order.now c.args.var sum.var) c.expr_standing-inside.ensures
    ∙ sym (standing_sum s c.args.order.now c.args.var c.args.count c.in-Access.n (c.in-Access.n - c.len.result) sum number
    c.if-number-count.false (sym c.get-in-Access.ensures.value ∙ ap option_copied c.in-Some-get.is))
    ∙ ap (standing_in told) (sym c.in-Access.is)

pub returns-in-Binary : goal.returns-in-Binary
returns-in-Binary t c =
    let s = c.args.statement.now in
    let told = standings s (take c.args.count s.sums) c.args.order.now c.args.var in
    made_binary told c.args.expr.now c.in-Binary.field-0 c.in-Binary.first c.in-Binary.second c.get-in-Binary.result.now
    c.get-in-Binary-2.result.now c.both_standing.result c.expr_standing-first.result c.expr_standing-second.result c.in-Binary.is
    c.get-in-Binary.ensures c.get-in-Binary-2.ensures c.expr_standing-first.ensures c.expr_standing-second.ensures c.both_standing.ensures

pub returns-in-Neg : goal.returns-in-Neg
returns-in-Neg t c =
    let s = c.args.statement.now in
    let told = standings s (take c.args.count s.sums) c.args.order.now c.args.var in
    made_neg told c.args.expr.now c.in-Neg.inner c.get-in-Neg.result.now c.expr_standing.result c.in-Neg.is c.get-in-Neg.ensures
    c.expr_standing.ensures
