use Rattle.std.specs.Prelude.{◌≡◌, ◌+◌, ◌-◌, ◌<◌, length, take, Some, slice_get}
use Rattle.std.specs.Option.{option_copied}
use Rattle.std.proofs.Common.{◌∙◌, sym, ap, arith, get_or}
use Rattle.index_notation.specs.declared.syntax.Expr.{Access as AccessOf, Binary, Neg}
use Rattle.expr_terms.proofs.Heights.{parts_of_binary, part_of_neg}
use Rattle.nested_sums.specs.Bad.{mention_of, sum_mention}
use Rattle.nested_sums.proofs.BoundVariables.{inside_under}
use Rattle.nested_sums.proofs.Mentions.{first_under, leaf_under, made_both, made_neg, mention_access, mention_sum, negated_under}
use Rattle.nested_sums.proofs.Mentions.{second_under}
use Rattle.nested_sums.proofs.Standings.{get_is, get_none, lighter, part_lower, weight}
use Rattle.nested_sums.proofs.bad_sums.+expr_mention.Goals as goal

pub returns-in-Some : goal.returns-in-Some
returns-in-Some t c =
    let s = c.args.statement.now in
    c.access_mention.ensures
    ∙ mention_access s c.args.var c.in-Access.n c.in-Some.access.now (sym c.get.ensures.value ∙ ap option_copied c.in-Some.is)
    ∙ ap (mention_of s c.args.var) (sym c.in-Access.is)

pub overflow_sub-number : goal.overflow_sub-number
overflow_sub-number t c =
    let beyond = get_none c.args.statement.now.accesses c.in-Access.n (sym c.get.ensures.value ∙ ap option_copied c.in_default.is) in
    let long = c.len.ensures in omega (arith, beyond, long)

pub bounds-as_slice-number : goal.bounds-as_slice-number
bounds-as_slice-number t c =
    let s = c.args.statement.now in
    let beyond = get_none s.accesses c.in-Access.n (sym c.get.ensures.value ∙ ap option_copied c.in_default.is) in
    let under = leaf_under (length s.accesses + c.args.count) c.in-Access.n c.args.expr.now c.in-Access.is c.requires.under in
    let known = c.requires.known in
    let long = c.len.ensures in
    let many = ap length c.as_slice.ensures in omega (arith, beyond, under, known, long, many)

pub expr_mention-inside-requires : goal.expr_mention-inside-requires
expr_mention-inside-requires t c =
    let s = c.args.statement.now in
    let n = c.in-Access.n - c.len.result in
    let sum = c.index-as_slice-number.result in
    let beyond = get_none s.accesses c.in-Access.n (sym c.get.ensures.value ∙ ap option_copied c.in_default.is) in
    let under = leaf_under (length s.accesses + c.args.count) c.in-Access.n c.args.expr.now c.in-Access.is c.requires.under in
    let known = c.requires.known in
    let long = c.len.ensures in
    let below : n < c.args.count = omega (arith, beyond, under, long) in
    let at : slice_get s.sums n ≡ Some sum =
    get_is s.sums n sum (omega (arith, below, known)) (c.index-as_slice-number.is ∙ ap (λ l. get_or l n sum) c.as_slice.ensures) in
    let lower = lighter c.args.count s.sums n sum below at in (
      omega (arith, lower, c.decreases),
      (
        c.requires.numbered,
        (
          omega (arith, below, known),
          inside_under (length s.vars) (length s.accesses) s.sums n sum
              c.requires.numbered.sums at,
        ),
      ),
    )

pub expr_mention-first-requires : goal.expr_mention-first-requires
expr_mention-first-requires t c =
    let s = c.args.statement.now in
    let o = c.in-Binary.field-0 in
    let e = c.in-Binary.first in
    let f = c.in-Binary.second in (
      part_lower t (weight (take c.args.count s.sums)) c.args.expr.now (Binary o e f) e c.get-in-Binary.result.now
          c.in-Binary.is c.get-in-Binary.ensures (parts_of_binary o e f).0 c.decreases,
      (
        c.requires.numbered,
        (
          c.requires.known,
          first_under (length s.accesses + c.args.count) c.args.expr.now o e f
              c.get-in-Binary.result.now c.in-Binary.is c.get-in-Binary.ensures c.requires.under,
        ),
      ),
    )

pub expr_mention-second-requires : goal.expr_mention-second-requires
expr_mention-second-requires t c =
    let s = c.args.statement.now in
    let o = c.in-Binary.field-0 in
    let e = c.in-Binary.first in
    let f = c.in-Binary.second in (
      part_lower t (weight (take c.args.count s.sums)) c.args.expr.now (Binary o e f) f c.get-in-Binary-2.result.now
          c.in-Binary.is c.get-in-Binary-2.ensures (parts_of_binary o e f).1 c.decreases,
      (
        c.requires.numbered,
        (
          c.requires.known,
          second_under (length s.accesses + c.args.count) c.args.expr.now o e f
              c.get-in-Binary-2.result.now c.in-Binary.is c.get-in-Binary-2.ensures c.requires.under,
        ),
      ),
    )

pub expr_mention-requires : goal.expr_mention-requires
expr_mention-requires t c =
    let s = c.args.statement.now in
    let e = c.in-Neg.inner in (
      part_lower t (weight (take c.args.count s.sums)) c.args.expr.now (Neg e) e c.get-in-Neg.result.now c.in-Neg.is
          c.get-in-Neg.ensures (part_of_neg e) c.decreases,
      (
        c.requires.numbered,
        (
          c.requires.known,
          negated_under (length s.accesses + c.args.count) c.args.expr.now e
              c.get-in-Neg.result.now c.in-Neg.is c.get-in-Neg.ensures c.requires.under,
        ),
      ),
    )

pub returns-in_default : goal.returns-in_default
returns-in_default t c =
    let s = c.args.statement.now in
    let n = c.in-Access.n - c.len.result in
    let sum = c.index-as_slice-number.result in
    let beyond = get_none s.accesses c.in-Access.n (sym c.get.ensures.value ∙ ap option_copied c.in_default.is) in
    let under = leaf_under (length s.accesses + c.args.count) c.in-Access.n c.args.expr.now c.in-Access.is c.requires.under in
    let known = c.requires.known in
    let long = c.len.ensures in
    let at : slice_get s.sums n ≡ Some sum =
    get_is s.sums n sum (omega (arith, beyond, under, long, known))
    (c.index-as_slice-number.is ∙ ap (λ l. get_or l n sum) c.as_slice.ensures) in
    let number : length s.accesses + n ≡ c.in-Access.n = omega (arith, beyond, long) in
    c.sum_mention.ensures ∙ ap (sum_mention c.args.var sum.var) c.expr_mention-inside.ensures
    ∙ mention_sum s c.requires.numbered c.args.var n sum at ∙ ap (mention_of s c.args.var) (ap AccessOf number ∙ sym c.in-Access.is)

pub returns-in-Binary : goal.returns-in-Binary
returns-in-Binary t c =
    made_both c.args.statement.now c.args.var c.args.expr.now c.in-Binary.field-0 c.in-Binary.first c.in-Binary.second
    c.get-in-Binary.result.now c.get-in-Binary-2.result.now c.both_mention.result c.expr_mention-first.result c.expr_mention-second.result
    c.in-Binary.is c.get-in-Binary.ensures c.get-in-Binary-2.ensures c.expr_mention-first.ensures c.expr_mention-second.ensures
    c.both_mention.ensures

pub returns-in-Neg : goal.returns-in-Neg
returns-in-Neg t c =
    made_neg c.args.statement.now c.args.var c.args.expr.now c.in-Neg.inner c.get-in-Neg.result.now c.expr_mention.result c.in-Neg.is
    c.get-in-Neg.ensures c.expr_mention.ensures
