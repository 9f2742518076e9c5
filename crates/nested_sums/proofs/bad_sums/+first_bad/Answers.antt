use Rattle.std.specs.Prelude.{◌≡◌, ◌+◌, ◌-◌, ◌<◌, length, take, Some, slice_get}
use Rattle.std.proofs.Common.{◌∙◌, sym, ap, arith, get_or}
use Rattle.index_notation.specs.declared.syntax.Expr.{Binary, Neg}
use Rattle.expr_terms.proofs.Heights.{parts_of_binary, part_of_neg}
use Rattle.nested_sums.proofs.BoundVariables.{inside_under}
use Rattle.nested_sums.proofs.Mentions.{first_at_access, first_is_inside, first_is_sum, first_of_first, first_of_negated, first_of_second}
use Rattle.nested_sums.proofs.Mentions.{first_under, leaf_under, negated_under, second_under}
use Rattle.nested_sums.proofs.Standings.{get_is, lighter, part_lower, weight}
use Rattle.nested_sums.proofs.bad_sums.+first_bad.Goals as goal

pub returns-then-n-len : goal.returns-then-n-len
returns-then-n-len t c =
    first_at_access c.args.statement.now c.in-Access.n c.len.result c.args.expr.now c.if-n-len.true c.len.ensures c.in-Access.is

pub returns-then-is_bad : goal.returns-then-is_bad
returns-then-is_bad t c =
    let s = c.args.statement.now in
    let n = c.in-Access.n - c.len-in-Access.result in
    let sum = c.index-as_slice-number.result in
    let beyond = c.if-n-len.false in
    let under = leaf_under (length s.accesses + c.args.count) c.in-Access.n c.args.expr.now c.in-Access.is c.requires.under in
    let known = c.requires.known in
    let long = c.len-in-Access.ensures in
    let same = c.len.ensures in
    let at : slice_get s.sums n ≡ Some sum =
    get_is s.sums n sum (omega (arith, beyond, under, long, same, known))
    (c.index-as_slice-number.is ∙ ap (λ l. get_or l n sum) c.as_slice.ensures) in
    first_is_sum s c.requires.numbered c.in-Access.n n sum c.args.expr.now c.in-Access.is (omega (arith, beyond, long, same)) at
    (sym c.is_bad.ensures ∙ c.if-is_bad.true)

pub first_bad-requires : goal.first_bad-requires
first_bad-requires t c =
    let s = c.args.statement.now in
    let n = c.in-Access.n - c.len-in-Access.result in
    let sum = c.index-as_slice-number.result in
    let beyond = c.if-n-len.false in
    let under = leaf_under (length s.accesses + c.args.count) c.in-Access.n c.args.expr.now c.in-Access.is c.requires.under in
    let known = c.requires.known in
    let long = c.len-in-Access.ensures in
    let same = c.len.ensures in
    let below : n < c.args.count = omega (arith, beyond, under, long, same) in
    let at : slice_get s.sums n ≡ Some sum =
    get_is s.sums n sum (omega (arith, below, known)) (c.index-as_slice-number.is ∙ ap (λ l. get_or l n sum) c.as_slice.ensures) in
    let lower = lighter c.args.count s.sums n sum below at in (
      omega (arith, lower, c.decreases),
      (
        c.requires.numbered,
        (
          omega (arith, below, known),
          inside_under (length s.vars) (length s.accesses) s.sums n sum
              c.requires.numbered.sums at,
        ),
      ),
    )

pub first_bad-requires-in-Binary : goal.first_bad-requires-in-Binary
first_bad-requires-in-Binary t c =
    let s = c.args.statement.now in
    let o = c.in-Binary.field-0 in
    let e = c.in-Binary.first in
    let f = c.in-Binary.second in (
      part_lower t (weight (take c.args.count s.sums)) c.args.expr.now (Binary o e f) e c.get.result.now
          c.in-Binary.is c.get.ensures (parts_of_binary o e f).0 c.decreases,
      (
        c.requires.numbered,
        (
          c.requires.known,
          first_under (length s.accesses + c.args.count) c.args.expr.now o e f
              c.get.result.now c.in-Binary.is c.get.ensures c.requires.under,
        ),
      ),
    )

pub returns-in-Some : goal.returns-in-Some
returns-in-Some t c =
    first_of_first c.args.statement.now c.args.expr.now c.in-Binary.field-0 c.in-Binary.first c.in-Binary.second c.get.result.now
    c.first_bad-in-Binary.result c.in-Some.var c.in-Binary.is c.get.ensures c.first_bad-in-Binary.ensures c.in-Some.is

pub first_bad-requires-in-Binary-2 : goal.first_bad-requires-in-Binary-2
first_bad-requires-in-Binary-2 t c =
    let s = c.args.statement.now in
    let o = c.in-Binary.field-0 in
    let e = c.in-Binary.first in
    let f = c.in-Binary.second in (
      part_lower t (weight (take c.args.count s.sums)) c.args.expr.now (Binary o e f) f c.get-in-Binary.result.now
          c.in-Binary.is c.get-in-Binary.ensures (parts_of_binary o e f).1 c.decreases,
      (
        c.requires.numbered,
        (
          c.requires.known,
          second_under (length s.accesses + c.args.count) c.args.expr.now o e f
              c.get-in-Binary.result.now c.in-Binary.is c.get-in-Binary.ensures c.requires.under,
        ),
      ),
    )

pub first_bad-requires-in-Neg : goal.first_bad-requires-in-Neg
first_bad-requires-in-Neg t c =
    let s = c.args.statement.now in
    let e = c.in-Neg.inner in (
      part_lower t (weight (take c.args.count s.sums)) c.args.expr.now (Neg e) e c.get-in-Neg.result.now c.in-Neg.is
          c.get-in-Neg.ensures (part_of_neg e) c.decreases,
      (
        c.requires.numbered,
        (
          c.requires.known,
          negated_under (length s.accesses + c.args.count) c.args.expr.now e
              c.get-in-Neg.result.now c.in-Neg.is c.get-in-Neg.ensures c.requires.under,
        ),
      ),
    )

pub returns-else-is_bad : goal.returns-else-is_bad
returns-else-is_bad t c =
    let s = c.args.statement.now in
    let n = c.in-Access.n - c.len-in-Access.result in
    let sum = c.index-as_slice-number.result in
    let beyond = c.if-n-len.false in
    let under = leaf_under (length s.accesses + c.args.count) c.in-Access.n c.args.expr.now c.in-Access.is c.requires.under in
    let known = c.requires.known in
    let long = c.len-in-Access.ensures in
    let same = c.len.ensures in
    let at : slice_get s.sums n ≡ Some sum =
    get_is s.sums n sum (omega (arith, beyond, under, long, same, known))
    (c.index-as_slice-number.is ∙ ap (λ l. get_or l n sum) c.as_slice.ensures) in
    first_is_inside s c.requires.numbered c.in-Access.n n sum c.args.expr.now c.in-Access.is (omega (arith, beyond, long, same)) at
    c.first_bad.result (sym c.is_bad.ensures ∙ c.if-is_bad.false) c.first_bad.ensures

pub returns-in_default : goal.returns-in_default
returns-in_default t c =
    first_of_second c.args.statement.now c.args.expr.now c.in-Binary.field-0 c.in-Binary.first c.in-Binary.second c.get.result.now
    c.get-in-Binary.result.now c.first_bad-in-Binary.result c.first_bad-in-Binary-2.result c.in-Binary.is c.get.ensures
    c.get-in-Binary.ensures c.first_bad-in-Binary.ensures c.in_default.is c.first_bad-in-Binary-2.ensures

pub returns-in-Neg : goal.returns-in-Neg
returns-in-Neg t c =
    first_of_negated c.args.statement.now c.args.expr.now c.in-Neg.inner c.get-in-Neg.result.now c.first_bad-in-Neg.result c.in-Neg.is
    c.get-in-Neg.ensures c.first_bad-in-Neg.ensures
