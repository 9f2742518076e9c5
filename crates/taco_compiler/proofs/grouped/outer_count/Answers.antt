use Rattle.std.specs.Prelude.{◌≡◌, ◌<◌, false, [], ◌∷◌, length, take, slice_index_or}
use Rattle.std.proofs.Common.{◌∙◌, sym, ap, subst, arith}
use Rattle.std.proofs.lemmas.List.{drop_all, take_all, take_more}
use Rattle.lists.proofs.Each.{each_append}
use Rattle.row_orders.specs.Orders.{AreOutsideSums}
use Rattle.row_orders.specs.Takings.{is_inside_sum}
use Rattle.taco_compiler.specs.Tails.{from_sum}
use Rattle.taco_compiler.proofs.Tails.{tail_begins, tail_behind}
use Rattle.taco_compiler.proofs.grouped.outer_count.Goals as goal

pub returns-then-is_inside_sum-clause-rest : goal.returns-then-is_inside_sum-clause-rest
returns-then-is_inside_sum-clause-rest c =
    tail_begins c.args.statement.now c.args.order.now c.args.left.now c.loop-depth.depth c.loop-depth-test.true
    (sym c.is_inside_sum.ensures ∙ c.if-is_inside_sum.true) ∙ c.loop-depth.invariant.rest

pub loop-depth-preserved : goal.loop-depth-preserved
loop-depth-preserved c =
    let s = c.args.statement.now in
    let order = c.args.order.now in
    let left = c.args.left.now in
    let depth = c.loop-depth.depth in
    let inside : depth < length left = c.loop-depth-test.true in
    let outside = sym c.is_inside_sum.ensures ∙ c.if-is_inside_sum.false in
    record {
      outside = subst (AreOutsideSums s order) (sym (take_more left depth 0 inside))
          (each_append (λ v. is_inside_sum s order v ≡ false) (take depth left) (slice_index_or left depth 0 ∷ [])
          c.loop-depth.invariant.outside (outside, tt));
      rest = tail_behind s order left depth inside outside ∙ c.loop-depth.invariant.rest;
    }

pub returns-clause-outside : goal.returns-clause-outside
returns-clause-outside c =
    let left = c.args.left.now in
    subst (AreOutsideSums c.args.statement.now c.args.order.now)
    (take_all c.loop-depth.depth left c.loop-depth-test.false ∙ sym (take_all (length left) left (omega arith)))
    c.loop-depth.invariant.outside

pub returns-clause-rest : goal.returns-clause-rest
returns-clause-rest c =
    let left = c.args.left.now in
    drop_all (length left) left (omega arith)
    ∙ sym (ap (from_sum c.args.statement.now c.args.order.now) (drop_all c.loop-depth.depth left c.loop-depth-test.false))
    ∙ c.loop-depth.invariant.rest
