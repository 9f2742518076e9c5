use Rattle.std.specs.Prelude.{◌≡◌, ◌≤◌, ℕ, List, [], length, refl, take, drop}
use Rattle.std.proofs.Common.{◌∙◌, ap, subst, arith}
use Rattle.std.proofs.lemmas.List.{get_or_read}
use Rattle.format_spec.specs.Formats.{modes_of}
use Rattle.row_orders.specs.Orders.{AreOutsideSums}
use Rattle.taco_compiler.specs.Tails.{from_sum}
use Rattle.taco_compiler.proofs.Tails.{first_within, tail_is}
use Rattle.taco_compiler.proofs.grouped.grouped_kernel.Goals as goal

pub slice_bounds-modes-count : goal.slice_bounds-modes-count
slice_bounds-modes-count g c =
    let s = c.args.statement.now in
    let formats = c.args.formats.now in
    let left = c.as_slice.ensures ∙ c.in_ok-left.ensures in
    let format = get_or_read formats s.left.tensor c.index-formats-statement.result c.requires.grouped.ready.left.tensor
    c.index-formats-statement.is [] in
    let inside = first_within s formats c.args.order.now c.requires.grouped.ready c.requires.grouped.some c.outer_count-first.result
    c.as_slice-2.result.now
    (subst (λ (vs : List ℕ). c.outer_count-first.result ≤ length vs) left c.outer_count-first.ensures.within)
    (c.as_slice-2.ensures ∙ c.in_ok-all.ensures ∙ ap modes_of format) in
    omega (arith, inside)

pub slice_bounds-modes-start : goal.slice_bounds-modes-start
slice_bounds-modes-start g c =
    let s = c.args.statement.now in
    let formats = c.args.formats.now in
    let left = c.as_slice.ensures ∙ c.in_ok-left.ensures in
    let format = get_or_read formats s.left.tensor c.index-formats-statement.result c.requires.grouped.ready.left.tensor
    c.index-formats-statement.is [] in
    let inside = first_within s formats c.args.order.now c.requires.grouped.ready c.requires.grouped.some c.outer_count-first.result
    c.as_slice-2.result.now
    (subst (λ (vs : List ℕ). c.outer_count-first.result ≤ length vs) left c.outer_count-first.ensures.within)
    (c.as_slice-2.ensures ∙ c.in_ok-all.ensures ∙ ap modes_of format) in
    omega (arith, inside)

pub marked_kernel-requires-clause-tail : goal.marked_kernel-requires-clause-tail
marked_kernel-requires-clause-tail g c =
    let s = c.args.statement.now in
    let formats = c.args.formats.now in
    let order = c.args.order.now in
    let left = c.as_slice.ensures ∙ c.in_ok-left.ensures in
    let format = get_or_read formats s.left.tensor c.index-formats-statement.result c.requires.grouped.ready.left.tensor
    c.index-formats-statement.is [] in
    tail_is s formats order c.requires.grouped.ready c.requires.grouped.some c.outer_count-first.result c.as_slice-2.result.now _
    (subst (λ (vs : List ℕ). c.outer_count-first.result ≤ length vs) left c.outer_count-first.ensures.within)
    (subst (λ (vs : List ℕ). AreOutsideSums s order (take c.outer_count-first.result vs)) left c.outer_count-first.ensures.outside)
    (subst (λ (vs : List ℕ). drop c.outer_count-first.result vs ≡ from_sum s order vs) left c.outer_count-first.ensures.rest)
    (c.as_slice-2.ensures ∙ c.in_ok-all.ensures ∙ ap modes_of format) refl

pub paired_kernel-requires-clause-tail : goal.paired_kernel-requires-clause-tail
paired_kernel-requires-clause-tail g c =
    let s = c.args.statement.now in
    let formats = c.args.formats.now in
    let order = c.args.order.now in
    let left = c.as_slice.ensures ∙ c.in_ok-left.ensures in
    let format = get_or_read formats s.left.tensor c.index-formats-statement.result c.requires.grouped.ready.left.tensor
    c.index-formats-statement.is [] in
    tail_is s formats order c.requires.grouped.ready c.requires.grouped.some c.outer_count-first.result c.as_slice-2.result.now _
    (subst (λ (vs : List ℕ). c.outer_count-first.result ≤ length vs) left c.outer_count-first.ensures.within)
    (subst (λ (vs : List ℕ). AreOutsideSums s order (take c.outer_count-first.result vs)) left c.outer_count-first.ensures.outside)
    (subst (λ (vs : List ℕ). drop c.outer_count-first.result vs ≡ from_sum s order vs) left c.outer_count-first.ensures.rest)
    (c.as_slice-2.ensures ∙ c.in_ok-all.ensures ∙ ap modes_of format) refl

pub marked_kernel-requires-clause-outer : goal.marked_kernel-requires-clause-outer
marked_kernel-requires-clause-outer g c = record {
  levels = c.in_ok-outer.ensures.levels;
  head = c.in_ok-outer.ensures.head;
  base = c.in_ok-outer.ensures.base;
  zero = c.in_ok-outer.ensures.zero;
}

pub paired_kernel-requires-clause-outer : goal.paired_kernel-requires-clause-outer
paired_kernel-requires-clause-outer g c = record {
  levels = c.in_ok-outer.ensures.levels;
  head = c.in_ok-outer.ensures.head;
  base = c.in_ok-outer.ensures.base;
  zero = c.in_ok-outer.ensures.zero;
}
