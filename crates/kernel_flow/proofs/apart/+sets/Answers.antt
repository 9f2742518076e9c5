use Rattle.std.proofs.Common.{◌∙◌, sym}
use Rattle.kernel_flow.proofs.ApartLemmas.{keeps_is, keeps_set, keeps_combine, keeps_put, keeps_sum, keeps_push, keeps_extend, keeps_cut}
use Rattle.kernel_flow.proofs.ApartLemmas.{keeps_sort, keeps_sort_sum, keeps_both, keeps_body, keeps_more}
use Rattle.kernel_flow.proofs.ExprLemmas.{is_true}
use Rattle.kernel_flow.proofs.apart.+sets.Goals as goal

pub statement_sets_only-returns-in-Set : goal.statement_sets_only-returns-in-Set
statement_sets_only-returns-in-Set t c =
    let s = c.in-Set in
    λ h. keeps_is c.args.some.now c.args.s.now _ s.is (keeps_set c.args.some.now s.x s.field-1 (sym c.is_in.ensures ∙ h))

pub statement_sets_only-returns-in-Combine : goal.statement_sets_only-returns-in-Combine
statement_sets_only-returns-in-Combine t c =
    let s = c.in-Combine in
    λ h. keeps_is c.args.some.now c.args.s.now _ s.is
    (keeps_combine c.args.some.now s.x s.field-1 s.field-2 s.field-3 (sym c.is_in-in-Combine.ensures ∙ h))

pub statement_sets_only-returns-in-Put : goal.statement_sets_only-returns-in-Put
statement_sets_only-returns-in-Put t c =
    let s = c.in-Put in
    λ h. keeps_is c.args.some.now c.args.s.now _ s.is (keeps_put c.args.some.now s.field-0 s.field-1 s.field-2)

pub statement_sets_only-returns-in-AddTo : goal.statement_sets_only-returns-in-AddTo
statement_sets_only-returns-in-AddTo t c =
    let s = c.in-AddTo in
    λ h. keeps_is c.args.some.now c.args.s.now _ s.is (keeps_sum c.args.some.now s.field-0 s.field-1 s.field-2)

pub statement_sets_only-returns-in-Push : goal.statement_sets_only-returns-in-Push
statement_sets_only-returns-in-Push t c =
    let s = c.in-Push in
    λ h. keeps_is c.args.some.now c.args.s.now _ s.is (keeps_push c.args.some.now s.field-0 s.field-1)

pub statement_sets_only-returns-in-Extend : goal.statement_sets_only-returns-in-Extend
statement_sets_only-returns-in-Extend t c =
    let s = c.in-Extend in
    λ h. keeps_is c.args.some.now c.args.s.now _ s.is (keeps_extend c.args.some.now s.field-0 s.field-1 s.field-2)

pub statement_sets_only-returns-in-Cut : goal.statement_sets_only-returns-in-Cut
statement_sets_only-returns-in-Cut t c =
    let s = c.in-Cut in
    λ h. keeps_is c.args.some.now c.args.s.now _ s.is (keeps_cut c.args.some.now s.field-0 s.field-1)

pub statement_sets_only-returns-in-Sort : goal.statement_sets_only-returns-in-Sort
statement_sets_only-returns-in-Sort t c =
    let s = c.in-Sort in
    λ h. keeps_is c.args.some.now c.args.s.now _ s.is (keeps_sort c.args.some.now s.field-0)

pub statement_sets_only-returns-in-SortSum : goal.statement_sets_only-returns-in-SortSum
statement_sets_only-returns-in-SortSum t c =
    let s = c.in-SortSum in
    λ h. keeps_is c.args.some.now c.args.s.now _ s.is (keeps_sort_sum c.args.some.now s.field-0)

pub statement_sets_only-returns-then-sets_only : goal.statement_sets_only-returns-then-sets_only
statement_sets_only-returns-then-sets_only t c =
    let s = c.in-If in
    λ h. keeps_both c.args.some.now c.args.s.now s.field-0 s.first s.second c.as_slice.result.now c.as_slice-then-sets_only.result.now s.is
    c.as_slice.ensures c.as_slice-then-sets_only.ensures (c.sets_only.ensures (is_true c.sets_only.result c.if-sets_only.true))
    (c.sets_only-then-sets_only.ensures h)

pub statement_sets_only-returns-in-While : goal.statement_sets_only-returns-in-While
statement_sets_only-returns-in-While t c =
    let s = c.in-While in
    λ h. keeps_body c.args.some.now c.args.s.now s.field-0 s.field-1 s.body c.as_slice-in-While.result.now s.is c.as_slice-in-While.ensures
    (c.sets_only-in-While.ensures h)

pub sets_only-loop-s-preserved : goal.sets_only-loop-s-preserved
sets_only-loop-s-preserved t c =
    keeps_more c.args.some.now c.args.code.now c.loop-s.s-index c.s-item.result c.loop-s-test.true c.s-item.is c.loop-s.invariant
    (c.statement_sets_only.ensures c.if-not-statement_sets_only.false)
