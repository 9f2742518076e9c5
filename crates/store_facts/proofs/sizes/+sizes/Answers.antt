use Rattle.std.proofs.Common.{[]}
use Rattle.store_facts.proofs.CodeLemmas.{itself, loop_now, refines_choice, refines_combine, refines_cut, refines_extend, refines_last}
use Rattle.store_facts.proofs.CodeLemmas.{refines_more, refines_pushed, refines_push, refines_put, refines_set, refines_sum}
use Rattle.kernel_code.specs.declared.syntax.KStmt.{Sort, SortSum}
use Rattle.store_facts.proofs.sizes.+sizes.Goals as goal

pub statement_by_ranges-returns-in_ok-by_ranges-in-Set : goal.statement_by_ranges-returns-in_ok-by_ranges-in-Set
statement_by_ranges-returns-in_ok-by_ranges-in-Set t c =
    let s = c.in-Set in
    let d = c.in_ok-by_ranges-in-Set in
    refines_set c.args.facts.now c.args.s.now s.x s.e d.field-0 s.is d.ensures

pub statement_by_ranges-returns-in_ok-f-in-Combine : goal.statement_by_ranges-returns-in_ok-f-in-Combine
statement_by_ranges-returns-in_ok-f-in-Combine t c =
    let s = c.in-Combine in
    let e = c.in_ok-e-in-Combine in
    let f = c.in_ok-f-in-Combine in
    refines_combine c.args.facts.now c.args.s.now s.x s.op s.e s.f e.e f.f s.is e.ensures f.ensures

pub statement_by_ranges-returns-in_ok-e-in-Put : goal.statement_by_ranges-returns-in_ok-e-in-Put
statement_by_ranges-returns-in_ok-e-in-Put t c =
    let s = c.in-Put in
    let i = c.in_ok-i-in-Put in
    let e = c.in_ok-e-in-Put in
    refines_put c.args.facts.now c.args.s.now s.a s.i s.e i.i e.e s.is i.ensures e.ensures

pub statement_by_ranges-returns-in_ok-e-in-AddTo : goal.statement_by_ranges-returns-in_ok-e-in-AddTo
statement_by_ranges-returns-in_ok-e-in-AddTo t c =
    let s = c.in-AddTo in
    let i = c.in_ok-i-in-AddTo in
    let e = c.in_ok-e-in-AddTo in
    refines_sum c.args.facts.now c.args.s.now s.a s.i s.e i.i e.e s.is i.ensures e.ensures

pub statement_by_ranges-returns-in_ok-by_ranges-in-Push : goal.statement_by_ranges-returns-in_ok-by_ranges-in-Push
statement_by_ranges-returns-in_ok-by_ranges-in-Push t c =
    let s = c.in-Push in
    let d = c.in_ok-by_ranges-in-Push in
    refines_push c.args.facts.now c.args.s.now s.a s.e d.field-0 s.is d.ensures

pub statement_by_ranges-returns-in_ok-e-in-Extend : goal.statement_by_ranges-returns-in_ok-e-in-Extend
statement_by_ranges-returns-in_ok-e-in-Extend t c =
    let s = c.in-Extend in
    let i = c.in_ok-count-in-Extend in
    let e = c.in_ok-e-in-Extend in
    refines_extend c.args.facts.now c.args.s.now s.a s.count s.e i.count e.e s.is i.ensures e.ensures

pub statement_by_ranges-returns-in_ok-by_ranges-in-Cut : goal.statement_by_ranges-returns-in_ok-by_ranges-in-Cut
statement_by_ranges-returns-in_ok-by_ranges-in-Cut t c =
    let s = c.in-Cut in
    let d = c.in_ok-by_ranges-in-Cut in
    refines_cut c.args.facts.now c.args.s.now s.a s.e d.field-0 s.is d.ensures

pub statement_by_ranges-returns-in-Sort : goal.statement_by_ranges-returns-in-Sort
statement_by_ranges-returns-in-Sort t c = itself c.args.facts.now (Sort c.in-Sort.list) c.args.s.now c.in-Sort.is

pub statement_by_ranges-returns-in-SortSum : goal.statement_by_ranges-returns-in-SortSum
statement_by_ranges-returns-in-SortSum t c = itself c.args.facts.now (SortSum c.in-SortSum.workspace) c.args.s.now c.in-SortSum.is

pub statement_by_ranges-returns-in_ok-second-in-If : goal.statement_by_ranges-returns-in_ok-second-in-If
statement_by_ranges-returns-in_ok-second-in-If t c =
    let s = c.in-If in
    let test = c.in_ok-test-in-If in
    let first = c.in_ok-first-in-If in
    let second = c.in_ok-second-in-If in
    refines_choice c.args.facts.now c.args.s.now s.test test.test s.first s.second c.as_slice.result.now c.as_slice-in-If.result.now
    first.first second.second s.is c.as_slice.ensures c.as_slice-in-If.ensures test.ensures first.ensures second.ensures

pub statement_by_ranges-returns-in_ok-body-in-While : goal.statement_by_ranges-returns-in_ok-body-in-While
statement_by_ranges-returns-in_ok-body-in-While t c =
    let s = c.in-While in
    let test = c.in_ok-test-in-While in
    let body = c.in_ok-body-in-While in
    loop_now c.args.facts.now c.args.s.now s.kind s.test test.test s.body c.as_slice-in-While.result.now body.body s.is
    c.as_slice-in-While.ensures test.ensures body.ensures

pub code_by_ranges-loop-s-init : goal.code_by_ranges-loop-s-init
code_by_ranges-loop-s-init t c = refines_pushed c.args.facts.now c.new-out.result [] c.new-out.ensures

pub code_by_ranges-loop-s-preserved : goal.code_by_ranges-loop-s-preserved
code_by_ranges-loop-s-preserved t c =
    let F = c.args.facts.now in
    let out = c.loop-s.out in
    let new = c.in_ok-new in
    refines_more F c.args.code.now out c.push.new.self c.loop-s.s-index c.s-item.result c.loop-s-test.true c.s-item.is c.loop-s.invariant
    (refines_last F out c.push.new.self new.new c.s-item.result c.in_ok-push.ensures.ok new.ensures)
