use Rattle.std.proofs.Common.{◌∷◌, []}
use Rattle.dead_code.specs.Follows.{Tie}
use Rattle.dead_code.proofs.Following.{follows_cut, follows_extend, follows_push, follows_put, follows_sort, follows_sort_sum, follows_sum}
use Rattle.kernel_code.specs.declared.syntax.KStmt.{AddTo, Cut, Extend, Push, Put, Sort, SortSum}
use Rattle.variable_numbers.specs.Numbers.{Renamed}
use Rattle.variable_numbers.proofs.Renaming.{code_more, follows_here, numbered_choice, numbered_combine, numbered_loop, numbered_set}
use Rattle.variable_numbers.proofs.statements.+number.Goals as goal

pub number_statement-returns-in_ok-e-in-Set : goal.number_statement-returns-in_ok-e-in-Set
number_statement-returns-in_ok-e-in-Set t c =
    let s = c.in-Set in
    numbered_set c.args.numbers.now.table c.args.numbers.now.names c.args.numbers.now.each_once c.args.s.now s.x c.in_ok-x-in-Set.x
    s.e c.in_ok-e-in-Set.e s.is
    c.in_ok-x-in-Set.ensures c.in_ok-e-in-Set.ensures

pub number_statement-returns-in_ok-f-in-Combine : goal.number_statement-returns-in_ok-f-in-Combine
number_statement-returns-in_ok-f-in-Combine t c =
    let s = c.in-Combine in
    numbered_combine c.args.numbers.now.table c.args.numbers.now.names c.args.numbers.now.each_once c.args.s.now s.x
    c.in_ok-x-in-Combine.x s.op s.e s.f
    c.in_ok-e-in-Combine.e c.in_ok-f-in-Combine.f s.is c.in_ok-x-in-Combine.ensures c.in_ok-e-in-Combine.ensures
    c.in_ok-f-in-Combine.ensures

pub number_statement-returns-in_ok-e-in-Put : goal.number_statement-returns-in_ok-e-in-Put
number_statement-returns-in_ok-e-in-Put t c =
    let s = c.in-Put in
    let tie : Tie = Renamed c.args.numbers.now.names in
    let i = c.in_ok-i-in-Put in
    let e = c.in_ok-e-in-Put in
    follows_here tie c.args.s.now (Put s.a s.i s.e) (Put s.a i.i e.e ∷ []) s.is
    (follows_put tie s.a s.i s.e i.i e.e i.ensures e.ensures)

pub number_statement-returns-in_ok-e-in-AddTo : goal.number_statement-returns-in_ok-e-in-AddTo
number_statement-returns-in_ok-e-in-AddTo t c =
    let s = c.in-AddTo in
    let tie : Tie = Renamed c.args.numbers.now.names in
    let i = c.in_ok-i-in-AddTo in
    let e = c.in_ok-e-in-AddTo in
    follows_here tie c.args.s.now (AddTo s.a s.i s.e) (AddTo s.a i.i e.e ∷ []) s.is
    (follows_sum tie s.a s.i s.e i.i e.e i.ensures e.ensures)

pub number_statement-returns-in_ok-e-in-Extend : goal.number_statement-returns-in_ok-e-in-Extend
number_statement-returns-in_ok-e-in-Extend t c =
    let s = c.in-Extend in
    let tie : Tie = Renamed c.args.numbers.now.names in
    let i = c.in_ok-i-in-Extend in
    let e = c.in_ok-e-in-Extend in
    follows_here tie c.args.s.now (Extend s.a s.i s.e) (Extend s.a i.i e.e ∷ []) s.is
    (follows_extend tie s.a s.i s.e i.i e.e i.ensures e.ensures)

pub number_statement-returns-in_ok-e-in-Push : goal.number_statement-returns-in_ok-e-in-Push
number_statement-returns-in_ok-e-in-Push t c =
    let s = c.in-Push in
    let tie : Tie = Renamed c.args.numbers.now.names in
    let e = c.in_ok-e-in-Push in
    follows_here tie c.args.s.now (Push s.a s.e) (Push s.a e.e ∷ []) s.is (follows_push tie s.a s.e e.e e.ensures)

pub number_statement-returns-in_ok-e-in-Cut : goal.number_statement-returns-in_ok-e-in-Cut
number_statement-returns-in_ok-e-in-Cut t c =
    let s = c.in-Cut in
    let tie : Tie = Renamed c.args.numbers.now.names in
    let e = c.in_ok-e-in-Cut in
    follows_here tie c.args.s.now (Cut s.a s.e) (Cut s.a e.e ∷ []) s.is (follows_cut tie s.a s.e e.e e.ensures)

pub number_statement-returns-in-Sort : goal.number_statement-returns-in-Sort
number_statement-returns-in-Sort t c =
    let tie : Tie = Renamed c.args.numbers.now.names in
    let s = c.in-Sort in
    follows_here tie c.args.s.now (Sort s.list) (Sort s.list ∷ []) s.is (follows_sort tie s.list)

pub number_statement-returns-in-SortSum : goal.number_statement-returns-in-SortSum
number_statement-returns-in-SortSum t c =
    let tie : Tie = Renamed c.args.numbers.now.names in
    let s = c.in-SortSum in
    follows_here tie c.args.s.now (SortSum s.workspace) (SortSum s.workspace ∷ []) s.is (follows_sort_sum tie s.workspace)

pub number_statement-returns-in_ok-second-in-If : goal.number_statement-returns-in_ok-second-in-If
number_statement-returns-in_ok-second-in-If t c =
    let s = c.in-If in
    let tie : Tie = Renamed c.args.numbers.now.names in
    numbered_choice tie c.args.s.now s.test c.in_ok-test-in-If.test s.first s.second c.as_slice.result.now c.as_slice-in-If.result.now
    c.in_ok-first-in-If.first c.in_ok-second-in-If.second s.is c.as_slice.ensures c.as_slice-in-If.ensures c.in_ok-test-in-If.ensures
    c.in_ok-first-in-If.ensures c.in_ok-second-in-If.ensures

pub number_statement-returns-in_ok-body-in-While : goal.number_statement-returns-in_ok-body-in-While
number_statement-returns-in_ok-body-in-While t c =
    let s = c.in-While in
    let tie : Tie = Renamed c.args.numbers.now.names in
    numbered_loop tie c.args.s.now s.kind s.test c.in_ok-test-in-While.test s.body c.as_slice-in-While.result.now c.in_ok-body-in-While.body
    s.is c.as_slice-in-While.ensures c.in_ok-test-in-While.ensures c.in_ok-body-in-While.ensures

pub number_code-loop-s-preserved : goal.number_code-loop-s-preserved
number_code-loop-s-preserved t c =
    code_more (Renamed c.args.numbers.now.names) c.args.code.now c.loop-s.numbered c.push.new.self c.loop-s.s-index c.s-item.result
    c.in_ok-s.s
    c.loop-s-test.true c.s-item.is c.loop-s.invariant c.in_ok-s.ensures c.in_ok-push.ensures.ok
