use Rattle.std.proofs.Common.{◌+◌, ◌-◌, drop, length, refl, take}
use Rattle.std.proofs.lemmas.List.{take_rest}
use Rattle.jump_threading.proofs.ChoiceLemmas.{choice_taken, loop_passed}
use Rattle.jump_threading.proofs.CodeLemmas.{alike_more, more_within}
use Rattle.jump_threading.proofs.threads.+threads.Goals as goal

pub add_statement-returns-in_ok-add_choice-in-If-clause-alike : goal.add_statement-returns-in_ok-add_choice-in-If-clause-alike
add_statement-returns-in_ok-add_choice-in-If-clause-alike t c =
    let s = c.in-If in
    let more = take c.count_taken-taken.result c.args.behind.now in
    choice_taken c.args.out.now c.add_choice.new.out more more c.in_ok-one-in-If.one c.in_ok-other-in-If.other c.as_slice-in-If-2.result.now
    c.as_slice-in-If-3.result.now s.first s.second c.args.s.now s.test s.is c.as_slice-in-If-2.ensures c.as_slice-in-If-3.ensures refl
    c.in_ok-one-in-If.ensures c.in_ok-other-in-If.ensures c.in_ok-add_choice-in-If.ensures

pub add_statement-returns-in_ok-push-in-While-clause-alike : goal.add_statement-returns-in_ok-push-in-While-clause-alike
add_statement-returns-in_ok-push-in-While-clause-alike t c =
    let s = c.in-While in
    loop_passed c.args.out.now c.push.new.self c.as_slice-in-While.result.now c.in_ok-body-in-While.body s.body c.args.s.now s.kind s.test
    c.in_ok-test-in-While.test s.is c.as_slice-in-While.ensures c.in_ok-test-in-While.ensures c.in_ok-body-in-While.ensures
    c.in_ok-push-in-While.ensures.ok

pub thread_code-loop-next-preserved : goal.thread_code-loop-next-preserved
thread_code-loop-next-preserved t c =
    let code = c.args.code.now in
    let next = c.loop-next.next in
    let taken = c.in_ok-taken.taken in
    let rest = take (length code - (next + 1)) (drop (next + 1) code) in
    let whole = take_rest code (next + 1) in
    record {
      within = more_within code rest next taken c.loop-next-test.true whole c.in_ok-taken.ensures.within;
      alike = alike_more code c.loop-next.out c.add_statement.new.out rest next taken c.index-code-next.result c.loop-next-test.true
          c.index-code-next.is whole c.loop-next.invariant.alike c.in_ok-taken.ensures.alike;
    }
