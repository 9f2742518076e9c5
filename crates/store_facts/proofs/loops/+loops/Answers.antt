use Rattle.std.proofs.Common.{◌≡◌, ◌++◌, ◌∷◌, [], sym}
use Rattle.kernel_code.specs.declared.syntax.KStmt.{If, While}
use Rattle.simplifier.specs.Refines.{Refines}
use Rattle.store_facts.specs.Facts.{KeepsFacts}
use Rattle.store_facts.proofs.CodeLemmas.{if_ok_more, itself, loop_now, refines_appended, refines_choice, refines_last, refines_more}
use Rattle.store_facts.proofs.CodeLemmas.{refines_pushed}
use Rattle.store_facts.proofs.FactLemmas.{becomes_copy}
use Rattle.store_facts.proofs.loops.+loops.Goals as goal

pub add_statement-returns-in_ok-second-in-If : goal.add_statement-returns-in_ok-second-in-If
add_statement-returns-in_ok-second-in-If t c =
    let F = c.args.facts.now in
    let s = c.in-If in
    let test = c.in_ok-test-in-If in
    let first = c.in_ok-first-in-If in
    let second = c.in_ok-second-in-If in
    let new = If test.test first.first second.second in
    let step = refines_choice F c.args.s.now s.test test.test s.first s.second c.as_slice.result.now c.as_slice-in-If.result.now first.first
    second.second s.is c.as_slice.ensures c.as_slice-in-If.ensures (becomes_copy F s.test test.test test.ensures) first.ensures
    second.ensures in
    let out = c.args.out.now in
    if_ok_more c.push.result (λ u. c.push.new.self ≡ out ++ new ∷ [])
    (λ u. Refines (KeepsFacts F) c.push.new.self (out ++ c.args.s.now ∷ [])) c.push.ensures.ok
    (λ u is. refines_last F out c.push.new.self new c.args.s.now is step)

pub add_statement-returns-in_ok-body-in-While : goal.add_statement-returns-in_ok-body-in-While
add_statement-returns-in_ok-body-in-While t c =
    let F = c.args.facts.now in
    let s = c.in-While in
    let test = c.in_ok-test-in-While in
    let body = c.in_ok-body-in-While in
    let new = While s.kind test.test body.body in
    let step = loop_now F c.args.s.now s.kind s.test test.test s.body c.as_slice-in-While.result.now body.body s.is
    c.as_slice-in-While.ensures (becomes_copy F s.test test.test test.ensures) body.ensures in
    let out = c.args.out.now in
    if_ok_more c.add_loop.result (λ u. Refines (KeepsFacts F) c.add_loop.new.out (out ++ new ∷ []))
    (λ u. Refines (KeepsFacts F) c.add_loop.new.out (out ++ c.args.s.now ∷ [])) c.add_loop.ensures
    (λ u is. refines_appended F out c.add_loop.new.out new c.args.s.now is step)

pub add_statement-returns-in_ok-copy-in_default : goal.add_statement-returns-in_ok-copy-in_default
add_statement-returns-in_ok-copy-in_default t c =
    let F = c.args.facts.now in
    let copy = c.in_ok-copy-in_default in
    let out = c.args.out.now in
    if_ok_more c.push-in_default.result (λ u. c.push-in_default.new.self ≡ out ++ copy.copy ∷ [])
    (λ u. Refines (KeepsFacts F) c.push-in_default.new.self (out ++ c.args.s.now ∷ []))
    c.push-in_default.ensures.ok
    (λ u is. refines_last F out c.push-in_default.new.self copy.copy c.args.s.now is
    (itself F copy.copy c.args.s.now (sym copy.ensures)))

pub loops_in-loop-s-init : goal.loops_in-loop-s-init
loops_in-loop-s-init t c = refines_pushed c.args.facts.now c.new-out.result [] c.new-out.ensures

pub loops_in-loop-s-preserved : goal.loops_in-loop-s-preserved
loops_in-loop-s-preserved t c =
    refines_more c.args.facts.now c.args.code.now c.loop-s.out c.add_statement.new.out c.loop-s.s-index c.s-item.result c.loop-s-test.true
    c.s-item.is c.loop-s.invariant c.in_ok-add_statement.ensures
