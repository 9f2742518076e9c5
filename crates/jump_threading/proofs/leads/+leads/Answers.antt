use Rattle.std.proofs.Common.{◌≡◌, ◌+◌, ◌-◌, ◌<◌, ◌∙◌, ◌∷◌, [], arith, drop, length, refl, reverse, subst, sym, take}
use Rattle.std.proofs.lemmas.List.{take_rest}
use Rattle.kernel_code.specs.declared.syntax.KStmt.{While}
use Rattle.jump_threading.specs.Alike.{DoesAlike}
use Rattle.jump_threading.proofs.ChoiceLemmas.{loop_passed}
use Rattle.jump_threading.proofs.LeadLemmas.{alone_led, choice_led_on, one_before}
use Rattle.jump_threading.proofs.leads.+leads.Goals as goal

pub lead_code-loop-end-preserved : goal.lead_code-loop-end-preserved
lead_code-loop-end-preserved t c =
    let code = c.args.code.now in
    let m = c.loop-end.end - 1 in
    let o = c.in_ok-statement in
    let old = c.loop-end.backwards.items in
    let place : c.loop-end.end ≡ m + 1 = omega arith in
    let inside : m < length code = omega arith in
    let next = subst (λ n. DoesAlike (reverse old) (drop n code)) place c.loop-end.invariant.alike in
    record {
      within = omega arith;
      alike = one_before code (take m code) m o.field-0.lead c.index-code-last.result o.field-0.statement old c.push.new.self.items
          inside refl c.index-code-last.is o.ensures.within o.ensures.alike next c.in_ok-push.ensures.items;
    }

pub lead_code-returns : goal.lead_code-returns
lead_code-returns t c =
    let code = c.args.code.now in
    let none : c.loop-end.end ≡ 0 = omega arith in
    subst (λ x. DoesAlike x code) (sym (c.from_vec.ensures ∙ c.reverse.ensures.items))
    (subst (λ n. DoesAlike (reverse c.loop-end.backwards.items) (drop n code)) none c.loop-end.invariant.alike)

pub lead_statement-returns-in_ok-statement-in-If-clause-alike : goal.lead_statement-returns-in_ok-statement-in-If-clause-alike
lead_statement-returns-in_ok-statement-in-If-clause-alike t c =
    let s = c.in-If in
    let before = c.args.before.now in
    let i = length before - c.in_ok-lead-in-If.lead in
    choice_led_on (drop i before) (take (length before - i) (drop i before)) c.in_ok-one-in-If.one c.in_ok-other-in-If.other
    c.as_slice.result.now c.as_slice-in-If.result.now s.first s.second c.args.s.now c.in_ok-statement-in-If.statement s.test s.is
    c.as_slice.ensures c.as_slice-in-If.ensures (take_rest before i) c.in_ok-lead-in-If.ensures.leaves
    c.in_ok-one-in-If.ensures c.in_ok-other-in-If.ensures c.in_ok-statement-in-If.ensures

pub lead_statement-returns-in_ok-test-in-While-clause-alike : goal.lead_statement-returns-in_ok-test-in-While-clause-alike
lead_statement-returns-in_ok-test-in-While-clause-alike t c =
    let s = c.in-While in
    let new = While s.kind c.in_ok-test-in-While.test c.in_ok-body-in-While.body in
    alone_led c.args.before.now c.args.s.now new
    (loop_passed [] (new ∷ []) c.as_slice-in-While-2.result.now c.in_ok-body-in-While.body s.body c.args.s.now s.kind s.test
    c.in_ok-test-in-While.test s.is c.as_slice-in-While-2.ensures c.in_ok-test-in-While.ensures c.in_ok-body-in-While.ensures refl)
