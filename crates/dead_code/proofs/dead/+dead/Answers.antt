use Rattle.std.proofs.Common.{◌≡◌, ◌+◌, ◌-◌, ◌<◌, ◌∙◌, ◌++◌, Vec, Global, List, ap, append-nil, arith, drop, length, refl, reverse}
use Rattle.std.proofs.Common.{subst, sym, take}
use Rattle.kernel_code.specs.declared.syntax.KStmt.{KStmt}
use Rattle.dead_code.specs.Follows.{Follows}
use Rattle.dead_code.specs.Gathers.{IsLeftOfChoice, Leaves}
use Rattle.dead_code.specs.Live.{Agree, Covers, left_of}
use Rattle.dead_code.proofs.LiveLemmas.{covers_then, reads_more}
use Rattle.dead_code.proofs.Leaving.{choice_now, if_ok_more, loop_left, one_before}
use Rattle.dead_code.proofs.dead.+dead.Goals as goal
use Rattle.dead_code.proofs.dead.+dead.Goals.{live_code-in-Some+in_ok-push, live_code-in_default}

abbrev items_of : Vec KStmt Global → List KStmt
items_of v = v.items

pub live_loop-returns : goal.live_loop-returns
live_loop-returns t c =
    let turn = c.in_ok-turn in
    let head = turn.turn.live in
    loop_left head c.args.live.now c.args.before.now c.args.kind c.args.test.now c.in_ok-test.test c.args.body.now turn.turn.body
    turn.ensures.same
    (reads_more head c.add_first_reads.new.live c.args.test.now turn.ensures.covers
    (reads_more c.add_first_reads.new.live c.add_reads.new.live c.args.test.now c.in_ok-add_first_reads.ensures c.add_reads.ensures.reads))
    (covers_then head c.add_first_reads.new.live c.args.live.now turn.ensures.covers
    (covers_then c.add_first_reads.new.live c.add_reads.new.live c.args.live.now c.in_ok-add_first_reads.ensures
    (subst (λ xs. Covers c.add_reads.new.live xs) (c.in_ok-head.ensures ∙ c.as_slice.ensures) c.add_reads.ensures.covers)))
    c.in_ok-test.ensures

pub live_code-loop-end-preserved : goal.live_code-loop-end-preserved
live_code-loop-end-preserved t c =
    let code = c.args.code.now in
    let m = c.loop-end.end - 1 in
    let o = c.in_ok-statement in
    let old = c.loop-end.backwards.items in
    let now = c.live_statement.new.live in
    let place : c.loop-end.end ≡ m + 1 = omega arith in
    let inside : m < length code = omega arith in
    let next =
    subst (λ n. Follows (Agree c.loop-end.live) (drop n code) (reverse old) (Agree c.args.live.now)) place c.loop-end.invariant.follows in
    record {
      within = omega arith;
      follows = elim c.match-statement.branch [
        | live_code-in-Some+in_ok-push w ↦
            one_before now c.loop-end.live c.args.live.now code (take m code) m o.field-0.taken c.index-code-last.result o.field-0.statement
            old c.match-statement.backwards.items inside refl c.index-code-last.is o.ensures next
            (ap items_of w.backwards-is ∙ w.in_ok-push.ensures.items
            ∙ ap (λ left. old ++ left_of left) (sym w.in-Some.is))
        | live_code-in_default w ↦
            one_before now c.loop-end.live c.args.live.now code (take m code) m o.field-0.taken c.index-code-last.result o.field-0.statement
            old c.match-statement.backwards.items inside refl c.index-code-last.is o.ensures next
            (ap items_of w.backwards-is ∙ sym (append-nil old)
            ∙ ap (λ left. old ++ left_of left) (sym w.in_default.is))
      ];
    }

pub live_statement-returns-in_ok-other-in-If : goal.live_statement-returns-in_ok-other-in-If
live_statement-returns-in_ok-other-in-If t c =
    let s = c.in-If in
    let there = c.live_code.new.live in
    let told = c.as_slice-in-If-3.result.now in
    let elsewhere = c.live_code-in-If.new.live in
    let live = c.joined.new.live in
    let after = c.args.live.now in
    let one = c.in_ok-one-in-If.one in
    let other = c.in_ok-other-in-If.other in
    let held = c.as_slice-in-If.result.now in
    let before = c.args.before.now in
    if_ok_more c.joined.result (λ left. IsLeftOfChoice live told elsewhere before s.test one other left.statement left.taken)
    (λ left. Leaves live before c.args.s.now left.statement left.taken after) c.joined.ensures
    (λ left h. choice_now live told elsewhere after before c.args.s.now s.test s.first s.second held c.as_slice-in-If-2.result.now one other
    left.statement left.taken s.is c.as_slice-in-If.ensures c.as_slice-in-If-2.ensures
    (subst (λ xs. Follows (Agree xs) held one (Agree after)) (sym c.as_slice-in-If-3.ensures)
    (subst (λ xs. Follows (Agree there) held one (Agree xs)) (c.in_ok-there-in-If.ensures ∙ c.as_slice.ensures) c.in_ok-one-in-If.ensures))
    c.in_ok-other-in-If.ensures h)
