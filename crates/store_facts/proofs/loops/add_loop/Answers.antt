use Rattle.std.proofs.Common.{◌≡◌, ◌++◌, ◌∷◌, []}
use Rattle.kernel_code.specs.declared.syntax.KStmt.{While}
use Rattle.simplifier.specs.Refines.{Refines}
use Rattle.store_facts.specs.Facts.{KeepsFacts}
use Rattle.store_facts.specs.Loads.{loop_code}
use Rattle.store_facts.proofs.CodeLemmas.{if_ok_more, refines_appended_to, refines_pushed}
use Rattle.store_facts.proofs.LoopLemmas.{goes_now, loop_placed}
use Rattle.store_facts.proofs.loops.add_loop.Goals as goal

pub returns-in-Some : goal.returns-in-Some
returns-in-Some c =
    let F = c.args.facts.now in
    let load = c.in-Some.load in
    let out = c.name_load.new.out in
    let new = c.put_loop.new.out in
    let kind = c.args.kind in
    let loop = While kind c.args.test c.args.body in
    let goes = goes_now F c.as_slice-2.result.now out c.as_slice-3.result.now c.args.body c.args.test c.in_ok-load.field-0 load
    c.as_slice-2.ensures c.as_slice-3.ensures c.in-Some.is c.in_ok-load.ensures in
    let front = goes.ahead.0 in
    let inner = goes.behind.0 in
    if_ok_more c.put_loop.result (λ u. new ≡ front ++ loop_code kind load inner)
    (λ u. Refines (KeepsFacts F) new (c.args.out.now ++ loop ∷ []))
    (c.put_loop.ensures front inner goes.ahead.1 goes.behind.1)
    (λ u is. refines_appended_to F c.args.out.now out new loop (c.in_ok-name_load.ensures F)
    (loop_placed F kind load out c.args.test c.args.body new front inner goes.variable goes.ahead.1 goes.behind.1 goes.tests
    goes.below is))

pub returns-in-None : goal.returns-in-None
returns-in-None c =
    let F = c.args.facts.now in
    let out = c.name_load.new.out in
    let loop = While c.args.kind c.args.test c.args.body in
    if_ok_more c.push.result (λ u. c.push.new.self ≡ out ++ loop ∷ [])
    (λ u. Refines (KeepsFacts F) c.push.new.self (c.args.out.now ++ loop ∷ [])) c.push.ensures.ok
    (λ u is. refines_appended_to F c.args.out.now out c.push.new.self loop (c.in_ok-name_load.ensures F)
    (refines_pushed F c.push.new.self (out ++ loop ∷ []) is))
