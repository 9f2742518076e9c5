use Rattle.std.proofs.Common.{◌≡◌, ◌++◌, ◌∷◌, []}
use Rattle.kernel_code.specs.declared.syntax.KStmt.{Set}
use Rattle.store_facts.specs.Loads.{last_word, load_code, loop_code}
use Rattle.store_facts.proofs.CodeLemmas.{if_ok_more}
use Rattle.store_facts.proofs.LoopLemmas.{popped, put_is}
use Rattle.store_facts.proofs.loops.put_loop.Goals as goal

pub returns : goal.returns
returns c = λ front inner ahead behind.
    let load = c.args.load in
    let body = popped c.pop.result c.args.body c.pop.new.self inner (load_code load) c.pop.ensures behind in
    let out = popped c.pop-2.result c.args.out.now c.pop-2.new.self front (load_code load) c.pop-2.ensures ahead in
    if_ok_more c.push-2.result (λ u. c.push-2.new.self ≡ c.push.new.self ++ Set load.variable last_word ∷ [])
    (λ u. c.push-2.new.self ≡ front ++ loop_code c.args.kind load inner) c.push-2.ensures.ok
    (λ u is. put_is c.args.kind load front inner c.pop-2.new.self c.push.new.self c.push-2.new.self c.in_ok-turn.turn c.append.new.self
    c.pop.new.self out body c.in_ok-turn.ensures c.in_ok-append.ensures.ok c.in_ok-push.ensures.ok is)
