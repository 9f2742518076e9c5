use Rattle.std.proofs.Common.{◌≡◌, List, ◌++◌, ◌∷◌, []}
use Rattle.kernel_code.specs.declared.syntax.KExpr.{Var}
use Rattle.kernel_code.specs.declared.syntax.KStmt.{Set}
use Rattle.simplifier.specs.Refines.{Refines}
use Rattle.store_facts.specs.declared.facts.StoreFact.{StoreFact}
use Rattle.store_facts.specs.Facts.{KeepsFacts}
use Rattle.store_facts.proofs.CodeLemmas.{if_ok_more}
use Rattle.store_facts.proofs.LoopLemmas.{popped}
use Rattle.store_facts.proofs.NameLemmas.{found_now, front_of, named_ends}
use Rattle.store_facts.proofs.names.name_load.Goals as goal

pub returns-in-Some : goal.returns-in-Some
returns-in-Some c =
    let out = c.args.out.now in
    let named = c.in-Some.named in
    let may = found_now c.as_slice.result.now out c.in_ok-named.field-0 named c.as_slice.ensures c.in-Some.is c.in_ok-named.ensures in
    let front = popped c.pop.result out c.pop.new.self (may.front ++ Set may.x (Var may.y) ∷ []) may.last c.pop.ensures
    (front_of out named may) in
    if_ok_more c.push.result (λ u. c.push.new.self ≡ c.pop.new.self ++ named ∷ [])
    (λ u. (facts : List StoreFact) → Refines (KeepsFacts facts) c.push.new.self out) c.push.ensures.ok
    (λ u made facts. named_ends facts out c.pop.new.self c.push.new.self named may front made)
