use Rattle.std.proofs.Common.{rules, ◌≡◌, ◌∙◌, sym}
use Rattle.std.proofs.lemmas.Bool.{false≢true}
use Rattle.store_facts.proofs.NameLemmas.{one_of_both, one_word}
use Rattle.store_facts.proofs.names.+are_one.Goals as goal
use Rattle.store_facts.proofs.names.+are_one.Goals.{then-eq-2, else-eq-2}

pub returns-then-eq : goal.returns-then-eq
returns-then-eq t c = λ yes.
    let s = c.in-At-At in
    let same : s.array ≡ s.other = search rules in
    one_word c.args.x c.args.y c.args.e.now c.args.f.now s.array s.other s.i s.j c.get.result.now c.get-then-eq.result.now s.is-0 s.is-1
    same c.get.ensures c.get-then-eq.ensures (c.are_one.ensures yes)

pub returns-then-are_one : goal.returns-then-are_one
returns-then-are_one t c = λ yes.
    elim c.if-eq-2.branch [
      | then-eq-2 w ↦
          let s = c.in-Bin-Bin in
          let same : s.op ≡ s.other = search rules in
          one_of_both c.args.x c.args.y c.args.e.now c.args.f.now s.op s.other s.a s.b s.c s.d w.get-then-eq-2.result.now
          c.get-then-are_one.result.now w.get-then-eq-2-2.result.now c.get-then-are_one-2.result.now s.is-0 s.is-1 same
          w.get-then-eq-2.ensures c.get-then-are_one.ensures w.get-then-eq-2-2.ensures c.get-then-are_one-2.ensures
          (w.are_one-then-eq-2.ensures (sym w.value-is ∙ c.if-are_one.true)) (c.are_one-then-are_one.ensures yes)
      | else-eq-2 w ↦ absurd (false≢true (sym w.if-eq-2.false ∙ sym w.value-is ∙ c.if-are_one.true))
    ]
