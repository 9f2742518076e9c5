use Rattle.std.proofs.Common.{◌≡◌, ◌∙◌, ◌+◌, ◌∷◌, [], sym, refl, ap, arith, length, true, false, List, ℕ}
use Rattle.kernel_code.specs.Arrays.{may_have, told_count}
use Rattle.kernel_code.specs.Meaning.{grown, Over}
use Rattle.kernel_interpreter.specs.Store.{state_of}
use Rattle.kernel_interpreter.proofs.StoreLemmas.{grown_at, not_grown_at}
use Rattle.kernel_interpreter.proofs.machine.Machine.push_word.Goals as goal

pub returns-in_default-clause-is : goal.returns-in_default-clause-is
returns-in_default-clause-is c = λ t.
    sym (c.in_default.ensures (λ xs. grown (state_of c.args.self.now) c.args.a (length xs + 1) xs (c.args.value ∷ [])))

pub returns-then-not-may_grow-clause-is : goal.returns-then-not-may_grow-clause-is
returns-then-not-may_grow-clause-is c = λ t.
    let count = λ (xs : List ℕ). length xs + 1 in
    let n : c.len-length.result + 1 ≡ length c.index_mut.result.now.words.items + 1 = omega arith in
    let long : may_have c.args.a (c.len-length.result + 1) ≡ false = cc in
    ap (Over (state_of c.args.self.now).turns c.args.a) (c.count_told-count.ensures ∙ ap (told_count c.args.a) n)
    ∙ not_grown_at c.args.self.now c.args.a c.in-Some.place c.index_mut.result.now count (c.args.value
    ∷ []) (record { writable = c.in-Some.ensures; is = c.index_mut.ensures.value }) (ap (may_have c.args.a) (sym n) ∙ long)

pub returns-in-Ok-clause-is : goal.returns-in-Ok-clause-is
returns-in-Ok-clause-is c = λ t.
    let count = λ (xs : List ℕ). length xs + 1 in
    let n : c.len-length.result + 1 ≡ length c.index_mut.result.now.words.items + 1 = omega arith in
    let long : may_have c.args.a (c.len-length.result + 1) ≡ true = cc in
    grown_at c.args.self.now c.args.a c.in-Some.place c.index_mut.result.now _ count (c.args.value
    ∷ []) (record { writable = c.in-Some.ensures; is = c.index_mut.ensures.value }) (ap (may_have c.args.a) (sym n)
    ∙ long) refl c.in-Ok.ensures
