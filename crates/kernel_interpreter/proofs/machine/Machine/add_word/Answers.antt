use Rattle.std.proofs.Common.{◌≡◌, ◌∙◌, sym, refl, ap, arith, slice_index, slice_set}
use Rattle.std.proofs.lemmas.Grind.{get_or_default_zero}
use Rattle.kernel_code.specs.Arrays.{sum_in}
use Rattle.kernel_code.specs.Meaning.{changed}
use Rattle.kernel_interpreter.specs.Store.{state_of}
use Rattle.kernel_interpreter.proofs.StoreLemmas.{changed_at, not_changed_at}
use Rattle.kernel_interpreter.proofs.machine.Machine.add_word.Goals as goal

pub returns-in_default-clause-is : goal.returns-in_default-clause-is
returns-in_default-clause-is g c =
    sym (c.in_default.ensures
    (changed (state_of c.args.self.now) c.args.a c.args.i (λ old. sum_in g.S.Semiring.arithmetic c.args.a old c.args.value)))

pub returns-then-i-len-clause-is : goal.returns-then-i-len-clause-is
returns-then-i-len-clause-is g c =
    not_changed_at c.args.self.now c.args.a c.in-Some.place c.index_mut.result.now c.args.i
    (λ old. sum_in g.S.Semiring.arithmetic c.args.a old c.args.value)
    (record { writable = c.in-Some.ensures; is = c.index_mut.ensures.value }) (omega arith)

pub returns-clause-is : goal.returns-clause-is
returns-clause-is g c =
    let xs = c.index_mut.result.now.words.items in
    let sum : c.sum_of_words-sum.result ≡ sum_in g.S.Semiring.arithmetic c.args.a (slice_index xs c.args.i) c.args.value =
    c.sum_of_words-sum.ensures
    ∙ ap (λ n. sum_in g.S.Semiring.arithmetic c.args.a n c.args.value) (c.get.ensures
    ∙ get_or_default_zero xs c.args.i c.get.result (omega arith)) in
    changed_at c.args.self.now c.args.a c.in-Some.place c.index_mut.result.now _ c.args.i
    (λ old. sum_in g.S.Semiring.arithmetic c.args.a old c.args.value)
    (record { writable = c.in-Some.ensures; is = c.index_mut.ensures.value }) (omega arith) refl (c.set.ensures.items
    ∙ ap (slice_set xs c.args.i) sum)
