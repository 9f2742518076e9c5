use Rattle.std.proofs.Common.{◌∙◌, ap, sym, Some, refl}
use Rattle.kernel_code.specs.Meaning.{set_array}
use Rattle.kernel_interpreter.specs.Store.{state_of}
use Rattle.kernel_interpreter.proofs.StoreLemmas.{own_at_place, none_found, state_of_replaced}
use Rattle.kernel_interpreter.proofs.machine.Machine.take_array.Goals as goal

pub returns-in_default-clause-words : goal.returns-in_default-clause-words
returns-in_default-clause-words c = sym (none_found c.args.self.now c.args.a c.requires c.in_default.ensures)

pub returns-clause-words : goal.returns-clause-words
returns-clause-words c =
    ap (λ v. Some v.items) c.replace.ensures.value
    ∙ sym (own_at_place c.args.self.now c.args.a c.in-Some.place c.index_mut.result.now (c.in-Some.ensures, c.requires)
    ∙ ap (λ w. Some w.words.items) (sym c.index_mut.ensures.value))

pub returns-clause-left : goal.returns-clause-left
returns-clause-left c =
    state_of_replaced c.args.self.now c.args.a c.in-Some.place c.index_mut.result.now _
    (record { writable = (c.in-Some.ensures, c.requires); is = c.index_mut.ensures.value }) refl
    ∙ ap (set_array (state_of c.args.self.now) c.args.a) (ap (λ v. v.items) c.replace.ensures.after ∙ c.new.ensures.items)
