use Rattle.std.proofs.Common.{sym, refl, take}
use Rattle.kernel_code.specs.Meaning.{Ended, set_array}
use Rattle.kernel_interpreter.specs.Store.{state_of}
use Rattle.kernel_interpreter.proofs.StoreLemmas.{set_at}
use Rattle.kernel_interpreter.proofs.machine.Machine.cut_words.Goals as goal

pub returns-in_default-clause-is : goal.returns-in_default-clause-is
returns-in_default-clause-is c = sym (c.in_default.ensures (λ xs. Ended (set_array (state_of c.args.self.now) c.args.a (take c.args.n xs))))

pub returns-clause-is : goal.returns-clause-is
returns-clause-is c = set_at c.args.self.now c.args.a c.in-Some.place c.index_mut.result.now _ (take c.args.n)
    (record { writable = c.in-Some.ensures; is = c.index_mut.ensures.value }) refl c.truncate.ensures.items
