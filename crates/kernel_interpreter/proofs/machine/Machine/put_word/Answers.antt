use Rattle.std.proofs.Common.{sym, refl, arith}
use Rattle.kernel_code.specs.Meaning.{changed}
use Rattle.kernel_interpreter.specs.Store.{state_of}
use Rattle.kernel_interpreter.proofs.StoreLemmas.{changed_at, not_changed_at}
use Rattle.kernel_interpreter.proofs.machine.Machine.put_word.Goals as goal

pub returns-in_default-clause-is : goal.returns-in_default-clause-is
returns-in_default-clause-is c = sym (c.in_default.ensures (changed (state_of c.args.self.now) c.args.a c.args.i (λ _. c.args.value)))

pub returns-then-i-len-clause-is : goal.returns-then-i-len-clause-is
returns-then-i-len-clause-is c =
    not_changed_at c.args.self.now c.args.a c.in-Some.place c.index_mut.result.now c.args.i (λ _. c.args.value)
    (record { writable = c.in-Some.ensures; is = c.index_mut.ensures.value }) (omega arith)

pub returns-clause-is : goal.returns-clause-is
returns-clause-is c = changed_at c.args.self.now c.args.a c.in-Some.place c.index_mut.result.now _ c.args.i (λ _. c.args.value)
    (record { writable = c.in-Some.ensures; is = c.index_mut.ensures.value }) (omega arith) refl c.set.ensures.items
