use Rattle.std.proofs.Common.{◌∙◌, ap, sym, Some}
use Rattle.kernel_interpreter.proofs.StoreLemmas.{own_at_place, none_found}
use Rattle.kernel_interpreter.proofs.machine.Machine.array.Goals as goal

pub returns-in-None : goal.returns-in-None
returns-in-None c = sym (none_found c.args.self.now c.args.a c.requires c.in-None.ensures)

pub returns-in-Some : goal.returns-in-Some
returns-in-Some c =
    sym (own_at_place c.args.self.now c.args.a c.in-Some.place c.index.result.now (c.in-Some.ensures, c.requires)
    ∙ ap (λ w. Some w.words.items) (sym c.index.ensures) ∙ ap Some (sym c.as_slice.ensures))
