use Rattle.std.specs.Prelude.{◌≡◌, true}
use Rattle.std.proofs.Common.{◌∙◌, sym, ap, subst, arith}
use Rattle.limits.proofs.Limits.{positions_are_small}
use Rattle.kernel_code.specs.Arrays.{may_write}
use Rattle.kernel_code.specs.Meaning.{set_array}
use Rattle.kernel_interpreter.specs.Store.{state_of}
use Rattle.level_core.specs.Arrays.{array_of}
use Rattle.machine_starts.specs.Begun.{filled_with}
use Rattle.machine_starts.proofs.Steps.{writable}
use Rattle.machine_starts.proofs.result.begin_array.Goals as goal

pub zeros_at_start-requires : goal.zeros_at_start-requires
zeros_at_start-requires c = let few = c.requires in omega (arith, few, positions_are_small)

pub add_array-requires : goal.add_array-requires
add_array-requires c =
    subst (λ a. may_write a ≡ true) (sym c.named.ensures)
    (writable c.args.letter c.args.array c.args.parents c.args.level c.in-Some.count (sym c.zeros_at_start.ensures ∙ c.in-Some.is))

pub returns-in_ok-add_array-in-Some : goal.returns-in_ok-add_array-in-Some
returns-in_ok-add_array-in-Some c =
    let s = state_of c.args.machine.now in
    let array = c.args.array in
    let level = c.args.level in
    c.in_ok-add_array-in-Some.ensures
    ∙ ap (λ a. set_array s a c.in_ok-zeros-in-Some.zeros.items) c.named.ensures
    ∙ ap (set_array s (array_of array 0 level)) c.in_ok-zeros-in-Some.ensures.items
    ∙ ap (λ o. filled_with o array level s) (sym c.in-Some.is ∙ c.zeros_at_start.ensures)
