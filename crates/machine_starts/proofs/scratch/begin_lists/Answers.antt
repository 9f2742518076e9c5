use Rattle.std.proofs.Common.{◌≡◌, ◌∙◌, ◌+◌, suc, sym, ap, arith, []}
use Rattle.kernel_code.specs.declared.syntax.Arr.TheVariants.{ListCoordinates, ListPositions}
use Rattle.kernel_code.specs.Meaning.{State, set_array}
use Rattle.kernel_interpreter.specs.Store.{state_of}
use Rattle.machine_starts.specs.Begun.{with_lists}
use Rattle.machine_starts.proofs.scratch.begin_lists.Goals as goal

pub loop-list-preserved : goal.loop-list-preserved
loop-list-preserved c =
    let g = c.loop-list.list in
    let next : g + 1 ≡ suc g = omega arith in
    c.in_ok-add_empty-2.ensures
    ∙ ap (λ (t : State). set_array t (ListPositions g) []) (c.in_ok-add_empty.ensures
    ∙ ap (λ (t : State). set_array t (ListCoordinates g) []) c.loop-list.invariant)
    ∙ ap (λ n. with_lists n (state_of c.args.machine.now)) (sym next)
