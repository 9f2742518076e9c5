use Rattle.std.proofs.Common.{◌≡◌, ◌∙◌, ◌+◌, suc, sym, ap, arith, [], drop, slice_index_or}
use Rattle.kernel_code.specs.declared.syntax.Arr.TheVariants.{Sums}
use Rattle.kernel_code.specs.Meaning.{State, set_array}
use Rattle.kernel_interpreter.specs.Store.{state_of}
use Rattle.machine_starts.specs.Begun.{with_keys, with_workspaces}
use Rattle.machine_starts.proofs.Steps.{drop_here}
use Rattle.machine_starts.proofs.scratch.begin_workspaces.Goals as goal

pub loop-number-preserved : goal.loop-number-preserved
loop-number-preserved c =
    let i = c.loop-number.number in
    let ws = c.args.workspaces.now in
    let s = state_of c.loop-number.machine in
    let keys = slice_index_or ws i 0 in
    let next : i + 1 ≡ suc i = omega arith in
    let made : state_of c.add_empty.new.machine ≡ set_array (with_keys i keys s) (Sums i) [] =
    c.in_ok-add_empty.ensures ∙ ap (λ (t : State). set_array t (Sums i) []) c.in_ok-begin_keys.ensures in
    ap (λ n. with_workspaces (drop n ws) n (state_of c.add_empty.new.machine)) next
    ∙ ap (with_workspaces (drop (suc i) ws) (suc i)) made
    ∙ sym (ap (λ code. with_workspaces code i s) (drop_here ws i 0 c.loop-number-test.true))
    ∙ c.loop-number.invariant
