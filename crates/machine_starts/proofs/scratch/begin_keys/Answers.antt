use Rattle.std.proofs.Common.{◌≡◌, ◌∙◌, ◌+◌, suc, sym, ap, arith, []}
use Rattle.kernel_code.specs.declared.syntax.Arr.TheVariants.{Key}
use Rattle.kernel_code.specs.Meaning.{State, set_array}
use Rattle.kernel_interpreter.specs.Store.{state_of}
use Rattle.machine_starts.specs.Begun.{with_keys}
use Rattle.machine_starts.proofs.scratch.begin_keys.Goals as goal

pub loop-key-preserved : goal.loop-key-preserved
loop-key-preserved c =
    let k = c.loop-key.key in
    let next : k + 1 ≡ suc k = omega arith in
    c.in_ok-add_empty.ensures ∙ ap (λ (t : State). set_array t (Key c.args.workspace k) []) c.loop-key.invariant
    ∙ ap (λ n. with_keys c.args.workspace n (state_of c.args.machine.now)) (sym next)
