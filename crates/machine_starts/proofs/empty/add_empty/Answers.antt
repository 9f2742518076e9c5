use Rattle.std.proofs.Common.{◌∙◌, ap}
use Rattle.kernel_code.specs.Meaning.{set_array}
use Rattle.kernel_interpreter.specs.Store.{state_of}
use Rattle.machine_starts.proofs.empty.add_empty.Goals as goal

pub returns : goal.returns
returns c = c.in_ok-add_array.ensures ∙ ap (set_array (state_of c.args.machine.now) c.args.a) c.new.ensures.items
