use Rattle.std.proofs.Common.{◌≡◌, ◌∙◌, subst, sym}
use Rattle.std.specs.Prelude.{List}
use Rattle.format_spec.specs.Formats.{letters_of}
use Rattle.tensor_storage.specs.declared.level.StorageLevel.{StorageLevel}
use Rattle.tensor_storage.specs.Storages.{Storage}
use Rattle.storage_builder.specs.Building.{AreDense}
use Rattle.storage_builder.specs.Made.{AllAlike, AreHandedOver}
use Rattle.kernel_correctness.specs.Stores.{result_sizes}
use Rattle.kernel_interpreter.specs.Store.{state_of}
use Rattle.kernel_machine.specs.Runs.{IsMadeFrom}
use Rattle.kernel_machine.proofs.Tensors.{parts_long, may, made, both_ok}
use Rattle.kernel_machine.proofs.running.made_tensor.Goals as goal

pub hand_over-requires-clause-long : goal.hand_over-requires-clause-long
hand_over-requires-clause-long c =
    let store = c.requires.left.1 in
    parts_long c.args.builder store.format (result_sizes store) c.requires.left.3 ∙ sym c.requires.order

pub finish-requires : goal.finish-requires
finish-requires c =
    may c.requires.left.0 c.requires.left.1 (state_of c.args.machine).arrays (state_of c.hand_over.new.machine).arrays c.args.builder
    c.hand_over.new.builder c.taken_array-values.result.items c.requires.left.2 c.requires.left.3 c.hand_over.ensures
    c.taken_array-values.ensures.words

pub returns-clause-made : goal.returns-clause-made
returns-clause-made c =
    let new = c.hand_over.new.builder in
    let values = c.taken_array-values.result in
    both_ok c.finish.result
    (λ (t : Storage). (ls : List StorageLevel) → AreHandedOver (letters_of new.format) new.sizes new.parts 1 ls → AllAlike ls t.levels)
    (λ (t : Storage). (t.format ≡ new.format) × (t.values ≡ values.items))
    (λ (t : Storage). IsMadeFrom c.args.builder.format c.args.builder.sizes (state_of c.args.machine).arrays t)
    c.finish.ensures.levels c.finish.ensures.others
    (λ t levels others.
    made c.requires.left.0 c.requires.left.1 (state_of c.args.machine).arrays (state_of c.hand_over.new.machine).arrays c.args.builder new
    values.items c.requires.left.2 c.requires.left.3 c.hand_over.ensures c.taken_array-values.ensures.words t levels others.0 others.1)

pub returns-clause-dense : goal.returns-clause-dense
returns-clause-dense c = λ dense. c.finish.ensures.dense (subst AreDense (sym c.hand_over.ensures.format) dense)
