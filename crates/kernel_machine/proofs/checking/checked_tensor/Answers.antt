use Rattle.std.proofs.Common.{◌≡◌, ◌∙◌, sym}
use Rattle.std.specs.Prelude.{List, Option, MatchOption}
use Rattle.tensor_storage.specs.Storages.{Storage}
use Rattle.storage_builder.specs.Checked.{IsWhole, IsMadeOf}
use Rattle.kernel_correctness.specs.Stores.{result_sizes}
use Rattle.kernel_interpreter.specs.Store.{state_of}
use Rattle.kernel_machine.proofs.Leaving.{leaves_whole, match_both}
use Rattle.kernel_machine.proofs.Tensors.{parts_long, may_whole, made, both_ok}
use Rattle.kernel_machine.proofs.checking.checked_tensor.Goals as goal

pub hand_over-requires-clause-long : goal.hand_over-requires-clause-long
hand_over-requires-clause-long c =
    let store = c.requires.started.0 in
    parts_long c.args.builder store.format (result_sizes store) c.requires.started.2 ∙ sym c.requires.order

pub returns : goal.returns
returns c =
    let n = c.args.nothing in
    let old = c.args.builder in
    let new = c.hand_over.new.builder in
    let before = (state_of c.args.machine).arrays in
    let after = (state_of c.hand_over.new.machine).arrays in
    let values = c.taken_array-values.result.items in
    let words = c.taken_array-values.ensures.words in
    let told : Option Storage → Type 0 = λ o. MatchOption o (IsWhole n new values → ⊥)
    (λ t. IsWhole n new values × IsMadeOf new values t) in
    both_ok c.finish_checked.result told told _ c.finish_checked.ensures c.finish_checked.ensures
    (λ o whole also store started is. match_both o _ _ _ _
    (λ none leaves. none (may_whole n store before after old new values leaves.left is c.hand_over.ensures words leaves.widths))
    (λ t both.
    let leaves = leaves_whole n store before after old new values started is c.hand_over.ensures words both.0 in (
      leaves,
      made n store before after old new values leaves.left is c.hand_over.ensures words t both.1.levels both.1.format both.1.values_are,
    )) whole)
