use Rattle.std.proofs.Common.{inl, inr, ◌≡◌, ◌∙◌, ◌≤◌, false, true, ap, map, sym, subst, arith}
use Rattle.std.specs.Prelude.{length}
use Rattle.kernel_code.specs.Kernels.{Finished, NotFinished, TooLong, go, told, place_of}
use Rattle.storage_builder.specs.Building.{Building}
use Rattle.kernel_interpreter.specs.declared.ending.Ending.{Ending}
use Rattle.resolved_code.specs.Erase.{erase}
use Rattle.resolved_code.specs.Rooms.{room_of_code}
use Rattle.kernel_interpreter.specs.Memory.{IsInPlace, Through, variable_room}
use Rattle.kernel_interpreter.specs.Store.{count_of, outcome_of, state_of}
use Rattle.kernel_machine.specs.Runs.{most_turns, AreThese}
use Rattle.kernel_correctness.specs.Results.{summed}
use Rattle.format_spec.specs.Formats.{letters_of}
use Rattle.kernel_machine.proofs.Ends.{none_made, ends_told, sound_leaves, never_stuck}
use Rattle.kernel_machine.proofs.running.run.Goals as goal

no_answer : {P : Type 0} → false ≡ true → P
no_answer h = cc

pub run_statements-requires-clause-room : goal.run_statements-requires-clause-room
run_statements-requires-clause-room g c =
    subst (λ code. room_of_code code ≤ variable_room c.args.prepared.machine) (sym c.as_slice.ensures) c.requires.1.room

pub run_statements-requires-clause-few : goal.run_statements-requires-clause-few
run_statements-requires-clause-few g c =
    let ready = c.requires.1 in
    let none = none_made c.args.prepared.machine c.args.prepared.kernel.now ready.starts.given ready.starts.is in
    subst (λ n. n ≤ c.most_turns.result) (sym none) (omega arith)

pub made_tensor-requires-clause-left : goal.made_tensor-requires-clause-left
made_tensor-requires-clause-left g c =
    let a = g.S.Semiring.arithmetic in
    let store = c.requires.0 in
    let ready = c.requires.1 in
    let given = ready.starts.given in
    let kernel = c.args.prepared.kernel.now in
    let order = length store.format in
    let new = state_of c.run_statements.new.machine in
    let ends : go a order kernel given most_turns ≡ Finished new.arrays new.turns =
    ends_told a order kernel given c.args.prepared.machine c.run_statements.new.machine c.in-Ok.ending (map erase c.as_slice.result.now)
    c.as_slice-2.result.now c.most_turns.result (ap (map erase) c.as_slice.ensures ∙ ready.code_is) c.as_slice-2.ensures
    c.most_turns.ensures ready.starts.is
    c.in-Ok.ensures.is
    ∙ ap (λ (e : Ending). told order (outcome_of e new)) c.in-Ended.is in (
      a.zero,
      store,
      sound_leaves a order kernel store given new.arrays new.turns (c.requires.2 given ready.starts.is_given) ends,
      ready.building,
    )

pub returns-in-Ok-made_tensor : goal.returns-in-Ok-made_tensor
returns-in-Ok-made_tensor g c =
    let a = g.S.Semiring.arithmetic in
    let kernel = c.args.prepared.kernel.now in
    let new = state_of c.run_statements.new.machine in
    λ store ready.
    let order = length store.format in
    let given = ready.starts.given in
    let ends : go a order kernel given most_turns ≡ Finished new.arrays (count_of c.turns-turns.result) =
    ends_told a order kernel given c.args.prepared.machine c.run_statements.new.machine c.in-Ok.ending (map erase c.as_slice.result.now)
    c.as_slice-2.result.now c.most_turns.result (ap (map erase) c.as_slice.ensures ∙ ready.code_is) c.as_slice-2.ensures
    c.most_turns.ensures ready.starts.is
    c.in-Ok.ensures.is
    ∙ ap (λ (e : Ending). told order (outcome_of e new)) c.in-Ended.is
    ∙ ap (Finished new.arrays) (sym c.turns-turns.ensures) in
    record {
      arrays = new.arrays;
      ends = ends;
      format_is = c.in-Ok-made_tensor.ensures.made.format_is ∙ ap (λ (b : Building). b.format) ready.building;
      is_left = record { held = c.in-Ok-made_tensor.ensures.made.held; values_held = c.in-Ok-made_tensor.ensures.made.values };
      storage = c.in-Ok-made_tensor.ensures.made.storage;
      done = c.in-Ok-made_tensor.ensures.made.done;
      keeps = c.in-Ok-made_tensor.ensures.made.keeps;
      sizes = c.in-Ok-made_tensor.ensures.made.sizes_are ∙ ap (λ (b : Building). b.sizes) ready.building;
      alike = subst (λ (b : Building). AreThese (letters_of b.format) b.sizes (summed new.arrays) c.in-Ok-made_tensor.tensor.levels)
          ready.building c.in-Ok-made_tensor.ensures.made.alike;
    }

pub returns-in-Over : goal.returns-in-Over
returns-in-Over g c =
    let a = g.S.Semiring.arithmetic in
    let kernel = c.args.prepared.kernel.now in
    let new = state_of c.run_statements.new.machine in
    λ store ready.
    let order = length store.format in
    let given = ready.starts.given in
    ends_told a order kernel given c.args.prepared.machine c.run_statements.new.machine c.in-Ok.ending (map erase c.as_slice.result.now)
    c.as_slice-2.result.now c.most_turns.result (ap (map erase) c.as_slice.ensures ∙ ready.code_is) c.as_slice-2.ensures
    c.most_turns.ensures ready.starts.is
    c.in-Ok.ensures.is
    ∙ ap (λ (e : Ending). told order (outcome_of e new)) c.in-Over.is
    ∙ ap (λ n. TooLong (place_of n c.in-Over.array) c.in-Over.count) (sym ready.order)
    ∙ ap (λ p. TooLong p c.in-Over.count) (sym c.place_of-place.ensures)

pub returns-in_default : goal.returns-in_default
returns-in_default g c =
    λ store ready works dense. no_answer (c.in_default.ensures.memory
    (subst (Through IsInPlace) (sym (ap (map erase) c.as_slice.ensures ∙ ready.code_is)) works))

pub returns : goal.returns
returns g c =
    let a = g.S.Semiring.arithmetic in
    let store = c.requires.0 in
    let begun = c.requires.1.starts in
    let kernel = c.args.prepared.kernel.now in
    let order = length store.format in
    let new = state_of c.run_statements.new.machine in
    λ other ready works dense.
    elim c.in-Stuck.is as (λ _. go a (length other.format) kernel ready.starts.given most_turns ≡ NotFinished) [
      | inl stuck ↦ absurd (never_stuck a order kernel store begun.given stuck.0 (c.requires.2 begun.given begun.is_given)
          (ends_told a order kernel begun.given c.args.prepared.machine c.run_statements.new.machine c.in-Ok.ending
          (map erase c.as_slice.result.now) c.as_slice-2.result.now c.most_turns.result
          (ap (map erase) c.as_slice.ensures ∙ c.requires.1.code_is) c.as_slice-2.ensures c.most_turns.ensures begun.is
          c.in-Ok.ensures.is
          ∙ ap (λ (e : Ending). told order (outcome_of e new)) stuck.1))
      | inr more ↦ ends_told a (length other.format) kernel ready.starts.given c.args.prepared.machine c.run_statements.new.machine
          c.in-Ok.ending (map erase c.as_slice.result.now) c.as_slice-2.result.now c.most_turns.result
          (ap (map erase) c.as_slice.ensures ∙ ready.code_is) c.as_slice-2.ensures
          c.most_turns.ensures ready.starts.is c.in-Ok.ensures.is
          ∙ ap (λ (e : Ending). told (length other.format) (outcome_of e new)) more
    ]
