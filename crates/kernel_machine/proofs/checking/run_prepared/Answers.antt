use Rattle.std.specs.Prelude.{◌≡◌, ◌≤◌, length, map}
use Rattle.std.proofs.Common.{◌∙◌, sym, ap, subst, arith}
use Rattle.kernel_code.specs.Kernels.{Finished, GotStuck, TooLong, NotFinished, go, told, place_of}
use Rattle.storage_builder.specs.Building.{Building}
use Rattle.format_spec.specs.Formats.{letters_of}
use Rattle.resolved_code.specs.Erase.{erase}
use Rattle.kernel_interpreter.specs.declared.ending.Ending.{Ending}
use Rattle.kernel_interpreter.specs.Store.{count_of, outcome_of, state_of}
use Rattle.kernel_correctness.specs.Results.{summed}
use Rattle.kernel_machine.specs.Checked.{HasStarted, LeavesWhole}
use Rattle.kernel_machine.specs.Runs.{AreThese}
use Rattle.kernel_machine.proofs.Ends.{none_made, ends_within, started_of}
use Rattle.kernel_machine.proofs.Leaving.{told_some, told_none, end_of}
use Rattle.kernel_machine.proofs.checking.run_prepared.Goals as goal

pub run_statements-requires-clause-few : goal.run_statements-requires-clause-few
run_statements-requires-clause-few g c =
    let ready = c.requires.1 in
    let none = none_made c.args.prepared.machine c.args.prepared.kernel.now ready.starts.given ready.starts.is in
    subst (λ n. n ≤ c.args.budget) (sym none) (omega arith)

pub checked_tensor-requires-clause-started : goal.checked_tensor-requires-clause-started
checked_tensor-requires-clause-started g c =
    let a = g.S.Semiring.arithmetic in
    let store = c.requires.0 in
    let ready = c.requires.1 in
    let new = state_of c.run_statements.new.machine in (
      store,
      subst (λ n. HasStarted n store new.arrays) (sym c.zero.ensures)
          (started_of a c.args.prepared.kernel.now store ready.starts.given c.args.prepared.machine c.run_statements.new.machine
          (map erase c.as_slice.result.now) c.as_slice-2.result.now c.args.budget ready.starts.is_given ready.starts.is
          (sym (ap (λ (e : Ending). outcome_of e new) c.in-Ended.is) ∙ c.in-Ok.ensures.is)),
      ready.building,
    )

pub returns-in-Ok-Some : goal.returns-in-Ok-Some
returns-in-Ok-Some g c =
    let a = g.S.Semiring.arithmetic in
    let new = state_of c.run_statements.new.machine in
    let kernel = c.args.prepared.kernel.now in
    λ store ready.
    let started = subst (λ n. HasStarted n store new.arrays) (sym c.zero.ensures)
    (started_of a kernel store ready.starts.given c.args.prepared.machine c.run_statements.new.machine (map erase c.as_slice.result.now)
    c.as_slice-2.result.now c.args.budget ready.starts.is_given ready.starts.is
    (sym (ap (λ (e : Ending). outcome_of e new) c.in-Ended.is) ∙ c.in-Ok.ensures.is)) in
    let ends : go a (length store.format) kernel ready.starts.given c.args.budget ≡ Finished new.arrays new.turns =
    ends_within a (length store.format) kernel ready.starts.given c.args.prepared.machine c.run_statements.new.machine
    c.in-Ok.ending (map erase c.as_slice.result.now) c.as_slice-2.result.now c.args.budget
    (ap (map erase) c.as_slice.ensures ∙ ready.code_is) c.as_slice-2.ensures ready.starts.is c.in-Ok.ensures.is
    ∙ ap (λ (e : Ending). told (length store.format) (outcome_of e new)) c.in-Ended.is in
    let both = told_some c.in-Ok-Some.field-0 c.in-Ok-Some.tensor _ _ c.in-Ok-Some.field-0-is
    (c.in-Ok-Some.ensures store started ready.building) in
    end_of a kernel store ready.starts.given new.arrays c.args.budget c.args.prepared.builder c.in-Ok-Some.tensor c.turns-turns.result
    (ends ∙ ap (Finished new.arrays) (sym c.turns-turns.ensures)) ready.building both.1
    (subst (λ n. LeavesWhole n store new.arrays) c.zero.ensures both.0)

pub returns-in-Ok-None : goal.returns-in-Ok-None
returns-in-Ok-None g c =
    let a = g.S.Semiring.arithmetic in
    let new = state_of c.run_statements.new.machine in
    let kernel = c.args.prepared.kernel.now in
    λ store ready.
    let started = subst (λ n. HasStarted n store new.arrays) (sym c.zero.ensures)
    (started_of a kernel store ready.starts.given c.args.prepared.machine c.run_statements.new.machine (map erase c.as_slice.result.now)
    c.as_slice-2.result.now c.args.budget ready.starts.is_given ready.starts.is
    (sym (ap (λ (e : Ending). outcome_of e new) c.in-Ended.is) ∙ c.in-Ok.ensures.is)) in
    let ends : go a (length store.format) kernel ready.starts.given c.args.budget ≡ Finished new.arrays new.turns =
    ends_within a (length store.format) kernel ready.starts.given c.args.prepared.machine c.run_statements.new.machine
    c.in-Ok.ending (map erase c.as_slice.result.now) c.as_slice-2.result.now c.args.budget
    (ap (map erase) c.as_slice.ensures ∙ ready.code_is) c.as_slice-2.ensures ready.starts.is c.in-Ok.ensures.is
    ∙ ap (λ (e : Ending). told (length store.format) (outcome_of e new)) c.in-Ended.is in
    let never = told_none c.in-Ok-None.field-0 _ _ c.in-Ok-None.field-0-is (c.in-Ok-None.ensures store started ready.building) in
    (new.arrays, (new.turns, ends), λ leaves. never (subst (λ n. LeavesWhole n store new.arrays) (sym c.zero.ensures) leaves))

pub returns-in-Over : goal.returns-in-Over
returns-in-Over g c =
    let a = g.S.Semiring.arithmetic in
    let new = state_of c.run_statements.new.machine in
    λ store ready.
    ends_within a (length store.format) c.args.prepared.kernel.now ready.starts.given c.args.prepared.machine c.run_statements.new.machine
    c.in-Ok.ending (map erase c.as_slice.result.now) c.as_slice-2.result.now c.args.budget
    (ap (map erase) c.as_slice.ensures ∙ ready.code_is) c.as_slice-2.ensures ready.starts.is c.in-Ok.ensures.is
    ∙ ap (λ (e : Ending). told (length store.format) (outcome_of e new)) c.in-Over.is
    ∙ ap (λ n. TooLong (place_of n c.in-Over.array) c.in-Over.count) (sym ready.order)
    ∙ ap (λ p. TooLong p c.in-Over.count) (sym c.place_of-place.ensures)

pub returns-in-Stuck : goal.returns-in-Stuck
returns-in-Stuck g c =
    let a = g.S.Semiring.arithmetic in
    let new = state_of c.run_statements.new.machine in
    λ store ready.
    ends_within a (length store.format) c.args.prepared.kernel.now ready.starts.given c.args.prepared.machine c.run_statements.new.machine
    c.in-Ok.ending (map erase c.as_slice.result.now) c.as_slice-2.result.now c.args.budget
    (ap (map erase) c.as_slice.ensures ∙ ready.code_is) c.as_slice-2.ensures ready.starts.is c.in-Ok.ensures.is
    ∙ ap (λ (e : Ending). told (length store.format) (outcome_of e new)) c.in-Stuck.is

pub returns : goal.returns
returns g c =
    let a = g.S.Semiring.arithmetic in
    let new = state_of c.run_statements.new.machine in
    λ store ready.
    ends_within a (length store.format) c.args.prepared.kernel.now ready.starts.given c.args.prepared.machine c.run_statements.new.machine
    c.in-Ok.ending (map erase c.as_slice.result.now) c.as_slice-2.result.now c.args.budget
    (ap (map erase) c.as_slice.ensures ∙ ready.code_is) c.as_slice-2.ensures ready.starts.is c.in-Ok.ensures.is
    ∙ ap (λ (e : Ending). told (length store.format) (outcome_of e new)) c.in-More.is
