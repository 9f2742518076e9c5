use Rattle.std.proofs.Common.{◌≡◌, ◌∙◌, ap, subst, sym, map}
use Rattle.std.specs.Prelude.{Result, Ok, Err, IfOk, OnOk}
use Rattle.kernel_code.specs.Kernels.{within}
use Rattle.kernel_code.specs.Meaning.{Outcome, run_list}
use Rattle.machine_parts.specs.declared.tables.Table.{Table}
use Rattle.machine_parts.specs.ArrayPlaces.{room_of}
use Rattle.resolved_code.specs.Erase.{erase}
use Rattle.resolved_code.specs.Fits.{FitsAll}
use Rattle.resolved_code.proofs.FitsLemmas.{fits_code}
use Rattle.kernel_interpreter.specs.declared.ending.Ending.{Ending}
use Rattle.kernel_interpreter.specs.declared.machine.Machine.{Machine}
use Rattle.kernel_interpreter.specs.Memory.{variable_room}
use Rattle.kernel_interpreter.specs.Store.{IsTold, outcome_of, setting, state_of}
use Rattle.kernel_interpreter.proofs.runs.run_statements.Goals as goal

if_told : {E : Type 0} (r : Result Ending E) (m : Machine) (o o' : Outcome) (told : Type 0)
    → IfOk r (λ e. outcome_of e (state_of m) ≡ o) → OnOk r told → (told → o ≡ o') → IfOk r (λ e. outcome_of e (state_of m) ≡ o')
if_told (Ok e) m o o' told is h next = is ∙ next h
if_told (Err x) m o o' told is h next = is

pub returns-clause-is : goal.returns-clause-is
returns-clause-is g c =
    let code = map erase c.args.code.now in
    if_told c.ending.result c.run_in_order-step.new.machine _ _ (IsTold c.run_in_order-step.result) c.ending.ensures.is
    c.ending.ensures.told
    (λ told. c.run_in_order-step.ensures.is told
    ∙ ap (λ s. within c.args.limit (run_list (setting g.S.Semiring.arithmetic c.args.workspaces.now) c.args.limit code s))
    c.allow.ensures.state)

pub run_in_order-step-requires-clause-room : goal.run_in_order-step-requires-clause-room
run_in_order-step-requires-clause-room g c =
    subst (λ (t : Table). FitsAll (room_of t) c.args.code.now) (sym c.allow.ensures.variables)
    (fits_code (variable_room c.args.machine.now) c.args.code.now c.requires.room)
