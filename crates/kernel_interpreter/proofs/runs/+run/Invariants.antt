use Rattle.std.proofs.Common.{◌≡◌, ◌+◌, ◌-◌, ◌*◌, drop, take, map}
use Rattle.kernel_code.specs.Meaning.{value, run_list, run_turns, behind, statements_in, statements_in_list}
use Rattle.kernel_code.specs.Kernels.{within}
use Rattle.resolved_code.specs.Erase.{erase, erase_value}
use Rattle.resolved_code.specs.Fits.{FitsAll}
use Rattle.kernel_interpreter.specs.Memory.{IsInPlace, Through, variable_room}
use Rattle.kernel_interpreter.specs.Store.{state_of, made, setting}
use Rattle.kernel_interpreter.proofs.runs.+run.Given as goal

-- fewer statements begin in a body than in its statement, and no more in a statement than in its list
abbrev pub decreases-run_statement : goal.decreases-run_statement
decreases-run_statement g l = 3 * statements_in (erase l.s.now)

abbrev pub decreases-run_in_order : goal.decreases-run_in_order
decreases-run_in_order g l = 3 * statements_in_list (map erase l.statements.now) + 1

abbrev pub decreases-run_body : goal.decreases-run_body
decreases-run_body g l = 3 * statements_in_list (map erase l.statements.now) + 2

abbrev pub decreases-run_loop : goal.decreases-run_loop
decreases-run_loop g l = 3 * statements_in_list (map erase l.body.now) + 2

-- what is left of the turns does the rest, and may be made, and variables have the places that they had
abbrev pub invariant-run_loop-loop : goal.invariant-run_loop-loop
invariant-run_loop-loop g l = (made l.machine + l.machine.turns.left ≡ l.limit)
    × (within l.limit (run_turns (l.limit - l.counter) l.kind (value (erase_value l.test))
    (λ s. behind 1 (run_list (setting g.S.Semiring.arithmetic l.workspaces) l.limit (map erase l.body) s)) (state_of l.machine))
    ≡ within l.limit (run_turns l.limit l.kind (value (erase_value l.test))
    (λ s. behind 1 (run_list (setting g.S.Semiring.arithmetic l.workspaces) l.limit (map erase l.body) s)) (state_of l.fn.machine)))
    × (variable_room l.machine ≡ variable_room l.fn.machine)

-- what is left of the list does the rest, behind what was run, finds its variables in their places, and works in place if the list does
abbrev pub invariant-run_in_order-loop-i : goal.invariant-run_in_order-loop-i
invariant-run_in_order-loop-i g l = (made l.machine + l.machine.turns.left ≡ l.limit)
    × (behind (statements_in_list (take l.i (map erase l.statements))) (within l.limit
    (run_list (setting g.S.Semiring.arithmetic l.workspaces) l.limit (drop l.i (map erase l.statements)) (state_of l.machine)))
    ≡ within l.limit (run_list (setting g.S.Semiring.arithmetic l.workspaces) l.limit (map erase l.statements) (state_of l.fn.machine)))
    × (variable_room l.machine ≡ variable_room l.fn.machine)
    × FitsAll (variable_room l.machine) (drop l.i l.statements)
    × (Through IsInPlace (map erase l.statements) → Through IsInPlace (drop l.i (map erase l.statements)))
