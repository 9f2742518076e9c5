use Rattle.std.proofs.Common.{rules, ◌≡◌, ◌∙◌, ◌+◌, ◌-◌, None, Some, suc, sym, ap, subst, arith, drop, refl}
use Rattle.std.proofs.Common.{true, false, map, ℕ, List, slice_index_or}
use Rattle.std.proofs.lemmas.List.{take-map}
use Rattle.kernel_code.specs.declared.syntax.KStmt.{KStmt, Combine, Put, AddTo, Push, Extend, Cut}
use Rattle.kernel_code.specs.declared.syntax.KStmt as stmt
use Rattle.kernel_code.specs.declared.syntax.KExpr.{Bin, Num, Var}
use Rattle.kernel_code.specs.declared.syntax.Op.TheVariants as op
use Rattle.kernel_code.specs.Meaning.{State, Outcome, Ended, one_turn, value, apply_each, combined, set_outcome, put_outcome, add_outcome}
use Rattle.kernel_code.specs.Meaning.{push_outcome, extend_outcome, cut_outcome, behind, run, run_list, run_turns, statements_in}
use Rattle.kernel_code.specs.Meaning.{statements_in_list}
use Rattle.kernel_code.specs.Kernels.{within}
use Rattle.machine_parts.specs.ArrayPlaces.{room_of}
use Rattle.resolved_code.specs.declared.syntax.Resolved.{Resolved}
use Rattle.resolved_code.specs.Erase.{erase, erase_value}
use Rattle.resolved_code.specs.Fits.{Fits, FitsAll}
use Rattle.resolved_code.proofs.EraseLemmas.{erase_if, erase_while, item_erased, within_erased}
use Rattle.resolved_code.proofs.FitsLemmas.{first_fits, second_fits, body_fits, here_fits, rest_fits}
use Rattle.kernel_interpreter.specs.Memory.{IsInPlace, Through, Throughout, variable_room}
use Rattle.kernel_interpreter.specs.Store.{state_of, outcome_at, has_ended, setting}
use Rattle.kernel_interpreter.proofs.Heights.{statements_here}
use Rattle.kernel_interpreter.proofs.MemoryLemmas.{first_body, second_body, loop_body, through_here, through_rest}
use Rattle.kernel_code.proofs.Behind.{behind_on}
use Rattle.kernel_code.proofs.Equations.{run_while, statements_in_if, statements_in_while}
use Rattle.kernel_interpreter.proofs.RunLemmas.{is_ended, told_ended, stopped, stopped_behind, went_on, told_behind, at_least_body}
use Rattle.kernel_code.proofs.RunLemmas.{loop_ended, loop_stuck, loop_more, turn_then, if_no, if_yes}
use Rattle.kernel_interpreter.proofs.Operators.{counts_both}
use Rattle.kernel_interpreter.proofs.ToldLemmas.{told}
use Rattle.kernel_interpreter.proofs.runs.+run.Goals as goal

erased_here : (code : List Resolved) (i : ℕ) (s : Resolved) → s ≡ slice_index_or code i s
    → erase s ≡ slice_index_or (map erase code) i (erase s)
erased_here code i s is = ap erase is ∙ sym (item_erased code i s)

pub run_statement-returns-in-Count-clause-is : goal.run_statement-returns-in-Count-clause-is
run_statement-returns-in-Count-clause-is g t c = λ h.
    let s = c.in-Count in
    let st = state_of c.args.machine.now in
    let e = Bin op.Add (Var s.x) (Num s.n) in
    told c.args.limit c.args.machine.now c.set.new.self c.set.result _ (setting g.S.Semiring.arithmetic c.args.workspaces.now)
    (stmt.Set s.x e) (erase c.args.s.now) c.requires.few c.set.ensures.turns (ap erase s.is) c.set.ensures.is
    (ap (set_outcome st s.x) (counts_both op.Add (λ x y. refl) (Var s.x) (Num s.n) e st _ _ _ c.applied-value.ensures c.slot.ensures
    refl refl))

pub run_statement-returns-in-Set-clause-is : goal.run_statement-returns-in-Set-clause-is
run_statement-returns-in-Set-clause-is g t c = λ h.
    let s = c.in-Set in
    told c.args.limit c.args.machine.now c.set-in-Set.new.self c.set-in-Set.result _
    (setting g.S.Semiring.arithmetic c.args.workspaces.now) (stmt.Set s.x (erase_value s.v)) (erase c.args.s.now) c.requires.few
    c.set-in-Set.ensures.turns (ap erase s.is) c.set-in-Set.ensures.is
    (ap (set_outcome (state_of c.args.machine.now) s.x) c.value_at-value.ensures)

pub run_statement-returns-in-Combine-clause-is : goal.run_statement-returns-in-Combine-clause-is
run_statement-returns-in-Combine-clause-is g t c = λ h.
    let s = c.in-Combine in
    let st = state_of c.args.machine.now in
    let op = combined g.S.Semiring.arithmetic s.op in
    told c.args.limit c.args.machine.now c.set-in-Combine.new.self c.set-in-Combine.result _
    (setting g.S.Semiring.arithmetic c.args.workspaces.now)
    (Combine s.x s.op (erase_value s.v) (erase_value s.w)) (erase c.args.s.now) c.requires.few c.set-in-Combine.ensures.turns
    (ap erase s.is) c.set-in-Combine.ensures.is
    (ap (set_outcome st s.x) (c.combine_operands.ensures
    ∙ ap (λ v. apply_each op v c.operand_at-second.result) c.operand_at-first.ensures
    ∙ ap (apply_each op (value (erase_value s.v) st)) c.operand_at-second.ensures))

pub run_statement-returns-in-Put-clause-is : goal.run_statement-returns-in-Put-clause-is
run_statement-returns-in-Put-clause-is g t c = λ h.
    let s = c.in-Put in
    let st = state_of c.args.machine.now in
    told c.args.limit c.args.machine.now c.put.new.self c.put.result _ (setting g.S.Semiring.arithmetic c.args.workspaces.now)
    (Put s.a (erase_value s.i) (erase_value s.v)) (erase c.args.s.now) c.requires.few c.put.ensures.turns
    (ap erase s.is) c.put.ensures.is
    (ap (λ v. put_outcome st s.a v c.operand_at-value.result) c.operand_at-i.ensures
    ∙ ap (put_outcome st s.a (value (erase_value s.i) st)) c.operand_at-value.ensures)

pub run_statement-returns-in-AddTo-clause-is : goal.run_statement-returns-in-AddTo-clause-is
run_statement-returns-in-AddTo-clause-is g t c = λ h.
    let s = c.in-AddTo in
    let st = state_of c.args.machine.now in
    let a = g.S.Semiring.arithmetic in
    told c.args.limit c.args.machine.now c.add.new.self c.add.result _ (setting a c.args.workspaces.now)
    (AddTo s.a (erase_value s.i) (erase_value s.v)) (erase c.args.s.now) c.requires.few c.add.ensures.turns
    (ap erase s.is) c.add.ensures.is
    (ap (λ v. add_outcome a st s.a v c.operand_at-value-in-AddTo.result) c.operand_at-i-in-AddTo.ensures
    ∙ ap (add_outcome a st s.a (value (erase_value s.i) st)) c.operand_at-value-in-AddTo.ensures)

pub run_statement-returns-in-Push-clause-is : goal.run_statement-returns-in-Push-clause-is
run_statement-returns-in-Push-clause-is g t c = λ h.
    let s = c.in-Push in
    let st = state_of c.args.machine.now in
    told c.args.limit c.args.machine.now c.push.new.self c.push.result _ (setting g.S.Semiring.arithmetic c.args.workspaces.now)
    (Push s.a (erase_value s.v)) (erase c.args.s.now) c.requires.few c.push.ensures.turns (ap erase s.is) (c.push.ensures.is h)
    (ap (push_outcome st s.a) c.operand_at-value-in-Push.ensures)

pub run_statement-returns-in-Extend-clause-is : goal.run_statement-returns-in-Extend-clause-is
run_statement-returns-in-Extend-clause-is g t c = λ h.
    let s = c.in-Extend in
    let st = state_of c.args.machine.now in
    told c.args.limit c.args.machine.now c.extend.new.self c.extend.result _ (setting g.S.Semiring.arithmetic c.args.workspaces.now)
    (Extend s.a (erase_value s.count) (erase_value s.v)) (erase c.args.s.now) c.requires.few c.extend.ensures.turns
    (ap erase s.is) (c.extend.ensures.is h)
    (ap (λ v. extend_outcome st s.a v c.operand_at-value-in-Extend.result) c.operand_at-n.ensures
    ∙ ap (extend_outcome st s.a (value (erase_value s.count) st)) c.operand_at-value-in-Extend.ensures)

pub run_statement-returns-in-Cut-clause-is : goal.run_statement-returns-in-Cut-clause-is
run_statement-returns-in-Cut-clause-is g t c = λ h.
    let s = c.in-Cut in
    let st = state_of c.args.machine.now in
    told c.args.limit c.args.machine.now c.cut.new.self c.cut.result _ (setting g.S.Semiring.arithmetic c.args.workspaces.now)
    (Cut s.a (erase_value s.v)) (erase c.args.s.now) c.requires.few c.cut.ensures.turns (ap erase s.is) c.cut.ensures.is
    (ap (cut_outcome true st s.a) c.operand_at-n-in-Cut.ensures)

pub run_statement-run_body-step-requires : goal.run_statement-run_body-step-requires
run_statement-run_body-step-requires g t c κs within =
    let s = c.in-If in
    let whole = ap statements_in (ap erase s.is ∙ erase_if s.test s.first s.second) in
    let parts = statements_in_if (erase_value s.test) (map erase s.first) (map erase s.second) in
    let part = ap (λ code. statements_in_list (map erase code)) c.as_slice.ensures in (
      omega arith,
      (
        search (rules, within),
        (
          c.requires.few,
          subst (FitsAll _) (sym c.as_slice.ensures) (second_fits _ s.test s.first s.second (subst (Fits _) s.is c.requires.room)),
        ),
      ),
    )

pub run_statement-run_body-step-requires-in-Some : goal.run_statement-run_body-step-requires-in-Some
run_statement-run_body-step-requires-in-Some g t c κs within =
    let s = c.in-If in
    let whole = ap statements_in (ap erase s.is ∙ erase_if s.test s.first s.second) in
    let parts = statements_in_if (erase_value s.test) (map erase s.first) (map erase s.second) in
    let part = ap (λ code. statements_in_list (map erase code)) c.as_slice-in-Some.ensures in (
      omega arith,
      (
        search (rules, within),
        (
          c.requires.few,
          subst (FitsAll _) (sym c.as_slice-in-Some.ensures) (first_fits _ s.test s.first s.second (subst (Fits _) s.is c.requires.room)),
        ),
      ),
    )

pub run_statement-run_loop-requires : goal.run_statement-run_loop-requires
run_statement-run_loop-requires g t c κs within =
    let s = c.in-While in
    let whole = ap statements_in (ap erase s.is ∙ erase_while s.kind s.test s.body) in
    let parts = statements_in_while s.kind (erase_value s.test) (map erase s.body) in
    let part = ap (λ code. statements_in_list (map erase code)) c.as_slice-in-While.ensures in (
      omega arith,
      (
        search (rules, within),
        (
          c.requires.few,
          (
            (subst (Fits _) s.is c.requires.room).0,
            subst (FitsAll _) (sym c.as_slice-in-While.ensures) (body_fits _ s.kind s.test s.body (subst (Fits _) s.is c.requires.room)),
          ),
        ),
      ),
    )

pub run_in_order-run_statement-step-requires : goal.run_in_order-run_statement-step-requires
run_in_order-run_statement-step-requires g t c κs within =
    let stmts = c.args.statements.now in
    let this = c.index-statements-i.result in
    let i = c.loop-i.i in
    let part = statements_here (map erase stmts) i (erase this) (within_erased stmts i c.loop-i-test.true)
    (erased_here stmts i this c.index-statements-i.is) in (
      omega arith,
      (
        search (rules, within),
        (
          c.loop-i.invariant.0,
          here_fits _ stmts i this c.loop-i-test.true c.index-statements-i.is c.loop-i.invariant.3,
        ),
      ),
    )

pub run_statement-returns-in-Some-eq0-clause-is : goal.run_statement-returns-in-Some-eq0-clause-is
run_statement-returns-in-Some-eq0-clause-is g t c = λ h.
    let s = c.in-If in
    let st = state_of c.args.machine.now in
    let set = setting g.S.Semiring.arithmetic c.args.workspaces.now in
    let test : value (erase_value s.test) st ≡ Some 0 = cc in
    let code = run_list set c.args.limit (map erase s.second) st in
    let before = statements_in_list (map erase s.first) in
    let m = c.run_body-step.new.machine in
    let e = c.run_body-step.result in
    let did : outcome_at e m ≡ within c.args.limit code =
    c.run_body-step.ensures.is (c.behind-step.ensures.told.1 (c.inside.ensures.told.1 h))
    ∙ ap (λ code. within c.args.limit (run_list set c.args.limit (map erase code) st)) c.as_slice.ensures in
    let first : outcome_at c.behind-step.result c.behind-step.new.self ≡ behind before (outcome_at e m) =
    c.behind-step.ensures.is
    ∙ ap (λ code. behind (statements_in_list (map erase code)) (outcome_at e m)) c.as_slice-in-Some-eq0.ensures in
    told_behind c.args.limit 1 (behind before code) _ _ c.inside.ensures.is
    (told_behind c.args.limit before code (outcome_at c.behind-step.result c.behind-step.new.self) (outcome_at e m) first did)
    ∙ ap (within c.args.limit) (behind_on 1 before code
    ∙ if_no set c.args.limit (erase_value s.test) (map erase s.first) (map erase s.second) st test
    ∙ ap (λ s. run set c.args.limit s st) (sym (ap erase s.is ∙ erase_if s.test s.first s.second)))

pub run_statement-returns-in-Some-clause-is : goal.run_statement-returns-in-Some-clause-is
run_statement-returns-in-Some-clause-is g t c = λ h.
    let s = c.in-If in
    let st = state_of c.args.machine.now in
    let set = setting g.S.Semiring.arithmetic c.args.workspaces.now in
    let test : value (erase_value s.test) st ≡ Some c.in-Some.field-0 = cc in
    let code = run_list set c.args.limit (map erase s.first) st in
    let m = c.run_body-step-in-Some.new.machine in
    let e = c.run_body-step-in-Some.result in
    let did : outcome_at e m ≡ within c.args.limit code =
    c.run_body-step-in-Some.ensures.is (c.inside-in-Some.ensures.told.1 h)
    ∙ ap (λ code. within c.args.limit (run_list set c.args.limit (map erase code) st)) c.as_slice-in-Some.ensures in
    told_behind c.args.limit 1 code _ (outcome_at e m) c.inside-in-Some.ensures.is did
    ∙ ap (within c.args.limit)
    (if_yes set c.args.limit (erase_value s.test) (map erase s.first) (map erase s.second) st c.in-Some.field-0 test (omega arith)
    ∙ ap (λ s. run set c.args.limit s st) (sym (ap erase s.is ∙ erase_if s.test s.first s.second)))

pub run_statement-returns-in-While-clause-is : goal.run_statement-returns-in-While-clause-is
run_statement-returns-in-While-clause-is g t c = λ h.
    let st = state_of c.args.machine.now in
    let set = setting g.S.Semiring.arithmetic c.args.workspaces.now in
    let s = c.in-While in
    c.run_loop.ensures.is h
    ∙ ap (within c.args.limit)
    (ap (λ code. run_turns c.args.limit s.kind (value (erase_value s.test))
    (λ s. behind 1 (run_list set c.args.limit (map erase code) s)) st) c.as_slice-in-While.ensures
    ∙ sym (run_while set c.args.limit s.kind (erase_value s.test) (map erase s.body) st)
    ∙ ap (λ s. run set c.args.limit s st) (sym (ap erase s.is ∙ erase_while s.kind s.test s.body)))

pub run_statement-returns-in-Some-eq0-clause-memory : goal.run_statement-returns-in-Some-eq0-clause-memory
run_statement-returns-in-Some-eq0-clause-memory g t c =
    let s = c.in-If in
    λ here. c.inside.ensures.told.0 (c.behind-step.ensures.told.0 (c.run_body-step.ensures.memory
    (subst (λ code. Through IsInPlace (map erase code)) (sym c.as_slice.ensures)
    (second_body IsInPlace (erase_value s.test) (map erase s.first) (map erase s.second)
    (subst (Throughout IsInPlace) (ap erase s.is ∙ erase_if s.test s.first s.second) here)))))

pub run_statement-returns-in-Some-clause-memory : goal.run_statement-returns-in-Some-clause-memory
run_statement-returns-in-Some-clause-memory g t c =
    let s = c.in-If in
    λ here. c.inside-in-Some.ensures.told.0 (c.run_body-step-in-Some.ensures.memory
    (subst (λ code. Through IsInPlace (map erase code)) (sym c.as_slice-in-Some.ensures)
    (first_body IsInPlace (erase_value s.test) (map erase s.first) (map erase s.second)
    (subst (Throughout IsInPlace) (ap erase s.is ∙ erase_if s.test s.first s.second) here))))

pub run_statement-returns-in-While-clause-memory : goal.run_statement-returns-in-While-clause-memory
run_statement-returns-in-While-clause-memory g t c =
    let s = c.in-While in
    λ here. c.run_loop.ensures.memory (subst (λ code. Through IsInPlace (map erase code)) (sym c.as_slice-in-While.ensures)
    (loop_body IsInPlace s.kind (erase_value s.test) (map erase s.body)
    (subst (Throughout IsInPlace) (ap erase s.is ∙ erase_while s.kind s.test s.body) here)))

pub run_in_order-returns-then-not-has_ended-clause-is : goal.run_in_order-returns-then-not-has_ended-clause-is
run_in_order-returns-then-not-has_ended-clause-is g t c = λ h.
    let e = c.run_statement-step.result in
    let m = c.run_statement-step.new.machine in
    let stop : has_ended e ≡ false = cc in
    let stmts = c.args.statements.now in
    let this = c.index-statements-i.result in
    let i = c.loop-i.i in
    stopped (setting g.S.Semiring.arithmetic c.args.workspaces.now) c.args.limit (map erase stmts) i (erase this)
    (state_of c.loop-i.machine) _ (within_erased stmts i c.loop-i-test.true) (erased_here stmts i this c.index-statements-i.is)
    c.loop-i.invariant.1 e m (outcome_at c.behind.result c.behind.new.self) stop
    (c.run_statement-step.ensures.is (c.behind.ensures.told.1 h))
    (c.behind.ensures.is ∙ ap (λ before. behind (statements_in_list before) (outcome_at e m)) (sym (take-map erase i stmts)))

pub run_in_order-loop-i-preserved : goal.run_in_order-loop-i-preserved
run_in_order-loop-i-preserved g t c =
    let set = setting g.S.Semiring.arithmetic c.args.workspaces.now in
    let stmts = c.args.statements.now in
    let this = c.index-statements-i.result in
    let st = state_of c.loop-i.machine in
    let e = c.run_statement-step.result in
    let m = c.run_statement-step.new.machine in
    let on : has_ended e ≡ true = cc in
    let i = c.loop-i.i in
    let here = within_erased stmts i c.loop-i-test.true in
    let did : Ended (state_of m) ≡ within c.args.limit (run set c.args.limit (erase this) st) =
    sym (is_ended e m on) ∙ c.run_statement-step.ensures.is (told_ended e on) in (
      c.run_statement-step.ensures.left,
      went_on set c.args.limit (map erase stmts) i (erase this) st _ here (erased_here stmts i this c.index-statements-i.is)
          c.loop-i.invariant.1 (state_of m) did,
      c.run_statement-step.ensures.room ∙ c.loop-i.invariant.2,
      subst (λ n. FitsAll n (drop (i + 1) stmts)) (sym c.run_statement-step.ensures.room)
          (rest_fits _ stmts i this c.loop-i-test.true c.loop-i.invariant.3),
      λ all. through_rest IsInPlace (map erase stmts) i (erase this) here (c.loop-i.invariant.4 all),
    )

pub run_in_order-returns-then-not-has_ended-clause-memory : goal.run_in_order-returns-then-not-has_ended-clause-memory
run_in_order-returns-then-not-has_ended-clause-memory g t c =
    let stmts = c.args.statements.now in
    let this = c.index-statements-i.result in
    let i = c.loop-i.i in
    λ all. c.behind.ensures.told.0 (c.run_statement-step.ensures.memory (through_here IsInPlace (map erase stmts) i (erase this)
    (within_erased stmts i c.loop-i-test.true) (erased_here stmts i this c.index-statements-i.is) (c.loop-i.invariant.4 all)))

pub run_loop-run_in_order-step-requires : goal.run_loop-run_in_order-step-requires
run_loop-run_in_order-step-requires g t c κs within =
    let same : variable_room c.count_turn.new.self ≡ variable_room c.args.machine.now =
    ap room_of c.count_turn.ensures.variables ∙ c.loop.invariant.2 in (
      omega arith,
      (
        search (rules, within),
        (omega arith, subst (λ n. FitsAll n c.args.body.now) (sym same) c.requires.room),
      ),
    )

pub run_loop-returns-in-Some-eq0-clause-is : goal.run_loop-returns-in-Some-eq0-clause-is
run_loop-returns-in-Some-eq0-clause-is g t c = λ h.
    let test : value (erase_value c.args.test.now) (state_of c.loop.machine) ≡ Some 0 = cc in
    loop_ended c.args.limit (c.args.limit - c.loop.counter) c.args.kind (value (erase_value c.args.test.now))
    (λ s. behind 1 (run_list (setting g.S.Semiring.arithmetic c.args.workspaces.now) c.args.limit (map erase c.args.body.now) s))
    (state_of c.loop.machine) test (omega arith) ∙ c.loop.invariant.1

pub run_loop-returns-in-None-clause-is : goal.run_loop-returns-in-None-clause-is
run_loop-returns-in-None-clause-is g t c = λ h.
    let test : value (erase_value c.args.test.now) (state_of c.loop.machine) ≡ None = cc in
    loop_stuck c.args.limit (c.args.limit - c.loop.counter) c.args.kind (value (erase_value c.args.test.now))
    (λ s. behind 1 (run_list (setting g.S.Semiring.arithmetic c.args.workspaces.now) c.args.limit (map erase c.args.body.now) s))
    (state_of c.loop.machine) test (omega arith) ∙ c.loop.invariant.1

pub run_loop-returns-then-has_no_turn-clause-is : goal.run_loop-returns-then-has_no_turn-clause-is
run_loop-returns-then-has_no_turn-clause-is g t c = λ h.
    let test : value (erase_value c.args.test.now) (state_of c.loop.machine) ≡ Some c.in-Some.field-0 = cc in
    loop_more c.args.limit (c.args.limit - c.loop.counter) c.args.kind (value (erase_value c.args.test.now))
    (λ s. behind 1 (run_list (setting g.S.Semiring.arithmetic c.args.workspaces.now) c.args.limit (map erase c.args.body.now) s))
    (state_of c.loop.machine) c.in-Some.field-0
    (at_least_body (setting g.S.Semiring.arithmetic c.args.workspaces.now) c.args.limit (map erase c.args.body.now)) test (omega arith)
    (omega arith) (omega arith) ∙ c.loop.invariant.1

pub run_loop-returns-then-not-has_ended-clause-is : goal.run_loop-returns-then-not-has_ended-clause-is
run_loop-returns-then-not-has_ended-clause-is g t c = λ h.
    let set = setting g.S.Semiring.arithmetic c.args.workspaces.now in
    let code = run_list set c.args.limit (map erase c.args.body.now) in
    let body : State → Outcome = λ s. behind 1 (code s) in
    let test = value (erase_value c.args.test.now) in
    let st = state_of c.loop.machine in
    let left = c.args.limit - (c.loop.counter + 1) in
    let one_less : c.args.limit - c.loop.counter ≡ suc left = omega arith in
    let go : test st ≡ Some c.in-Some.field-0 = cc in
    let e = c.run_in_order-step.result in
    let m = c.run_in_order-step.new.machine in
    let told = outcome_at c.inside.result c.inside.new.self in
    let stop : has_ended e ≡ false = cc in
    let did : told ≡ within c.args.limit (body (one_turn st c.args.kind)) =
    told_behind c.args.limit 1 (code (one_turn st c.args.kind)) told (outcome_at e m) c.inside.ensures.is
    (c.run_in_order-step.ensures.is (c.inside.ensures.told.1 h) ∙ ap (λ s. within c.args.limit (code s)) c.count_turn.ensures.is) in
    stopped_behind 1 e m told (λ s. within c.args.limit (run_turns left c.args.kind test body s)) stop c.inside.ensures.is
    ∙ sym (ap (λ j. within c.args.limit (run_turns j c.args.kind test body st)) one_less
    ∙ turn_then c.args.limit left c.args.kind test body st c.in-Some.field-0 told
    (at_least_body set c.args.limit (map erase c.args.body.now)) go (omega arith) did)
    ∙ c.loop.invariant.1

pub run_loop-loop-preserved : goal.run_loop-loop-preserved
run_loop-loop-preserved g t c =
    let set = setting g.S.Semiring.arithmetic c.args.workspaces.now in
    let code = run_list set c.args.limit (map erase c.args.body.now) in
    let body : State → Outcome = λ s. behind 1 (code s) in
    let test = value (erase_value c.args.test.now) in
    let st = state_of c.loop.machine in
    let left = c.args.limit - (c.loop.counter + 1) in
    let one_less : c.args.limit - c.loop.counter ≡ suc left = omega arith in
    let go : test st ≡ Some c.in-Some.field-0 = cc in
    let e = c.run_in_order-step.result in
    let m = c.run_in_order-step.new.machine in
    let new = state_of m in
    let on : has_ended e ≡ true = cc in
    let did : Ended new ≡ within c.args.limit (code (one_turn st c.args.kind)) =
    sym (is_ended e m on) ∙ c.run_in_order-step.ensures.is (told_ended e on)
    ∙ ap (λ s. within c.args.limit (code s)) c.count_turn.ensures.is in
    let inside : Ended new ≡ within c.args.limit (body (one_turn st c.args.kind)) =
    told_behind c.args.limit 1 (code (one_turn st c.args.kind)) (Ended new) (Ended new) refl did in (
      c.run_in_order-step.ensures.left,
      sym (ap (λ j. within c.args.limit (run_turns j c.args.kind test body st)) one_less
          ∙ turn_then c.args.limit left c.args.kind test body st c.in-Some.field-0 (Ended new)
          (at_least_body set c.args.limit (map erase c.args.body.now)) go (omega arith) inside)
          ∙ c.loop.invariant.1,
      c.run_in_order-step.ensures.room ∙ ap room_of c.count_turn.ensures.variables ∙ c.loop.invariant.2,
    )
