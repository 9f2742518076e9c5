use Rattle.std.specs.Prelude.{ℕ, Option, ◌++◌, ◌∷◌, []}
use Rattle.std.proofs.Common.{◌∙◌, sym, ap}
use Rattle.mode_planner.specs.Plans.{mode_of}
use Rattle.mode_planner.proofs.Numbers.{next_given, next_none}
use Rattle.mode_planner.proofs.plans.modes_in_order.Goals as goal
use Rattle.mode_planner.proofs.plans.modes_in_order.Goals.{in-Some+in_ok-push, in_default}

pub loop-var-preserved : goal.loop-var-preserved
loop-var-preserved c =
    let given : ℕ → Option ℕ = mode_of c.args.vars.now in
    let var : ℕ = c.loop-var.var in
    elim c.match-mode_of.branch [
      | in-Some+in_ok-push w ↦ w.modes-is ∙ w.in_ok-push.ensures.ok ∙ ap (λ ns. ns ++ w.in-Some.mode ∷ []) c.loop-var.invariant
          ∙ sym (next_given given var w.in-Some.mode (sym c.mode_of.ensures ∙ w.in-Some.is))
      | in_default w ↦ w.modes-is ∙ c.loop-var.invariant ∙ sym (next_none given var (sym c.mode_of.ensures ∙ w.in_default.is))
    ]
