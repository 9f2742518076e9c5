use Rattle.std.proofs.Common.{◌≡◌, [], subst, sym, refl}
use Rattle.mtx_io.specs.Progress.{IsStage}
use Rattle.mtx_io.specs.declared.stage.Stage.{Stage}
use Rattle.mtx_io.specs.declared.stage.Stage.TheVariants.{Begun}
use Rattle.mtx_io.proofs.step.after_line.Goals as goal

pub returns-in-First-clause-stage : goal.returns-in-First-clause-stage
returns-in-First-clause-stage g c =
    let has_minus = g.S.Semiring.has_minus in
    let signed = g.S.Semiring.is_signed in
    let order = c.args.entries.now.order in
    let none : c.args.entries.now.list ≡ [] =
    subst (λ (s : Stage). IsStage has_minus order c.args.entries.now.list s) c.in-First.is c.requires.stage in
    subst (λ entries. IsStage has_minus order entries c.after_first.result) (sym none) (c.after_first.ensures.stage order)

pub returns-in-Begun-2-clause-stage : goal.returns-in-Begun-2-clause-stage
returns-in-Begun-2-clause-stage g c =
    let has_minus = g.S.Semiring.has_minus in
    let signed = g.S.Semiring.is_signed in
    let order = c.args.entries.now.order in
    let begun : IsStage has_minus order c.args.entries.now.list (Begun c.in-Begun-2.banner) =
    subst (λ (s : Stage). IsStage has_minus order c.args.entries.now.list s) c.in-Begun-2.is c.requires.stage in
    let after = subst (λ n. IsStage has_minus n [] c.after_size.result) c.order.ensures.value
    (c.after_size.ensures.stage has_minus (refl, begun.1)) in
    subst (λ entries. IsStage has_minus order entries c.after_size.result) (sym begun.0) after
