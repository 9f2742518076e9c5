use Rattle.std.specs.Prelude.{[], ◌∷◌}
use Rattle.kernel_flow.specs.Choices.{is_value}
use Rattle.kernel_flow.proofs.ChoiceLemmas.{gives_of, gives_with}
use Rattle.kernel_flow.proofs.choices.behind_choice.Goals as goal

pub returns-then-is_told-2-clause-first : goal.returns-then-is_told-2-clause-first
returns-then-is_told-2-clause-first c =
    let told = gives_of c.args.there c.as_slice.result.now (is_value c.args.test.now 1 ∷ []) c.as_slice.ensures
    (c.is_told.ensures c.if-is_told.true) in
    gives_with c.args.there c.in_ok-known.known (is_value c.args.test.now 1) told c.in_ok-known.ensures.first

pub returns-then-is_told-2-clause-second : goal.returns-then-is_told-2-clause-second
returns-then-is_told-2-clause-second c =
    gives_with c.args.elsewhere.now c.in_ok-known.known (is_value c.args.test.now 0) (c.is_told-then-is_told.ensures c.if-is_told-2.true)
    c.in_ok-known.ensures.second
