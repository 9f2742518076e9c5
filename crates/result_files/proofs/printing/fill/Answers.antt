use Rattle.std.specs.Prelude.{true}
use Rattle.std.proofs.Common.{subst, rules, ◌∙◌}
use Rattle.outside.specs.Sink.{SinkState}
use Rattle.result_files.specs.Fills.{FillsPart}
use Rattle.result_files.proofs.Batches.{batch_unfinished, handed_on, same_borrow}
use Rattle.result_files.proofs.printing.fill.Goals as goal

pub returns-in_err-finish-clause-part : goal.returns-in_err-finish-clause-part
returns-in_err-finish-clause-part g c =
    let state = g.K.Sink.state in
    let mid = c.put.new.sink in
    let new = c.finish.new.self in
    let why = c.in_err-finish.field-0.0 in
    let name = same_borrow _ _ new.lower.ghost_name c.in_err-finish.ensures.refused.beside_is
    ∙ same_borrow _ _ new.lower.ghost_name c.in_ok-put.ensures.whole.beside_is ∙ c.new-batch.ensures.borrow in
    handed_on c.from_residual-in_err-finish.result why _ c.from_residual-in_err-finish.ensures.1
    (subst (λ (s : SinkState). FillsPart (state c.args.sink.now) s (g.T.Text.text c.args.text.now) why) (search (rules, name))
    (batch_unfinished (state c.args.sink.now) (state mid.lower.now) (state new.lower.now) _ _
    mid.lower.ghost_name new.lower.ghost_name mid.kept new.kept true mid.is_unfinished new.is_unfinished _ why
    c.new-batch.ensures.state c.in_ok-put.ensures.whole c.in_err-finish.ensures.refused))
