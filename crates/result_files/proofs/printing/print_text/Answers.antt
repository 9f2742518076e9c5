use Rattle.std.proofs.Common.{subst, rules, ◌∙◌}
use Rattle.outside.specs.Sink.{SinkState}
use Rattle.result_files.specs.Refused.{refused_as}
use Rattle.result_files.specs.Writes.{PutsFront}
use Rattle.result_files.proofs.Batches.{handed_on, same_borrow}
use Rattle.result_files.proofs.Tallies.{tally_part}
use Rattle.result_files.proofs.printing.print_text.Goals as goal

pub returns-in_err-fill-clause-part : goal.returns-in_err-fill-clause-part
returns-in_err-fill-clause-part g c =
    let state = g.O.Sink.state in
    let new = c.fill.new.sink in
    let why = c.in_err-fill.field-0.0 in
    let name = same_borrow _ _ new.lower.ghost_name c.in_err-fill.ensures.part.beside_is ∙ c.new-tally.ensures.borrow in
    handed_on c.from_residual.result (refused_as why) _ c.from_residual.ensures.1
    (subst (λ (s : SinkState). PutsFront (state c.args.out.now) s (g.T.Text.text c.args.text.now) (refused_as why)) (search (rules, name))
    (tally_part (state c.args.out.now) (state new.lower.now) _ _ new.lower.ghost_name new.handed.count _ why
    c.new-tally.ensures.state c.in_err-fill.ensures.part))
