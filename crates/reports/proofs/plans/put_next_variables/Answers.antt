use Rattle.std.specs.Prelude.{ℕ, ◌+◌, drop, slice_index}
use Rattle.std.specs.List.{flat_map}
use Rattle.std.proofs.lemmas.Option.{slice_get-get_or}
use Rattle.text_lines.proofs.PutPieces.{more_so_far, refused, rest_told, then_rest}
use Rattle.text_lines.proofs.ListTexts.{text_step}
use Rattle.reports.specs.Plans.{next_variable}
use Rattle.reports.proofs.plans.put_next_variables.Goals as goal

pub loop-number-preserved : goal.loop-number-preserved
loop-number-preserved g c =
    let names = c.args.names.now in
    let xs = c.args.numbers.now in
    let i : ℕ = c.loop-number.number-index in
    more_so_far _ _ _ _ _ _
    (rest_told _ _ _ _ _ (text_step (next_variable names) xs i (slice_index xs i) (slice_get-get_or xs i 0 c.loop-number-test.true))
    c.loop-number.invariant) c.in_ok-put_next_variable.ensures.whole

pub returns-in_err-put_next_variable : goal.returns-in_err-put_next_variable
returns-in_err-put_next_variable g c =
    let names = c.args.names.now in
    let xs = c.args.numbers.now in
    let i : ℕ = c.loop-number.number-index in
    then_rest _ _ _ _ _ _
    (rest_told _ _ _ _ _ (text_step (next_variable names) xs i (slice_index xs i) (slice_get-get_or xs i 0 c.loop-number-test.true))
    c.loop-number.invariant)
    (refused c.from_residual.result c.in_err-put_next_variable.field-0.0 _ _ _ (flat_map (next_variable names) (drop (i + 1) xs))
    c.from_residual.ensures.1 c.in_err-put_next_variable.ensures.part)
