use Rattle.std.specs.Prelude.{ℕ, ◌+◌, drop, slice_index}
use Rattle.std.specs.List.{flat_map}
use Rattle.std.proofs.lemmas.Option.{slice_get-get_or}
use Rattle.text_lines.proofs.PutPieces.{more_so_far, refused, rest_told, then_rest}
use Rattle.text_lines.proofs.ListTexts.{text_step}
use Rattle.reports.specs.Plans.{next_mode}
use Rattle.reports.proofs.plans.put_next_modes.Goals as goal

pub loop-mode-preserved : goal.loop-mode-preserved
loop-mode-preserved g c =
    let xs = c.args.modes.now in
    let i : ℕ = c.loop-mode.mode-index in
    more_so_far _ _ _ _ _ _
    (rest_told _ _ _ _ _ (text_step next_mode xs i (slice_index xs i) (slice_get-get_or xs i 0 c.loop-mode-test.true))
    c.loop-mode.invariant) c.in_ok-put_next_mode.ensures.whole

pub returns-in_err-put_next_mode : goal.returns-in_err-put_next_mode
returns-in_err-put_next_mode g c =
    let xs = c.args.modes.now in
    let i : ℕ = c.loop-mode.mode-index in
    then_rest _ _ _ _ _ _
    (rest_told _ _ _ _ _ (text_step next_mode xs i (slice_index xs i) (slice_get-get_or xs i 0 c.loop-mode-test.true))
    c.loop-mode.invariant)
    (refused c.from_residual.result c.in_err-put_next_mode.field-0.0 _ _ _ (flat_map next_mode (drop (i + 1) xs))
    c.from_residual.ensures.1 c.in_err-put_next_mode.ensures.part)
