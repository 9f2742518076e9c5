use Rattle.std.specs.Prelude.{string_bytes}
use Rattle.std.proofs.Common.{◌∙◌}
use Rattle.mode_planner.proofs.StoredFormats.{next_mode}
use Rattle.mode_planner.proofs.formats.put_modes.Goals as goal

pub loop-mode-preserved : goal.loop-mode-preserved
loop-mode-preserved c =
    c.in_ok-put_mode.ensures
    ∙ next_mode (string_bytes c.args.text.now) (string_bytes c.loop-mode.text) c.args.modes.now c.loop-mode.mode-index 0
    c.loop-mode-test.true c.loop-mode.invariant
