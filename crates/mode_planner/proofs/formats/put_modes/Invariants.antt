use Rattle.std.specs.Prelude.{◌≡◌, ◌++◌, take, string_bytes}
use Rattle.format_spec.specs.Words.{more_modes}
use Rattle.mode_planner.proofs.formats.put_modes.Given as goal

abbrev pub invariant-loop-mode : goal.invariant-loop-mode
invariant-loop-mode l = string_bytes l.text ≡ string_bytes l.fn.text ++ more_modes (take l.mode-index l.modes)
