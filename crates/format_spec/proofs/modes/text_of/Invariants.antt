use Rattle.std.specs.Prelude.{◌≡◌, take}
use Rattle.format_spec.specs.Words.{mode_text}
use Rattle.format_spec.proofs.modes.text_of.Given as goal

abbrev pub invariant-loop-mode : goal.invariant-loop-mode
invariant-loop-mode l = (l.text.items ≡ mode_text (take l.mode-index l.modes)) × (l.text.capacity ≡ 11)
