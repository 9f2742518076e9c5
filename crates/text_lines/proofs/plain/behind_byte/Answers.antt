use Rattle.std.proofs.Common.{ℕ, ◌∷◌, ap, ◌∙◌}
use Rattle.text_lines.proofs.plain.behind_byte.Goals as goal

pub returns-then-first-byte : goal.returns-then-first-byte
returns-then-first-byte c =
    c.in_ok-first.ensures.cases.0 ∙ ap (λ (byte : ℕ). byte ∷ c.in_ok-first.rest.now) c.if-first-byte.true
