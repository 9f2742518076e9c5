use Rattle.std.proofs.Common.{ap, ◌∙◌}
use Rattle.std.specs.Prelude.{◌∷◌}
use Rattle.mtx_io.specs.Fields.{five_tokens}
use Rattle.mtx_io.proofs.FieldLaws.{five_more}
use Rattle.mtx_io.proofs.fields.five_tokens.Goals as goal

pub returns : goal.returns
returns c =
    ap five_tokens (c.in_ok-first.ensures ∙ ap (λ rest. c.in_ok-first.first.now ∷ rest) c.in_ok-second.ensures)
    ∙ five_more _ _ _ _ c.in_ok-third.ensures
