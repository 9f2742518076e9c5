use Rattle.std.specs.Prelude.{◌≡◌, ℕ, List, ◌++◌}
use Rattle.std.specs.Fmt.{decimal}
use Rattle.std.specs.List.{flat_map}
use Rattle.std.proofs.Common.{◌∙◌, sym, ap}
use Rattle.text_lines.proofs.PutPieces.{refused, retold, then_printed}
use Rattle.reports.specs.Plans.{next_mode, modes_text}
use Rattle.reports.proofs.plans.put_modes.Goals as goal

pub returns-in_err-put_u64 : goal.returns-in_err-put_u64
returns-in_err-put_u64 g c =
    let rest : List ℕ = flat_map next_mode c.in-Some.others.now in
    retold _ _ _ _ _ (ap modes_text (sym c.in-Some.ensures.cases.0))
    (refused c.from_residual.result c.in_err-put_u64.field-0.0 _ _ (decimal c.in-Some.first.now) rest c.from_residual.ensures.1
    c.in_err-put_u64.ensures.part)

pub returns : goal.returns
returns g c =
    let rest : List ℕ = flat_map next_mode c.in-Some.others.now in
    retold _ _ _ _ _ (ap modes_text (sym c.in-Some.ensures.cases.0))
    (then_printed _ _ _ _ (decimal c.in-Some.first.now) rest c.in_ok-put_u64.ensures.whole c.put_next_modes.ensures)
