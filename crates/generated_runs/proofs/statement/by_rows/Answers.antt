use Rattle.std.specs.Prelude.{◌≡◌, [], ◌∷◌, Ok, Err, None}
use Rattle.std.proofs.Common.{◌∙◌, sym}
use Rattle.format_spec.proofs.WordLaws.{one_answer}
use Rattle.generated_runs.specs.Workloads.{by_rows}
use Rattle.generated_runs.proofs.Formats.{read_by_rows}
use Rattle.generated_runs.proofs.statement.by_rows.Goals as goal

pub unreachable-requires : goal.unreachable-requires
unreachable-requires c =
    let read : c.parse_format.result ≡ Ok by_rows =
    one_answer (100 ∷ 115 ∷ []) None 2 c.parse_format.result (Ok by_rows) c.parse_format.ensures read_by_rows in
    let both : Err c.in-Err.field-0 ≡ Ok by_rows = sym c.in-Err.is ∙ read in
    cc
