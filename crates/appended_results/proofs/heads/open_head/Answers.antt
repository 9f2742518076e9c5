use Rattle.std.specs.Prelude.{[], ◌∷◌}
use Rattle.std.proofs.Common.{◌∙◌, ap}
use Rattle.kernel_code.specs.declared.syntax.KStmt.{If}
use Rattle.format_spec.specs.Formats.{letters_of}
use Rattle.appended_results.proofs.OpenLaws.{opens_head}
use Rattle.appended_results.proofs.heads.open_head.Goals as goal

pub returns : goal.returns
returns c =
    opens_head (letters_of c.args.format.now) c.args.head c.args.base c.args.free c.args.zero c.args.keys.now c.in_ok-other.other
    c.in_ok-append.append c.in_ok-code.code c.in_ok-append.ensures c.in_ok-other.ensures
    (c.in_ok-code.ensures ∙ ap (λ rest. If c.in_ok-other.other c.in_ok-append.append rest ∷ []) c.new.ensures)
