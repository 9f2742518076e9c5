use Rattle.std.specs.Prelude.{ℕ, List, [], ◌∷◌, ◌++◌, codes}
use Rattle.std.proofs.Common.{◌∙◌, ap}
use Rattle.std.specs.Fmt.{decimal}
use Rattle.format_spec.specs.declared.format.FormatLevel.{FormatLevel}
use Rattle.format_spec.specs.Words.{format_text}
use Rattle.text_lines.proofs.PutPieces.{printed, refused, retold, then_printed}
use Rattle.storage_text.proofs.Lines.{first_is}
use Rattle.storage_text.proofs.store.put_first_line.Goals as goal

pub returns-in_err-put_title : goal.returns-in_err-put_title
returns-in_err-put_title g c =
    let s = c.args.tensor.now in
    let t : List ℕ = codes "T" ++ (decimal c.args.number ++ (codes " = " ++ c.args.name.now)) in
    let f : List ℕ = format_text c.whole_format-format.result.now in
    retold _ _ _ _ _ (ap (λ (x : List FormatLevel). t ++ (codes ":" ++ (format_text x ++ 10 ∷ []))) c.whole_format-format.ensures
    ∙ first_is c.args.number c.args.name.now s)
    (refused c.from_residual.result c.in_err-put_title.field-0.0 _ _ t (codes ":" ++ (f ++ (10 ∷ [])))
    c.from_residual.ensures.1 c.in_err-put_title.ensures)

pub returns-in_err-put_all : goal.returns-in_err-put_all
returns-in_err-put_all g c =
    let s = c.args.tensor.now in
    let t : List ℕ = codes "T" ++ (decimal c.args.number ++ (codes " = " ++ c.args.name.now)) in
    let f : List ℕ = format_text c.whole_format-format.result.now in
    retold _ _ _ _ _ (ap (λ (x : List FormatLevel). t ++ (codes ":" ++ (format_text x ++ 10 ∷ []))) c.whole_format-format.ensures
    ∙ first_is c.args.number c.args.name.now s)
    (then_printed _ _ _ _ t (codes ":" ++ (f ++ (10 ∷ []))) c.in_ok-put_title.ensures
    (refused c.from_residual-in_err-put_all.result c.in_err-put_all.field-0.0 _ _ (codes ":") (f ++ (10 ∷ []))
    c.from_residual-in_err-put_all.ensures.1 c.in_err-put_all.ensures.part))

pub returns-in_err-put_format : goal.returns-in_err-put_format
returns-in_err-put_format g c =
    let s = c.args.tensor.now in
    let t : List ℕ = codes "T" ++ (decimal c.args.number ++ (codes " = " ++ c.args.name.now)) in
    let f : List ℕ = format_text c.whole_format-format.result.now in
    retold _ _ _ _ _ (ap (λ (x : List FormatLevel). t ++ (codes ":" ++ (format_text x ++ 10 ∷ []))) c.whole_format-format.ensures
    ∙ first_is c.args.number c.args.name.now s)
    (then_printed _ _ _ _ t (codes ":" ++ (f ++ (10 ∷ []))) c.in_ok-put_title.ensures
    (then_printed _ _ _ _ (codes ":") (f ++ (10 ∷ [])) c.in_ok-put_all.ensures.whole
    (refused c.from_residual-in_err-put_format.result c.in_err-put_format.field-0.0 _ _ f (10 ∷ [])
    c.from_residual-in_err-put_format.ensures.1 c.in_err-put_format.ensures.part)))

pub returns : goal.returns
returns g c =
    let s = c.args.tensor.now in
    let t : List ℕ = codes "T" ++ (decimal c.args.number ++ (codes " = " ++ c.args.name.now)) in
    let f : List ℕ = format_text c.whole_format-format.result.now in
    retold _ _ _ _ _ (ap (λ (x : List FormatLevel). t ++ (codes ":" ++ (format_text x ++ 10 ∷ []))) c.whole_format-format.ensures
    ∙ first_is c.args.number c.args.name.now s)
    (then_printed _ _ _ _ t (codes ":" ++ (f ++ (10 ∷ []))) c.in_ok-put_title.ensures
    (then_printed _ _ _ _ (codes ":") (f ++ (10 ∷ [])) c.in_ok-put_all.ensures.whole
    (then_printed _ _ _ _ f (10 ∷ []) c.in_ok-put_format.ensures.whole
    (printed _ _ _ _ c.put_all-2.ensures.whole c.put_all-2.ensures.part))))
