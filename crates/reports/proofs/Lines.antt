-- The lines of tensors from one on.
use Rattle.std.specs.Prelude.{◌≡◌, ℕ, suc, ◌+◌, ◌<◌, List, ◌∷◌, ◌++◌, length, drop, Some, slice_get, slice_index_or}
use Rattle.std.proofs.Common.{◌∙◌, ap, sym, add-one}
use Rattle.std.proofs.lemmas.Option.{slice_get-get_or}
use Rattle.index_notation.specs.declared.syntax.Name.{Name}
use Rattle.format_spec.specs.declared.format.FormatLevel.{FormatLevel}
use Rattle.text_lines.proofs.ListTexts.{get_drop}
use Rattle.reports.specs.Reports.{tensor_line, tensor_lines}

-- an element by its number
pub got : {A : Type 0} (xs : List A) (i : ℕ) (x : A) → i < length xs → x ≡ slice_index_or xs i x → slice_get xs i ≡ Some x
got xs i x inside is = slice_get-get_or xs i x inside ∙ ap Some (sym is)

-- the lines of the tensors from one on
pub lines_step : (names : List Name) (formats : List (List FormatLevel)) (i : ℕ) (name : Name) (bytes : List ℕ)
    (format : List FormatLevel) → slice_get names i ≡ Some name → bytes ≡ name.bytes → slice_get formats i ≡ Some format
    → tensor_lines i (drop i names) (drop i formats)
    ≡ tensor_line i bytes format ++ tensor_lines (i + 1) (drop (i + 1) names) (drop (i + 1) formats)
lines_step names formats i name bytes format named spelled formatted =
    ap (λ (ns : List Name). tensor_lines i ns (drop i formats)) (get_drop names i name named)
    ∙ ap (λ (fs : List (List FormatLevel)). tensor_lines i (name ∷ drop (suc i) names) fs) (get_drop formats i format formatted)
    ∙ ap (λ (k : ℕ). tensor_line i name.bytes format ++ tensor_lines k (drop k names) (drop k formats)) (sym (add-one i))
    ∙ ap (λ (b : List ℕ). tensor_line i b format ++ tensor_lines (i + 1) (drop (i + 1) names) (drop (i + 1) formats)) (sym spelled)
