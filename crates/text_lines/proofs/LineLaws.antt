-- Lemmas about what specs/LineLaws.antt defines.
use Rattle.std.specs.Prelude.{◌≡◌, ◌≢◌, ℕ, suc, ◌+◌, ◌-◌, ◌<◌, cond, List, [], ◌∷◌, ◌++◌, length, map, take, drop, Option, unwrap_or}
use Rattle.std.specs.Prelude.{slice_index, slice_index_or, refl}
use Rattle.std.specs.List.{All, slice_split, position, position_or_len}
use Rattle.std.specs.Str.Lines.{strip_carriage_return}
use Rattle.std.proofs.Common.{arith, ap, subst, sym, ◌∙◌, append_assoc, length-append}
use Rattle.std.proofs.lemmas.Bool.{ne_eqb}
use Rattle.std.proofs.lemmas.List.{take-append-drop}
use Rattle.std.proofs.lemmas.List.Splits.{slice_split_at}
use Rattle.text_lines.specs.Lines.{is_line_feed, without_empty_last, lines}
use Rattle.text_lines.specs.Parts.{parts_behind}
use Rattle.text_lines.proofs.Parts.{first_part, place_or_length}
use Rattle.text_lines.specs.LineLaws.{IsLine, joined_lines}

-- a part before others is none that may be left out
pub part_before_more : (part text : List ℕ)
    → without_empty_last (part ∷ slice_split is_line_feed text) ≡ part ∷ without_empty_last (slice_split is_line_feed text)
part_before_more part text = subst (λ (parts : List (List ℕ)). without_empty_last (part ∷ parts) ≡ part ∷ without_empty_last parts)
    (sym (first_part is_line_feed text)) refl

lines_of_first : (part rest : List ℕ) → 0 < length part + length rest
    → map strip_carriage_return (without_empty_last (part ∷ parts_behind is_line_feed rest))
    ≡ strip_carriage_return part ∷ lines (drop 1 rest)
lines_of_first part [] h = ap (λ b. map strip_carriage_return (cond b [] (part ∷ []))) (ne_eqb (length part) 0 (λ e. omega arith))
lines_of_first part (y ∷ rest) h = ap (map strip_carriage_return) (part_before_more part rest)

-- the first line of a text that isn't empty, and the lines behind it
pub lines_first : (text : List ℕ) → 0 < length text
    → lines text ≡ strip_carriage_return (take (position_or_len is_line_feed text) text)
    ∷ lines (drop 1 (drop (position_or_len is_line_feed text) text))
lines_first text h =
    let k : ℕ = position_or_len is_line_feed text in
    let whole : length (take k text) + length (drop k text) ≡ length text =
    sym (length-append (take k text) (drop k text)) ∙ ap length (take-append-drop k text) in
    ap (λ parts. map strip_carriage_return (without_empty_last parts)) (first_part is_line_feed text)
    ∙ lines_of_first (take k text) (drop k text) (omega arith)

-- a line without line feeds before others
pub lines_more : (line text : List ℕ) → All (λ byte. byte ≢ 10) line → lines (line ++ 10 ∷ text) ≡ strip_carriage_return line ∷ lines text
lines_more line text one =
    ap (λ parts. map strip_carriage_return (without_empty_last parts))
    (slice_split_at is_line_feed line 10 text (λ k d h. ne_eqb (slice_index_or line k d) 10 (one k d h)) refl)
    ∙ ap (map strip_carriage_return) (part_before_more line text)

pub bare_line : (line : List ℕ) → slice_index line (length line - 1) ≢ 13 → strip_carriage_return line ≡ line
bare_line line bare = ap (λ b. cond b (take (length line - 1) line) line) (ne_eqb (slice_index line (length line - 1)) 13 bare)

-- lines that were joined are cut back
pub lines_joined : (parts : List (List ℕ)) → All IsLine parts → lines (joined_lines parts) ≡ parts
lines_joined [] each = refl
lines_joined (part ∷ parts) each =
    let here : IsLine part = each 0 part (omega arith) in
    ap lines (append_assoc part (10 ∷ []) (joined_lines parts))
    ∙ lines_more part (joined_lines parts) here.one
    ∙ (λ i. bare_line part here.bare i ∷ lines_joined parts (λ k d h. each (suc k) d (omega arith)) i)

-- how a text is cut: the bytes before the first line feed, and those behind it
pub line_cut : (text part behind : List ℕ) (end : ℕ) (place : Option ℕ)
    → 0 < length text → place ≡ position is_line_feed text → end ≡ unwrap_or place (length text)
    → part ≡ take end text → behind ≡ drop end text
    → lines text ≡ strip_carriage_return part ∷ lines (drop 1 behind)
line_cut text part behind end place some placed ends part_is behind_is =
    let at : end ≡ position_or_len is_line_feed text = place_or_length is_line_feed text place end placed ends in
    lines_first text some
    ∙ (λ i. strip_carriage_return (take (sym at i) text) ∷ lines (drop 1 (drop (sym at i) text)))
    ∙ (λ i. strip_carriage_return (sym part_is i) ∷ lines (drop 1 (sym behind_is i)))
