-- Lines in front of a body, told by their numbers.
use Rattle.std.specs.Prelude.{◌≡◌, ℕ, ◌≤◌, ◌==◌, true, false, List, [], ◌++◌, codes, length, drop, refl}
use Rattle.std.specs.Fmt.{decimal}
use Rattle.std.proofs.Common.{◌∙◌, ap, sym, append_assoc, arith}
use Rattle.std.proofs.lemmas.Bool.Decides.{Decides-eqb}
use Rattle.std.proofs.lemmas.List.{append_cancel_left, append-nil, length-drop}
use Rattle.kernel_print.specs.ArrayNames.{BeginsWithoutDigit, IsWord}
use Rattle.kernel_read.specs.Heads.{list_line, workspace_line}
use Rattle.kernel_read.specs.Reading.{AreWordsBoth, NoneStands, Stands}
use Rattle.kernel_read.proofs.Bytes.{behind_told}
use Rattle.kernel_read.proofs.LineForms.{ends_no, ends_yes}
use Rattle.kernel_read.proofs.Parts.{Found}
use Rattle.kernel_read.proofs.Plain.{end_begins}
use Rattle.kernel_read.proofs.Standing.{Tells, apart, tells_behind, tells_numbers, told_mid}

tells_before : (A : Type 0) (text : A → List ℕ) (Fits : A → Type 0) (after : List ℕ) → BeginsWithoutDigit after → Tells A text Fits
    → Tells A (λ x. text x ++ after) Fits
tells_before A text Fits after first tells x y behind behind' fits fits' plain plain' same =
    let told = tells x y (after ++ behind) (after ++ behind') fits fits' (end_begins after behind first plain)
    (end_begins after behind' first plain')
    (sym (append_assoc (text x) after behind) ∙ same ∙ append_assoc (text y) after behind') in
    (told.0, append_cancel_left after behind behind' told.1)

tells_lists : Tells ℕ list_line IsWord
tells_lists =
    tells_behind ℕ (λ n. decimal n ++ codes ";\n") IsWord (codes "  scratch g")
    (tells_before ℕ decimal IsWord (codes ";\n") refl tells_numbers)

none_below : (n : ℕ) → 0 ≤ n
none_below n = omega arith

pub list_none : (line : List ℕ) (list : ℕ) → NoneStands ℕ list_line IsWord line 0 → IsWord list → line ≡ list_line list → ⊥
list_none line list none word same = none list [] word tt (same ∙ sym (append-nil (list_line list)))

pub list_yes : (line : List ℕ) (list n next : ℕ) → Found ℕ list_line IsWord line 0 n next → n ≡ list → (next == length line) ≡ true
    → line ≡ list_line list
list_yes line list n next found is test = ends_yes line 0 (list_line n) next found.1 test ∙ ap list_line is

pub list_part : (line : List ℕ) (list n next : ℕ) → Found ℕ list_line IsWord line 0 n next → n ≡ list
    → (next == length line) ≡ false → line ≡ list_line list → ⊥
list_part line list n next found is test same =
    ends_no line 0 (list_line n) next (none_below (length line)) found.1 test (same ∙ ap list_line (sym is))

pub list_other : (line : List ℕ) (list n next : ℕ) → Found ℕ list_line IsWord line 0 n next → IsWord list → (n ≡ list → ⊥)
    → line ≡ list_line list → ⊥
list_other line list n next found word other same =
    other (told_mid ℕ list_line IsWord tells_lists line 0 n next found list [] word tt (same ∙ sym (append-nil (list_line list)))).0

-- workspaces
abbrev pub keys_text : ℕ × ℕ → List ℕ
keys_text p = workspace_line p.0 p.1

abbrev rest_text : ℕ → List ℕ
rest_text keys = codes " " ++ (decimal keys ++ codes ";\n")

pair_same : (p q : ℕ × ℕ) → p.0 ≡ q.0 → p.1 ≡ q.1 → p ≡ q
pair_same p q first second = ap (λ (n : ℕ). (n, p.1)) first ∙ ap (λ (n : ℕ). (q.0, n)) second

tells_workspaces : Tells (ℕ × ℕ) keys_text AreWordsBoth
tells_workspaces p q behind behind' fits fits' plain plain' same =
    let before : List ℕ = codes "  workspace w" in
    let first = tells_behind ℕ decimal IsWord before tells_numbers p.0 q.0 (rest_text p.1 ++ behind) (rest_text q.1 ++ behind')
    fits.0 fits'.0 refl refl
    (sym (apart before (decimal p.0) (rest_text p.1) behind) ∙ same ∙ apart before (decimal q.0) (rest_text q.1) behind') in
    let second = tells_behind ℕ (λ n. decimal n ++ codes ";\n") IsWord (codes " ")
    (tells_before ℕ decimal IsWord (codes ";\n") refl tells_numbers) p.1 q.1 behind behind' fits.1 fits'.1 plain plain' first.1 in
    (pair_same p q first.0 second.0, second.1)

pub keys_none : (line : List ℕ) (workspace : ℕ) → NoneStands (ℕ × ℕ) keys_text AreWordsBoth line 0 → IsWord workspace
    → (keys : ℕ) → IsWord keys → line ≡ workspace_line workspace keys → ⊥
keys_none line workspace none word keys fits same =
    none (workspace, keys) [] (word, fits) tt (same ∙ sym (append-nil (workspace_line workspace keys)))

keys_told : (line : List ℕ) (workspace next : ℕ) (p : ℕ × ℕ) → Found (ℕ × ℕ) keys_text AreWordsBoth line 0 p next → IsWord workspace
    → (keys : ℕ) → IsWord keys → line ≡ workspace_line workspace keys → (p ≡ (workspace, keys)) × (drop next line ≡ [])
keys_told line workspace next p found word keys fits same =
    told_mid (ℕ × ℕ) keys_text AreWordsBoth tells_workspaces line 0 p next found (workspace, keys) [] (word, fits) tt
    (same ∙ sym (append-nil (workspace_line workspace keys)))

pub keys_other : (line : List ℕ) (workspace next : ℕ) (p : ℕ × ℕ) → Found (ℕ × ℕ) keys_text AreWordsBoth line 0 p next
    → IsWord workspace → (p.0 ≡ workspace → ⊥) → (keys : ℕ) → IsWord keys → line ≡ workspace_line workspace keys → ⊥
keys_other line workspace next p found word other keys fits same =
    other (ap (λ (x : ℕ × ℕ). x.0) (keys_told line workspace next p found word keys fits same).0)

pub keys_part : (line : List ℕ) (workspace next : ℕ) (p : ℕ × ℕ) → Found (ℕ × ℕ) keys_text AreWordsBoth line 0 p next
    → IsWord workspace → (next ≡ length line → ⊥) → (keys : ℕ) → IsWord keys → line ≡ workspace_line workspace keys → ⊥
keys_part line workspace next p found word other keys fits same =
    let none : length (drop next line) ≡ 0 = ap length (keys_told line workspace next p found word keys fits same).1 in
    let left = length-drop next line in
    let within = found.1.within in
    let end : next ≡ length line = omega (arith, none, left, within) in
    other end

pub keys_yes : (line : List ℕ) (workspace next : ℕ) (p : ℕ × ℕ) → Found (ℕ × ℕ) keys_text AreWordsBoth line 0 p next
    → p.0 ≡ workspace → next ≡ length line → IsWord p.1 × (line ≡ workspace_line workspace p.1)
keys_yes line workspace next p found is end = (
  found.0.1,
  ends_yes line 0 (keys_text p) next found.1 ((Decides-eqb next (length line)).1 end) ∙ ap (λ n. workspace_line n p.1) is,
)

-- names of semirings
pub named_yes : (line name : List ℕ) (before after : ℕ) → Stands line 0 (codes "kernel ") before → Stands line before name after
    → drop after line ≡ codes " {\n" → line ≡ codes "kernel " ++ (name ++ codes " {\n")
named_yes line name before after first second last =
    first.goes_on ∙ ap (λ (t : List ℕ). codes "kernel " ++ t) (second.goes_on ∙ ap (λ (t : List ℕ). name ++ t) last)

pub named_last : (line name : List ℕ) (before after : ℕ) → Stands line 0 (codes "kernel ") before → Stands line before name after
    → (drop after line ≡ codes " {\n" → ⊥) → line ≡ codes "kernel " ++ (name ++ codes " {\n") → ⊥
named_last line name before after first second other same =
    other (behind_told line before name after (codes " {\n") second
    (behind_told line 0 (codes "kernel ") before (name ++ codes " {\n") first same))
