-- What stands at a place of a line, and what stands behind it.
use Rattle.std.specs.Prelude.{◌≡◌, ℕ, ◌+◌, ◌≤◌, List, ◌++◌, length, drop}
use Rattle.std.specs.Fmt.{decimal}
use Rattle.std.proofs.Common.{◌∙◌, ap, sym, append_assoc, arith}
use Rattle.std.proofs.lemmas.Fmt.{digits_decimal, decimal_injective}
use Rattle.std.proofs.lemmas.List.{append_cancel_left, length-append, length-drop}
use Rattle.text_lines.proofs.NumberLaws.{digits_model}
use Rattle.kernel_print.specs.ArrayNames.{BeginsWithoutDigit, IsWord}
use Rattle.kernel_read.specs.Reading.{Stands}
use Rattle.kernel_read.proofs.Plain.{digits_same}

joined : (r s t a b : List ℕ) → r ≡ a ++ s → s ≡ b ++ t → r ≡ (a ++ b) ++ t
joined r s t a b first second = first ∙ ap (λ (x : List ℕ). a ++ x) second ∙ sym (append_assoc a b t)

le_through : (a b c : ℕ) → a ≤ b → b ≤ c → a ≤ c
le_through a b c h k = omega (arith, h, k)

pub stands_more : (line : List ℕ) (at mid next : ℕ) (a b : List ℕ) → Stands line at a mid → Stands line mid b next
    → Stands line at (a ++ b) next
stands_more line at mid next a b first second = record {
  behind = le_through at mid next first.behind second.behind;
  within = second.within;
  goes_on = joined (drop at line) (drop mid line) (drop next line) a b first.goes_on second.goes_on;
}

pub stands_three : (line : List ℕ) (at mid next : ℕ) (a b c : List ℕ) → Stands line at (a ++ b) mid → Stands line mid c next
    → Stands line at (a ++ (b ++ c)) next
stands_three line at mid next a b c first second = record {
  behind = le_through at mid next first.behind second.behind;
  within = second.within;
  goes_on =
      joined (drop at line) (drop mid line) (drop next line) (a ++ b) c first.goes_on second.goes_on
      ∙ ap (λ (x : List ℕ). x ++ drop next line) (append_assoc a b c);
}

-- a text and what stands behind it, parted elsewhere
pub apart : (a b c behind : List ℕ) → (a ++ (b ++ c)) ++ behind ≡ (a ++ b) ++ (c ++ behind)
apart a b c behind = simp append_assoc

-- where such a text, and what stands behind it without a digit, are those of another, both are the same
abbrev pub Tells : (A : Type 0) → (A → List ℕ) → (A → Type 0) → Type 0
Tells A text Fits = (x y : A) (behind behind' : List ℕ) → Fits x → Fits y → BeginsWithoutDigit behind → BeginsWithoutDigit behind'
    → text x ++ behind ≡ text y ++ behind' → (x ≡ y) × (behind ≡ behind')

pub tells_numbers : Tells ℕ decimal IsWord
tells_numbers m n behind behind' word word' plain plain' same =
    let both = digits_same (decimal m) (decimal n) behind behind' (digits_decimal digits_model m word) (digits_decimal digits_model n word')
    plain plain' same in
    (decimal_injective m n word word' both.0, both.1)

pub tells_behind : (A : Type 0) (text : A → List ℕ) (Fits : A → Type 0) (before : List ℕ) → Tells A text Fits
    → Tells A (λ x. before ++ text x) Fits
tells_behind A text Fits before tells x y behind behind' fits fits' plain plain' same =
    tells x y behind behind' fits fits' plain plain'
    (append_cancel_left before (text x ++ behind) (text y ++ behind')
    (sym (append_assoc before (text x) behind) ∙ same ∙ append_assoc before (text y) behind'))

-- what stands behind what a reader found, where anything stands there
pub told_mid : (A : Type 0) (text : A → List ℕ) (Fits : A → Type 0) → Tells A text Fits → (line : List ℕ) (at : ℕ) (found : A) (mid : ℕ)
    → Fits found × Stands line at (text found) mid × BeginsWithoutDigit (drop mid line)
    → (x : A) (rest : List ℕ) → Fits x → BeginsWithoutDigit rest → drop at line ≡ text x ++ rest
    → (found ≡ x) × (drop mid line ≡ rest)
told_mid A text Fits tells line at found mid stands x rest fits plain same =
    tells found x (drop mid line) rest stands.0 fits stands.2 plain (sym stands.1.goes_on ∙ same)

-- how far a line goes on
pub moves_by : (line : List ℕ) (at : ℕ) (text : List ℕ) (next : ℕ) → Stands line at text next → at + length text ≡ next
moves_by line at text next stands =
    let whole = length-drop at line in
    let rest = length-drop next line in
    let both = length-append text (drop next line) in
    let same : length (drop at line) ≡ length (text ++ drop next line) = ap length stands.goes_on in
    let behind = stands.behind in
    let within = stands.within in
    omega (arith, whole, rest, both, same, behind, within)
