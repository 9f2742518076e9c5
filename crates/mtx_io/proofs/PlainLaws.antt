-- Lemmas about what specs/Plain.antt defines, and a line that begins with a digit.
use Rattle.std.specs.Prelude.{◌≡◌, ℕ, ◌<◌, ◌≤◌, ◌==◌, ◌||◌, Bool, false, not, List, [], ◌∷◌}
use Rattle.std.specs.Prelude.{◌++◌, length, map, slice_index, Some, refl}
use Rattle.std.proofs.Common.{arith, ap, ◌∙◌}
use Rattle.std.proofs.lemmas.Bool.{and_right, ne_eqb, or_from}
use Rattle.text_lines.specs.Cutting.{is_long}
use Rattle.text_lines.specs.Numbers.{number_of}
use Rattle.text_lines.specs.Tokens.{tokens}
use Rattle.text_lines.proofs.PlainLaws.{filled_some}
use Rattle.mtx_io.specs.Entry.{entry_of_three, index_from, place_from, placed, value_from, word_from}
use Rattle.mtx_io.specs.Fields.{three_tokens}
use Rattle.mtx_io.specs.Matrix.{is_skipped}
use Rattle.mtx_io.specs.Plain.{IsReadTo}
use Rattle.mtx_io.specs.declared.header.Header.{Header}
use Rattle.mtx_io.specs.declared.place.PlainLine.{PlainLine}

-- numbers in a row of two
pub two_of : (numbers : List ℕ) → length numbers ≡ 2 → numbers ≡ slice_index numbers 0 ∷ slice_index numbers 1 ∷ []
two_of [] e = absurd (omega arith)
two_of (a ∷ []) e = absurd (omega arith)
two_of (a ∷ b ∷ []) e = refl
two_of (a ∷ b ∷ c ∷ more) e = absurd (omega arith)

-- a line that was read to numbers tells what these do
pub plain_entry : (signed : Bool) (header : Header) (ts : List (List ℕ)) (plain : PlainLine) → IsReadTo ts plain
    → entry_of_three signed header (three_tokens ts)
    ≡ placed (place_from header.symmetry (index_from header.rows (Some plain.row)) (index_from header.columns (Some plain.column)))
    (word_from signed plain.value)
plain_entry signed header ts plain are =
    ap (λ (t : List (List ℕ)). entry_of_three signed header (three_tokens t)) are.tokens_are ∙ by are.words are.numbers_are
  where
    by : (words : List (List ℕ)) → map number_of words ≡ map Some (plain.row ∷ plain.column ∷ [])
        → entry_of_three signed header (three_tokens (words ++ are.last ∷ []))
        ≡ placed (place_from header.symmetry (index_from header.rows (Some plain.row)) (index_from header.columns (Some plain.column)))
        (word_from signed plain.value)
    by [] e = absurd (cc)
    by (a ∷ []) e = absurd (cc)
    by (a ∷ b ∷ []) e =
        let first : number_of a ≡ Some plain.row = cc in
        let second : number_of b ≡ Some plain.column = cc in
        λ i. placed (place_from header.symmetry (index_from header.rows (first i)) (index_from header.columns (second i)))
        (value_from signed (are.value_is i))
    by (a ∷ b ∷ c ∷ more) e = absurd (cc)

-- a line that begins with a digit has a token and is no comment
pub digit_kept : (line : List ℕ) → 0 < length line → 48 ≤ slice_index line 0 → is_skipped line ≡ false
digit_kept [] long digit = absurd (omega arith)
digit_kept (c ∷ line) long digit =
    let has : 0 < length (tokens (c ∷ line)) = filled_some c line (omega arith) in
    let some : (length (tokens (c ∷ line)) == 0) ≡ false = ne_eqb (length (tokens (c ∷ line))) 0 (λ e. omega arith) in
    and_right (not (is_long (c ∷ line))) ((c == 37) || (length (tokens (c ∷ line)) == 0))
    (or_from (c == 37) (length (tokens (c ∷ line)) == 0) (ne_eqb c 37 (λ e. omega arith)) some)
