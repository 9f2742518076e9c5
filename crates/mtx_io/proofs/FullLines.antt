-- Plainly written entry lines that are taken one behind another.
use Rattle.std.specs.Prelude.{◌≡◌, ◌≢◌, ℕ, ℤ, zero, suc, ◌+◌, ◌-◌, ◌<◌, ◌≤◌, ◌==◌, Bool, false, true, not, List, [], ◌∷◌, ◌++◌}
use Rattle.std.specs.Prelude.{length, map, take, drop}
use Rattle.std.specs.Prelude.{◌||◌, cond, nat_le, replicate, Option, Some, None, Result, Ok, refl}
use Rattle.std.specs.Char.{is_ascii_digit}
use Rattle.std.specs.List.{position_or_len}
use Rattle.std.specs.Str.{all_ascii_digits}
use Rattle.std.proofs.Common.{arith, ap, sym, subst, ◌∙◌, append_assoc, length-append}
use Rattle.std.proofs.Math.Seq.{take-append_seam}
use Rattle.std.proofs.lemmas.Bool.{and_parts, and_right, leb-true, ne_eqb, or_from}
use Rattle.std.proofs.lemmas.List.{take-append-drop}
use Rattle.numbers.specs.Arithmetic.{Arithmetic}
use Rattle.tensor_map.specs.Entries.{Entry}
use Rattle.text_lines.specs.Buffered.{count_of}
use Rattle.text_lines.specs.Cutting.{is_long, told_lines}
use Rattle.text_lines.specs.LineReader.{LineReader, TakesWhole}
use Rattle.text_lines.specs.Numbers.{number_of}
use Rattle.text_lines.specs.Plain.{AreNumbers}
use Rattle.text_lines.specs.Tokens.{tokens}
use Rattle.text_lines.specs.declared.line_kind.LineKind.{LineKind}
use Rattle.text_lines.proofs.PlainLaws.{number_digits}
use Rattle.text_lines.proofs.TokenLaws.{tokens_first}
use Rattle.mtx_io.specs.Entry.{PlacedValue, entries_of, index_from, place_from, placed, word_from}
use Rattle.mtx_io.specs.Matrix.{entry_due, is_skipped}
use Rattle.mtx_io.specs.MtxReader.{EndsEntry}
use Rattle.mtx_io.specs.Plain.{IsReadTo, full_due, stage_behind}
use Rattle.mtx_io.specs.Progress.{Follows}
use Rattle.mtx_io.specs.Reader.{IsKnown, IsReadSoFar, TellsEntry}
use Rattle.mtx_io.specs.Size.{Anywhere}
use Rattle.mtx_io.specs.declared.header.Header.{Header}
use Rattle.mtx_io.specs.declared.place.PlainLine.{PlainLine}
use Rattle.mtx_io.specs.declared.stage.Stage.{Stage}
use Rattle.mtx_io.specs.declared.stage.Stage.TheVariants.{Sized}
use Rattle.mtx_io.proofs.EndedEntries.{ends_behind, ends_in_more, entry_ends, known_more}
use Rattle.mtx_io.proofs.PlainLaws.{plain_entry}
use Rattle.mtx_io.proofs.ProgressLaws.{entry_taken}
use Rattle.mtx_io.proofs.ReaderLaws.{line_read, reads_on}
use Rattle.mtx_io.proofs.SlotLaws.{one_of_entries}

-- a space or a tab
abbrev is_blank : ℕ → Bool
is_blank byte = (byte == 32) || (byte == 9)

-- the first byte of a token of digits
digit_first : (k c : ℕ) (line word : List ℕ) → 0 < k → word ≡ take k (c ∷ line) → all_ascii_digits word ≡ true → is_ascii_digit c ≡ true
digit_first zero c line word some e digits = absurd (omega arith)
digit_first (suc k) c line word some e digits =
    (and_parts (is_ascii_digit c) (all_ascii_digits (take k line)) (sym (ap all_ascii_digits e) ∙ digits)).0

-- a line of numbers begins with no comment's sign
no_comment : (c row column : ℕ) (line last : List ℕ) (words : List (List ℕ)) → tokens (c ∷ line) ≡ words ++ last ∷ []
    → map number_of words ≡ map Some (row ∷ column ∷ []) → c ≢ 37
no_comment c row column line last [] e are percent = absurd (cc)
no_comment c row column line last (word ∷ words) e are percent =
    let blank : is_blank c ≡ false = or_from (c == 32) (c == 9) (ne_eqb c 32 (λ h. omega arith)) (ne_eqb c 9 (λ h. omega arith)) in
    let place : position_or_len is_blank (c ∷ line) ≡ 1 + position_or_len is_blank line =
    ap (λ b. cond (not b) (1 + position_or_len is_blank line) 0) blank in
    let k : ℕ = position_or_len is_blank (c ∷ line) in
    let some : 0 < k = omega arith in
    let both : take k (c ∷ line) ∷ tokens (drop k (c ∷ line)) ≡ word ∷ (words ++ last ∷ []) = sym (tokens_first (c ∷ line) some) ∙ e in
    let same : word ≡ take k (c ∷ line) = cc in
    let number : number_of word ≡ Some row = cc in
    let digit = digit_first k c line word some same (number_digits word row number).1 in
    let low : 48 ≤ c = leb-true 48 c (and_parts (nat_le 48 c) (nat_le c 57) digit).0 in
    omega arith

pub plain_kept : (line : List ℕ) (plain : PlainLine) → IsReadTo (tokens line) plain → is_skipped line ≡ false
plain_kept [] plain are = absurd (omega (arith, ap length are.tokens_are, length-append are.words (are.last ∷ [])))
plain_kept (c ∷ line) plain are =
    let long : length (tokens (c ∷ line)) ≡ length are.words + 1 = ap length are.tokens_are ∙ length-append are.words (are.last ∷ []) in
    let some : (length (tokens (c ∷ line)) == 0) ≡ false = ne_eqb (length (tokens (c ∷ line))) 0 (λ e. omega arith) in
    let first : (c == 37) ≡ false =
    ne_eqb c 37 (no_comment c plain.row plain.column line are.last are.words are.tokens_are are.numbers_are) in
    and_right (not (is_long (c ∷ line))) ((c == 37) || (length (tokens (c ∷ line)) == 0))
    (or_from (c == 37) (length (tokens (c ∷ line)) == 0) first some)

-- what is due of such a line
plain_due : (signed : Bool) (header : Header) (left : ℕ) (ts : List (List ℕ)) (plain : PlainLine) → 0 < left → IsReadTo ts plain
    → entry_due signed header (replicate left Anywhere) ts
    ≡ placed (place_from header.symmetry (index_from header.rows (Some plain.row)) (index_from header.columns (Some plain.column)))
    (word_from signed plain.value)
plain_due signed header left ts plain some are =
    ap (λ slots. entry_due signed header slots ts) (one_of_entries Anywhere left (λ e. omega arith))
    ∙ plain_entry signed header ts plain are

pub numbers_due : (signed given : Bool) (header : Header) (left : ℕ) (ts : List (List ℕ)) (plain : PlainLine)
    (what : Result PlacedValue LineKind) → 0 < left → IsReadTo ts plain → given ≡ signed
    → what ≡ placed (place_from header.symmetry (index_from header.rows (Some plain.row)) (index_from header.columns (Some plain.column)))
    (word_from given plain.value)
    → what ≡ entry_due signed header (replicate left Anywhere) ts
numbers_due signed given header left ts plain what some are same e =
    e
    ∙ ap (λ (b : Bool). placed
    (place_from header.symmetry (index_from header.rows (Some plain.row)) (index_from header.columns (Some plain.column)))
    (word_from b plain.value)) same
    ∙ sym (plain_due signed header left ts plain some are)

one_less : (left : ℕ) → 0 < left → replicate (left - 1) Anywhere ≡ drop 1 (replicate left Anywhere)
one_less left some = sym (ap (drop 1) (one_of_entries Anywhere left (λ e. omega arith)))

-- how much of a piece was taken
pub taken_is : (piece taken rest : List ℕ) → piece ≡ taken ++ rest → take (length piece - length rest) piece ≡ taken
taken_is piece taken rest e =
    let long : length piece - length rest ≡ length taken = omega (arith, ap length e, length-append taken rest) in
    (λ i. take (long i) (e i)) ∙ take-append_seam taken rest

pub taken_more : (piece taken rest : List ℕ) (n : ℕ) → piece ≡ taken ++ rest → piece ≡ (taken ++ take n rest) ++ drop n rest
taken_more piece taken rest n e =
    e
    ∙ ap (λ (back : List ℕ). taken ++ back) (sym (take-append-drop n rest))
    ∙ sym (append_assoc taken (take n rest) (drop n rest))

-- numbers that were put aside are those of the line
pub read_to : (ts : List (List ℕ)) (numbers : List ℕ) (value : ℤ) (plain : PlainLine) → AreNumbers ts numbers value
    → plain.row ∷ plain.column ∷ [] ≡ numbers → plain.value ≡ value → IsReadTo ts plain
read_to ts numbers value plain are same value_is =
    subst (λ (v : ℤ). AreNumbers ts (plain.row ∷ plain.column ∷ []) v) (sym value_is)
    (subst (λ (ns : List ℕ). AreNumbers ts ns value) (sym same) are)

known_behind : (header : Header) (left number : ℕ) (bad : Option LineKind) (line : List ℕ) (taken : List (List ℕ))
    → IsKnown (Sized (full_due header left)) taken → IsKnown (stage_behind header left number bad) (taken ++ line ∷ [])
known_behind header left number None line taken known = known_more taken line known
known_behind header left number (Some kind) line taken known = tt

module _ (a : Arithmetic) (has_minus signed : Bool) (order : ℕ) where
  -- what a line tells follows, be it an entry or a fault
  pub entry_follows : (number : ℕ) (line : List ℕ) (entries entries' : List Entry) (header : Header) (left : ℕ) (what : PlacedValue)
      → is_long line ≡ false → is_skipped line ≡ false → 0 < left
      → Ok what ≡ entry_due signed header (replicate left Anywhere) (tokens line) → entries' ≡ entries ++ entries_of a header what
      → Follows a has_minus signed order number line entries (Sized (full_due header left)) entries' (Sized (full_due header (left - 1)))
  entry_follows number line entries entries' header left what short here some e pushed =
      entry_taken a has_minus signed order number line entries entries' (full_due header left) (full_due header (left - 1)) what short here
      e pushed refl (one_less left some)

  -- one more line of a piece, behind those that were taken
  pub full_step : (fed taken rest line : List ℕ) (n : ℕ) (old new : LineReader) (entries entries' : List Entry) (header : Header)
      (left count : ℕ) (bad : Option LineKind) → TakesWhole old new rest n line → count ≡ count_of (told_lines new.text)
      → Follows a has_minus signed order count line entries (Sized (full_due header left)) entries' (stage_behind header left count bad)
      → IsReadSoFar a has_minus signed order (fed ++ taken) old.text entries (Sized (full_due header left))
      → IsReadSoFar a has_minus signed order (fed ++ (taken ++ take n rest)) new.text entries' (stage_behind header left count bad)
  full_step fed taken rest line n old new entries entries' header left count bad whole counts follows read =
      subst (λ (all : List ℕ). IsReadSoFar a has_minus signed order all new.text entries' (stage_behind header left count bad))
      (append_assoc fed taken (take n rest))
      (line_read a has_minus signed order (fed ++ taken) old new (take n rest) line entries entries' (Sized (full_due header left))
      (stage_behind header left count bad) count refl whole.text whole.tells counts follows (known_behind header left count bad line) read)

  -- what is read where some of a piece was taken
  pub read_taken : (fed piece taken rest text : List ℕ) (entries : List Entry) (stage stage' : Stage) → piece ≡ taken ++ rest
      → stage' ≡ stage
      → IsReadSoFar a has_minus signed order (fed ++ taken) text entries stage
      → IsReadSoFar a has_minus signed order (fed ++ take (length piece - length rest) piece) text entries stage'
  read_taken fed piece taken rest text entries stage stage' e same read =
      subst (λ (bytes : List ℕ). IsReadSoFar a has_minus signed order (fed ++ bytes) text entries stage')
      (sym (taken_is piece taken rest e))
      (subst (λ (s : Stage). IsReadSoFar a has_minus signed order (fed ++ taken) text entries s) (sym same) read)

  -- memory was wanted for an entry of a piece, behind those that were taken
  pub full_wants : (fed piece taken rest line : List ℕ) (n : ℕ) (old new : LineReader) (entries : List Entry) (header : Header) (left : ℕ)
      → piece ≡ taken ++ rest → TakesWhole old new rest n line → is_skipped line ≡ false
      → TellsEntry signed (Sized (full_due header left)) line
      → IsReadSoFar a has_minus signed order (fed ++ taken) old.text entries (Sized (full_due header left))
      → EndsEntry a has_minus signed order fed piece
  full_wants fed piece taken rest line n old new entries header left e whole here tells read =
      let on = reads_on a has_minus signed order (fed ++ taken) old.text entries (Sized (full_due header left)) refl read in
      let ends = entry_ends a has_minus signed order (fed ++ taken) old new (take n rest) line entries (Sized (full_due header left))
      whole.text whole.tells on here tells in
      let more : EndsEntry a has_minus signed order (fed ++ taken) rest =
      subst (λ (bytes : List ℕ). EndsEntry a has_minus signed order (fed ++ taken) bytes) (take-append-drop n rest)
      (ends_in_more a has_minus signed order (fed ++ taken) (take n rest) (drop n rest) ends) in
      subst (λ (bytes : List ℕ). EndsEntry a has_minus signed order fed bytes) (sym e)
      (ends_behind a has_minus signed order fed taken rest more)
