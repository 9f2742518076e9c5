-- Entry lines that end in a piece.
use Rattle.std.specs.Prelude.{◌≡◌, ℕ, ◌+◌, ◌<◌, Bool, false, not, cond, List, [], ◌∷◌, ◌++◌, length, filter, drop, refl, Result}
use Rattle.std.specs.Prelude.{Ok, Err, OnErr}
use Rattle.std.proofs.Common.{arith, ap, subst, sym, ◌∙◌, append_assoc, append-nil, length-append, length-drop}
use Rattle.std.proofs.lemmas.List.Elements.{filter-append}
use Rattle.text_lines.specs.Cutting.{begun_line, ended_lines, has_long_line, told_lines}
use Rattle.text_lines.specs.LineReader.{LineReader, TellsThis}
use Rattle.text_lines.proofs.CuttingLaws.{ended_append, all_told, short_now, told_line_short}
use Rattle.numbers.specs.Arithmetic.{Arithmetic}
use Rattle.tensor_map.specs.Entries.{Entry}
use Rattle.text_lines.specs.Cutting.{is_long}
use Rattle.text_lines.specs.Tokens.{tokens}
use Rattle.mtx_io.specs.Entry.{PlacedValue, entries_of}
use Rattle.mtx_io.specs.Matrix.{BadLine, Matrix, is_skipped, entry_due, matrix_from}
use Rattle.mtx_io.specs.MtxReader.{EndsEntry, IsGoodSoFar, entry_lines, kept_lines}
use Rattle.mtx_io.specs.Size.{Slot, Sized as Sized'}
use Rattle.mtx_io.specs.declared.header.Header.{Header}
use Rattle.mtx_io.proofs.ProgressLaws.{entry_good}
use Rattle.mtx_io.specs.Progress.{counted, told, rest_of}
use Rattle.mtx_io.specs.Reader.{IsKnown, Leaves, ReadsOn, TellsEntry}
use Rattle.mtx_io.specs.declared.stage.Stage.{Stage}
use Rattle.mtx_io.specs.declared.stage.Stage.TheVariants.{First, Begun, Sized, Bad}

abbrev is_kept_line : List ℕ → Bool
is_kept_line line = not (is_skipped line)

-- one more line
kept_more : (taken : List (List ℕ)) (line : List ℕ) → 0 < length taken
    → kept_lines (taken ++ line ∷ []) ≡ kept_lines taken ++ filter is_kept_line (line ∷ [])
kept_more [] line some = absurd (omega arith)
kept_more (first ∷ taken) line some = filter-append is_kept_line taken (line ∷ [])

one_kept : (line : List ℕ) → is_skipped line ≡ false → length (filter is_kept_line (line ∷ [])) ≡ 1
one_kept line kept = ap (λ b. length (cond (not b) (line ∷ []) [])) kept

pub known_begun : (taken : List (List ℕ)) (line : List ℕ) → 0 < length (taken ++ line ∷ [])
known_begun taken line = omega (arith, length-append taken (line ∷ []))

pub known_sized : (taken : List (List ℕ)) (line : List ℕ) → 0 < length taken → is_skipped line ≡ false
    → (0 < length (taken ++ line ∷ [])) × (0 < length (kept_lines (taken ++ line ∷ [])))
known_sized taken line some kept = (
  known_begun taken line,
  omega (
    arith,
    ap length (kept_more taken line some),
    length-append (kept_lines taken) (filter is_kept_line (line ∷ [])),
    one_kept line kept,
  ),
)

pub known_more : (taken : List (List ℕ)) (line : List ℕ) → (0 < length taken) × (0 < length (kept_lines taken))
    → (0 < length (taken ++ line ∷ [])) × (0 < length (kept_lines (taken ++ line ∷ [])))
known_more taken line known =
    let some = known.0 in let kept = known.1 in (
      known_begun taken line,
      omega (arith, ap length (kept_more taken line some), length-append (kept_lines taken) (filter is_kept_line (line ∷ [])), kept),
    )

-- an entry line
entry_more : (taken : List (List ℕ)) (line : List ℕ) → 0 < length taken → 0 < length (kept_lines taken) → is_skipped line ≡ false
    → length (entry_lines taken) < length (entry_lines (taken ++ line ∷ []))
entry_more taken line some kept here =
    omega (
      arith,
      length-drop 1 (kept_lines taken),
      length-drop 1 (kept_lines (taken ++ line ∷ [])),
      ap length (kept_more taken line some),
      length-append (kept_lines taken) (filter is_kept_line (line ∷ [])),
      one_kept line here,
    )

-- where no line is too long all that have ended are told
ended_told : (text : List ℕ) → has_long_line text ≡ false → ended_lines text ≡ told_lines text
ended_told text short = sym (all_told (ended_lines text) (short_now text short).0)

known_of : (signed : Bool) (stage : Stage) (taken : List (List ℕ)) (line : List ℕ) → TellsEntry signed stage line → IsKnown stage taken
    → (0 < length taken) × (0 < length (kept_lines taken))
known_of signed First taken line is known = absurd is
known_of signed (Begun banner) taken line is known = absurd is
known_of signed (Sized sized) taken line is known = known
known_of signed (Bad bad kind) taken line is known = absurd is

-- with an entry line that is read no line is bad
told_good : (r : Result Matrix BadLine) → IsGoodSoFar (told r) → IsGoodSoFar r
told_good (Ok matrix) good = tt
told_good (Err bad) good = good

module _ (a : Arithmetic) (has_minus signed : Bool) (order : ℕ) where
  sized_good : (entries : List Entry) (header : Header) (slots : List Slot) (number : ℕ)
      → IsGoodSoFar (told (rest_of a has_minus signed order entries (Sized (record { header = header; slots = slots })) number []))
  sized_good entries header [] number = tt
  sized_good entries header (slot ∷ slots) number = refl

  good_so_far : (taken : List (List ℕ)) (line : List ℕ) (entries : List Entry) (sized : Sized') (what : PlacedValue)
      → Leaves a has_minus signed order taken entries (Sized sized) → is_long line ≡ false → is_skipped line ≡ false
      → Ok what ≡ entry_due signed sized.header sized.slots (tokens line)
      → IsGoodSoFar (matrix_from a has_minus signed order 1 (taken ++ line ∷ []))
  good_so_far taken line entries sized what leaves short here e =
      let number : ℕ = length taken + 1 in
      told_good (matrix_from a has_minus signed order 1 (taken ++ line ∷ []))
      (subst IsGoodSoFar (entry_good a has_minus signed order (counted number) line entries sized what short here e number [] refl
      ∙ sym (leaves (line ∷ [])))
      (sized_good (entries ++ entries_of a sized.header what) sized.header (drop 1 sized.slots) (number + 1)))

  good_by : (taken : List (List ℕ)) (line : List ℕ) (entries : List Entry) (stage : Stage)
      → Leaves a has_minus signed order taken entries stage
      → is_long line ≡ false → is_skipped line ≡ false → TellsEntry signed stage line
      → IsGoodSoFar (matrix_from a has_minus signed order 1 (taken ++ line ∷ []))
  good_by taken line entries First leaves short here tells = absurd tells
  good_by taken line entries (Begun banner) leaves short here tells = absurd tells
  good_by taken line entries (Sized sized) leaves short here tells = good_so_far taken line entries sized tells.0 leaves short here tells.1
  good_by taken line entries (Bad bad kind) leaves short here tells = absurd tells

  -- an entry line was told
  pub entry_ends : (fed : List ℕ) (old new : LineReader) (bytes line : List ℕ) (entries : List Entry) (stage : Stage)
      → new.text ≡ old.text ++ bytes → TellsThis old new line → ReadsOn a has_minus signed order fed old.text entries stage
      → is_skipped line ≡ false → TellsEntry signed stage line → EndsEntry a has_minus signed order fed bytes
  entry_ends fed old new bytes line entries stage grows tells on here entry =
      let known = known_of signed stage (told_lines old.text) line entry on.3 in
      let told_now : ended_lines old.text ≡ told_lines old.text = ended_told old.text on.1 in
      let front : told_lines old.text ≡ ended_lines old.text ++ [] = sym told_now ∙ sym (append-nil (ended_lines old.text)) in
      let short = told_line_short new.text line (told_lines old.text) tells.short tells.told in
      subst (λ text. EndsEntry a has_minus signed order text bytes) on.0 (record {
        before = [];
        line = line;
        behind = [];
        lines_are = ap ended_lines (sym grows) ∙ ended_told new.text tells.short ∙ tells.told
            ∙ ap (λ ls. ls ++ line ∷ []) (sym told_now);
        entry = subst (λ ls. length (entry_lines ls) < length (entry_lines (ls ++ line ∷ []))) front
            (entry_more (told_lines old.text) line known.0 known.1 here);
        good = subst (λ ls. IsGoodSoFar (matrix_from a has_minus signed order 1 (ls ++ line ∷ []))) front
            (good_by (told_lines old.text) line entries stage on.2 short here entry);
      })

  -- in a longer piece, and behind other bytes
  pub ends_in_more : (text piece more : List ℕ) → EndsEntry a has_minus signed order text piece
      → EndsEntry a has_minus signed order text (piece ++ more)
  ends_in_more text piece more ends =
      let others : List (List ℕ) = ended_lines (begun_line (text ++ piece) ++ more) in
      record {
        before = ends.before;
        line = ends.line;
        behind = ends.behind ++ others;
        lines_are = ap ended_lines (sym (append_assoc text piece more)) ∙ ended_append (text ++ piece) more
            ∙ ap (λ ls. ls ++ others) ends.lines_are
            ∙ append_assoc (ended_lines text) (ends.before ++ ends.line ∷ ends.behind) others
            ∙ ap (λ ls. ended_lines text ++ ls) (append_assoc ends.before (ends.line ∷ ends.behind) others);
        entry = ends.entry;
        good = ends.good;
      }

  pub ends_behind : (text front piece : List ℕ) → EndsEntry a has_minus signed order (text ++ front) piece
      → EndsEntry a has_minus signed order text (front ++ piece)
  ends_behind text front piece ends =
      let ended : List (List ℕ) = ended_lines (begun_line text ++ front) in
      let there : ended_lines (text ++ front) ++ ends.before ≡ ended_lines text ++ (ended ++ ends.before) =
      ap (λ ls. ls ++ ends.before) (ended_append text front) ∙ append_assoc (ended_lines text) ended ends.before in
      record {
        before = ended ++ ends.before;
        line = ends.line;
        behind = ends.behind;
        lines_are = ap ended_lines (sym (append_assoc text front piece)) ∙ ends.lines_are
            ∙ sym (append_assoc (ended_lines (text ++ front)) ends.before (ends.line ∷ ends.behind))
            ∙ ap (λ ls. ls ++ ends.line ∷ ends.behind) there
            ∙ append_assoc (ended_lines text) (ended ++ ends.before) (ends.line ∷ ends.behind);
        entry = subst (λ ls. length (entry_lines ls) < length (entry_lines (ls ++ ends.line ∷ []))) there ends.entry;
        good = subst (λ ls. IsGoodSoFar (matrix_from a has_minus signed order 1 (ls ++ ends.line ∷ []))) there ends.good;
      }

pub on_err : {A E : Type 0} (r : Result A E) (P : Type 0) → P → OnErr r P
on_err (Ok x) P p = tt
on_err (Err e) P p = p
