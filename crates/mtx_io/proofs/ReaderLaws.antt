-- What was fed to a reader is read as far as it goes.
use Rattle.std.specs.Prelude.{◌≡◌, ℕ, ◌+◌, Bool, true, false, cond, not, ◌&&◌, ◌||◌, ◌==◌, slice_index, List, [], ◌∷◌, ◌++◌, length}
use Rattle.std.specs.Prelude.{drop, Result, Err, refl}
use Rattle.std.proofs.Common.{arith, ap, sym, ◌∙◌, subst, append_assoc, append-nil, length-append}
use Rattle.numbers.specs.Arithmetic.{Arithmetic}
use Rattle.tensor_map.specs.Entries.{Entry}
use Rattle.text_lines.specs.Buffered.{count_of}
use Rattle.text_lines.specs.LineReader.{LineReader, TellsThis, NeedsMore, IsTooLong}
use Rattle.text_lines.specs.Lines.{lines}
use Rattle.text_lines.specs.Tokens.{tokens}
use Rattle.text_lines.specs.Cutting.{begun_line, has_long_line, is_long, told_lines}
use Rattle.text_lines.proofs.CuttingLaws.{lines_go_on, breaks_off, long_stays_long, long_stays_told}
use Rattle.mtx_io.specs.Matrix.{matrix_from, matrix_of_text, behind_banner, behind_size, sized_from, entries_from, matrix_with}
use Rattle.mtx_io.specs.Matrix.{before_others, kept, numbered, unless_long}
use Rattle.mtx_io.specs.Progress.{counted, told, rest_of, behind_entries, Follows}
use Rattle.mtx_io.specs.Reader.{IsKnown, Leaves, ReadsOn, IsReadSoFar, is_bad}
use Rattle.text_lines.specs.declared.line_kind.LineKind.{LineKind}
use Rattle.text_lines.specs.declared.line_kind.LineKind.TheVariants.{LongLine}
use Rattle.mtx_io.specs.declared.stage.Stage.{Stage}
use Rattle.mtx_io.specs.declared.stage.Stage.TheVariants.{First, Begun, Sized, Bad}

module _ (a : Arithmetic) (has_minus signed : Bool) (order : ℕ) where
  -- one more line
  pub leaves_more : (taken : List (List ℕ)) (line : List ℕ) (entries entries' : List Entry) (stage stage' : Stage) (count : ℕ)
      → counted (length taken + 1) ≡ count
      → Leaves a has_minus signed order taken entries stage → Follows a has_minus signed order count line entries stage entries' stage'
      → Leaves a has_minus signed order (taken ++ line ∷ []) entries' stage'
  leaves_more taken line entries entries' stage stage' count counts leaves follows more =
      let long : length (taken ++ line ∷ []) + 1 ≡ (length taken + 1) + 1 = omega (arith, length-append taken (line ∷ [])) in
      ap (λ all. told (matrix_from a has_minus signed order 1 all)) (append_assoc taken (line ∷ []) more)
      ∙ leaves (line ∷ more)
      ∙ sym (follows (length taken + 1) more counts)
      ∙ ap (λ n. told (rest_of a has_minus signed order entries' stage' n more)) (sym long)

  -- what was read says what the text says, however it goes on
  text_says : (text more : List ℕ) (entries : List Entry) (stage : Stage) → has_long_line text ≡ false
      → Leaves a has_minus signed order (told_lines text) entries stage
      → told (matrix_of_text a has_minus signed order (text ++ more)) ≡ told
      (rest_of a has_minus signed order entries stage (length (told_lines text) + 1) (lines (begun_line text ++ more)))
  text_says text more entries stage short leaves =
      ap (λ all. told (matrix_from a has_minus signed order 1 all)) (lines_go_on text more short) ∙ leaves (lines (begun_line text ++ more))

  pub is_read : (text : List ℕ) (entries : List Entry) (stage : Stage) → has_long_line text ≡ false
      → Leaves a has_minus signed order (told_lines text) entries stage → IsKnown stage (told_lines text)
      → IsReadSoFar a has_minus signed order text text entries stage
  is_read text entries First short leaves known = (refl, short, leaves, known)
  is_read text entries (Begun banner) short leaves known = (refl, short, leaves, known)
  is_read text entries (Sized sized) short leaves known = (refl, short, leaves, known)
  is_read text entries (Bad line kind) short leaves known = λ more. text_says text more entries (Bad line kind) short leaves

  -- a line that is too long is bad
  long_kept : (number : ℕ) (line : List ℕ) (more : List (List ℕ)) → is_long line ≡ true
      → kept (numbered number (line ∷ more)) ≡ record { number = number; bytes = line } ∷ kept (numbered (number + 1) more)
  long_kept number line more e =
      ap (λ b. cond (not (not b && ((slice_index line 0 == 37) || (length (tokens line) == 0))))
      (record { number = number; bytes = line } ∷ kept (numbered (number + 1) more)) (kept (numbered (number + 1) more))) e

  long_line : {X : Type 0} (line : List ℕ) (what : Result X LineKind) → is_long line ≡ true → unless_long line what ≡ Err LongLine
  long_line line what e = ap (λ b. cond b (Err LongLine) what) e

  pub long_is_bad : (number : ℕ) (line : List ℕ) (more : List (List ℕ)) (entries : List Entry) (stage : Stage) → is_long line ≡ true
      → is_bad stage ≡ false
      → rest_of a has_minus signed order entries stage number (line ∷ more) ≡ Err (record { number = number; kind = LongLine })
  long_is_bad number line more entries First e good =
      ap (λ r. behind_banner a signed order (number + length (line ∷ more)) number r (numbered (number + 1) more)) (long_line line _ e)
  long_is_bad number line more entries (Begun banner) e good =
      ap (sized_from a signed order (number + length (line ∷ more)) banner) (long_kept number line more e)
      ∙ ap (λ r. behind_size a signed (number + length (line ∷ more)) number r (kept (numbered (number + 1) more))) (long_line line _ e)
  long_is_bad number line more entries (Sized sized) e good =
      ap (λ all. matrix_with sized.header
      (behind_entries entries (entries_from a signed sized.header (number + length (line ∷ more)) sized.slots all)))
      (long_kept number line more e)
      ∙ ap (λ r. matrix_with sized.header
      (behind_entries entries
      (before_others a sized.header number r
      (entries_from a signed sized.header (number + length (line ∷ more)) (drop 1 sized.slots) (kept (numbered (number + 1) more))))))
      (long_line line _ e)
  long_is_bad number line more entries (Bad bad kind) e good = absurd (cc)

  -- a text with such a line has a bad one, however it goes on
  pub long_is_read : (old text passed : List ℕ) (entries entries' : List Entry) (stage : Stage) (count : ℕ) → is_bad stage ≡ false
      → has_long_line text ≡ true → told_lines text ≡ told_lines old
      → Leaves a has_minus signed order (told_lines old) entries stage → count ≡ counted (length (told_lines text) + 1)
      → IsReadSoFar a has_minus signed order (text ++ passed) text entries' (Bad count LongLine)
  long_is_read old text passed entries entries' stage count good long same leaves counts more =
      let stays : told_lines ((text ++ passed) ++ more) ≡ told_lines old =
      ap told_lines (append_assoc text passed more) ∙ long_stays_told text (passed ++ more) long ∙ same in
      let off = breaks_off ((text ++ passed) ++ more)
      (ap has_long_line (append_assoc text passed more) ∙ long_stays_long text (passed ++ more) long) in
      let number : ℕ = length (told_lines old) + 1 in
      let counted_so : counted number ≡ counted count = omega (arith, counts, ap length same) in
      ap (λ all. told (matrix_from a has_minus signed order 1 all)) (off.lines_are ∙ ap (λ front. front ++ off.line ∷ off.behind) stays)
      ∙ leaves (off.line ∷ off.behind)
      ∙ ap told (long_is_bad number off.line off.behind entries stage off.long good)
      ∙ ap (λ n. Err (record { number = n; kind = LongLine })) counted_so

  -- behind a bad line all is passed over
  pub bad_passes : (fed piece text text' : List ℕ) (entries entries' : List Entry) (stage : Stage) → is_bad stage ≡ true
      → IsReadSoFar a has_minus signed order fed text entries stage
      → IsReadSoFar a has_minus signed order (fed ++ piece) text' entries' stage
  bad_passes fed piece text text' entries entries' First e read = absurd (cc)
  bad_passes fed piece text text' entries entries' (Begun banner) e read = absurd (cc)
  bad_passes fed piece text text' entries entries' (Sized sized) e read = absurd (cc)
  bad_passes fed piece text text' entries entries' (Bad line kind) e read =
      λ more. ap (λ all. told (matrix_of_text a has_minus signed order all)) (append_assoc fed piece more) ∙ read (piece ++ more)

  -- what is read of a text without a bad line
  pub reads_on : (fed text : List ℕ) (entries : List Entry) (stage : Stage) → is_bad stage ≡ false
      → IsReadSoFar a has_minus signed order fed text entries stage → ReadsOn a has_minus signed order fed text entries stage
  reads_on fed text entries First e read = read
  reads_on fed text entries (Begun banner) e read = read
  reads_on fed text entries (Sized sized) e read = read
  reads_on fed text entries (Bad line kind) e read = absurd (cc)

  pub read_on : (fed text : List ℕ) (entries : List Entry) (stage : Stage) → text ≡ fed → has_long_line text ≡ false
      → Leaves a has_minus signed order (told_lines text) entries stage → IsKnown stage (told_lines text)
      → IsReadSoFar a has_minus signed order fed text entries stage
  read_on fed text entries stage same short leaves known =
      subst (λ all. IsReadSoFar a has_minus signed order all text entries stage) same (is_read text entries stage short leaves known)

  -- one step of reading: a line was told, more is needed, or a line is too long
  pub line_read : (fed : List ℕ) (old new : LineReader) (bytes line : List ℕ) (entries entries' : List Entry) (stage stage' : Stage)
      (count : ℕ) → is_bad stage ≡ false
      → new.text ≡ old.text ++ bytes → TellsThis old new line → count ≡ count_of (told_lines new.text)
      → Follows a has_minus signed order count line entries stage entries' stage'
      → ((taken : List (List ℕ)) → IsKnown stage taken → IsKnown stage' (taken ++ line ∷ []))
      → IsReadSoFar a has_minus signed order fed old.text entries stage
      → IsReadSoFar a has_minus signed order (fed ++ bytes) new.text entries' stage'
  line_read fed old new bytes line entries entries' stage stage' count good grows tells counts follows knows read =
      let on = reads_on fed old.text entries stage good read in
      let long : length (told_lines new.text) ≡ length (told_lines old.text) + 1 =
      ap length tells.told ∙ length-append (told_lines old.text) (line ∷ []) in
      let leaves : Leaves a has_minus signed order (told_lines new.text) entries' stage' =
      subst (λ all. Leaves a has_minus signed order all entries' stage') (sym tells.told)
      (leaves_more (told_lines old.text) line entries entries' stage stage' count (ap counted (sym long) ∙ sym counts) on.2 follows) in
      read_on (fed ++ bytes) new.text entries' stage' (grows ∙ ap (λ all. all ++ bytes) on.0) tells.short leaves
      (subst (IsKnown stage') (sym tells.told) (knows (told_lines old.text) on.3))

  pub more_read : (fed : List ℕ) (old new : LineReader) (bytes : List ℕ) (entries : List Entry) (stage : Stage) → is_bad stage ≡ false
      → new.text ≡ old.text ++ bytes → NeedsMore old new
      → IsReadSoFar a has_minus signed order fed old.text entries stage
      → IsReadSoFar a has_minus signed order (fed ++ bytes) new.text entries stage
  more_read fed old new bytes entries stage good grows needs read =
      let on = reads_on fed old.text entries stage good read in
      read_on (fed ++ bytes) new.text entries stage (grows ∙ ap (λ all. all ++ bytes) on.0) needs.short
      (subst (λ all. Leaves a has_minus signed order all entries stage) (sym needs.told) on.2) (subst (IsKnown stage) (sym needs.told) on.3)

  pub long_read : (fed : List ℕ) (old new : LineReader) (bytes : List ℕ) (entries : List Entry) (stage : Stage) (count : ℕ)
      → is_bad stage ≡ false → new.text ≡ old.text ++ bytes → IsTooLong old new
      → count ≡ counted (length (told_lines new.text) + 1)
      → IsReadSoFar a has_minus signed order fed old.text entries stage
      → IsReadSoFar a has_minus signed order (fed ++ bytes) new.text entries (Bad count LongLine)
  long_read fed old new bytes entries stage count good grows long counts read =
      let on = reads_on fed old.text entries stage good read in
      subst (λ all. IsReadSoFar a has_minus signed order all new.text entries (Bad count LongLine))
      (append-nil new.text ∙ grows ∙ ap (λ all. all ++ bytes) on.0)
      (long_is_read old.text new.text [] entries entries stage count good long.long long.told on.2 counts)

-- the number behind those of the lines told
pub counts_behind : (text : List ℕ) (count : ℕ) → count ≡ count_of (told_lines text)
    → counted (count + 1) ≡ counted (length (told_lines text) + 1)
counts_behind text count e = omega (arith, e)

module _ (a : Arithmetic) (has_minus signed : Bool) (order : ℕ) where
  -- the end of a text
  pub bad_at_end : (fed text : List ℕ) (number : ℕ) (entries : List Entry) (stage : Stage) → is_bad stage ≡ true
      → IsReadSoFar a has_minus signed order fed text entries stage
      → told (matrix_of_text a has_minus signed order fed) ≡ told (rest_of a has_minus signed order entries stage number [])
  bad_at_end fed text number entries First e read = absurd (cc)
  bad_at_end fed text number entries (Begun banner) e read = absurd (cc)
  bad_at_end fed text number entries (Sized sized) e read = absurd (cc)
  bad_at_end fed text number entries (Bad line kind) e read =
      ap (λ all. told (matrix_of_text a has_minus signed order all)) (sym (append-nil fed)) ∙ read []

  -- all lines of the text are told
  pub all_at_end : (fed text : List ℕ) (taken : List (List ℕ)) (entries : List Entry) (stage : Stage) → text ≡ fed → taken ≡ lines text
      → Leaves a has_minus signed order taken entries stage
      → told (matrix_of_text a has_minus signed order fed) ≡ told (rest_of a has_minus signed order entries stage (length taken + 1) [])
  all_at_end fed text taken entries stage same all leaves =
      ap (λ bytes. told (matrix_of_text a has_minus signed order bytes)) (sym same)
      ∙ ap (λ ls. told (matrix_from a has_minus signed order 1 ls)) (sym all ∙ sym (append-nil taken))
      ∙ leaves []

  pub more_at_end : (fed : List ℕ) (old new : LineReader) (entries : List Entry) (stage : Stage) → is_bad stage ≡ false
      → told_lines new.text ≡ told_lines old.text → told_lines new.text ≡ lines old.text
      → IsReadSoFar a has_minus signed order fed old.text entries stage
      → told (matrix_of_text a has_minus signed order fed) ≡ told
      (rest_of a has_minus signed order entries stage (length (told_lines new.text) + 1) [])
  more_at_end fed old new entries stage good same all read =
      let on = reads_on a has_minus signed order fed old.text entries stage good read in
      all_at_end fed old.text (told_lines new.text) entries stage on.0 all
      (subst (λ ls. Leaves a has_minus signed order ls entries stage) (sym same) on.2)

  pub line_at_end : (fed : List ℕ) (old new : LineReader) (entries entries' : List Entry) (stage stage' : Stage) (count : ℕ)
      → is_bad stage ≡ false
      → told_lines new.text ≡ told_lines old.text ++ new.line ∷ [] → told_lines new.text ≡ lines old.text
      → count ≡ count_of (told_lines new.text) → Follows a has_minus signed order count new.line entries stage entries' stage'
      → IsReadSoFar a has_minus signed order fed old.text entries stage
      → told (matrix_of_text a has_minus signed order fed) ≡ told
      (rest_of a has_minus signed order entries' stage' (length (told_lines new.text) + 1) [])
  line_at_end fed old new entries entries' stage stage' count good tells all counts follows read =
      let on = reads_on a has_minus signed order fed old.text entries stage good read in
      let long : length (told_lines new.text) ≡ length (told_lines old.text) + 1 =
      ap length tells ∙ length-append (told_lines old.text) (new.line ∷ []) in
      all_at_end fed old.text (told_lines new.text) entries' stage' on.0 all
      (subst (λ ls. Leaves a has_minus signed order ls entries' stage') (sym tells)
      (leaves_more a has_minus signed order (told_lines old.text) new.line entries entries' stage stage' count
      (ap counted (sym long) ∙ sym counts) on.2 follows))
