-- What a file says stays the same from line to line.
use Rattle.std.specs.Prelude.{◌≡◌, ℕ, ◌+◌, Bool, true, false, cond, not, List, [], ◌∷◌, ◌++◌, length, drop, Some, None, Result, Ok, Err}
use Rattle.std.specs.Prelude.{refl}
use Rattle.std.proofs.Common.{arith, ap, sym, ◌∙◌, append_assoc}
use Rattle.numbers.specs.Arithmetic.{Arithmetic}
use Rattle.tensor_map.specs.Entries.{Entry}
use Rattle.text_lines.specs.Cutting.{is_long}
use Rattle.text_lines.specs.Tokens.{tokens}
use Rattle.mtx_io.specs.Entry.{PlacedValue, entries_of}
use Rattle.mtx_io.specs.Matrix.{NumberedLine, BadLine, is_skipped, numbered, kept, unless_long, banner_line, or_fault, entry_due}
use Rattle.mtx_io.specs.Matrix.{before_others, entries_from, matrix_with, sized_from, behind_size, behind_banner}
use Rattle.mtx_io.specs.Progress.{counted, told, behind_entries, Follows}
use Rattle.mtx_io.specs.Size.{Sized, size_of}
use Rattle.mtx_io.specs.declared.banner.Banner.{Banner}
use Rattle.mtx_io.specs.declared.header.Header.{Header}
use Rattle.text_lines.specs.declared.line_kind.LineKind.{LineKind}
use Rattle.text_lines.specs.declared.line_kind.LineKind.TheVariants.{LongLine, BadSize}
use Rattle.mtx_io.specs.declared.stage.Stage.TheVariants.{First, Begun, Sized as SizedStage, Bad}

-- the line that follows has the next number
next_end : (number : ℕ) (line : List ℕ) (more : List (List ℕ)) → (number + 1) + length more ≡ number + length (line ∷ more)
next_end number line more = omega arith

-- a bad line is told by its count
counted_again : (number count : ℕ) → counted number ≡ count → counted count ≡ counted number
counted_again number count e = omega arith

bad_told : (number count : ℕ) (kind : LineKind) → counted number ≡ count
    → told (Err (record { number = count; kind = kind })) ≡ told (Err (record { number = number; kind = kind }))
bad_told number count kind e = ap (λ n. Err (record { number = n; kind = kind })) (counted_again number count e)

-- lines that are skipped, and lines that aren't
kept_more : (number : ℕ) (line : List ℕ) (more : List (List ℕ)) → is_skipped line ≡ false
    → kept (numbered number (line ∷ more)) ≡ record { number = number; bytes = line } ∷ kept (numbered (number + 1) more)
kept_more number line more e =
    ap (λ b. cond (not b) (record { number = number; bytes = line } ∷ kept (numbered (number + 1) more))
    (kept (numbered (number + 1) more))) e

kept_none : (number : ℕ) (line : List ℕ) (more : List (List ℕ)) → is_skipped line ≡ true
    → kept (numbered number (line ∷ more)) ≡ kept (numbered (number + 1) more)
kept_none number line more e =
    ap (λ b. cond (not b) (record { number = number; bytes = line } ∷ kept (numbered (number + 1) more))
    (kept (numbered (number + 1) more))) e

short_line : {X : Type 0} (line : List ℕ) (what : Result X LineKind) → is_long line ≡ false → unless_long line what ≡ what
short_line line what e = ap (λ b. cond b (Err LongLine) what) e

behind_none : (others : Result (List Entry) BadLine) → behind_entries [] others ≡ others
behind_none (Ok entries) = refl
behind_none (Err bad) = refl

-- the entries of a line behind those of the lines before it
behind_more : (a : Arithmetic) (header : Header) (number : ℕ) (entries : List Entry) (what : PlacedValue)
    (others : Result (List Entry) BadLine)
    → behind_entries (entries ++ entries_of a header what) others ≡ behind_entries entries (before_others a header number (Ok what) others)
behind_more a header number entries what (Ok others) =
    ap (λ (all : List Entry). Ok all) (append_assoc entries (entries_of a header what) others)
behind_more a header number entries what (Err bad) = refl

module _ (a : Arithmetic) (has_minus signed : Bool) (order : ℕ) where
  -- the first line
  pub first_good : (count : ℕ) (line : List ℕ) (entries : List Entry) (banner : Banner) → Ok banner ≡ banner_line has_minus line
      → Follows a has_minus signed order count line entries First entries (Begun banner)
  first_good count line entries banner e number more counts =
      ap told (
      (λ i. sized_from a signed order (next_end number line more i) banner (kept (numbered (number + 1) more)))
      ∙ (λ i. behind_banner a signed order (number + length (line ∷ more)) number (e i) (numbered (number + 1) more)))

  pub first_bad : (count : ℕ) (line : List ℕ) (entries : List Entry) (kind : LineKind) → Err kind ≡ banner_line has_minus line
      → Follows a has_minus signed order count line entries First entries (Bad count kind)
  first_bad count line entries kind e number more counts =
      bad_told number count kind counts
      ∙ ap told (λ i. behind_banner a signed order (number + length (line ∷ more)) number (e i) (numbered (number + 1) more))

  -- lines that are skipped
  pub begun_skips : (count : ℕ) (line : List ℕ) (entries : List Entry) (banner : Banner) → is_skipped line ≡ true
      → Follows a has_minus signed order count line entries (Begun banner) entries (Begun banner)
  begun_skips count line entries banner e number more counts =
      ap told (λ i. sized_from a signed order (next_end number line more i) banner (sym (kept_none number line more e) i))

  pub sized_skips : (count : ℕ) (line : List ℕ) (entries : List Entry) (sized : Sized) → is_skipped line ≡ true
      → Follows a has_minus signed order count line entries (SizedStage sized) entries (SizedStage sized)
  sized_skips count line entries sized e number more counts =
      ap told (λ i. matrix_with sized.header
      (behind_entries entries
      (entries_from a signed sized.header (next_end number line more i) sized.slots (sym (kept_none number line more e) i))))

  -- the size line
  pub size_good : (count : ℕ) (line : List ℕ) (banner : Banner) (sized : Sized) → is_long line ≡ false → is_skipped line ≡ false
      → Some sized ≡ size_of a.one order banner (tokens line)
      → Follows a has_minus signed order count line [] (Begun banner) [] (SizedStage sized)
  size_good count line banner sized short here e number more counts =
      ap told (
      (λ i. matrix_with sized.header
      (behind_none (entries_from a signed sized.header (next_end number line more i) sized.slots (kept (numbered (number + 1) more))) i))
      ∙ (λ i. behind_size a signed (number + length (line ∷ more)) number (or_fault BadSize (e i)) (kept (numbered (number + 1) more)))
      ∙ (λ i. behind_size a signed (number + length (line ∷ more)) number
      (sym (short_line line (or_fault BadSize (size_of a.one order banner (tokens line))) short) i) (kept (numbered (number + 1) more)))
      ∙ (λ i. sized_from a signed order (number + length (line ∷ more)) banner (sym (kept_more number line more here) i)))

  pub size_bad : (count : ℕ) (line : List ℕ) (entries : List Entry) (banner : Banner) → is_long line ≡ false → is_skipped line ≡ false
      → None ≡ size_of a.one order banner (tokens line)
      → Follows a has_minus signed order count line entries (Begun banner) entries (Bad count BadSize)
  size_bad count line entries banner short here e number more counts =
      bad_told number count BadSize counts
      ∙ ap told (
      (λ i. behind_size a signed (number + length (line ∷ more)) number (or_fault BadSize (e i)) (kept (numbered (number + 1) more)))
      ∙ (λ i. behind_size a signed (number + length (line ∷ more)) number
      (sym (short_line line (or_fault BadSize (size_of a.one order banner (tokens line))) short) i) (kept (numbered (number + 1) more)))
      ∙ (λ i. sized_from a signed order (number + length (line ∷ more)) banner (sym (kept_more number line more here) i)))

  -- an entry line
  pub entry_good : (count : ℕ) (line : List ℕ) (entries : List Entry) (sized : Sized) (what : PlacedValue) → is_long line ≡ false
      → is_skipped line ≡ false → Ok what ≡ entry_due signed sized.header sized.slots (tokens line)
      → Follows a has_minus signed order count line entries (SizedStage sized) (entries ++ entries_of a sized.header what)
      (SizedStage (record { header = sized.header; slots = drop 1 sized.slots }))
  entry_good count line entries sized what short here e number more counts =
      let end : ℕ = number + length (line ∷ more) in
      let rest : List NumberedLine = kept (numbered (number + 1) more) in
      let others : Result (List Entry) BadLine = entries_from a signed sized.header end (drop 1 sized.slots) rest in
      ap told (
      (λ i. matrix_with sized.header
      (behind_entries (entries ++ entries_of a sized.header what)
      (entries_from a signed sized.header (next_end number line more i) (drop 1 sized.slots) rest)))
      ∙ ap (matrix_with sized.header) (
      behind_more a sized.header number entries what others
      ∙ (λ i. behind_entries entries (before_others a sized.header number (e i) others))
      ∙ (λ i. behind_entries entries
      (before_others a sized.header number
      (sym (short_line line (entry_due signed sized.header sized.slots (tokens line)) short) i) others))
      ∙ (λ i. behind_entries entries (entries_from a signed sized.header end sized.slots (sym (kept_more number line more here) i)))))

  pub entry_bad : (count : ℕ) (line : List ℕ) (entries entries' : List Entry) (sized : Sized) (kind : LineKind) → is_long line ≡ false
      → is_skipped line ≡ false → Err kind ≡ entry_due signed sized.header sized.slots (tokens line)
      → Follows a has_minus signed order count line entries (SizedStage sized) entries' (Bad count kind)
  entry_bad count line entries entries' sized kind short here e number more counts =
      let end : ℕ = number + length (line ∷ more) in
      let rest : List NumberedLine = kept (numbered (number + 1) more) in
      let others : Result (List Entry) BadLine = entries_from a signed sized.header end (drop 1 sized.slots) rest in
      bad_told number count kind counts
      ∙ ap told (ap (matrix_with sized.header) (
      (λ i. behind_entries entries (before_others a sized.header number (e i) others))
      ∙ (λ i. behind_entries entries
      (before_others a sized.header number
      (sym (short_line line (entry_due signed sized.header sized.slots (tokens line)) short) i) others))
      ∙ (λ i. behind_entries entries (entries_from a signed sized.header end sized.slots (sym (kept_more number line more here) i)))))

  -- nothing follows a bad line
  pub bad_stays : (count : ℕ) (line : List ℕ) (entries : List Entry) (bad : ℕ) (kind : LineKind)
      → Follows a has_minus signed order count line entries (Bad bad kind) entries (Bad bad kind)
  bad_stays count line entries bad kind number more counts = refl

  -- the same, for what a call left
  pub entry_taken : (count : ℕ) (line : List ℕ) (entries entries' : List Entry) (sized sized' : Sized) (what : PlacedValue)
      → is_long line ≡ false → is_skipped line ≡ false → Ok what ≡ entry_due signed sized.header sized.slots (tokens line)
      → entries' ≡ entries ++ entries_of a sized.header what → sized'.header ≡ sized.header → sized'.slots ≡ drop 1 sized.slots
      → Follows a has_minus signed order count line entries (SizedStage sized) entries' (SizedStage sized')
  entry_taken count line entries entries' sized sized' what short here e pushed header slots number more counts =
      (λ i. told (matrix_with (header i)
      (behind_entries (pushed i)
      (entries_from a signed (header i) (number + 1 + length more) (slots i) (kept (numbered (number + 1) more))))))
      ∙ entry_good count line entries sized what short here e number more counts
