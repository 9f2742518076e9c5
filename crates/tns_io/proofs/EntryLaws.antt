-- Lemmas about the entries of a text that goes on.
use Rattle.std.specs.Prelude.{◌≡◌, ℕ, zero, suc, ◌+◌, ◌<◌, min, Bool, true, false, cond, List, [], ◌∷◌, ◌++◌, length, take, drop, Some}
use Rattle.std.specs.Prelude.{Result}
use Rattle.std.specs.Prelude.{Ok, Err, refl}
use Rattle.std.proofs.Common.{arith, ap, subst, sym, ◌∙◌, inl, inr, append_assoc, append-nil, length-append}
use Rattle.std.proofs.Math.Seq.{take-length}
use Rattle.std.proofs.lemmas.List.{take-append-drop}
use Rattle.tensor_map.specs.Entries.{Entry}
use Rattle.text_lines.specs.Buffered.{count_of}
use Rattle.text_lines.specs.Cutting.{begun_line, ended_lines, has_long_line, told_lines}
use Rattle.text_lines.specs.LineReader.{LineReader, TellsLine, TellsThis, IsTooLong}
use Rattle.text_lines.specs.Lines.{lines}
use Rattle.text_lines.specs.Tokens.{tokens}
use Rattle.text_lines.proofs.CuttingLaws.{all_told, breaks_off, ended_append, lines_go_on, long_stays, short_now}
use Rattle.tns_io.specs.Reading.{Reading, reading, reading_of_tokens, BadLine, before_others, entries_from, entries_of_text}
use Rattle.tns_io.specs.Reading.Reading.{Skipped, Read, Bad}
use Rattle.tns_io.specs.ReadSoFar.{IsReadSoFar, StaysBad, Takes, Fails, ReadsPiece, FailsPiece, is_want}
use Rattle.tns_io.specs.ReaderState.{IsKnown}
use Rattle.tns_io.specs.TnsReader.{IsBadText, Refuses, read_to}
use Rattle.text_lines.specs.declared.line_kind.LineKind.{LineKind}
use Rattle.text_lines.specs.declared.line_kind.LineKind.TheVariants.{LongLine}
use Rattle.tns_io.specs.declared.file_fault.FileFault.{FileFault}
use Rattle.tns_io.specs.declared.file_fault.FileFault.TheVariants.{Line, Memory}

-- these entries before those
abbrev pub behind_entries : List Entry → Result (List Entry) BadLine → Result (List Entry) BadLine
behind_entries front (Ok entries) = Ok (front ++ entries)
behind_entries front (Err bad) = Err bad

behind_none : (entries : Result (List Entry) BadLine) → entries ≡ behind_entries [] entries
behind_none (Ok entries) = refl
behind_none (Err bad) = refl

skipped_before : (r : Result (List Entry) BadLine) (entry : Entry) (front : List Entry)
    → before_others 0 (Read entry) (behind_entries front r) ≡ behind_entries (entry ∷ front) r
skipped_before (Ok entries) entry front = refl
skipped_before (Err bad) entry front = refl

read_parts : (number : ℕ) (entry : Entry) (r : Result (List Entry) BadLine) (list : List Entry)
    → before_others number (Read entry) r ≡ Ok list → (others : List Entry) × (r ≡ Ok others) × (entry ∷ others ≡ list)
read_parts number entry (Ok others) list e = (others, refl, cc)
read_parts number entry (Err bad) list e = absurd (cc)

-- lines that are read, and others behind them
pub entries_front : (signed : Bool) (order number : ℕ) (front more : List (List ℕ)) (list : List Entry)
    → entries_from signed order number front ≡ Ok list
    → entries_from signed order number (front ++ more) ≡ behind_entries list (entries_from signed order (number + length front) more)
entries_front signed order number [] more list e =
    let same : number ≡ number + 0 = omega arith in
    let none : [] ≡ list = cc in
    behind_none (entries_from signed order number more) ∙ (λ i. behind_entries (none i) (entries_from signed order (same i) more))
entries_front signed order number (line ∷ front) more list e = by (reading signed order line) e
    (entries_front signed order (number + 1) front more)
  where
    next : number + 1 + length front ≡ number + length (line ∷ front)
    next = omega arith

    by : (r : Reading) → before_others number r (entries_from signed order (number + 1) front) ≡ Ok list
        → ((found : List Entry) → entries_from signed order (number + 1) front ≡ Ok found
        → entries_from signed order (number + 1) (front ++ more)
        ≡ behind_entries found (entries_from signed order (number + 1 + length front) more))
        → before_others number r (entries_from signed order (number + 1) (front ++ more)) ≡ behind_entries list
        (entries_from signed order (number + length (line ∷ front)) more)
    by Skipped h rest = rest list h ∙ ap (λ (n : ℕ). behind_entries list (entries_from signed order n more)) next
    by (Bad kind) h rest = absurd (cc)
    by (Read entry) h rest =
        let parts = read_parts number entry (entries_from signed order (number + 1) front) list h in
        ap (before_others number (Read entry)) (rest parts.0 parts.1)
        ∙ skipped_before (entries_from signed order (number + 1 + length front) more) entry parts.0
        ∙ (λ i. behind_entries (parts.2 i) (entries_from signed order (next i) more))

-- one more line
line_taken : (signed : Bool) (order number : ℕ) (line : List ℕ) (list list' : List Entry) (r : Reading) → r ≡ reading signed order line
    → Takes r list list'
    → behind_entries list (before_others number r (Ok [])) ≡ Ok list'
line_taken signed order number line list list' Skipped e takes = ap Ok (append-nil list ∙ sym takes)
line_taken signed order number line list list' (Read entry) e takes = ap Ok (sym takes)
line_taken signed order number line list list' (Bad kind) e takes = absurd takes

pub entries_more : (signed : Bool) (order : ℕ) (front : List (List ℕ)) (line : List ℕ) (list list' : List Entry)
    → entries_from signed order 1 front ≡ Ok list
    → Takes (reading signed order line) list list' → entries_from signed order 1 (front ++ line ∷ []) ≡ Ok list'
entries_more signed order front line list list' e takes =
    entries_front signed order 1 front (line ∷ []) list e
    ∙ line_taken signed order (1 + length front) line list list' (reading signed order line) refl takes

-- a bad line behind lines that are read is the first one
pub entries_bad : (signed : Bool) (order : ℕ) (front more : List (List ℕ)) (line : List ℕ) (list : List Entry) (kind : LineKind)
    → entries_from signed order 1 front ≡ Ok list
    → reading signed order line ≡ Bad kind
    → entries_from signed order 1 (front ++ line ∷ more) ≡ Err (record { number = 1 + length front; kind = kind })
entries_bad signed order front more line list kind e bad =
    entries_front signed order 1 front (line ∷ more) list e
    ∙ ap (λ r. behind_entries list (before_others (1 + length front) r (entries_from signed order (1 + length front + 1) more))) bad

-- the number of the line behind so many
count_next : (front : List (List ℕ)) → min (count_of front + 1) 18446744073709551615 ≡ min (1 + length front) 18446744073709551615
count_next front = omega arith

count_last : (front : List (List ℕ)) (line : List ℕ) → count_of (front ++ line ∷ []) ≡ min (1 + length front) 18446744073709551615
count_last front line = omega (arith, length-append front (line ∷ []))

-- a line that has just ended is bad: however the text goes on, it is the first bad line
pub line_bad : (signed : Bool) (order : ℕ) (text text' line : List ℕ) (list : List Entry) (kind : LineKind)
    → IsReadSoFar signed order text list
    → told_lines text' ≡ told_lines text ++ line ∷ [] → has_long_line text' ≡ false → reading signed order line ≡ Bad kind
    → StaysBad signed order text' (count_of (told_lines text')) kind
line_bad signed order text text' line list kind so_far told short bad = λ more. record {
  number = 1 + length (told_lines text);
  line_is = ap count_of told ∙ count_last (told_lines text) line;
  bad =
      ap (entries_from signed order 1) (
      lines_go_on text' more short
      ∙ ap (λ front. front ++ lines (begun_line text' ++ more)) told
      ∙ append_assoc (told_lines text) (line ∷ []) (lines (begun_line text' ++ more))
      )
      ∙ entries_bad signed order (told_lines text) (lines (begun_line text' ++ more)) line list kind so_far.read bad;
}

-- a line is too long
pub line_too_long : (signed : Bool) (order : ℕ) (text text' : List ℕ) (list : List Entry) → IsReadSoFar signed order text list
    → told_lines text' ≡ told_lines text → has_long_line text' ≡ true → StaysBad signed order text'
    (min (count_of (told_lines text') + 1) 18446744073709551615) LongLine
line_too_long signed order text text' list so_far told long = λ more.
    let stays = long_stays text' more long in
    let off = breaks_off (text' ++ more) stays.0 in
    record {
      number = 1 + length (told_lines text);
      line_is = ap (λ front. min (count_of front + 1) 18446744073709551615) told ∙ count_next (told_lines text);
      bad =
          ap (entries_from signed order 1) (off.lines_are ∙ ap (λ front. front ++ off.line ∷ off.behind) (stays.1 ∙ told))
          ∙ entries_bad signed order (told_lines text) off.behind off.line list LongLine so_far.read
          (ap (λ b. cond b (Bad LongLine) (reading_of_tokens signed order (tokens off.line))) off.long);
    }

-- a front of a text stays bad however it goes on
pub stays_bad : (signed : Bool) (order : ℕ) (text more : List ℕ) (line : ℕ) (kind : LineKind) → StaysBad signed order text line kind
    → StaysBad signed order (text ++ more) line kind
stays_bad signed order text more line kind bad =
    λ rest. subst (λ (t : List ℕ). IsBadText signed order t line kind) (sym (append_assoc text more rest)) (bad (more ++ rest))

-- a text that stays bad is bad now
pub bad_now : (signed : Bool) (order : ℕ) (text : List ℕ) (line : ℕ) (kind : LineKind) → StaysBad signed order text line kind
    → IsBadText signed order text line kind
bad_now signed order text line kind bad = subst (λ (t : List ℕ). IsBadText signed order t line kind) (append-nil text) (bad [])

-- one more line has ended in the piece
module _ (signed : Bool) (order : ℕ) (start piece : List ℕ) (lines_ lines' : LineReader) (line rest : List ℕ) (list : List Entry) (n : ℕ)
    (reads : ReadsPiece signed order start piece lines_ rest list)
    (text_is : lines'.text ≡ lines_.text ++ take n rest) (tells : TellsThis lines_ lines' line) where
  goes_on : lines'.text ++ drop n rest ≡ start ++ piece
  goes_on =
      ap (λ (t : List ℕ). t ++ drop n rest) text_is
      ∙ append_assoc lines_.text (take n rest) (drop n rest)
      ∙ ap (λ (t : List ℕ). lines_.text ++ t) (take-append-drop n rest)
      ∙ reads.text

  -- the piece gets shorter
  pub line_has_bytes : (0 < length rest) × (0 < n)
  line_has_bytes = by n rest nothing
    where
      nothing : take n rest ≡ [] → ⊥
      nothing none =
          let same : lines'.text ≡ lines_.text = text_is ∙ ap (λ (t : List ℕ). lines_.text ++ t) none ∙ append-nil lines_.text in
          absurd (omega (
            arith,
            ap length tells.told,
            ap (λ t. length (told_lines t)) same,
            length-append (told_lines lines_.text)
                (line ∷ []),
          ))

      by : (n : ℕ) (rest : List ℕ) → (take n rest ≡ [] → ⊥) → (0 < length rest) × (0 < n)
      by zero rest h = absurd (h refl)
      by (suc n) [] h = absurd (h refl)
      by (suc n) (x ∷ rest) h = (omega arith, omega arith)

  pub piece_more : (list' : List Entry) → Takes (reading signed order line) list list'
      → ReadsPiece signed order start piece lines' (drop n rest) list'
  piece_more list' takes = record {
    ended = reads.ended ++ line ∷ [];
    told = tells.told ∙ ap (λ ls. ls ++ line ∷ []) reads.told ∙ append_assoc (told_lines start) reads.ended (line ∷ []);
    text = goes_on;
    start_short = reads.start_short;
    so_far = record {
      short = tells.short;
      read =
          ap (entries_from signed order 1) tells.told
          ∙ entries_more signed order (told_lines lines_.text) line list list' reads.so_far.read takes;
    };
  }

  -- the line that has ended is not read
  pub piece_fails : (fault : FileFault) → Fails (count_of (told_lines lines'.text)) (reading signed order line) fault
      → FailsPiece signed order start piece fault
  piece_fails (Line at kind) (number, bad) =
      let stays : StaysBad signed order (start ++ piece) (count_of (told_lines lines'.text)) kind =
      subst (λ (t : List ℕ). StaysBad signed order t (count_of (told_lines lines'.text)) kind) goes_on
      (stays_bad signed order lines'.text (drop n rest) _ kind (line_bad signed order lines_.text lines'.text line list kind reads.so_far
      tells.told tells.short bad)) in
      subst (λ (l : ℕ). StaysBad signed order (start ++ piece) l kind) (sym number) stays
  piece_fails (Memory e) (entry, read) =
      let behind : List (List ℕ) = ended_lines (begun_line lines'.text ++ drop n rest) in
      record {
        before = reads.ended;
        line = line;
        behind = behind;
        entry = entry;
        lines_are =
            ap ended_lines (sym goes_on)
            ∙ ended_append lines'.text (drop n rest)
            ∙ ap (λ ls. ls ++ behind) (
            sym (all_told (ended_lines lines'.text) (short_now lines'.text tells.short).0)
            ∙ tells.told
            ∙ ap (λ ls. ls ++ line ∷ []) (reads.told ∙ ap (λ ls. ls ++ reads.ended)
            (all_told (ended_lines start) (short_now start reads.start_short).0))
            )
            ∙ append_assoc (ended_lines start ++ reads.ended) (line ∷ []) behind
            ∙ append_assoc (ended_lines start) reads.ended (line ∷ behind);
        reads = read;
        list = list;
        good =
            ap (entries_from signed order 1) (
            sym (reads.told ∙ ap (λ ls. ls ++ reads.ended) (all_told (ended_lines start) (short_now start reads.start_short).0))
            )
            ∙ reads.so_far.read;
      }

-- a line of the piece is too long
pub piece_too_long : (signed : Bool) (order : ℕ) (start piece : List ℕ) (lines_ lines' : LineReader) (rest : List ℕ) (list : List Entry)
    (n : ℕ)
    → ReadsPiece signed order start piece lines_ rest list
    → lines'.text ≡ lines_.text ++ take n rest → IsTooLong lines_ lines' → n ≡ length rest
    → FailsPiece signed order start piece (Line (min (count_of (told_lines lines'.text) + 1) 18446744073709551615) LongLine)
piece_too_long signed order start piece lines_ lines' rest list n reads text_is too_long all =
    subst (λ (t : List ℕ). StaysBad signed order t (min (count_of (told_lines lines'.text) + 1) 18446744073709551615) LongLine)
    (text_is ∙ ap (λ (t : List ℕ). lines_.text ++ t) (take_whole n rest all) ∙ reads.text)
    (line_too_long signed order lines_.text lines'.text list reads.so_far too_long.told too_long.long)
  where
    take_whole : (n : ℕ) (rest : List ℕ) → n ≡ length rest → take n rest ≡ rest
    take_whole n rest e = ap (λ (m : ℕ). take m rest) e ∙ take-length rest

-- a last line without an end
module _ (signed : Bool) (order : ℕ) (lines_ lines' : LineReader) (list : List Entry) (so_far : IsReadSoFar signed order lines_.text list)
    (tells : TellsLine lines_ lines')
    (ended : lines'.text ≡ lines_.text ++ 10 ∷ []) (all : told_lines lines'.text ≡ lines lines_.text) where
  pub last_read : (list' : List Entry) → Takes (reading signed order lines'.line) list list'
      → entries_of_text signed order lines_.text ≡ Ok list'
  last_read list' takes =
      ap (entries_from signed order 1) (sym all ∙ tells.told)
      ∙ entries_more signed order (told_lines lines_.text) lines'.line list list' so_far.read takes

  pub last_fails : (fault : FileFault) → Fails (count_of (told_lines lines'.text)) (reading signed order lines'.line) fault
      → Refuses signed (read_to order lines_.text) fault
  last_fails (Line line kind) (number, bad) = (
    refl,
    record {
      number = 1 + length (told_lines lines_.text);
      line_is = number ∙ ap count_of tells.told ∙ count_last (told_lines lines_.text) lines'.line;
      bad =
          ap (entries_from signed order 1) (sym all ∙ tells.told)
          ∙ entries_bad signed order (told_lines lines_.text) [] lines'.line list kind so_far.read bad;
    },
  )
  last_fails (Memory e) (entry, read) =
      inr (record {
        before = [];
        line = lines'.line;
        behind = [];
        entry = entry;
        lines_are =
            ap ended_lines (sym ended)
            ∙ sym (all_told (ended_lines lines'.text) (short_now lines'.text tells.short).0)
            ∙ tells.told
            ∙ ap (λ ls. ls ++ lines'.line ∷ []) (all_told (ended_lines lines_.text) (short_now lines_.text so_far.short).0);
        reads = read;
        list = list;
        good =
            ap (entries_from signed order 1) (append-nil (ended_lines lines_.text) ∙ sym
            (all_told (ended_lines lines_.text) (short_now lines_.text so_far.short).0))
            ∙ so_far.read;
      })

-- what is known of a text that is refused
pub known_refuses : (signed : Bool) (fault : FileFault) (order : ℕ) (text taken : List ℕ) (list : List Entry)
    → IsKnown signed (Some fault) order text taken list
    → Refuses signed (record { order = order; text = text; wants = is_want (Some fault) }) fault
known_refuses signed (Line line kind) order text taken list known = (refl, bad_now signed order text line kind known)
known_refuses signed (Memory e) order text taken list known = inl refl
