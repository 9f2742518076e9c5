-- Lemmas about what specs/Cutting.antt defines.
use Rattle.std.specs.Prelude.{◌≡◌, ◌≢◌, ℕ, zero, suc, ◌+◌, ◌-◌, ◌<◌, ◌≤◌, ◌==◌, ◌||◌, Bool, true, false, not, cond, nat_lt, List, [], ◌∷◌}
use Rattle.std.specs.Prelude.{◌++◌, length, map, take, drop, Some, None, slice_index, slice_index_or, refl}
use Rattle.std.specs.List.{All, slice_split, onto_first, list_any, before_first, after_first, position, position_or_len}
use Rattle.std.specs.Str.Lines.{strip_carriage_return}
use Rattle.std.proofs.Common.{arith, ap, subst, sym, ◌∙◌, append-nil, length-append, get_or}
use Rattle.std.proofs.lemmas.Bool.{ne_eqb, ltb-true, ltb-false, eqb-true}
use Rattle.std.proofs.lemmas.List.Sums.{fails_before_first, passes_at_first, split_at_first}
use Rattle.std.proofs.Math.Seq.{take-length}
use Rattle.std.proofs.lemmas.List.{map-append, get_or-take, length-take, length-take-le, take_more}
use Rattle.std.proofs.lemmas.List.Elements.{All-append}
use Rattle.std.proofs.lemmas.List.Folds.{list_any-append}
use Rattle.std.proofs.lemmas.List.Splits.{slice_split-cons_no, slice_split_none, slice_split_at, length-slice_split}
use Rattle.limits.specs.Limits.{greatest_line_bytes}
use Rattle.text_lines.specs.Lines.{is_line_feed, without_empty_last, lines}
use Rattle.text_lines.specs.Cutting.{without_last, last_part, ended_lines, begun_line, is_long, has_long_line, told_lines, BreaksOff}
use Rattle.text_lines.proofs.Parts.{first_part, place_found, place_missed}
use Rattle.text_lines.proofs.LineLaws.{lines_first}

-- no byte of it is a line feed
abbrev pub IsFree : List ℕ → Type 0
IsFree bytes = All (λ byte. is_line_feed byte ≡ false) bytes

some_parts : (text : List ℕ) → 0 < length (slice_split is_line_feed text)
some_parts text = omega (arith, length-slice_split is_line_feed text)

-- the parts of a text that goes on
split_append : (text more : List ℕ)
    → slice_split is_line_feed (text ++ more) ≡ without_last (slice_split is_line_feed text) ++ slice_split is_line_feed
    (last_part (slice_split is_line_feed text) ++ more)
split_append [] more = refl
split_append (x ∷ text) more = by (is_line_feed x) (slice_split is_line_feed text) refl (some_parts text) (split_append text more)
  where
    by : (b : Bool) (parts : List (List ℕ)) → is_line_feed x ≡ b → 0 < length parts
        → slice_split is_line_feed (text ++ more) ≡ without_last parts ++ slice_split is_line_feed (last_part parts ++ more)
        → cond b ([] ∷ slice_split is_line_feed (text ++ more)) (onto_first x (slice_split is_line_feed (text ++ more)))
        ≡ without_last (cond b ([] ∷ parts) (onto_first x parts)) ++ slice_split is_line_feed
        (last_part (cond b ([] ∷ parts) (onto_first x parts)) ++ more)
    by b [] e some h = absurd (omega arith)
    by true (part ∷ parts) e some h = ap (λ (ps : List (List ℕ)). [] ∷ ps) h
    by false (part ∷ []) e some h = ap (onto_first x) h ∙ sym (slice_split-cons_no is_line_feed x (part ++ more) e)
    by false (part ∷ next ∷ parts) e some h = ap (onto_first x) h

-- a line that has begun has no line feed
pub begun_free : (text : List ℕ) → IsFree (begun_line text)
begun_free [] = λ k d h. absurd (omega arith)
begun_free (x ∷ text) = by (is_line_feed x) (slice_split is_line_feed text) refl (some_parts text) (begun_free text)
  where
    by : (b : Bool) (parts : List (List ℕ)) → is_line_feed x ≡ b → 0 < length parts → IsFree (last_part parts)
        → IsFree (last_part (cond b ([] ∷ parts) (onto_first x parts)))
    by b [] e some h = absurd (omega arith)
    by true (part ∷ parts) e some h = h
    by false (part ∷ []) e some h = All-append (λ byte. is_line_feed byte ≡ false) (x ∷ []) part (λ k d below. one k d below) h
      where
        one : (k d : ℕ) → k < 1 → is_line_feed (slice_index_or (x ∷ []) k d) ≡ false
        one zero d below = e
        one (suc k) d below = absurd (omega arith)
    by false (part ∷ next ∷ parts) e some h = h

-- of parts before a last one
without_last_append : (parts : List (List ℕ)) (part : List ℕ) (more : List (List ℕ))
    → without_last (parts ++ part ∷ more) ≡ parts ++ without_last (part ∷ more)
without_last_append [] part more = refl
without_last_append (p ∷ []) part more = refl
without_last_append (p ∷ q ∷ parts) part more = ap (λ (ps : List (List ℕ)). p ∷ ps) (without_last_append (q ∷ parts) part more)

last_part_append : (parts : List (List ℕ)) (part : List ℕ) (more : List (List ℕ))
    → last_part (parts ++ part ∷ more) ≡ last_part (part ∷ more)
last_part_append [] part more = refl
last_part_append (p ∷ []) part more = refl
last_part_append (p ∷ q ∷ parts) part more = last_part_append (q ∷ parts) part more

without_empty_last_append : (parts : List (List ℕ)) (part : List ℕ) (more : List (List ℕ))
    → without_empty_last (parts ++ part ∷ more) ≡ parts ++ without_empty_last (part ∷ more)
without_empty_last_append [] part more = refl
without_empty_last_append (p ∷ []) part more = refl
without_empty_last_append (p ∷ q ∷ parts) part more = ap (λ (ps : List (List ℕ)). p ∷ ps) (without_empty_last_append (q ∷ parts) part more)

-- what a text that goes on is: its lines that have ended, and then those of the line that has begun, as it goes on
module _ (text more : List ℕ) where
  abbrev front : List (List ℕ)
  front = without_last (slice_split is_line_feed text)

  abbrev rest : List ℕ
  rest = begun_line text ++ more

  pub ended_append : ended_lines (text ++ more) ≡ ended_lines text ++ ended_lines (begun_line text ++ more)
  ended_append =
      ap (λ ps. map strip_carriage_return (without_last ps)) (split_append text more)
      ∙ ap (map strip_carriage_return) (subst (λ (ps : List (List ℕ)). without_last (front ++ ps) ≡ front ++ without_last ps)
      (sym (first_part is_line_feed rest)) (without_last_append front _ _))
      ∙ map-append strip_carriage_return front (without_last (slice_split is_line_feed rest))

  pub begun_append : begun_line (text ++ more) ≡ begun_line (begun_line text ++ more)
  begun_append =
      ap last_part (split_append text more)
      ∙ subst (λ (ps : List (List ℕ)). last_part (front ++ ps) ≡ last_part ps) (sym (first_part is_line_feed rest))
      (last_part_append front _ _)

  pub lines_append : lines (text ++ more) ≡ ended_lines text ++ lines (begun_line text ++ more)
  lines_append =
      ap (λ ps. map strip_carriage_return (without_empty_last ps)) (split_append text more)
      ∙ ap (map strip_carriage_return) (subst (λ (ps : List (List ℕ)). without_empty_last (front ++ ps) ≡ front ++ without_empty_last ps)
      (sym (first_part is_line_feed rest)) (without_empty_last_append front _ _))
      ∙ map-append strip_carriage_return front (without_empty_last (slice_split is_line_feed rest))

free_append : (text run : List ℕ) → IsFree run → IsFree (begun_line text ++ run)
free_append text run free = All-append (λ byte. is_line_feed byte ≡ false) (begun_line text) run (begun_free text) free

-- a text goes on within a line
pub ended_run : (text run : List ℕ) → IsFree run → ended_lines (text ++ run) ≡ ended_lines text
ended_run text run free =
    ended_append text run
    ∙ ap (λ ps. ended_lines text ++ map strip_carriage_return (without_last ps))
    (slice_split_none is_line_feed (begun_line text ++ run) (free_append text run free))
    ∙ append-nil (ended_lines text)

pub begun_run : (text run : List ℕ) → IsFree run → begun_line (text ++ run) ≡ begun_line text ++ run
begun_run text run free =
    begun_append text run ∙ ap last_part (slice_split_none is_line_feed (begun_line text ++ run) (free_append text run free))

-- a line feed
pub ended_feed : (text : List ℕ) → ended_lines (text ++ 10 ∷ []) ≡ ended_lines text ++ strip_carriage_return (begun_line text) ∷ []
ended_feed text =
    ended_append text (10 ∷ [])
    ∙ ap (λ ps. ended_lines text ++ map strip_carriage_return (without_last ps))
    (slice_split_at is_line_feed (begun_line text) 10 [] (begun_free text) refl)

pub begun_feed : (text : List ℕ) → begun_line (text ++ 10 ∷ []) ≡ []
begun_feed text = begun_append text (10 ∷ []) ∙ ap last_part (slice_split_at is_line_feed (begun_line text) 10 [] (begun_free text) refl)

-- the lines of a text, with the one that has begun
pub lines_now : (text : List ℕ) → lines text ≡ ended_lines text ++ lines (begun_line text)
lines_now text =
    ap lines (sym (append-nil text)) ∙ lines_append text [] ∙ ap (λ bytes. ended_lines text ++ lines bytes) (append-nil (begun_line text))

-- those of bytes without a line feed
pub lines_free : (bytes : List ℕ) → IsFree bytes → lines bytes ≡ cond (length bytes == 0) [] (strip_carriage_return bytes ∷ [])
lines_free bytes free =
    ap (λ ps. map strip_carriage_return (without_empty_last ps)) (slice_split_none is_line_feed bytes free) ∙ by (length bytes == 0)
  where
    by : (b : Bool) → map strip_carriage_return (cond b [] (bytes ∷ [])) ≡ cond b [] (strip_carriage_return bytes ∷ [])
    by true = refl
    by false = refl

-- no bytes are too long
nothing_short : nat_lt greatest_line_bytes 0 ≡ false
nothing_short = by (nat_lt greatest_line_bytes 0) refl
  where
    by : (b : Bool) → nat_lt greatest_line_bytes 0 ≡ b → b ≡ false
    by false e = refl
    by true e = let below = ltb-true greatest_line_bytes 0 e in absurd (omega arith)

or_false : (b : Bool) → (b || false) ≡ b
or_false true = refl
or_false false = refl

long_free : (bytes : List ℕ) → IsFree bytes → list_any is_long (lines bytes) ≡ is_long (strip_carriage_return bytes)
long_free bytes free = ap (list_any is_long) (lines_free bytes free) ∙ by bytes
  where
    by : (bytes : List ℕ)
        → list_any is_long (cond (length bytes == 0) [] (strip_carriage_return bytes ∷ [])) ≡ is_long (strip_carriage_return bytes)
    by [] = sym nothing_short
    by (x ∷ bytes) =
        ap (λ b. list_any is_long (cond b [] (strip_carriage_return (x ∷ bytes) ∷ []))) (ne_eqb (length (x ∷ bytes)) 0 (λ e. omega arith))
        ∙ or_false _

-- a line is too long where one that has ended is, or the one that has begun
pub long_now : (text : List ℕ)
    → has_long_line text ≡ (list_any is_long (ended_lines text) || is_long (strip_carriage_return (begun_line text)))
long_now text =
    ap (list_any is_long) (lines_now text)
    ∙ list_any-append is_long (ended_lines text) (lines (begun_line text))
    ∙ ap (λ b. list_any is_long (ended_lines text) || b) (long_free (begun_line text) (begun_free text))

or_none : (a b : Bool) → (a || b) ≡ false → (a ≡ false) × (b ≡ false)
or_none false b e = (refl, e)
or_none true b e = absurd (cc)

-- no line is too long: neither one that has ended nor the one that has begun
pub short_now : (text : List ℕ) → has_long_line text ≡ false
    → (list_any is_long (ended_lines text) ≡ false) × (is_long (strip_carriage_return (begun_line text)) ≡ false)
short_now text short = or_none _ _ (sym (long_now text) ∙ short)

-- lines of which none is too long are told
pub all_told : (parts : List (List ℕ)) → list_any is_long parts ≡ false → before_first is_long parts ≡ parts
all_told [] e = refl
all_told (part ∷ parts) e = by (is_long part) (or_none _ _ e).0 (all_told parts (or_none _ _ e).1)
  where
    by : (b : Bool) → b ≡ false → before_first is_long parts ≡ parts
        → take (cond (not b) (1 + position_or_len is_long parts) 0) (part ∷ parts) ≡ part ∷ parts
    by true h rest = absurd (cc)
    by false h rest =
        let more : suc (position_or_len is_long parts) ≡ 1 + position_or_len is_long parts = omega arith in
        subst (λ (n : ℕ). take n (part ∷ parts) ≡ part ∷ parts) more (ap (λ (ps : List (List ℕ)). part ∷ ps) rest)

-- behind a line that is too long none is told
told_before : (parts more : List (List ℕ)) → list_any is_long parts ≡ true
    → before_first is_long (parts ++ more) ≡ before_first is_long parts
told_before [] more e = absurd (cc)
told_before (part ∷ parts) more e = by (is_long part) e (told_before parts more)
  where
    by : (b : Bool) → (b || list_any is_long parts) ≡ true
        → (list_any is_long parts ≡ true → before_first is_long (parts ++ more) ≡ before_first is_long parts)
        → take (cond (not b) (1 + position_or_len is_long (parts ++ more)) 0) (part ∷ (parts ++ more)) ≡ take
        (cond (not b) (1 + position_or_len is_long parts) 0) (part ∷ parts)
    by true h rest = refl
    by false h rest =
        let more_is : (xs : List (List ℕ)) → suc (position_or_len is_long xs) ≡ 1 + position_or_len is_long xs = λ xs. omega arith in
        subst (λ (n : ℕ). take n (part ∷ (parts ++ more)) ≡ take (1 + position_or_len is_long parts) (part ∷ parts))
        (more_is (parts ++ more))
        (subst (λ (n : ℕ). take (suc (position_or_len is_long (parts ++ more))) (part ∷ (parts ++ more)) ≡ take n (part ∷ parts))
        (more_is parts)
        (ap (λ (ps : List (List ℕ)). part ∷ ps) (rest h)))

-- where lines of which none is too long stand in front of others
told_front : (parts more : List (List ℕ)) → list_any is_long parts ≡ false
    → before_first is_long (parts ++ more) ≡ parts ++ before_first is_long more
told_front [] more e = refl
told_front (part ∷ parts) more e = by (is_long part) (or_none _ _ e).0 (told_front parts more (or_none _ _ e).1)
  where
    by : (b : Bool) → b ≡ false → before_first is_long (parts ++ more) ≡ parts ++ before_first is_long more
        → take (cond (not b) (1 + position_or_len is_long (parts ++ more)) 0) (part ∷ (parts ++ more)) ≡ part ∷
        (parts ++ before_first is_long more)
    by true h rest = absurd (cc)
    by false h rest =
        let more_is : suc (position_or_len is_long (parts ++ more)) ≡ 1 + position_or_len is_long (parts ++ more) = omega arith in
        subst (λ (n : ℕ). take n (part ∷ (parts ++ more)) ≡ part ∷ (parts ++ before_first is_long more)) more_is
        (ap (λ (ps : List (List ℕ)). part ∷ ps) rest)

-- a line without the carriage return at its end is shorter by one byte at most
strip_length : (bytes : List ℕ)
    → (length (strip_carriage_return bytes) ≤ length bytes) × (length bytes ≤ length (strip_carriage_return bytes) + 1)
strip_length bytes = by (slice_index bytes (length bytes - 1) == 13)
  where
    by : (b : Bool)
        → (length (cond b (take (length bytes - 1) bytes) bytes) ≤ length bytes) ×
        (length bytes ≤ length (cond b (take (length bytes - 1) bytes) bytes) + 1)
    by true = (omega (arith, length-take (length bytes - 1) bytes), omega (arith, length-take (length bytes - 1) bytes))
    by false = (omega arith, omega arith)

lt_true : (a b : ℕ) → a < b → nat_lt a b ≡ true
lt_true a b h = by (nat_lt a b) refl
  where
    by : (t : Bool) → nat_lt a b ≡ t → t ≡ true
    by true e = refl
    by false e = let above = ltb-false a b e in absurd (omega arith)

-- a line that is too long stays so
long_grows : (bytes more : List ℕ) → is_long (strip_carriage_return bytes) ≡ true → is_long (strip_carriage_return (bytes ++ more)) ≡ true
long_grows bytes [] e = ap (λ bs. is_long (strip_carriage_return bs)) (append-nil bytes) ∙ e
long_grows bytes (x ∷ more) e =
    let above = ltb-true greatest_line_bytes (length (strip_carriage_return bytes)) e in
    let before = strip_length bytes in
    let behind = strip_length (bytes ++ x ∷ more) in
    lt_true _ _ (omega (arith, length-append bytes (x ∷ more)))

free_head : (x : ℕ) (bytes : List ℕ) → IsFree (x ∷ bytes) → is_line_feed x ≡ false
free_head x bytes free = free 0 x (omega arith)

free_tail : (x : ℕ) (bytes : List ℕ) → IsFree (x ∷ bytes) → IsFree bytes
free_tail x bytes free = λ k d h. free (suc k) d (omega arith)

-- the first part of bytes that go on
first_goes_on : (bytes more : List ℕ) → IsFree bytes
    → take (position_or_len is_line_feed (bytes ++ more)) (bytes ++ more) ≡ bytes ++ take (position_or_len is_line_feed more) more
first_goes_on [] more free = refl
first_goes_on (x ∷ bytes) more free =
    let more_is : suc (position_or_len is_line_feed (bytes ++ more)) ≡ 1 + position_or_len is_line_feed (bytes ++ more) = omega arith in
    ap (λ b. take (cond (not b) (1 + position_or_len is_line_feed (bytes ++ more)) 0) (x ∷ (bytes ++ more))) (free_head x bytes free)
    ∙ ap (λ (n : ℕ). take n (x ∷ (bytes ++ more))) (sym more_is)
    ∙ ap (λ (bs : List ℕ). x ∷ bs) (first_goes_on bytes more (free_tail x bytes free))

first_long : (bytes more : List ℕ) → IsFree bytes → is_long (strip_carriage_return bytes) ≡ true
    → is_long (strip_carriage_return (take (position_or_len is_line_feed (bytes ++ more)) (bytes ++ more))) ≡ true
first_long bytes more free e =
    ap (λ bs. is_long (strip_carriage_return bs)) (first_goes_on bytes more free)
    ∙ long_grows bytes (take (position_or_len is_line_feed more) more) e

-- what has begun with a line that is too long
long_begun : (bytes more : List ℕ) → IsFree bytes → is_long (strip_carriage_return bytes) ≡ true
    → (list_any is_long (lines (bytes ++ more)) ≡ true) × (before_first is_long (ended_lines (bytes ++ more)) ≡ [])
long_begun bytes more free e =
    let long = first_long bytes more free e in
    let some : 0 < length (bytes ++ more) =
    omega (arith, length-append bytes more, strip_length bytes, ltb-true greatest_line_bytes (length (strip_carriage_return bytes)) e) in (
      ap (list_any is_long) (lines_first (bytes ++ more) some)
          ∙ ap (λ b. b || list_any is_long (lines (drop 1 (drop (position_or_len is_line_feed (bytes ++ more)) (bytes ++ more))))) long,
      ap (λ ps. before_first is_long (map strip_carriage_return (without_last ps))) (first_part is_line_feed (bytes ++ more)) ∙ by _ _ long,
    )
  where
    by : (part : List ℕ) (parts : List (List ℕ)) → is_long (strip_carriage_return part) ≡ true
        → before_first is_long (map strip_carriage_return (without_last (part ∷ parts))) ≡ []
    by part [] h = refl
    by part (next ∷ parts) h =
        ap (λ b. take (cond (not b) (1 + position_or_len is_long (map strip_carriage_return (without_last (next ∷ parts)))) 0)
        (strip_carriage_return part ∷ map strip_carriage_return (without_last (next ∷ parts)))) h

-- a text with a line that is too long goes on: no more lines are told
pub long_stays : (text more : List ℕ) → has_long_line text ≡ true
    → (has_long_line (text ++ more) ≡ true) × (told_lines (text ++ more) ≡ told_lines text)
long_stays text more long = by (list_any is_long (ended_lines text)) refl (sym (long_now text) ∙ long)
  where
    goes_on : has_long_line (text ++ more) ≡ (list_any is_long (ended_lines text) || list_any is_long (lines (begun_line text ++ more)))
    goes_on = ap (list_any is_long) (lines_append text more) ∙ list_any-append is_long (ended_lines text) (lines (begun_line text ++ more))

    by : (b : Bool) → list_any is_long (ended_lines text) ≡ b
        → (list_any is_long (ended_lines text) || is_long (strip_carriage_return (begun_line text))) ≡ true
        → (has_long_line (text ++ more) ≡ true) × (told_lines (text ++ more) ≡ told_lines text)
    by true e h = (
      goes_on ∙ ap (λ b. b || list_any is_long (lines (begun_line text ++ more))) e,
      ap (before_first is_long) (ended_append text more) ∙ told_before (ended_lines text) (ended_lines (begun_line text ++ more)) e,
    )
    by false e h =
        let begun : is_long (strip_carriage_return (begun_line text)) ≡ true =
        sym (ap (λ b. b || is_long (strip_carriage_return (begun_line text))) e) ∙ h in
        let both = long_begun (begun_line text) more (begun_free text) begun in (
          goes_on ∙ ap (λ b. b || list_any is_long (lines (begun_line text ++ more))) e ∙ both.0,
          ap (before_first is_long) (ended_append text more)
              ∙ told_front (ended_lines text) (ended_lines (begun_line text ++ more)) e
              ∙ ap (λ ps. ended_lines text ++ ps) both.1
              ∙ append-nil (ended_lines text)
              ∙ sym (all_told (ended_lines text) e),
        )

-- a text goes on within a line, and none is told
pub told_run : (text run : List ℕ) → IsFree run → told_lines (text ++ run) ≡ told_lines text
told_run text run free = ap (before_first is_long) (ended_run text run free)

-- where no line was too long, the one that has begun may be now
pub long_run : (text run : List ℕ) → IsFree run → has_long_line text ≡ false
    → has_long_line (text ++ run) ≡ is_long (strip_carriage_return (begun_line text ++ run))
long_run text run free short =
    long_now (text ++ run)
    ∙ ap (λ b. b || is_long (strip_carriage_return (begun_line (text ++ run))))
    (ap (list_any is_long) (ended_run text run free) ∙ (short_now text short).0)
    ∙ ap (λ bs. is_long (strip_carriage_return bs)) (begun_run text run free)

-- where no line is too long, a line feed ends the one that has begun
pub short_feed : (text : List ℕ) → has_long_line text ≡ false → has_long_line (text ++ 10 ∷ []) ≡ false
short_feed text short =
    let now = short_now text short in
    long_now (text ++ 10 ∷ [])
    ∙ ap (λ bs. list_any is_long (ended_lines (text ++ 10 ∷ [])) || is_long (strip_carriage_return bs)) (begun_feed text)
    ∙ ap (λ b. list_any is_long (ended_lines (text ++ 10 ∷ [])) || b) nothing_short
    ∙ or_false _
    ∙ ap (list_any is_long) (ended_feed text)
    ∙ list_any-append is_long (ended_lines text) (strip_carriage_return (begun_line text) ∷ [])
    ∙ ap (λ b. b || (is_long (strip_carriage_return (begun_line text)) || false)) now.0
    ∙ ap (λ b. b || false) now.1

pub told_feed : (text : List ℕ) → has_long_line text ≡ false
    → told_lines (text ++ 10 ∷ []) ≡ told_lines text ++ strip_carriage_return (begun_line text) ∷ []
told_feed text short =
    let now = short_now text short in
    let behind : list_any is_long (ended_lines (text ++ 10 ∷ [])) ≡ false = (short_now (text ++ 10 ∷ []) (short_feed text short)).0 in
    all_told (ended_lines (text ++ 10 ∷ [])) behind
    ∙ ended_feed text
    ∙ ap (λ ps. ps ++ strip_carriage_return (begun_line text) ∷ []) (sym (all_told (ended_lines text) now.0))

-- where no line is too long, the lines of the text are those that were told and the one that has begun
pub lines_told : (text : List ℕ) → has_long_line text ≡ false → lines text ≡ told_lines text ++ lines (begun_line text)
lines_told text short =
    lines_now text ∙ ap (λ ps. ps ++ lines (begun_line text)) (sym (all_told (ended_lines text) (short_now text short).0))

pub free_run : (run : List ℕ) → All (λ byte. byte ≢ 10) run → IsFree run
free_run run free = λ k d h. ne_eqb (slice_index_or run k d) 10 (free k d h)

-- a line, cut to its length without the carriage return at its end
pub take_strip : (bytes bare lent : List ℕ) → bare ≡ strip_carriage_return lent → lent ≡ bytes
    → take (length bare) bytes ≡ strip_carriage_return bytes
take_strip bytes bare lent e lent_is =
    ap (λ bs. take (length bs) bytes) (e ∙ ap strip_carriage_return lent_is) ∙ by (slice_index bytes (length bytes - 1) == 13)
  where
    by : (b : Bool) → take (length (cond b (take (length bytes - 1) bytes) bytes)) bytes ≡ cond b (take (length bytes - 1) bytes) bytes
    by true = ap (λ (n : ℕ). take n bytes) (length-take-le (length bytes - 1) bytes (omega arith))
    by false = take-length bytes

not_line_feed : (byte : ℕ) → is_line_feed byte ≡ false → byte ≢ 10
not_line_feed byte e is = let same : is_line_feed byte ≡ true = ap is_line_feed is in absurd (cc (same, e))

-- the bytes before the first line feed, or all where there is none
pub run_before : (piece run : List ℕ) (end : ℕ) → Some end ≡ position is_line_feed piece → run ≡ take end piece
    → All (λ byte. byte ≢ 10) run
run_before piece run end found run_is =
    let place = place_found is_line_feed piece end found in
    subst (λ (bytes : List ℕ). All (λ byte. byte ≢ 10) bytes) (sym run_is) (λ k d h.
    let below : k < end = omega (arith, length-take end piece) in
    let at : slice_index_or (take end piece) k d ≡ slice_index_or piece k d = get_or-take end piece k d below in
    not_line_feed _ (ap is_line_feed at ∙ fails_before_first is_line_feed piece k d (omega (arith, place.0))))

pub run_alone : (piece : List ℕ) → None ≡ position is_line_feed piece → All (λ byte. byte ≢ 10) piece
run_alone piece missed =
    λ k d h. not_line_feed _ (fails_before_first is_line_feed piece k d (omega (arith, place_missed is_line_feed piece missed)))

-- the bytes to the first line feed, with it
pub run_with_feed : (piece : List ℕ) (end : ℕ) → Some end ≡ position is_line_feed piece → take (end + 1) piece ≡ take end piece ++ 10 ∷ []
run_with_feed piece end found =
    let place = place_found is_line_feed piece end found in
    let hit : is_line_feed (slice_index_or piece end 0) ≡ true =
    ap (λ n. is_line_feed (slice_index_or piece n 0)) place.0 ∙ passes_at_first is_line_feed piece 0 (omega (arith, place.0, place.1)) in
    take_more piece end 0 place.1 ∙ ap (λ byte. take end piece ++ byte ∷ []) (eqb-true (slice_index_or piece end 0) 10 hit)

length_zero : (bytes : List ℕ) → length bytes ≡ 0 → bytes ≡ []
length_zero [] e = refl
length_zero (x ∷ bytes) e = absurd (omega arith)

-- at the end of a text
pub nothing_begun : (text line : List ℕ) → has_long_line text ≡ false → line ≡ begun_line text → length line ≡ 0
    → told_lines text ≡ lines text
nothing_begun text line short line_is none =
    sym (lines_told text short ∙ ap (λ bytes. told_lines text ++ lines bytes) (sym line_is ∙ length_zero line none) ∙ append-nil
    (told_lines text))

pub last_told : (text line : List ℕ) → has_long_line text ≡ false → line ≡ begun_line text → 0 < length line
    → told_lines (text ++ 10 ∷ []) ≡ lines text
last_told text line short line_is some =
    told_feed text short
    ∙ sym (
    lines_told text short
    ∙ ap (λ ps. told_lines text ++ ps) (lines_free (begun_line text) (begun_free text) ∙ ap
    (λ b. cond b [] (strip_carriage_return (begun_line text) ∷ []))
    (ne_eqb (length (begun_line text)) 0 (λ e. omega (arith, ap length line_is))))
    )

-- where no line is too long, a text that goes on has the lines that were told in front
pub lines_go_on : (text more : List ℕ) → has_long_line text ≡ false
    → lines (text ++ more) ≡ told_lines text ++ lines (begun_line text ++ more)
lines_go_on text more short =
    lines_append text more ∙ ap (λ ps. ps ++ lines (begun_line text ++ more)) (sym (all_told (ended_lines text) (short_now text short).0))

-- the lines before the first one that is too long are told
before_long : (text : List ℕ) → has_long_line text ≡ true → before_first is_long (lines text) ≡ told_lines text
before_long text long =
    ap (before_first is_long) (lines_now text) ∙ by (list_any is_long (ended_lines text)) refl (sym (long_now text) ∙ long)
  where
    alone : (b : Bool) → is_long (strip_carriage_return (begun_line text)) ≡ true
        → before_first is_long (cond b [] (strip_carriage_return (begun_line text) ∷ [])) ≡ []
    alone true e = refl
    alone false e = ap (λ b. take (cond (not b) (1 + position_or_len is_long []) 0) (strip_carriage_return (begun_line text) ∷ [])) e

    by : (b : Bool) → list_any is_long (ended_lines text) ≡ b
        → (list_any is_long (ended_lines text) || is_long (strip_carriage_return (begun_line text))) ≡ true
        → before_first is_long (ended_lines text ++ lines (begun_line text)) ≡ told_lines text
    by true e h = told_before (ended_lines text) (lines (begun_line text)) e
    by false e h =
        told_front (ended_lines text) (lines (begun_line text)) e
        ∙ ap (λ ps. ended_lines text ++ before_first is_long ps) (lines_free (begun_line text) (begun_free text))
        ∙ ap (λ ps. ended_lines text ++ ps) (alone _ (sym (ap (λ b. b || is_long (strip_carriage_return (begun_line text))) e) ∙ h))
        ∙ append-nil (ended_lines text)
        ∙ sym (all_told (ended_lines text) e)

long_place : (ps : List (List ℕ)) → list_any is_long ps ≡ true → position_or_len is_long ps < length ps
long_place [] e = absurd (cc)
long_place (part ∷ ps) e = by (is_long part) e (long_place ps)
  where
    by : (b : Bool) → (b || list_any is_long ps) ≡ true → (list_any is_long ps ≡ true → position_or_len is_long ps < length ps)
        → cond (not b) (1 + position_or_len is_long ps) 0 < length (part ∷ ps)
    by true h rest = omega arith
    by false h rest = omega (arith, rest h)

pub breaks_off : (text : List ℕ) → has_long_line text ≡ true → BreaksOff text
breaks_off text long =
    let place = long_place (lines text) long in
    record {
      line = get_or (lines text) (position_or_len is_long (lines text)) [];
      behind = after_first is_long (lines text);
      long = passes_at_first is_long (lines text) [] place;
      lines_are =
          split_at_first is_long (lines text) [] place
          ∙ ap (λ ps. ps ++ get_or (lines text) (position_or_len is_long (lines text)) [] ∷ after_first is_long (lines text))
          (before_long text long);
    }

-- a line that was told last is short
pub told_line_short : (text line : List ℕ) (before : List (List ℕ)) → has_long_line text ≡ false
    → told_lines text ≡ before ++ line ∷ [] → is_long line ≡ false
told_line_short text line before short told =
    let now : list_any is_long (told_lines text) ≡ false =
    ap (list_any is_long) (all_told (ended_lines text) (short_now text short).0) ∙ (short_now text short).0 in
    let both = or_none _ _ (sym (list_any-append is_long before (line ∷ [])) ∙ sym (ap (list_any is_long) told) ∙ now) in
    (or_none _ _ both.1).0

pub long_stays_long : (text more : List ℕ) → has_long_line text ≡ true → has_long_line (text ++ more) ≡ true
long_stays_long text more long = (long_stays text more long).0

pub long_stays_told : (text more : List ℕ) → has_long_line text ≡ true → told_lines (text ++ more) ≡ told_lines text
long_stays_told text more long = (long_stays text more long).1

pub ruleset cutting_laws = (lines_go_on, breaks_off, long_stays_long, long_stays_told)
