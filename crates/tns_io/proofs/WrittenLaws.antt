-- Lemmas about what specs/WrittenLaws.antt defines.
use Rattle.std.specs.Prelude.{◌≡◌, ◌≢◌, ℕ, pos, negsuc, ◌+◌, ◌-◌, ◌*◌, ◌^◌, ◌<◌, ◌≤◌, Bool, true, false, cond, nat_lt, List, []}
use Rattle.std.specs.Prelude.{◌∷◌, ◌++◌, length, All, Some, Ok, Err, refl}
use Rattle.std.specs.Fmt.{decimal, signed_decimal}
use Rattle.std.specs.List.{flat_map}
use Rattle.std.proofs.Common.{arith, ap, subst, sym, ◌∙◌, inl, inr, append_assoc, length-append, add-one, lit≤}
use Rattle.std.proofs.lemmas.Bool.{lt-ltb, le-ltb, ltb-false, cases_eq}
use Rattle.std.proofs.lemmas.List.{length-map}
use Rattle.std.proofs.lemmas.List.Elements.{All-nil, All-cons, All-append, All-tail, All-weaker}
use Rattle.std.proofs.lemmas.List.Folds.{flat_map-map}
use Rattle.limits.specs.Limits.{greatest_file_coordinate, greatest_line_bytes, greatest_order}
use Rattle.limits.proofs.Limits.{file_coordinates_are_ranges, positions_are_small}
use Rattle.numbers.specs.Arithmetic.{Arithmetic, Laws}
use Rattle.numbers.specs.Signed.{written_of}
use Rattle.tensor_map.specs.Order.{Increasing}
use Rattle.tensor_map.specs.Entries.{value_at, Listed}
use Rattle.tensor_map.specs.Laws.{same, other}
use Rattle.tensor_map.proofs.Lemmas.{tested, value_here, value_elsewhere, value_unlisted}
use Rattle.text_lines.specs.LineLaws.{IsLine}
use Rattle.text_lines.proofs.LineLaws.{lines_more, bare_line}
use Rattle.text_lines.specs.Lines.{lines}
use Rattle.text_lines.proofs.NumberLaws.{number_of_decimal, read_whole_of_signed_decimal}
use Rattle.text_lines.specs.Numbers.{fits_word}
use Rattle.text_lines.specs.PrintedLaws.{IsFilled}
use Rattle.text_lines.proofs.PrintedLaws.{decimal_filled, decimal_is_token, decimal_short, signed_filled, signed_decimal_is_token}
use Rattle.text_lines.proofs.PrintedLaws.{signed_short, high_line}
use Rattle.text_lines.specs.TokenLaws.{IsToken}
use Rattle.text_lines.proofs.TokenLaws.{tokens_joined}
use Rattle.text_lines.specs.Tokens.{tokens}
use Rattle.tns_io.specs.Positions.{IsBelow}
use Rattle.tns_io.proofs.PlainLaws.{tokens_are_read}
use Rattle.tns_io.proofs.PositionLaws.{below_long}
use Rattle.tns_io.specs.Reading.{coordinate_from, coordinate_of, word_from, value_from, value_of, value_alone, with_first, entry_of}
use Rattle.tns_io.specs.Reading.{reading_of_tokens, reading, before_others, entries_from, entries_of_text}
use Rattle.tns_io.specs.Reading.Reading.{Read, Bad}
use Rattle.tns_io.specs.Text.{coords_text, line_text, IsAmong, IsTnsText}
use Rattle.tns_io.proofs.TextLaws.{before_among}
use Rattle.text_lines.specs.declared.line_kind.LineKind.TheVariants.{LongLine, NumRange}
use Rattle.tns_io.specs.WrittenLaws.{coordinate_texts, bare_text, AreInFile, IsReadBack, entries_at, IsPlace, StandsFor}

-- a value is read back from the number that is written for it, which is one of 64 bits
back_by : (v : ℕ) (b : Bool) → nat_lt v (2 ^ 63) ≡ b → v < 2 ^ 64 → word_from true (cond b (pos v) (negsuc (2 ^ 64 - 1 - v))) ≡ Ok v
back_by v true e h = refl
back_by v false e h = let same : 2 ^ 64 - 1 - (2 ^ 64 - 1 - v) ≡ v = omega arith in ap Ok same

pub written_back : (signed : Bool) (v : ℕ) → IsReadBack signed v → word_from signed (written_of signed v) ≡ Ok v
written_back true v back = back_by v (nat_lt v (2 ^ 63)) refl back.word
written_back false v back = refl

fits_by : (v : ℕ) (b : Bool) → nat_lt v (2 ^ 63) ≡ b → v < 2 ^ 64 → fits_word (cond b (pos v) (negsuc (2 ^ 64 - 1 - v))) ≡ true
fits_by v true e h = e
fits_by v false e h = let high : 2 ^ 63 ≤ v = ltb-false v (2 ^ 63) e in lt-ltb (2 ^ 64 - 1 - v) (2 ^ 63) (omega arith)

pub written_fits : (signed : Bool) (v : ℕ) → IsReadBack signed v → fits_word (written_of signed v) ≡ true
written_fits true v back = fits_by v (nat_lt v (2 ^ 63)) refl back.word
written_fits false v back = lt-ltb v (2 ^ 63) (back.short refl)

file_word : (c : ℕ) → c < greatest_file_coordinate → c + 1 < 2 ^ 64
file_word c h = let wide : 2 ^ 62 ≤ 2 ^ 64 = lit≤ tt in omega (arith, file_coordinates_are_ranges, positions_are_small)

-- each token is read back
coordinate_read : (c : ℕ) → c < greatest_file_coordinate → coordinate_of (decimal (c + 1)) ≡ Ok c
coordinate_read c h =
    ap coordinate_from (number_of_decimal (c + 1) (file_word c h) ∙ ap Some (add-one c))
    ∙ ap (λ b. cond b (Ok c) (Err NumRange)) (lt-ltb c greatest_file_coordinate h)

value_read : (signed : Bool) (v : ℕ) → IsReadBack signed v → value_of signed (signed_decimal (written_of signed v)) ≡ Ok v
value_read signed v h = ap (value_from signed) (read_whole_of_signed_decimal (written_of signed v) (written_fits signed v h))
    ∙ written_back signed v h

pub entry_of_more : (signed : Bool) (token : List ℕ) (others : List (List ℕ)) → 0 < length others
    → entry_of signed (token ∷ others) ≡ with_first (coordinate_of token) (entry_of signed others)
entry_of_more signed token [] h = absurd (omega arith)
entry_of_more signed token (next ∷ more) h = refl

entry_read : (signed : Bool) (coords : List ℕ) (v : ℕ) → AreInFile coords → IsReadBack signed v
    → entry_of signed (coordinate_texts coords ++ signed_decimal (written_of signed v) ∷ []) ≡ Ok (record { coords = coords; value = v })
entry_read signed [] v in_file h = ap value_alone (value_read signed v h)
entry_read signed (c ∷ coords) v in_file h =
    let some : 0 < length (coordinate_texts coords ++ signed_decimal (written_of signed v) ∷ []) =
    omega (arith, length-append (coordinate_texts coords) (signed_decimal (written_of signed v) ∷ [])) in
    entry_of_more signed (decimal (c + 1)) (coordinate_texts coords ++ signed_decimal (written_of signed v) ∷ []) some
    ∙ (λ i. with_first (coordinate_read c (in_file 0 0 (omega arith)) i)
    (entry_read signed coords v (All-tail (λ x. x < greatest_file_coordinate) c coords in_file) h i))

-- the tokens of the line
texts_are_tokens : (coords : List ℕ) → AreInFile coords → All IsToken (coordinate_texts coords)
texts_are_tokens [] in_file = All-nil IsToken
texts_are_tokens (c ∷ coords) in_file =
    All-cons IsToken (decimal (c + 1)) (coordinate_texts coords) (decimal_is_token (c + 1) (file_word c (in_file 0 0 (omega arith))))
    (texts_are_tokens coords (All-tail (λ x. x < greatest_file_coordinate) c coords in_file))

line_tokens : (signed : Bool) (coords : List ℕ) (v : ℕ) → AreInFile coords → IsReadBack signed v
    → tokens (bare_text signed coords v) ≡ coordinate_texts coords ++ signed_decimal (written_of signed v) ∷ []
line_tokens signed coords v in_file h =
    ap (λ text. tokens (text ++ signed_decimal (written_of signed v)))
    (sym (flat_map-map (λ part. part ++ 32 ∷ []) (λ c. decimal (c + 1)) coords))
    ∙ tokens_joined (coordinate_texts coords) (signed_decimal (written_of signed v)) (texts_are_tokens coords in_file)
    (signed_decimal_is_token (written_of signed v) (written_fits signed v h))

-- its bytes
coords_high : (coords : List ℕ) → AreInFile coords → All (λ byte. 13 < byte) (coords_text coords)
coords_high [] in_file = All-nil (λ byte. 13 < byte)
coords_high (c ∷ coords) in_file =
    let first = decimal_filled (c + 1) (file_word c (in_file 0 0 (omega arith))) in
    All-append (λ byte. 13 < byte) (decimal (c + 1) ++ 32 ∷ []) (coords_text coords)
    (All-append (λ byte. 13 < byte) (decimal (c + 1)) (32 ∷ [])
    (All-weaker IsFilled (λ byte. 13 < byte) (λ x high. omega arith) (decimal (c + 1)) first)
    (All-cons (λ byte. 13 < byte) 32 [] (omega arith) (All-nil (λ byte. 13 < byte))))
    (coords_high coords (All-tail (λ x. x < greatest_file_coordinate) c coords in_file))

line_high : (signed : Bool) (coords : List ℕ) (v : ℕ) → AreInFile coords → IsReadBack signed v
    → All (λ byte. 13 < byte) (bare_text signed coords v)
line_high signed coords v in_file h =
    All-append (λ byte. 13 < byte) (coords_text coords) (signed_decimal (written_of signed v)) (coords_high coords in_file)
    (All-weaker IsFilled (λ byte. 13 < byte) (λ x high. omega arith) (signed_decimal (written_of signed v))
    (signed_filled (written_of signed v) (written_fits signed v h)))

-- its length
coords_short : (coords : List ℕ) → AreInFile coords → length (coords_text coords) ≤ 21 * length coords
coords_short [] in_file = omega arith
coords_short (c ∷ coords) in_file =
    let first = decimal_short (c + 1) (file_word c (in_file 0 0 (omega arith))) in
    let rest = coords_short coords (All-tail (λ x. x < greatest_file_coordinate) c coords in_file) in
    omega (arith, length-append (decimal (c + 1) ++ 32 ∷ []) (coords_text coords), length-append (decimal (c + 1)) (32 ∷ []))

lines_have_room : 21 * greatest_order + 21 ≤ greatest_line_bytes
unfolding greatest_order greatest_line_bytes
lines_have_room = lit≤ tt

line_short : (signed : Bool) (coords : List ℕ) (v : ℕ) → AreInFile coords → IsReadBack signed v → length coords ≤ greatest_order
    → length (bare_text signed coords v) ≤ greatest_line_bytes
line_short signed coords v in_file h few =
    let front = coords_short coords in_file in
    let back = signed_short (written_of signed v) (written_fits signed v h) in
    omega (arith, lines_have_room, length-append (coords_text coords) (signed_decimal (written_of signed v)))

-- the line is read as its entry
reading_by : (signed : Bool) (coords : List ℕ) (v : ℕ) → AreInFile coords → IsReadBack signed v
    → reading_of_tokens signed (length coords) (coordinate_texts coords ++ signed_decimal (written_of signed v) ∷ [])
    ≡ Read (record { coords = coords; value = v })
reading_by signed coords v in_file h =
    let last : List (List ℕ) = signed_decimal (written_of signed v) ∷ [] in
    let long : length (coordinate_texts coords ++ last) ≡ length coords + 1 =
    omega (arith, length-append (coordinate_texts coords) last, length-map coords (λ x. decimal (x + 1))) in
    tokens_are_read signed (length coords) (coordinate_texts coords ++ last) _ long (entry_read signed coords v in_file h)

pub reading_written : (signed : Bool) (coords : List ℕ) (v : ℕ) → AreInFile coords → IsReadBack signed v → length coords ≤ greatest_order
    → reading signed (length coords) (bare_text signed coords v) ≡ Read (record { coords = coords; value = v })
reading_written signed coords v in_file h few =
    ap (λ b. cond b (Bad LongLine) (reading_of_tokens signed (length coords) (tokens (bare_text signed coords v))))
    (le-ltb greatest_line_bytes (length (bare_text signed coords v)) (line_short signed coords v in_file h few))
    ∙ ap (reading_of_tokens signed (length coords)) (line_tokens signed coords v in_file h)
    ∙ reading_by signed coords v in_file h

-- so the lines are read as the entries
pub lines_read : (signed : Bool) (order : ℕ) (value : List ℕ → ℕ) (places : List (List ℕ)) (number : ℕ) → order ≤ greatest_order
    → All (IsPlace signed order value) places
    → entries_from signed order number (lines (flat_map (λ coords. line_text signed coords (value coords)) places))
    ≡ Ok (entries_at value places)
lines_read signed order value [] number few each = refl
lines_read signed order value (coords ∷ places) number few each =
    let place : IsPlace signed order value coords = each 0 coords (omega arith) in
    let bare : List ℕ = bare_text signed coords (value coords) in
    let others : List ℕ = flat_map (λ coords. line_text signed coords (value coords)) places in
    let line : IsLine bare = high_line bare (line_high signed coords (value coords) place.in_file place.back) in
    let parts : line_text signed coords (value coords) ++ others ≡ bare ++ 10 ∷ others =
    ap (λ text. text ++ others) (sym (append_assoc (coords_text coords) (signed_decimal (written_of signed (value coords))) (10 ∷ [])))
    ∙ append_assoc bare (10 ∷ []) others in
    let read : reading signed order bare ≡ Read (record { coords = coords; value = value coords }) =
    ap (λ n. reading signed n bare) (sym place.long)
    ∙ reading_written signed coords (value coords) place.in_file place.back (omega (arith, place.long)) in
    ap (λ text. entries_from signed order number (lines text)) parts
    ∙ ap (entries_from signed order number) (lines_more bare others line.one
    ∙ ap (λ first. first ∷ lines others) (bare_line bare line.bare))
    ∙ (λ i. before_others number (read i)
    (lines_read signed order value places (number + 1) few (All-tail (IsPlace signed order value) coords places each) i))

-- the places of a tensor's text
below_file : (ranges coords : List ℕ) → All (λ range. range ≤ greatest_file_coordinate) ranges → IsBelow ranges coords → AreInFile coords
below_file [] [] within h = All-nil (λ c. c < greatest_file_coordinate)
below_file [] (c ∷ coords) within h = absurd h
below_file (n ∷ ranges) [] within h = absurd h
below_file (n ∷ ranges) (c ∷ coords) within h =
    let first = within 0 0 (omega arith) in
    All-cons (λ x. x < greatest_file_coordinate) c coords (omega (arith, h.0, first))
    (below_file ranges coords (All-tail (λ range. range ≤ greatest_file_coordinate) n ranges within) h.1)

each_place : (P : List ℕ → Type 0) (places : List (List ℕ)) → ((coords : List ℕ) → IsAmong places coords → P coords) → All P places
each_place P [] each = All-nil P
each_place P (place ∷ places) each =
    All-cons P place places (each place (inl refl)) (each_place P places (λ coords among. each coords (inr among)))

pub text_read : (a : Arithmetic) (signed : Bool) (ranges : List ℕ) (value : List ℕ
    → ℕ) (text : List ℕ) (is : IsTnsText a signed ranges value text)
    → length ranges ≤ greatest_order → All (λ range. range ≤ greatest_file_coordinate) ranges
    → ((coords : List ℕ) → IsBelow ranges coords → value coords < 2 ^ 64)
    → (signed ≡ false → (coords : List ℕ) → IsBelow ranges coords → value coords ≢ a.zero → value coords < 2 ^ 63)
    → entries_of_text signed (length ranges) text ≡ Ok (entries_at value is.places)
text_read a signed ranges value text is few within words short =
    ap (entries_of_text signed (length ranges)) is.lines
    ∙ lines_read signed (length ranges) value is.places 1 few (each_place (IsPlace signed (length ranges) value) is.places (λ coords among.
    let written = (is.exact coords).0 among in
    record {
      long = below_long ranges coords written.0;
      in_file = below_file ranges coords within written.0;
      back = record { word = words coords written.0; short = λ none. short none coords written.0 written.1 };
    }))

-- what those entries stand for
listed_among : (value : List ℕ → ℕ) (places : List (List ℕ)) (coords : List ℕ) → Listed (entries_at value places) coords
    → IsAmong places coords
listed_among value [] coords listed = listed
listed_among value (place ∷ places) coords (inl here) = inl here
listed_among value (place ∷ places) coords (inr more) = inr (listed_among value places coords more)

module _ (a : Arithmetic) (signed : Bool) (laws : Laws a) where
  value_not_among : (value : List ℕ → ℕ) (places : List (List ℕ)) (coords : List ℕ) → (IsAmong places coords → ⊥)
      → value_at a (entries_at value places) coords ≡ a.zero
  value_not_among value places coords none =
      value_unlisted a laws coords (entries_at value places) (λ listed. none (listed_among value places coords listed))

  value_among : (value : List ℕ → ℕ) (places : List (List ℕ)) (coords : List ℕ) → Increasing places → IsAmong places coords
      → value coords < 2 ^ 64 → value_at a (entries_at value places) coords ≡ value coords
  value_among value [] coords up among h = absurd among
  value_among value (place ∷ places) coords up among h = elim (tested place coords) [
    | same here t ↦ (
        let none : IsAmong places coords → ⊥ = subst (λ (xs : List ℕ). IsAmong places xs → ⊥) here (before_among place places up.0) in
        value_here a coords (record { coords = place; value = value place }) (entries_at value places) t
        ∙ ap (a.plus (value place)) (value_not_among value places coords none)
        ∙ ap (λ (xs : List ℕ). a.plus (value xs) a.zero) here
        ∙ laws.plus_zero (value coords) h)
    | other away t ↦ (
        value_elsewhere a coords (record { coords = place; value = value place }) (entries_at value places) t
        ∙ value_among value places coords up.1 (elim among [ inl here ↦ absurd (away here) | inr more ↦ more ]) h)
  ]

  pub written_value : (ranges : List ℕ) (value : List ℕ → ℕ) (text : List ℕ) (is : IsTnsText a signed ranges value text) (coords : List ℕ)
      → IsBelow ranges coords → value coords < 2 ^ 64 → value_at a (entries_at value is.places) coords ≡ value coords
  written_value ranges value text is coords below h = elim (cases_eq (value coords) a.zero) [
    | inl zero' ↦ (value_not_among value is.places coords (λ among. ((is.exact coords).0 among).1 zero') ∙ sym zero')
    | inr some ↦ value_among value is.places coords is.increasing ((is.exact coords).1 (below, some)) h
  ]

  pub written_zero : (ranges : List ℕ) (value : List ℕ → ℕ) (text : List ℕ) (is : IsTnsText a signed ranges value text) (coords : List ℕ)
      → (IsBelow ranges coords → ⊥) → value_at a (entries_at value is.places) coords ≡ a.zero
  written_zero ranges value text is coords outside = value_not_among value is.places coords (λ among. outside ((is.exact coords).0 among).0)

pub written_stands : (a : Arithmetic) (signed : Bool) → Laws a → (ranges : List ℕ) (value : List ℕ → ℕ) (text : List ℕ)
    → IsTnsText a signed ranges value text
    → length ranges ≤ greatest_order → All (λ range. range ≤ greatest_file_coordinate) ranges
    → ((coords : List ℕ) → IsBelow ranges coords → value coords < 2 ^ 64)
    → (signed ≡ false → (coords : List ℕ) → IsBelow ranges coords → value coords ≢ a.zero → value coords < 2 ^ 63)
    → StandsFor a ranges value (entries_of_text signed (length ranges) text)
written_stands a signed laws ranges value text is few within words short =
    subst (StandsFor a ranges value) (sym (text_read a signed ranges value text is few within words short)) (
      λ coords below. written_value a signed laws ranges value text is coords below (words coords below),
      λ coords outside. written_zero a signed laws ranges value text is coords outside,
    )
