-- Lemmas about what specs/Plain.antt defines: what is read from the left is what the line stands for.
use Rattle.std.specs.Prelude.{◌≡◌, ◌⊎◌, ℕ, zero, suc, ℤ, ◌+◌, ◌-◌, ◌^◌, ◌<◌, ◌≤◌, Bool, true, false, not, cond, nat_lt, ◌==◌, List, [], ◌∷◌}
use Rattle.std.specs.Prelude.{◌++◌, length, map, take, drop, slice_set, slice_index_or, Some, None, Ok, Err, refl}
use Rattle.std.specs.List.{All, position, position_or_len}
use Rattle.std.specs.Option.{option_map}
use Rattle.std.specs.Str.{all_ascii_digits}
use Rattle.std.specs.Str.Lines.{strip_carriage_return}
use Rattle.std.specs.Str.Parse.{AllDigits, digits_value}
use Rattle.std.proofs.Common.{arith, ap, sym, subst, ◌∙◌, append_assoc, append-nil, length-append, get_or, inl, inr, lit<}
use Rattle.std.proofs.Math.Nat.{pow-le-pow_right}
use Rattle.std.proofs.Math.Seq.{take-append_seam}
use Rattle.std.proofs.lemmas.Bool.{and_parts, eq-eqb, lt-ltb, ltb-true, ne_eqb, or_from}
use Rattle.std.proofs.lemmas.Grind.{common_steps, flat_map-append}
use Rattle.std.proofs.lemmas.Int.Digits.{digits_value-lt}
use Rattle.std.proofs.lemmas.List.{length-take-le, map-append, take-append-drop, take_more_set}
use Rattle.std.proofs.lemmas.List.Elements.{All-append, All-cons, All-nil}
use Rattle.lists.specs.Blanks.{is_blank}
use Rattle.text_lines.specs.LineLaws.{IsLine}
use Rattle.text_lines.specs.Lines.{is_line_feed}
use Rattle.text_lines.specs.Numbers.{fits_word, is_decimal, is_number, number_of, read_whole_of, whole_of, whole_within, with_sign}
use Rattle.text_lines.specs.Plain.{BeginsWith, BeginsWithValue, EndsLine, IsPlainLine, LeadsWith}
use Rattle.text_lines.specs.PrintedLaws.{IsFilled}
use Rattle.text_lines.specs.TokenLaws.{IsToken, joined_tokens}
use Rattle.text_lines.specs.Tokens.{tokens}
use Rattle.text_lines.specs.declared.num_fault.NumFault.TheVariants.{NumRange}
use Rattle.text_lines.proofs.LineLaws.{bare_line}
use Rattle.text_lines.proofs.NumberLaws.{number_of_numeral, whole_of_minus, whole_of_plain}
use Rattle.text_lines.proofs.PrintedLaws.{digits_filled, filled_token, high_line}
use Rattle.text_lines.proofs.TokenLaws.{tokens_first, tokens_joined}

-- a token that stands for a number is digits
are_digits : (token : List ℕ) (n : ℕ) → number_of token ≡ Some n → is_number token ≡ true
are_digits token n e = by (is_number token) refl e
  where
    by : (b : Bool) → is_number token ≡ b → cond b (Some (digits_value 10 token)) None ≡ Some n → is_number token ≡ true
    by true t h = t
    by false t h = absurd (cc)

pub number_digits : (token : List ℕ) (n : ℕ) → number_of token ≡ Some n → (0 < length token) × (all_ascii_digits token ≡ true)
number_digits token n e =
    let parts = and_parts (nat_lt 0 (length token)) (all_ascii_digits token) (are_digits token n e) in
    (ltb-true 0 (length token) parts.0, parts.1)

pub number_is_token : (token : List ℕ) (n : ℕ) → number_of token ≡ Some n → IsToken token
number_is_token token n e = let digits = number_digits token n e in filled_token token digits.0 (digits_filled token digits.1)

-- a line that begins with such a byte has a token
pub filled_some : (byte : ℕ) (line : List ℕ) → IsFilled byte → 0 < length (tokens (byte ∷ line))
filled_some byte line filled =
    let blank : is_blank byte ≡ false =
    or_from (byte == 32) (byte == 9) (ne_eqb byte 32 (λ e. omega arith)) (ne_eqb byte 9 (λ e. omega arith)) in
    let place : position_or_len is_blank (byte ∷ line) ≡ 1 + position_or_len is_blank line =
    ap (λ b. cond (not b) (1 + position_or_len is_blank line) 0) blank in
    omega (arith, ap length (tokens_first (byte ∷ line) (omega arith)))

-- so many digits stand for a number that has room
pub digits_below : (digits : List ℕ) (count : ℕ) → length digits ≤ count → AllDigits 10 digits → digits_value 10 digits < 10 ^ count
digits_below digits count few all =
    let below : digits_value 10 digits < 10 ^ length digits = digits_value-lt 10 digits all in
    let more : 10 ^ length digits ≤ 10 ^ count = pow-le-pow_right (lit< tt) few in
    omega arith

-- the digits before a place
pub number_begins : (text : List ℕ) (end number : ℕ) → end ≤ length text → end ≤ 18 → 0 < end → AllDigits 10 (take end text)
    → number ≡ digits_value 10 (take end text) → BeginsWith text number (drop end text)
number_begins text end number within few some digits number_is =
    let long : length (take end text) ≡ end = length-take-le end text within in
    let below : digits_value 10 (take end text) < 10 ^ 18 = digits_below (take end text) 18 (omega arith) digits in
    record {
      token = take end text;
      text_is = sym (take-append-drop end text);
      number_is = record {
        is = number_of_numeral (take end text) (omega arith) digits ∙ ap Some (sym number_is);
        small = omega arith;
      };
    }

-- one more number, and the space behind it
leads_more : (text numbers rest behind : List ℕ) (number : ℕ) → LeadsWith text numbers rest → BeginsWith rest number (32 ∷ behind)
    → LeadsWith text (numbers ++ number ∷ []) behind
leads_more text numbers rest behind number leads begins = record {
  words = leads.words ++ begins.token ∷ [];
  text_is = leads.text_is ∙ ap (λ bytes. joined_tokens leads.words ++ bytes) begins.text_is ∙ sym joined;
  numbers_are =
      map-append number_of leads.words (begins.token ∷ [])
      ∙ (λ i. leads.numbers_are i ++ begins.number_is.is i ∷ [])
      ∙ sym (map-append Some numbers (number ∷ []));
}
  where
    joined : joined_tokens (leads.words ++ begins.token ∷ []) ++ behind ≡ joined_tokens leads.words ++ (begins.token ++ 32 ∷ behind)
    joined =
        ap (λ bytes. bytes ++ behind) (flat_map-append (λ (part : List ℕ). part ++ 32 ∷ []) leads.words (begins.token ∷ []))
        ∙ simp append_assoc

-- it is put aside at its place
pub leads_set : (i : ℕ) (text numbers rest behind : List ℕ) (number : ℕ) → i < length numbers → LeadsWith text (take i numbers) rest
    → BeginsWith rest number (32 ∷ behind) → LeadsWith text (take (i + 1) (slice_set numbers i number)) behind
leads_set i text numbers rest behind number within leads begins =
    subst (λ (ns : List ℕ). LeadsWith text ns behind) (sym (take_more_set numbers i number within))
    (leads_more text (take i numbers) rest behind number leads begins)

-- digits with a minus or none are a value
fits : (negative : Bool) (n : ℕ) → n < 2 ^ 63 → fits_word (with_sign negative n) ≡ true
fits false n h = lt-ltb n (2 ^ 63) h
fits true zero h = lt-ltb 0 (2 ^ 63) h
fits true (suc n) h = lt-ltb n (2 ^ 63) (omega arith)

whole_is_read : (token : List ℕ) (negative : Bool) (n : ℕ) → whole_of token ≡ Some (with_sign negative n) → n < 2 ^ 63
    → read_whole_of token ≡ Ok (with_sign negative n)
whole_is_read token negative n e small =
    ap (whole_within (is_decimal token)) e
    ∙ ap (λ b. cond b (Ok (with_sign negative n)) (Err NumRange)) (fits negative n small)

pub plain_begins : (text rest : List ℕ) (n : ℕ) → BeginsWith text n rest → BeginsWithValue text (with_sign false n) rest
plain_begins text rest n begins =
    let digits = number_digits begins.token n begins.number_is.is in
    record {
      token = begins.token;
      text_is = begins.text_is;
      some = digits.0;
      filled = digits_filled begins.token digits.1;
      value_is =
          whole_is_read begins.token false n
          (whole_of_plain begins.token digits.1 ∙ ap (option_map (with_sign false)) begins.number_is.is) begins.number_is.small;
    }

pub minus_begins : (text behind rest : List ℕ) (n : ℕ) → text ≡ 45 ∷ behind → BeginsWith behind n rest
    → BeginsWithValue text (with_sign true n) rest
minus_begins text behind rest n text_is begins =
    let digits = number_digits begins.token n begins.number_is.is in
    record {
      token = 45 ∷ begins.token;
      text_is = text_is ∙ ap (λ (bytes : List ℕ). 45 ∷ bytes) begins.text_is;
      some = omega arith;
      filled = All-cons IsFilled 45 begins.token (omega arith) (digits_filled begins.token digits.1);
      value_is =
          whole_is_read (45 ∷ begins.token) true n
          (whole_of_minus begins.token digits.1 ∙ ap (option_map (with_sign true)) begins.number_is.is) begins.number_is.small;
    }

-- tokens that are numbers, and the bytes of a line of them
words_are_tokens : (words : List (List ℕ)) (numbers : List ℕ) → map number_of words ≡ map Some numbers → All IsToken words
words_are_tokens [] numbers e = All-nil IsToken
words_are_tokens (word ∷ words) [] e = absurd (cc)
words_are_tokens (word ∷ words) (n ∷ numbers) e =
    let first : number_of word ≡ Some n = cc in
    let more : map number_of words ≡ map Some numbers = cc in
    All-cons IsToken word words (number_is_token word n first) (words_are_tokens words numbers more)

abbrev IsHigh : ℕ → Type 0
IsHigh byte = 13 < byte

filled_high : (text : List ℕ) → All IsFilled text → All IsHigh text
filled_high text all = λ k d h. let filled = all k d h in omega (arith, filled)

joined_high : (words : List (List ℕ)) (numbers : List ℕ) → map number_of words ≡ map Some numbers → All IsHigh (joined_tokens words)
joined_high [] numbers e = All-nil IsHigh
joined_high (word ∷ words) [] e = absurd (cc)
joined_high (word ∷ words) (n ∷ numbers) e =
    let first : number_of word ≡ Some n = cc in
    let more : map number_of words ≡ map Some numbers = cc in
    All-append IsHigh (word ++ 32 ∷ []) (joined_tokens words)
    (All-append IsHigh word (32 ∷ []) (filled_high word (digits_filled word (number_digits word n first).1))
    (All-cons IsHigh 32 [] (omega arith) (All-nil IsHigh)))
    (joined_high words numbers more)

-- a line without the carriage return behind it
strip_return : (line return : List ℕ) → IsLine line → (return ≡ []) ⊎ (return ≡ 13 ∷ []) → strip_carriage_return (line ++ return) ≡ line
strip_return line return is (inl e) =
    ap (λ (bytes : List ℕ). strip_carriage_return (line ++ bytes)) e
    ∙ ap strip_carriage_return (append-nil line)
    ∙ bare_line line is.bare
strip_return line return is (inr e) = ap (λ (bytes : List ℕ). strip_carriage_return (line ++ bytes)) e ∙ stripped
  where
    stripped : strip_carriage_return (line ++ 13 ∷ []) ≡ line
    stripped =
        let last : get_or (line ++ 13 ∷ []) (length (line ++ 13 ∷ []) - 1) 0 ≡ 13 = grind (arith, common_steps) in
        let front : take (length (line ++ 13 ∷ []) - 1) (line ++ 13 ∷ []) ≡ line = grind (arith, common_steps) in
        ap (λ b. cond b (take (length (line ++ 13 ∷ []) - 1) (line ++ 13 ∷ [])) (line ++ 13 ∷ [])) (eq-eqb _ 13 last) ∙ front

return_free : (return : List ℕ) → (return ≡ []) ⊎ (return ≡ 13 ∷ []) → All (λ byte. is_line_feed byte ≡ false) return
return_free return (inl e) =
    subst (λ (bytes : List ℕ). All (λ byte. is_line_feed byte ≡ false) bytes) (sym e) (All-nil (λ byte. is_line_feed byte ≡ false))
return_free return (inr e) =
    subst (λ (bytes : List ℕ). All (λ byte. is_line_feed byte ≡ false) bytes) (sym e)
    (All-cons (λ byte. is_line_feed byte ≡ false) 13 [] refl (All-nil (λ byte. is_line_feed byte ≡ false)))

-- the first byte that passes stands behind those that don't
place_behind : (front rest : List ℕ) → All (λ byte. is_line_feed byte ≡ false) front
    → position_or_len is_line_feed (front ++ 10 ∷ rest) ≡ length front
place_behind [] rest free = refl
place_behind (x ∷ front) rest free =
    let here : is_line_feed x ≡ false = free 0 x (omega arith) in
    let more : 1 + position_or_len is_line_feed (front ++ 10 ∷ rest) ≡ suc (length front) =
    omega (arith, place_behind front rest (λ k d h. free (suc k) d (omega arith))) in
    ap (λ b. cond (not b) (1 + position_or_len is_line_feed (front ++ 10 ∷ rest)) 0) here ∙ more

feed_behind : (front rest : List ℕ) → All (λ byte. is_line_feed byte ≡ false) front
    → Some (length front) ≡ position is_line_feed (front ++ 10 ∷ rest)
feed_behind front rest free =
    let xs : List ℕ = front ++ 10 ∷ rest in
    let place : ℕ = position_or_len is_line_feed xs in
    let at : place ≡ length front = place_behind front rest free in
    let long : length xs ≡ length front + suc (length rest) = length-append front (10 ∷ rest) in
    ap Some (sym at) ∙ sym (ap (λ b. cond b (Some place) None) (lt-ltb place (length xs) (omega arith)))

-- numbers, a value behind them and the line's end
module _ (text numbers rest behind : List ℕ) (value : ℤ) (count : ℕ) (leads : LeadsWith text numbers rest)
    (begins : BeginsWithValue rest value behind) (ends : EndsLine behind count) where
  abbrev line : List ℕ
  line = joined_tokens leads.words ++ begins.token

  abbrev whole : List ℕ
  whole = line ++ ends.return

  text_is : text ≡ whole ++ 10 ∷ ends.rest
  text_is =
      leads.text_is
      ∙ ap (λ bytes. joined_tokens leads.words ++ bytes) (begins.text_is ∙ ap (λ bytes. begins.token ++ bytes) ends.text_is)
      ∙ sym (append_assoc (joined_tokens leads.words) begins.token (ends.return ++ 10 ∷ ends.rest))
      ∙ sym (append_assoc line ends.return (10 ∷ ends.rest))

  is_line : IsLine line
  is_line =
      high_line line (All-append IsHigh (joined_tokens leads.words) begins.token (joined_high leads.words numbers leads.numbers_are)
      (filled_high begins.token begins.filled))

  free : All (λ byte. is_line_feed byte ≡ false) whole
  free =
      All-append (λ byte. is_line_feed byte ≡ false) line ends.return
      (λ k d h. ne_eqb (slice_index_or line k d) 10 (is_line.one k d h)) (return_free ends.return ends.bare)

  end_is : length text - length behind + count ≡ length whole
  end_is =
      let all : length text ≡ length whole + suc (length ends.rest) = ap length text_is ∙ length-append whole (10 ∷ ends.rest) in
      let more : length whole ≡ length line + length ends.return = length-append line ends.return in
      let left : length behind ≡ length ends.return + suc (length ends.rest) =
      ap length ends.text_is ∙ length-append ends.return (10 ∷ ends.rest) in
      omega (arith, ends.long)

  pub plain_line : IsPlainLine text numbers (length text - length behind + count) value
  plain_line = record {
    ends =
        ap Some end_is
        ∙ feed_behind whole ends.rest free
        ∙ ap (position is_line_feed) (sym text_is);
    numbers_are = record {
      words = leads.words;
      last = begins.token;
      tokens_are =
          ap (λ bytes. tokens (strip_carriage_return bytes))
          ((λ i. take (end_is i) (text_is i)) ∙ take-append_seam whole (10 ∷ ends.rest))
          ∙ ap tokens (strip_return line ends.return is_line ends.bare)
          ∙ tokens_joined leads.words begins.token (words_are_tokens leads.words numbers leads.numbers_are)
          (filled_token begins.token begins.some begins.filled);
      numbers_are = leads.numbers_are;
      value_is = begins.value_is;
    };
  }
