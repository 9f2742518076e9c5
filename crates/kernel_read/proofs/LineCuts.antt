-- Texts without a line feed, and texts that are one line.
use Rattle.std.specs.Prelude.{◌≡◌, ◌≢◌, ℕ, zero, suc, ◌+◌, ◌<◌, ◌≤◌, ◌==◌, Bool, true, false, if◌then◌else◌, List, [], ◌∷◌, ◌++◌}
use Rattle.std.specs.Prelude.{length, take, drop, refl}
use Rattle.std.specs.Char.{is_ascii_digit}
use Rattle.std.specs.Fmt.{decimal}
use Rattle.std.specs.Str.{all_ascii_digits}
use Rattle.std.proofs.Common.{◌∙◌, ap, sym, arith}
use Rattle.std.proofs.lemmas.Fmt.{digits_decimal}
use Rattle.text_lines.proofs.NumberLaws.{digits_model}
use Rattle.kernel_print.specs.ArrayNames.{IsWord}
use Rattle.kernel_print.proofs.ArrayNames.{all_first}
use Rattle.kernel_read.specs.Feeds.{HasNoFeed}
use Rattle.kernel_read.specs.Lines.{IsLine}

-- a text without a line feed, and one that is a line
pub record Feedless (text : List ℕ) : Type 0 where
  pub none : HasNoFeed text

pub record OneLine (text : List ℕ) : Type 0 where
  pub is : IsLine text

append_feedless : (a b : List ℕ) → HasNoFeed a → HasNoFeed b → HasNoFeed (a ++ b)
append_feedless [] b first second = second
append_feedless (byte ∷ a) b first second = (first.0, append_feedless a b first.1 second)

pub no_feed_append : {a b : List ℕ} → Feedless a → Feedless b → Feedless (a ++ b)
no_feed_append {a = a} {b = b} first second = record { none = append_feedless a b first.none second.none }

-- a test of bytes that are written out
abbrev pub is_feedless : List ℕ → Bool
is_feedless [] = true
is_feedless (byte ∷ text) = if byte == 10 then false else is_feedless text

false_true : false ≡ true → ⊥
false_true same = cc

no_feed_byte : (byte : ℕ) → (byte == 10) ≡ false → byte ≢ 10
no_feed_byte byte isnt is = false_true (sym isnt ∙ ap (λ n. n == 10) is)

one_more : (byte : ℕ) (text : List ℕ) (b : Bool) → (byte == 10) ≡ b → (is_feedless text ≡ true → HasNoFeed text)
    → (if b then false else is_feedless text) ≡ true → HasNoFeed (byte ∷ text)
one_more byte text true is rest test = absurd (false_true test)
one_more byte text false is rest test = (no_feed_byte byte is, rest test)

by_test : (text : List ℕ) → is_feedless text ≡ true → HasNoFeed text
by_test [] test = tt
by_test (byte ∷ text) test = one_more byte text (byte == 10) refl (by_test text) test

pub feedless : (text : List ℕ) → is_feedless text ≡ true → Feedless text
feedless text test = record { none = by_test text test }

digit_no_feed : (byte : ℕ) → is_ascii_digit byte ≡ true → byte ≢ 10
digit_no_feed byte digit is = false_true (sym (ap is_ascii_digit is) ∙ digit)

digits_no_feed : (digits : List ℕ) → all_ascii_digits digits ≡ true → HasNoFeed digits
digits_no_feed [] all = tt
digits_no_feed (byte ∷ digits) all =
    let parts = all_first byte digits all in (digit_no_feed byte parts.0, digits_no_feed digits parts.1)

pub number_no_feed : (n : ℕ) → IsWord n → Feedless (decimal n)
number_no_feed n word = record { none = digits_no_feed (decimal n) (digits_decimal digits_model n word) }

-- bytes without a line feed before a line make a line
byte_line : (byte : ℕ) (text : List ℕ) → byte ≢ 10 → IsLine text → IsLine (byte ∷ text)
byte_line byte [] other line = absurd line
byte_line byte (next ∷ text) other line = (other, line)

before_line : (a b : List ℕ) → HasNoFeed a → IsLine b → IsLine (a ++ b)
before_line [] b none line = line
before_line (byte ∷ a) b none line = byte_line byte (a ++ b) none.0 (before_line a b none.1 line)

pub line_after : {a b : List ℕ} → Feedless a → OneLine b → OneLine (a ++ b)
line_after {a = a} {b = b} before line = record { is = before_line a b before.none line.is }

-- one text begins with one line
pub cut_line : (l m r s : List ℕ) → IsLine l → IsLine m → l ++ r ≡ m ++ s → (l ≡ m) × (r ≡ s)
cut_line [] m r s line line' same = absurd line
cut_line (b ∷ l) [] r s line line' same = absurd line'
cut_line (b ∷ []) (c ∷ []) r s line line' same = (let it : b ∷ [] ≡ c ∷ [] = cc in it, let it : r ≡ s = cc in it)
cut_line (b ∷ []) (c ∷ d ∷ m) r s line line' same = absurd (line'.0 (let it : c ≡ 10 = cc in it))
cut_line (b ∷ d ∷ l) (c ∷ []) r s line line' same = absurd (line.0 (let it : b ≡ 10 = cc in it))
cut_line (b ∷ d ∷ l) (c ∷ e ∷ m) r s line line' same =
    let rest : (d ∷ l) ++ r ≡ (e ∷ m) ++ s = cc in
    let parts = cut_line (d ∷ l) (e ∷ m) r s line.1 line'.1 rest in
    let first : d ∷ l ≡ e ∷ m = parts.0 in
    (let it : b ∷ d ∷ l ≡ c ∷ e ∷ m = cc in it, parts.1)

-- no line stands in a text without a line feed
pub no_line_in : (piece line more : List ℕ) → HasNoFeed piece → IsLine line → piece ≡ line ++ more → ⊥
no_line_in [] [] more none line same = line
no_line_in [] (b ∷ line) more none is same = let it : ⊥ = cc in it
no_line_in (c ∷ piece) [] more none line same = line
no_line_in (c ∷ piece) (b ∷ []) more none line same = none.0 (let it : c ≡ 10 = cc in it)
no_line_in (c ∷ piece) (b ∷ d ∷ line) more none is same =
    no_line_in piece (d ∷ line) more none.1 is.1 (let it : piece ≡ (d ∷ line) ++ more = cc in it)

-- the front of a text, and a line that stands behind it
pub take_both : (at count : ℕ) (text : List ℕ) → at ≤ length text → take (at + count) text ≡ take at text ++ take count (drop at text)
take_both zero count text h = ap (λ (n : ℕ). take n text) (zero_is count)
  where
    zero_is : (n : ℕ) → 0 + n ≡ n
    zero_is n = omega arith
take_both (suc at) count [] h = absurd (omega (arith, h))
take_both (suc at) count (byte ∷ text) h =
    ap (λ (n : ℕ). take n (byte ∷ text)) (more_is at count)
    ∙ ap (λ (t : List ℕ). byte ∷ t) (take_both at count text (omega (arith, h)))
  where
    more_is : (n m : ℕ) → suc n + m ≡ suc (n + m)
    more_is n m = omega arith

pub line_counts : (count : ℕ) (text : List ℕ) → IsLine (take count text) → 0 < count
line_counts zero text line = absurd line
line_counts (suc n) text line = omega arith
