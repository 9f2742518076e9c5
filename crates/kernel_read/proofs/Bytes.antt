-- Bytes and numbers at a place of a line.
use Rattle.std.specs.Prelude.{◌≡◌, ℕ, zero, suc, ◌+◌, ◌^◌, ◌<◌, ◌≤◌, Bool, true, false, cond, nat_eq, nat_lt, nat_le, List, [], ◌∷◌}
use Rattle.std.specs.Prelude.{◌++◌}
use Rattle.std.specs.Prelude.{length, take, drop, get_or, slice_index, Result, Ok, Err, Some, None, refl}
use Rattle.std.specs.Char.{is_ascii_digit}
use Rattle.std.specs.Fmt.{decimal}
use Rattle.std.specs.List.{starts_with}
use Rattle.std.specs.Str.{all_ascii_digits}
use Rattle.std.specs.Str.Parse.{digits_value}
use Rattle.std.proofs.Common.{◌∙◌, ap, sym, subst, arith}
use Rattle.std.proofs.lemmas.Bool.{and_parts, and_from, leb-true, le-leb, ltb-true}
use Rattle.std.proofs.lemmas.Bool.Decides.{Decides-eqb}
use Rattle.std.proofs.lemmas.Fmt.{digits_decimal, decimal-digits_value, decimal_digit, first_decimal}
use Rattle.std.proofs.lemmas.List.{append_cancel_left, length-drop, drop-drop, take-append-drop, drop_more}
use Rattle.std.proofs.lemmas.Slice.Eq.{starts_is}
use Rattle.text_lines.proofs.NumberLaws.{digits_model, number_of_decimal}
use Rattle.text_lines.specs.Numbers.{index_within, is_number, number_of, read_index_of}
use Rattle.text_lines.specs.declared.num_fault.NumFault.{NumFault}
use Rattle.text_lines.specs.declared.num_fault.NumFault.TheVariants.{NumRange}
use Rattle.kernel_print.specs.ArrayNames.{BeginsWithoutDigit, IsWord}
use Rattle.kernel_print.proofs.ArrayNames.{all_first}
use Rattle.kernel_read.specs.Reading.{Stands}
use Rattle.kernel_read.proofs.Plain.{digits_same}

pub within_line : (line : List ℕ) (at count : ℕ) → at ≤ length line → count ≤ length (drop at line) → at + count ≤ length line
within_line line at count h k = let l = length-drop at line in omega (arith, h, k, l)

pub no_both : (r : Bool) → r ≡ true → r ≡ false → ⊥
no_both r is_so isnt = cc

here : (line bytes : List ℕ) (at : ℕ) (r : Bool) → at ≤ length line → r ≡ starts_with nat_eq (drop at line) bytes
    → length bytes ≤ length (drop at line) → r ≡ true → Stands line at bytes (at + length bytes)
here line bytes at r h told k is_so = record {
  behind = omega arith;
  within = within_line line at (length bytes) h k;
  goes_on =
      (starts_is Decides-eqb (drop at line) bytes r told).0 is_so ∙ ap (λ (x : List ℕ). bytes ++ x) (drop-drop (length bytes) at line);
}

pub stands_here : (line bytes text : List ℕ) (at : ℕ) (r : Bool) → text ≡ drop at line → at ≤ length line
    → r ≡ starts_with nat_eq text bytes → length bytes ≤ length text → r ≡ true → Stands line at bytes (at + length bytes)
stands_here line bytes text at r is h told k is_so =
    here line bytes at r h (told ∙ ap (λ (t : List ℕ). starts_with nat_eq t bytes) is)
    (subst (λ (t : List ℕ). length bytes ≤ length t) is k) is_so

pub stands_not : (line bytes text : List ℕ) (at : ℕ) (r : Bool) → text ≡ drop at line → r ≡ starts_with nat_eq text bytes → r ≡ false
    → (rest : List ℕ) → drop at line ≡ bytes ++ rest → ⊥
stands_not line bytes text at r is told isnt rest same =
    no_both r ((starts_is Decides-eqb text bytes r told).1 rest (is ∙ same)) isnt

-- what stands behind bytes that stand there
pub behind_told : (line : List ℕ) (at : ℕ) (bytes : List ℕ) (next : ℕ) (rest : List ℕ) → Stands line at bytes next
    → drop at line ≡ bytes ++ rest → drop next line ≡ rest
behind_told line at bytes next rest stands same = append_cancel_left bytes (drop next line) rest (sym stands.goes_on ∙ same)

pub not_last : (line : List ℕ) (at : ℕ) (bytes : List ℕ) (next : ℕ) → Stands line at bytes next
    → (BeginsWithoutDigit (drop next line) → ⊥) → (rest : List ℕ) → BeginsWithoutDigit rest → drop at line ≡ bytes ++ rest → ⊥
not_last line at bytes next stands isnt rest plain same =
    isnt (subst BeginsWithoutDigit (sym (behind_told line at bytes next rest stands same)) plain)

pub digits_more : (text : List ℕ) (i : ℕ) → i < length text → all_ascii_digits (take i text) ≡ true
    → is_ascii_digit (get_or text i 0) ≡ true → all_ascii_digits (take (suc i) text) ≡ true
digits_more [] i h all digit = absurd (omega (arith, h))
digits_more (byte ∷ text) zero h all digit = and_from (is_ascii_digit byte) true digit refl
digits_more (byte ∷ text) (suc i) h all digit =
    let parts = all_first byte (take i text) all in
    and_from (is_ascii_digit byte) (all_ascii_digits (take (suc i) text)) parts.0
    (digits_more text i (omega (arith, h)) parts.1 digit)

pub digits_next : (text : List ℕ) (i : ℕ) → i < length text → all_ascii_digits (take i text) ≡ true
    → is_ascii_digit (get_or text i 0) ≡ true → all_ascii_digits (take (i + 1) text) ≡ true
digits_next text i h all digit =
    let next : i + 1 ≡ suc i = omega arith in
    ap (λ n. all_ascii_digits (take n text)) next ∙ digits_more text i h all digit

pub digits_stop : (text : List ℕ) (i : ℕ) → i < length text → is_ascii_digit (get_or text i 0) ≡ false → BeginsWithoutDigit (drop i text)
digits_stop text i h isnt = subst BeginsWithoutDigit (sym (drop_more text i 0 h)) isnt

abbrev same_result : ℕ → Result ℕ NumFault → Type 0
same_result n r = Ok n ≡ r

-- a number that was read from digits is printed as them
ok_is : (n v : ℕ) (b : Bool) → same_result n (cond b (Ok v) (Err NumRange)) → (b ≡ true) × (n ≡ v)
ok_is n v true same = (refl, let it : n ≡ v = cc in it)
ok_is n v false same = absurd (cc)

number_is : (greatest n v : ℕ) (b : Bool) → Ok n ≡ index_within greatest (cond b (Some v) None)
    → (b ≡ true) × ((nat_le v greatest ≡ true) × (n ≡ v))
number_is greatest n v true same = (refl, ok_is n v (nat_le v greatest) same)
number_is greatest n v false same = absurd (cc)

pub number_found : (greatest : ℕ) (digits : List ℕ) (n : ℕ) → greatest < 2 ^ 64 → Ok n ≡ read_index_of greatest digits
    → (slice_index digits 0 ≡ 48 → length digits ≤ 1) → (decimal n ≡ digits) × IsWord n
number_found greatest digits n small same first =
    let v = digits_value 10 digits in
    let told = number_is greatest n v (is_number digits) same in
    let parts = and_parts (nat_lt 0 (length digits)) (all_ascii_digits digits) told.0 in
    let some : 0 < length digits = ltb-true 0 (length digits) parts.0 in
    let most : v ≤ greatest = leb-true v greatest told.1.0 in
    let word : v < 2 ^ 64 = omega (arith, most, small) in
    let one : get_or digits 0 0 ≡ 48 → length digits ≡ 1 = λ e. antisym (length digits) some (first e) in (
      ap decimal told.1.1 ∙ decimal-digits_value digits_model digits parts.1 some one word,
      subst IsWord (sym told.1.1) word,
    )
  where
    antisym : (m : ℕ) → 0 < m → m ≤ 1 → m ≡ 1
    antisym m h k = omega (arith, h, k)

stands_so : (line : List ℕ) (at count n : ℕ) → at ≤ length line → count ≤ length (drop at line)
    → decimal n ≡ take count (drop at line) → IsWord n → BeginsWithoutDigit (drop count (drop at line))
    → IsWord n × Stands line at (decimal n) (at + count) × BeginsWithoutDigit (drop (at + count) line)
stands_so line at count n h k same word plain =
    let further = drop-drop count at line in (
      word,
      record {
        behind = omega arith;
        within = within_line line at count h k;
        goes_on =
            sym (take-append-drop count (drop at line)) ∙ ap (λ (x : List ℕ). x ++ drop count (drop at line)) (sym same)
            ∙ ap (λ (x : List ℕ). decimal n ++ x) further;
      },
      subst BeginsWithoutDigit further plain,
    )

pub number_stands : (line : List ℕ) (at count n : ℕ) (text : List ℕ) → text ≡ drop at line → at ≤ length line → count ≤ length text
    → decimal n ≡ take count text → IsWord n → BeginsWithoutDigit (drop count text)
    → IsWord n × Stands line at (decimal n) (at + count) × BeginsWithoutDigit (drop (at + count) line)
number_stands line at count n text is h k same word plain =
    stands_so line at count n h (subst (λ (t : List ℕ). count ≤ length t) is k) (same ∙ ap (take count) is) word
    (subst (λ (t : List ℕ). BeginsWithoutDigit (drop count t)) is plain)

-- the digits in front are those of the number that stands there
pub number_told : (text : List ℕ) (count n : ℕ) (behind : List ℕ) → all_ascii_digits (take count text) ≡ true
    → BeginsWithoutDigit (drop count text) → IsWord n → BeginsWithoutDigit behind → text ≡ decimal n ++ behind
    → take count text ≡ decimal n
number_told text count n behind all plain word plain' same =
    (digits_same (take count text) (decimal n) (drop count text) behind all (digits_decimal digits_model n word) plain plain'
    (take-append-drop count text ∙ same)).0

no_zero : (n : ℕ) → IsWord n → slice_index (decimal n) 0 ≡ 48 → 1 < length (decimal n) → ⊥
no_zero zero word first more =
    let l : length (decimal 0) ≡ 1 = ap length (decimal_digit 0 (omega arith)) in omega (arith, l, more)
no_zero (suc n) word first more = let l = first_decimal (suc n) (omega arith) word in omega (arith, l, first)

pub not_zero : (digits : List ℕ) (n : ℕ) → digits ≡ decimal n → IsWord n → slice_index digits 0 ≡ 48 → 1 < length digits → ⊥
not_zero digits n same word first more =
    no_zero n word (ap (λ (x : List ℕ). slice_index x 0) (sym same) ∙ first) (subst (λ (x : List ℕ). 1 < length x) same more)

pub not_refused : (greatest : ℕ) (digits : List ℕ) (n : ℕ) (e : NumFault) → 2 ^ 64 ≤ suc greatest → digits ≡ decimal n → IsWord n
    → Err e ≡ read_index_of greatest digits → ⊥
not_refused greatest digits n e large same word refused =
    let most : n ≤ greatest = below greatest n large word in
    let read : read_index_of greatest digits ≡ Ok n =
    ap (λ x. index_within greatest (number_of x)) same ∙ ap (index_within greatest) (number_of_decimal n word)
    ∙ ap (λ b. cond b (Ok n) (Err NumRange)) (le-leb n greatest most) in
    never (refused ∙ read)
  where
    never : Err e ≡ Ok n → ⊥
    never same = cc

    below : (greatest n : ℕ) → 2 ^ 64 ≤ suc greatest → n < 2 ^ 64 → n ≤ greatest
    below greatest n large word = omega (arith, large, word)
