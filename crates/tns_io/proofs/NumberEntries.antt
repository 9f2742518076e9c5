-- Lemmas about what specs/Plain.antt defines: the numbers and the value of a line are its entry.
use Rattle.std.specs.Prelude.{◌≡◌, ℕ, zero, suc, ℤ, ◌+◌, ◌-◌, ◌<◌, ◌≤◌, Bool, cond}
use Rattle.std.specs.Prelude.{List, [], ◌∷◌, ◌++◌, length, map, Some, Ok, Err}
use Rattle.std.proofs.Common.{arith, ap, sym, ◌∙◌, length-append}
use Rattle.std.proofs.lemmas.Bool.{lt-ltb}
use Rattle.std.proofs.lemmas.List.{length-map}
use Rattle.limits.specs.Limits.{greatest_file_coordinate}
use Rattle.text_lines.specs.Numbers.{number_of}
use Rattle.text_lines.specs.Plain.{AreNumbers}
use Rattle.text_lines.specs.declared.line_kind.LineKind.TheVariants.{NumRange}
use Rattle.tns_io.specs.Fields.{IsEntryOf}
use Rattle.tns_io.specs.Plain.{CountFromZero}
use Rattle.tns_io.specs.Reading.{coordinate_from, entry_of, value_alone, value_from, value_of, with_first, word_from}
use Rattle.tns_io.proofs.WrittenLaws.{entry_of_more}

-- a number that a coordinate in a file may be
pub coordinate_within : (n : ℕ) → 0 < n → n ≤ greatest_file_coordinate → coordinate_from (Some n) ≡ Ok (n - 1)
coordinate_within zero some within = absurd (omega arith)
coordinate_within (suc c) some within =
    let same : c ≡ suc c - 1 = omega arith in
    ap (λ b. cond b (Ok c) (Err NumRange)) (lt-ltb c greatest_file_coordinate (omega arith)) ∙ ap Ok same

-- tokens that are numbers, and a value behind them
entry_of_words : (signed : Bool) (words : List (List ℕ)) (last numbers coords : List ℕ) (word : ℕ)
    → map number_of words ≡ map Some numbers → CountFromZero numbers coords → value_of signed last ≡ Ok word
    → entry_of signed (words ++ last ∷ []) ≡ Ok (record { coords = coords; value = word })
entry_of_words signed [] last [] [] word are count value = ap value_alone value
entry_of_words signed [] last [] (c ∷ coords) word are count value = absurd (omega (arith, count.long))
entry_of_words signed [] last (n ∷ numbers) coords word are count value = absurd (cc)
entry_of_words signed (w ∷ words) last [] coords word are count value = absurd (cc)
entry_of_words signed (w ∷ words) last (n ∷ numbers) [] word are count value = absurd (omega (arith, count.long))
entry_of_words signed (w ∷ words) last (n ∷ numbers) (c ∷ coords) word are count value =
    let first : number_of w ≡ Some n = cc in
    let more : map number_of words ≡ map Some numbers = cc in
    let some : 0 < length (words ++ last ∷ []) = omega (arith, length-append words (last ∷ [])) in
    let behind : CountFromZero numbers coords =
    record { long = omega (arith, count.long); each = λ mode h. count.each (suc mode) (omega arith) } in
    entry_of_more signed w (words ++ last ∷ []) some
    ∙ ap (λ r. with_first r (entry_of signed (words ++ last ∷ []))) (ap coordinate_from first ∙ count.each 0 (omega arith))
    ∙ ap (with_first (Ok c)) (entry_of_words signed words last numbers coords word more behind value)

pub numbers_are_entry : (signed : Bool) (ts : List (List ℕ)) (numbers coords : List ℕ) (value : ℤ) (word : ℕ) → AreNumbers ts numbers value
    → CountFromZero numbers coords → Ok word ≡ word_from signed value → IsEntryOf signed (length numbers) ts coords (Ok word)
numbers_are_entry signed ts numbers coords value word are count word_is = (
  ap length are.tokens_are
      ∙ length-append are.words (are.last ∷ [])
      ∙ ap (λ n. n + 1) (sym (length-map are.words number_of) ∙ ap length are.numbers_are ∙ length-map numbers Some),
  ap (entry_of signed) are.tokens_are
      ∙ entry_of_words signed are.words are.last numbers coords word are.numbers_are count
      (ap (value_from signed) are.value_is ∙ sym word_is),
)
