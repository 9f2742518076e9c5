-- The lines of levels, as they are appended.
use Rattle.std.specs.Prelude.{◌≡◌, ℕ, zero, suc, ◌+◌, Bool, codes, List, [], ◌∷◌, ◌++◌, length, drop, Option, Some, None, slice_get, refl}
use Rattle.std.specs.List.{flat_map}
use Rattle.std.proofs.Common.{◌∙◌, sym, ap, add-one, append_assoc, append-nil}
use Rattle.std.proofs.lemmas.Grind.{flat_map-append}
use Rattle.std.proofs.lemmas.Option.{same_Some}
use Rattle.std.specs.Fmt.{decimal}
use Rattle.kernel_code.specs.Meaning.{length_of, word_at}
use Rattle.format_spec.specs.Words.{letter_byte, format_text}
use Rattle.level_core.specs.declared.letter.Letter.{Letter}
use Rattle.level_core.specs.declared.arrays.LevelArray.{LevelArray}
use Rattle.tensor_storage.specs.declared.level.StorageLevel.{StorageLevel}
use Rattle.tensor_storage.specs.Storages.{Storage}
use Rattle.storage_text.specs.StoreText.{value_text, head_text, all_words, words_line, line_of, level_lines, lines_from, text_of}
use Rattle.storage_text.specs.StoreText.{first_line, values_line, store_text}
use Rattle.text_lines.proofs.ListTexts.{get_drop}

pub text_behind : (front back : List (List ℕ)) → text_of (front ++ back) ≡ text_of front ++ text_of back
text_behind front back = flat_map-append (λ (line : List ℕ). line ++ 10 ∷ []) front back

-- what a line of a level begins with, in pieces
pub head_is : (number : ℕ) (letter : Letter) (bytes word : List ℕ) → bytes ≡ 32 ∷ letter_byte letter ∷ []
    → codes "level " ++ (decimal number ++ (bytes ++ word)) ≡ head_text number letter ++ word
head_is number letter bytes word is =
    ap (λ (b : List ℕ). codes "level " ++ (decimal number ++ (b ++ word))) is
    ∙ ap (λ (t : List ℕ). codes "level " ++ t) (sym (append_assoc (decimal number) (codes " " ++ letter_byte letter ∷ []) word))

-- one line in pieces
pub line_is : (a b c : List ℕ) → (a ++ b) ++ (c ++ 10 ∷ []) ≡ text_of ((a ++ (b ++ c)) ∷ [])
line_is a b c =
    sym (append_assoc (a ++ b) c (10 ∷ [])) ∙ ap (λ (t : List ℕ). t ++ 10 ∷ []) (append_assoc a b c)
    ∙ sym (append-nil ((a ++ (b ++ c)) ++ 10 ∷ []))

-- the lines of four arrays
pub four_lines : (a b c d : List (List ℕ))
    → text_of a ++ (text_of b ++ (text_of c ++ text_of d)) ≡ text_of (a ++ (b ++ (c ++ d)))
four_lines a b c d =
    ap (λ (t : List ℕ). text_of a ++ (text_of b ++ t)) (sym (text_behind c d))
    ∙ ap (λ (t : List ℕ). text_of a ++ t) (sym (text_behind b (c ++ d))) ∙ sym (text_behind a (b ++ (c ++ d)))

-- the line of an array that is there
pub line_there : (number : ℕ) (letter : Letter) (array : LevelArray) (o : Option (List ℕ)) (count : ℕ) → length_of o ≡ Some count
    → text_of (words_line number letter array (all_words o) ∷ []) ≡ text_of (line_of number letter array o)
line_there number letter array None count h = absurd (cc)
line_there number letter array (Some words) count h = refl

pub no_line : (number : ℕ) (letter : Letter) (array : LevelArray) (o : Option (List ℕ)) → length_of o ≡ None
    → [] ≡ text_of (line_of number letter array o)
no_line number letter array None h = refl
no_line number letter array (Some words) h = absurd (cc)

-- the words of an array, by their number and place
pub words_many : (o : Option (List ℕ)) (count : ℕ) → length_of o ≡ Some count → length (all_words o) ≡ count
words_many None count h = absurd (cc)
words_many (Some words) count h = same_Some (length words) count h

pub word_there : (o : Option (List ℕ)) (at word : ℕ) → slice_get (all_words o) at ≡ Some word → word_at o (Some at) ≡ Some word
word_there None zero word h = absurd (cc)
word_there None (suc at) word h = absurd (cc)
word_there (Some words) at word h = h

-- the lines from a level on
pub lines_step : (levels : List StorageLevel) (i : ℕ) (l : StorageLevel) → slice_get levels i ≡ Some l
    → text_of (lines_from (i + 1) (drop i levels))
    ≡ text_of (level_lines (i + 1) l) ++ text_of (lines_from (i + 1 + 1) (drop (i + 1) levels))
lines_step levels i l h =
    ap (λ (ls : List StorageLevel). text_of (lines_from (i + 1) ls)) (get_drop levels i l h)
    ∙ text_behind (level_lines (i + 1) l) (lines_from (suc (i + 1)) (drop (suc i) levels))
    ∙ ap (λ (k : ℕ). text_of (level_lines (i + 1) l) ++ text_of (lines_from k (drop (suc i) levels))) (sym (add-one (i + 1)))
    ∙ ap (λ (k : ℕ). text_of (level_lines (i + 1) l) ++ text_of (lines_from (i + 1 + 1) (drop k levels))) (sym (add-one i))

-- the line of the values, and that of the name and format, in pieces
pub values_is : (signed : Bool) (s : Storage)
    → codes "val" ++ (flat_map (value_text signed) s.values ++ 10 ∷ []) ≡ text_of (values_line signed s ∷ [])
values_is signed s = sym (append-nil (codes "val" ++ (flat_map (value_text signed) s.values ++ 10 ∷ [])))

pub first_is : (number : ℕ) (name : List ℕ) (s : Storage)
    → (codes "T" ++ (decimal number ++ (codes " = " ++ name))) ++ (codes ":" ++ (format_text s.format ++ 10 ∷ []))
    ≡ text_of (first_line number name s ∷ [])
first_is number name s =
    let x : List ℕ = decimal number in
    let a : List ℕ = codes ":" ++ format_text s.format in
    ap (λ (t : List ℕ). codes "T" ++ t) (append_assoc x (codes " = " ++ name) (a ++ 10 ∷ []))
    ∙ ap (λ (t : List ℕ). codes "T" ++ (x ++ (codes " = " ++ t))) (sym (append_assoc name a (10 ∷ [])))
    ∙ ap (λ (t : List ℕ). codes "T" ++ t) (sym (append_assoc x (codes " = " ++ (name ++ a)) (10 ∷ [])))
    ∙ sym (append-nil (first_line number name s ++ 10 ∷ []))

-- the whole text, in pieces
pub store_is : (signed : Bool) (number : ℕ) (name : List ℕ) (s : Storage)
    → text_of (first_line number name s ∷ []) ++ (text_of (lines_from 1 s.levels) ++ text_of (values_line signed s ∷ []))
    ≡ store_text signed number name s
store_is signed number name s =
    ap (λ (t : List ℕ). text_of (first_line number name s ∷ [])
    ++ t) (sym (text_behind (lines_from 1 s.levels) (values_line signed s ∷ [])))
    ∙ sym (text_behind (first_line number name s ∷ []) (lines_from 1 s.levels ++ values_line signed s ∷ []))
