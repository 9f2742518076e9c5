-- What a word says, by where its name ends.
use Rattle.std.specs.Prelude.{◌≡◌, ◌≢◌, ℕ, zero, suc, ◌+◌, ◌<◌, ◌==◌, Bool, true, false, not, ◌&&◌, List, [], ◌∷◌, ◌++◌, length, take, drop}
use Rattle.std.specs.Prelude.{Option, Some, None, slice_get, get_or, nat_lt, refl}
use Rattle.std.specs.Char.{is_ascii_alphabetic}
use Rattle.std.specs.Option.{option_map}
use Rattle.std.specs.List.{position, position_or_len, before_first, after_first, list_all}
use Rattle.std.proofs.Common.{sym, ◌∙◌, ap, ap₂, arith, cond}
use Rattle.std.proofs.lemmas.List.{length-append, take_all}
use Rattle.std.proofs.lemmas.Bool.Decides.{nat_tests}
use Rattle.lists.proofs.Tests.{both_true}
use Rattle.index_notation.specs.Tokens.{goes_on}
use Rattle.bindings.specs.Words.{ends_name, is_name, format_text_of, said_behind, said_of}

-- letters that go on are passed, and the byte behind them ends the name
name_ends : (name : List ℕ) (mark : ℕ) (rest : List ℕ) → list_all goes_on name ≡ true → goes_on mark ≡ false
    → position_or_len ends_name (name ++ mark ∷ rest) ≡ length name
name_ends [] mark rest all ends = ap (λ b. cond (not (not b)) (1 + position_or_len ends_name rest) 0) ends
name_ends (byte ∷ name) mark rest all ends =
    let both = both_true (goes_on byte) (list_all goes_on name) all in
    let more : 1 + length name ≡ suc (length name) = omega arith in
    ap (λ b. cond (not (not b)) (1 + position_or_len ends_name (name ++ mark ∷ rest)) 0) both.0
    ∙ ap (λ n. 1 + n) (name_ends name mark rest both.1 ends) ∙ more

-- a letter goes on
letter_goes_on : (byte : ℕ) → is_ascii_alphabetic byte ≡ true → goes_on byte ≡ true
letter_goes_on byte h = grind (arith, nat_tests)

name_goes_on : (name : List ℕ) → is_name name ≡ true → list_all goes_on name ≡ true
name_goes_on [] h = refl
name_goes_on (byte ∷ name) h =
    let both = both_true (is_ascii_alphabetic byte) (list_all goes_on name) h in
    ap₂ (λ a b. a && b) (letter_goes_on byte both.0) both.1

at_front : (name rest : List ℕ) → take (length name) (name ++ rest) ≡ name
at_front [] rest = refl
at_front (byte ∷ name) rest = ap (λ bytes. byte ∷ bytes) (at_front name rest)

behind_front : (name rest : List ℕ) (n : ℕ) → drop (length name + n) (name ++ rest) ≡ drop n rest
behind_front [] rest n = let none : 0 + n ≡ n = omega arith in ap (λ k. drop k rest) none
behind_front (byte ∷ name) rest n =
    let more : suc (length name) + n ≡ suc (length name + n) = omega arith in
    ap (λ k. drop k (byte ∷ (name ++ rest))) more ∙ behind_front name rest n

mark_there : (name : List ℕ) (mark : ℕ) (rest : List ℕ) → slice_get (name ++ mark ∷ rest) (length name) ≡ Some mark
mark_there [] mark rest = refl
mark_there (byte ∷ name) mark rest = mark_there name mark rest

-- what a word says whose name ends at this byte
pub said_at : (name : List ℕ) (mark : ℕ) (rest word : List ℕ) → is_name name ≡ true → goes_on mark ≡ false → word ≡ name ++ mark ∷ rest
    → said_of word ≡ said_behind name (Some mark) rest
said_at name mark rest word named ends is =
    let place = name_ends name mark rest (name_goes_on name named) ends in
    let whole : List ℕ = name ++ mark ∷ rest in
    let front : before_first ends_name whole ≡ name = ap (λ n. take n whole) place ∙ at_front name (mark ∷ rest) in
    let there : slice_get whole (position_or_len ends_name whole) ≡ Some mark = ap (slice_get whole) place ∙ mark_there name mark rest in
    let behind : after_first ends_name whole ≡ rest = ap (λ n. drop (n + 1) whole) place ∙ behind_front name (mark ∷ rest) 1 in
    let passes : is_name (before_first ends_name whole) ≡ true = ap is_name front ∙ named in
    ap said_of is ∙ ap (λ b. cond b
    (said_behind (before_first ends_name whole) (slice_get whole (position_or_len ends_name whole)) (after_first ends_name whole)) None)
    passes
    ∙ ap₂ (λ a b. said_behind a b (after_first ends_name whole)) front there ∙ ap (said_behind name (Some mark)) behind

-- no name stands before this mark
abbrev pub Unmarked : List ℕ → ℕ → Type 0
Unmarked word mark = (name rest : List ℕ) → is_name name ≡ true → word ≡ name ++ mark ∷ rest → ⊥

split_there : (word : List ℕ) (n mark : ℕ) → slice_get word n ≡ Some mark → word ≡ take n word ++ mark ∷ drop (n + 1) word
split_there [] n mark is = cc
split_there (byte ∷ word) zero mark is = let same : byte ≡ mark = cc in ap (λ b. b ∷ word) same
split_there (byte ∷ word) (suc n) mark is =
    let more : suc (n + 1) ≡ suc n + 1 = omega arith in
    ap (λ bytes. byte ∷ bytes) (split_there word n mark is) ∙ ap (λ k. byte ∷ (take n word ++ mark ∷ drop k (byte ∷ word))) more

-- a word with no name before any of the three marks says nothing
pub says_nothing : (word : List ℕ) → Unmarked word 58 → Unmarked word 61 → Unmarked word 35 → said_of word ≡ None
says_nothing word no_colon no_equals no_hash = by_name (is_name name) refl
  where
    name : List ℕ
    name = before_first ends_name word

    place : ℕ
    place = position_or_len ends_name word

    rest : List ℕ
    rest = after_first ends_name word

    by_mark : (found : Option ℕ) → slice_get word place ≡ found → is_name name ≡ true → said_behind name found rest ≡ None
    by_mark None is named = refl
    by_mark (Some mark) is named =
        let whole = split_there word place mark is in
        let never : (other : ℕ) → Unmarked word other → mark ≢ other =
        λ other no same. no name rest named (whole ∙ ap (λ m. name ++ m ∷ rest) same) in
        let colon : (mark == 58) ≡ false = grind (arith, nat_tests, never 58 no_colon) in
        let equals : (mark == 61) ≡ false = grind (arith, nat_tests, never 61 no_equals) in
        let hash : (mark == 35) ≡ false = grind (arith, nat_tests, never 35 no_hash) in
        rw (colon, equals, hash) refl

    by_name : (b : Bool) → is_name name ≡ b → said_of word ≡ None
    by_name true is = ap (λ b. cond b (said_behind name (slice_get word place) rest) None) is ∙ by_mark (slice_get word place) refl is
    by_name false is = ap (λ b. cond b (said_behind name (slice_get word place) rest) None) is

-- without the mark nowhere is a name before it
pub unsplit : (word : List ℕ) (mark : ℕ) → ((i : ℕ) → i < length word → get_or word i 0 ≢ mark) → Unmarked word mark
unsplit [] mark none [] rest named is = cc
unsplit [] mark none (byte ∷ name) rest named is = cc
unsplit (first ∷ word) mark none [] rest named is = none 0 (omega arith) cc
unsplit (first ∷ word) mark none (byte ∷ name) rest named is = later word name (λ i lt. none (suc i) (omega (arith, lt))) cc
  where
    later : (word name : List ℕ) → ((i : ℕ) → i < length word → get_or word i 0 ≢ mark) → word ≡ name ++ mark ∷ rest → ⊥
    later [] [] none is = cc
    later [] (byte ∷ name) none is = cc
    later (first ∷ word) [] none is = none 0 (omega arith) cc
    later (first ∷ word) (byte ∷ name) none is = later word name (λ i lt. none (suc i) (omega (arith, lt))) cc

-- where a name stands before a mark that no name has, it stands before the first of them
front_is : (front name : List ℕ) (mark : ℕ) (behind rest : List ℕ) → ((i : ℕ) → i < length front → get_or front i 0 ≢ mark)
    → list_all goes_on name ≡ true → goes_on mark ≡ false → front ++ mark ∷ behind ≡ name ++ mark ∷ rest → front ≡ name
front_is [] [] mark behind rest none all ends is = refl
front_is [] (byte ∷ name) mark behind rest none all ends is =
    let same : mark ≡ byte = cc in
    let goes : goes_on byte ≡ true = (both_true (goes_on byte) (list_all goes_on name) all).0 in
    let not_there : goes_on byte ≡ false = ap goes_on (sym same) ∙ ends in
    cc
front_is (first ∷ front) [] mark behind rest none all ends is = absurd (none 0 (omega arith) cc)
front_is (first ∷ front) (byte ∷ name) mark behind rest none all ends is =
    let same : first ≡ byte = cc in
    let later = front_is front name mark behind rest (λ i lt. none (suc i) (omega (arith, lt)))
    (both_true (goes_on byte) (list_all goes_on name) all).1 ends cc in
    ap₂ (λ b bytes. b ∷ bytes) same later

pub no_name_before : (word front : List ℕ) (mark : ℕ) (behind : List ℕ) → word ≡ front ++ mark ∷ behind
    → ((i : ℕ) → i < length front → get_or front i 0 ≢ mark) → goes_on mark ≡ false → is_name front ≡ false → Unmarked word mark
no_name_before word front mark behind is none ends unnamed name rest named whole =
    let same = front_is front name mark behind rest none (name_goes_on name named) ends (sym is ∙ whole) in
    let yes : is_name front ≡ true = ap is_name same ∙ named in
    cc

-- the first colon stands behind what has none
colon_behind : (front behind : List ℕ) → ((i : ℕ) → i < length front → get_or front i 0 ≢ 58)
    → position_or_len (λ byte. byte == 58) (front ++ 58 ∷ behind) ≡ length front
colon_behind [] behind none = refl
colon_behind (byte ∷ front) behind none =
    let other : (byte == 58) ≡ false = grind (arith, nat_tests, none 0 (omega arith)) in
    let more : 1 + length front ≡ suc (length front) = omega arith in
    ap (λ b. cond (not b) (1 + position_or_len (λ byte. byte == 58) (front ++ 58 ∷ behind)) 0) other
    ∙ ap (λ n. 1 + n) (colon_behind front behind (λ i lt. none (suc i) (omega (arith, lt)))) ∙ more

no_colon : (text : List ℕ) → ((i : ℕ) → i < length text → get_or text i 0 ≢ 58)
    → position_or_len (λ byte. byte == 58) text ≡ length text
no_colon [] none = refl
no_colon (byte ∷ text) none =
    let other : (byte == 58) ≡ false = grind (arith, nat_tests, none 0 (omega arith)) in
    let more : 1 + length text ≡ suc (length text) = omega arith in
    ap (λ b. cond (not b) (1 + position_or_len (λ byte. byte == 58) text) 0) other
    ∙ ap (λ n. 1 + n) (no_colon text (λ i lt. none (suc i) (omega (arith, lt)))) ∙ more

-- the letters and the order before and behind a first colon
pub cut_at_colon : (front behind text : List ℕ) → text ≡ front ++ 58 ∷ behind → ((i : ℕ) → i < length front → get_or front i 0 ≢ 58)
    → record { letters = front; order = Some behind } ≡ format_text_of text
cut_at_colon front behind text is none =
    let whole : List ℕ = front ++ 58 ∷ behind in
    let place = colon_behind front behind none in
    let within : nat_lt (length front) (length whole) ≡ true = grind (arith, nat_tests, length-append) in
    let letters : before_first (λ byte. byte == 58) whole ≡ front = ap (λ n. take n whole) place ∙ at_front front (58 ∷ behind) in
    let order : option_map (λ at. drop (at + 1) whole) (position (λ byte. byte == 58) whole) ≡ Some behind =
    ap (λ n. option_map (λ at. drop (at + 1) whole) (cond (nat_lt n (length whole)) (Some n) None)) place
    ∙ ap (λ b. option_map (λ at. drop (at + 1) whole) (cond b (Some (length front)) None)) within
    ∙ ap Some (behind_front front (58 ∷ behind) 1) in
    (λ i. record { letters = sym letters i; order = sym order i }) ∙ ap format_text_of (sym is)

-- and all letters without one
pub all_letters : (text : List ℕ) → ((i : ℕ) → i < length text → get_or text i 0 ≢ 58)
    → record { letters = text; order = None } ≡ format_text_of text
all_letters text none =
    let place = no_colon text none in
    let beyond : nat_lt (length text) (length text) ≡ false = grind (arith, nat_tests) in
    let letters : before_first (λ byte. byte == 58) text ≡ text = ap (λ n. take n text) place ∙ take_all (length text) text (omega arith) in
    let order : option_map (λ at. drop (at + 1) text) (position (λ byte. byte == 58) text) ≡ None =
    ap (λ n. option_map (λ at. drop (at + 1) text) (cond (nat_lt n (length text)) (Some n) None)) place
    ∙ ap (λ b. option_map (λ at. drop (at + 1) text) (cond b (Some (length text)) None)) beyond in
    (λ i. record { letters = sym letters i; order = sym order i })
