-- The head of levels not all of which are full, and what a test of its length tells.
use Rattle.std.specs.Prelude.{◌≡◌, ℕ, zero, suc, ◌-◌, ◌≤◌, ◌<◌, ◌&&◌, Bool, true, false, if◌then◌else◌, List, [], ◌∷◌, length}
use Rattle.std.specs.Prelude.{drop, refl}
use Rattle.std.specs.List.{list_all}
use Rattle.std.proofs.Common.{◌∙◌, sym, ap, subst, arith}
use Rattle.level_core.specs.declared.letter.Letter.{Letter}
use Rattle.level_core.specs.Kinds.{properties}
use Rattle.format_spec.specs.declared.format.FormatLevel.{FormatLevel}
use Rattle.format_spec.specs.Formats.{letters_of}
use Rattle.appended_results.specs.Heads.{letter_at, IsHead, is_full, head_length}

apart : {A : Type 0} → true ≡ false → A
apart e = absurd (never e)
  where
    never : true ≡ false → ⊥
    never e = cc

both : (a b : Bool) → (a && b) ≡ true → (a ≡ true) × (b ≡ true)
both true b h = (refl, h)
both false b h = apart (sym h)

not_first : (a b : Bool) → (a && b) ≡ false → b ≡ true → a ≡ false
not_first false b h all = refl
not_first true b h all = apart (sym all ∙ h)

-- where all levels are full, each is
pub each_full : (letters : List Letter) → list_all is_full letters ≡ true → (d : ℕ) → d < length letters
    → (properties (letter_at letters d)).full ≡ true
each_full [] h d l = absurd (omega (arith, l))
each_full (letter ∷ letters) h zero l = (both (is_full letter) (list_all is_full letters) h).0
each_full (letter ∷ letters) h (suc d) l = each_full letters (both (is_full letter) (list_all is_full letters) h).1 d (omega (arith, l))

pub all_full : (letters : List Letter) → ((d : ℕ) → d < length letters → (properties (letter_at letters d)).full ≡ true)
    → list_all is_full letters ≡ true
all_full [] h = refl
all_full (letter ∷ letters) h =
    ap (λ b. b && list_all is_full letters) (h 0 (omega arith)) ∙ all_full letters (λ d l. h (suc d) (omega (arith, l)))

none_where_full : (letters : List Letter) → list_all is_full letters ≡ true → head_length letters ≡ 0
none_where_full [] h = refl
none_where_full (letter ∷ letters) h = ap (λ b. if b then 0 else suc (head_length letters)) h

-- where some level isn't full, there is a head
pub some_head : (letters : List Letter) → list_all is_full letters ≡ false → IsHead letters (head_length letters)
some_head [] h = apart h
some_head (letter ∷ letters) h =
    subst (IsHead (letter ∷ letters)) (sym (ap (λ b. if b then 0 else suc (head_length letters)) h))
    (by_rest (some_head letters) (list_all is_full letters) refl)
  where
    by_rest : (list_all is_full letters ≡ false → IsHead letters (head_length letters)) → (b : Bool) → list_all is_full letters ≡ b
        → IsHead (letter ∷ letters) (suc (head_length letters))
    by_rest below true all =
        let none = none_where_full letters all in
        let here = not_first (is_full letter) (list_all is_full letters) h all in
        record {
          within = omega (arith, none);
          some = omega arith;
          last = λ d is.
              let top : 0 ≡ d = omega (arith, is, none) in
              subst (λ e. (properties (letter_at (letter ∷ letters) e)).full ≡ false) top here;
          tail = λ d from inside. tail_there all d from inside;
        }
      where
        tail_there : list_all is_full letters ≡ true → (d : ℕ) → suc (head_length letters) ≤ d → d < length (letter ∷ letters)
            → (properties (letter_at (letter ∷ letters) d)).full ≡ true
        tail_there all zero from inside = absurd (omega (arith, from))
        tail_there all (suc d) from inside = each_full letters all d (omega (arith, inside))
    by_rest below false some =
        let rest = below some in
        record {
          within = (let w = rest.within in omega (arith, w));
          some = omega arith;
          last = λ d is. last_there rest d is;
          tail = λ d from inside. tail_there rest d from inside;
        }
      where
        last_there : IsHead letters (head_length letters) → (d : ℕ) → suc d ≡ suc (head_length letters)
            → (properties (letter_at (letter ∷ letters) d)).full ≡ false
        last_there rest zero is = absurd (let m = rest.some in omega (arith, m, is))
        last_there rest (suc d) is = rest.last d (omega (arith, is))

        tail_there : IsHead letters (head_length letters) → (d : ℕ) → suc (head_length letters) ≤ d → d < length (letter ∷ letters)
            → (properties (letter_at (letter ∷ letters) d)).full ≡ true
        tail_there rest zero from inside = absurd (omega (arith, from))
        tail_there rest (suc d) from inside = rest.tail d (omega (arith, from)) (omega (arith, inside))

-- a test of the last level of the head, and of those below it
pub tested_head : (letters : List Letter) (head : ℕ) → 0 < head → head ≤ length letters
    → (properties (letter_at letters (head - 1))).full ≡ false → list_all is_full (drop head letters) ≡ true → IsHead letters head
tested_head letters head some within last tail = record {
  within = within;
  some = some;
  last = λ d is.
      let here : head - 1 ≡ d = omega (arith, is) in subst (λ e. (properties (letter_at letters e)).full ≡ false) here last;
  tail = λ d from inside. below letters head tail d from inside;
}
  where
    below : (letters : List Letter) (head : ℕ) → list_all is_full (drop head letters) ≡ true → (d : ℕ) → head ≤ d → d < length letters
        → (properties (letter_at letters d)).full ≡ true
    below letters zero all d from inside = each_full letters all d inside
    below [] (suc head) all d from inside = absurd (omega (arith, inside))
    below (letter ∷ letters) (suc head) all zero from inside = absurd (omega (arith, from))
    below (letter ∷ letters) (suc head) all (suc d) from inside =
        below letters head all d (omega (arith, from)) (omega (arith, inside))

pub head_tests : (letters : List Letter) (head : ℕ) → IsHead letters head
    → ((properties (letter_at letters (head - 1))).full ≡ false) × (list_all is_full (drop head letters) ≡ true)
head_tests letters head is = (
  is.last (head - 1) (let m = is.some in omega (arith, m)),
  below letters head is.tail,
)
  where
    below : (letters : List Letter) (head : ℕ)
        → ((d : ℕ) → head ≤ d → d < length letters → (properties (letter_at letters d)).full ≡ true)
        → list_all is_full (drop head letters) ≡ true
    below letters zero h = all_full letters (λ d l. h d (omega arith) l)
    below [] (suc head) h = refl
    below (letter ∷ letters) (suc head) h = below letters head (λ d from l. h (suc d) (omega (arith, from)) (omega (arith, l)))

-- so it is of the levels of a format
pub full_levels : (levels : List FormatLevel)
    → list_all is_full (letters_of levels) ≡ list_all (λ (level : FormatLevel). is_full level.letter) levels
full_levels [] = refl
full_levels (level ∷ levels) = ap (λ b. is_full level.letter && b) (full_levels levels)

pub letters_below : (levels : List FormatLevel) (d : ℕ) → letters_of (drop d levels) ≡ drop d (letters_of levels)
letters_below levels zero = refl
letters_below [] (suc d) = refl
letters_below (level ∷ levels) (suc d) = letters_below levels d
