-- The mark at the front of a text.
use Rattle.std.specs.Prelude.{◌≡◌, ℕ, ◌<◌, ◌≤◌, Bool, true, false, ◌==◌, if◌then◌else◌, Option, Some, None, List, [], ◌∷◌, ◌++◌}
use Rattle.std.specs.Prelude.{length, drop, refl}
use Rattle.std.specs.Char.{is_ascii_alphabetic, is_ascii_digit}
use Rattle.std.proofs.Common.{sym, ◌∙◌, ap, subst, arith}
use Rattle.std.proofs.lemmas.Bool.{eqb-true}
use Rattle.lists.specs.Blanks.{is_blank}
use Rattle.index_notation.specs.declared.token.Mark.{Mark}
use Rattle.index_notation.specs.declared.token.Mark.TheVariants.{Equals, PlusEquals, Plus, Minus, Times, Open, Close, Comma}
use Rattle.index_notation.specs.declared.token.Token.{Token}
use Rattle.index_notation.specs.declared.token.Token.TheVariants.{Name as NameToken, Number as NumberToken, Mark as MarkToken}
use Rattle.index_notation.specs.Tokens.{BeginsWith, bytes_of, is_equals, plus_before, mark_at, IsWhole, IsNext}
use Rattle.index_notation.proofs.TokenLaws.{mark_at_front}
use Rattle.notation_reader.proofs.Bytes.{no_blank_first}

-- a text begins with a mark, taken as long as possible
pub record StandsFirst (text : List ℕ) (m : Mark) : Type 0 where
  pub is : text ≡ bytes_of m ++ drop (length (bytes_of m)) text
  pub whole : IsWhole m (drop (length (bytes_of m)) text)
  pub some : 0 < length (bytes_of m)
  pub within : length (bytes_of m) ≤ length text

-- the first of two that a test chooses
chosen : (P : Mark → Type 0) (t : Bool) (n m : Mark) (others : Option Mark) → (if t then Some n else others) ≡ Some m
    → (t ≡ true → P n) → (others ≡ Some m → P m) → P m
chosen P true n m others h first later = let same : n ≡ m = cc in subst P same (first refl)
chosen P false n m others h first later = later h

plus_stands : (b : ℕ) (text : List ℕ) → b ≡ 43 → StandsFirst (b ∷ text) (plus_before text)
plus_stands b [] e = record { is = λ i. e i ∷ []; whole = tt; some = omega arith; within = omega arith }
plus_stands b (c ∷ text) e = by (is_equals c) refl
  where
    by : (t : Bool) → is_equals c ≡ t → StandsFirst (b ∷ c ∷ text) (if t then PlusEquals else Plus)
    by true h = record { is = λ i. e i ∷ eqb-true c 61 h i ∷ text; whole = tt; some = omega arith; within = omega arith }
    by false h = record { is = λ i. e i ∷ c ∷ text; whole = h; some = omega arith; within = omega arith }

pub mark_stands : (text : List ℕ) (m : Mark) → mark_at text ≡ Some m → StandsFirst text m
mark_stands [] m h = absurd cc
mark_stands (b ∷ text) m h =
    chosen P (is_equals b) Equals m _ h (λ e. record { is = at 61 e; whole = tt; some = omega arith; within = omega arith }) (λ h.
    chosen P (b == 43) (plus_before text) m _ h (λ e. plus_stands b text (eqb-true b 43 e)) (λ h.
    chosen P (b == 45) Minus m _ h (λ e. record { is = at 45 e; whole = tt; some = omega arith; within = omega arith }) (λ h.
    chosen P (b == 42) Times m _ h (λ e. record { is = at 42 e; whole = tt; some = omega arith; within = omega arith }) (λ h.
    chosen P (b == 40) Open m _ h (λ e. record { is = at 40 e; whole = tt; some = omega arith; within = omega arith }) (λ h.
    chosen P (b == 41) Close m _ h (λ e. record { is = at 41 e; whole = tt; some = omega arith; within = omega arith }) (λ h.
    chosen P (b == 44) Comma m _ h (λ e. record { is = at 44 e; whole = tt; some = omega arith; within = omega arith }) (λ h.
    absurd cc)))))))
  where
    P : Mark → Type 0
    P m = StandsFirst (b ∷ text) m

    at : (c : ℕ) → (b == c) ≡ true → ◌≡◌ {A = List ℕ} (b ∷ text) (c ∷ text)
    at c e = λ i. eqb-true b c e i ∷ text

begins_at : (p : ℕ → Bool) (xs r : List ℕ) (b : ℕ) (s : List ℕ) → BeginsWith p xs → b ∷ s ≡ xs ++ r → p b ≡ true
begins_at p [] r b s h e = absurd h
begins_at p (x ∷ xs) r b s h e = let same : x ≡ b = cc in subst (λ c. p c ≡ true) same h

differs : {A : Type 0} (b : Bool) → b ≡ true → b ≡ false → A
differs b h k = let no : true ≡ false = sym h ∙ k in absurd cc

-- a text whose first byte is no blank, no letter and no digit, and that begins with no mark, begins with no token
pub no_token : (first : ℕ) (behind : List ℕ) → is_blank first ≡ false → is_ascii_alphabetic first ≡ false → is_ascii_digit first ≡ false
    → mark_at (first ∷ behind) ≡ None → (token : Token) (rest : List ℕ) → IsNext (first ∷ behind) token rest → ⊥
no_token first behind blank letter digit none (NameToken name) rest n =
    differs (is_ascii_alphabetic first)
    (begins_at is_ascii_alphabetic name.bytes rest first behind n.stands.begins (sym (no_blank_first first behind blank) ∙ n.spelled))
    letter
no_token first behind blank letter digit none (NumberToken digits) rest n =
    differs (is_ascii_digit first)
    (begins_at is_ascii_digit digits rest first behind n.stands.begins (sym (no_blank_first first behind blank) ∙ n.spelled)) digit
no_token first behind blank letter digit none (MarkToken mark) rest n =
    let found : mark_at (first ∷ behind) ≡ Some mark =
    ap mark_at (sym (no_blank_first first behind blank) ∙ n.spelled) ∙ mark_at_front mark rest n.stands in
    let both : ◌≡◌ {A = Option Mark} None (Some mark) = sym none ∙ found in
    cc
