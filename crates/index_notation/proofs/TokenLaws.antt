-- A text begins with one token at most.
use Rattle.std.specs.Prelude.{◌≡◌, ℕ, Bool, true, false, ◌||◌, ◌==◌, if◌then◌else◌, Some, List, [], ◌∷◌, ◌++◌, refl}
use Rattle.std.specs.Char.{is_ascii_alphabetic, is_ascii_digit}
use Rattle.std.proofs.Common.{sym, ◌∙◌, ap, subst, arith}
use Rattle.std.proofs.lemmas.Bool.Decides.{nat_tests}
use Rattle.index_notation.specs.declared.token.Mark.{Mark}
use Rattle.index_notation.specs.declared.token.Mark.TheVariants.{Equals, PlusEquals, Plus, Minus, Times, Open, Close, Comma}
use Rattle.index_notation.specs.declared.token.Token.{Token}
use Rattle.index_notation.specs.declared.token.Token.TheVariants.{Name as NameToken, Number as NumberToken, Mark as MarkToken}
use Rattle.index_notation.specs.Tokens.{goes_on, BeginsWith, StopsAt, EachPasses, bytes_of, is_equals, plus_before, mark_at, IsWhole}
use Rattle.index_notation.specs.Tokens.{spelling, StandsBefore, IsNext}

-- what passes a test, taken as long as possible, ends at one place
pub longest_once : (test : ℕ → Bool) (xs ys r s : List ℕ) → EachPasses test xs → EachPasses test ys → StopsAt test r → StopsAt test s
    → xs ++ r ≡ ys ++ s → (xs ≡ ys) × (r ≡ s)
longest_once test [] [] r s h k p q e = (refl, e)
longest_once test [] (y ∷ ys) r s h k p q e = let stops : test y ≡ false =
    subst (StopsAt test) e p in absurd (let no : true ≡ false = sym k.0 ∙ stops in cc)
longest_once test (x ∷ xs) [] r s h k p q e = let stops : test x ≡ false =
    subst (StopsAt test) (sym e) q in absurd (let no : true ≡ false = sym h.0 ∙ stops in cc)
longest_once test (x ∷ xs) (y ∷ ys) r s h k p q e =
    let first : x ≡ y = cc in
    let others : xs ++ r ≡ ys ++ s = cc in
    let more = longest_once test xs ys r s h.1 k.1 p q others in
    let same : xs ≡ ys = more.0 in
    (cc, more.1)

-- the first byte of two equal texts passes both tests
begins_both : (p q : ℕ → Bool) (xs ys r s : List ℕ) → BeginsWith p xs → BeginsWith q ys → xs ++ r ≡ ys ++ s
    → (b : ℕ) × (p b ≡ true) × (q b ≡ true)
begins_both p q [] ys r s h k e = absurd h
begins_both p q (x ∷ xs) [] r s h k e = absurd k
begins_both p q (x ∷ xs) (y ∷ ys) r s h k e = let same : y ≡ x = cc in (x, h, subst (λ b. q b ≡ true) same k)

pub letter_no_digit : (b : ℕ) → is_ascii_alphabetic b ≡ true → is_ascii_digit b ≡ true → ⊥
letter_no_digit b h k = grind (arith, nat_tests)

-- the first byte of a mark is neither a letter nor a digit
abbrev is_front : ℕ → Bool
is_front b = (b == 61) || ((b == 43) || ((b == 45) || ((b == 42) || ((b == 40) || ((b == 41) || (b == 44))))))

mark_begins : (m : Mark) → BeginsWith is_front (bytes_of m)
mark_begins Equals = refl
mark_begins PlusEquals = refl
mark_begins Plus = refl
mark_begins Minus = refl
mark_begins Times = refl
mark_begins Open = refl
mark_begins Close = refl
mark_begins Comma = refl

letter_no_mark : (b : ℕ) → is_ascii_alphabetic b ≡ true → is_front b ≡ true → ⊥
letter_no_mark b h k = grind (arith, nat_tests)

digit_no_mark : (b : ℕ) → is_ascii_digit b ≡ true → is_front b ≡ true → ⊥
digit_no_mark b h k = grind (arith, nat_tests)

-- a `+` that stops before what follows is that mark
plus_whole : (r : List ℕ) → StopsAt is_equals r → plus_before r ≡ Plus
plus_whole [] h = refl
plus_whole (b ∷ r) h = ap (λ t. if t then PlusEquals else Plus) h

pub mark_at_front : (m : Mark) (r : List ℕ) → IsWhole m r → mark_at (bytes_of m ++ r) ≡ Some m
mark_at_front Plus r h = ap (λ (m : Mark). Some m) (plus_whole r h)
mark_at_front Equals r h = refl
mark_at_front PlusEquals r h = refl
mark_at_front Minus r h = refl
mark_at_front Times r h = refl
mark_at_front Open r h = refl
mark_at_front Close r h = refl
mark_at_front Comma r h = refl

same_rest : (m : Mark) (r s : List ℕ) → bytes_of m ++ r ≡ bytes_of m ++ s → r ≡ s
same_rest Equals r s e = cc
same_rest PlusEquals r s e = cc
same_rest Plus r s e = cc
same_rest Minus r s e = cc
same_rest Times r s e = cc
same_rest Open r s e = cc
same_rest Close r s e = cc
same_rest Comma r s e = cc

pub mark_once : (m n : Mark) (r s : List ℕ) → IsWhole m r → IsWhole n s → bytes_of m ++ r ≡ bytes_of n ++ s → (m ≡ n) × (r ≡ s)
mark_once m n r s h k e =
    let found : Some m ≡ Some n = sym (mark_at_front m r h) ∙ ap mark_at e ∙ mark_at_front n s k in
    let same : m ≡ n = cc in
    (same, same_rest n r s (ap (λ (x : Mark). bytes_of x ++ r) (sym same) ∙ e))

-- a token that stands before a rest is one, and so is that rest
pub token_once : (t u : Token) (r s : List ℕ) → StandsBefore t r → StandsBefore u s → spelling t ++ r ≡ spelling u ++ s → (t ≡ u) × (r ≡ s)
token_once (NameToken n) (NameToken m) r s h k e =
    let same = longest_once goes_on n.bytes m.bytes r s h.each k.each h.stops k.stops e in
    (ap (λ (b : List ℕ). NameToken (record { bytes = b })) same.0, same.1)
token_once (NameToken n) (NumberToken ds) r s h k e = let b =
    begins_both is_ascii_alphabetic is_ascii_digit n.bytes ds r s h.begins k.begins e in absurd (letter_no_digit b.0 b.1 b.2)
token_once (NameToken n) (MarkToken m) r s h k e = let b =
    begins_both is_ascii_alphabetic is_front n.bytes (bytes_of m) r s h.begins (mark_begins m) e in absurd (letter_no_mark b.0 b.1 b.2)
token_once (NumberToken ds) (NameToken n) r s h k e = let b =
    begins_both is_ascii_digit is_ascii_alphabetic ds n.bytes r s h.begins k.begins e in absurd (letter_no_digit b.0 b.2 b.1)
token_once (NumberToken ds) (NumberToken es) r s h k e =
    let same = longest_once is_ascii_digit ds es r s h.each k.each h.stops k.stops e in
    (ap NumberToken same.0, same.1)
token_once (NumberToken ds) (MarkToken m) r s h k e = let b =
    begins_both is_ascii_digit is_front ds (bytes_of m) r s h.begins (mark_begins m) e in absurd (digit_no_mark b.0 b.1 b.2)
token_once (MarkToken m) (NameToken n) r s h k e = let b =
    begins_both is_front is_ascii_alphabetic (bytes_of m) n.bytes r s (mark_begins m) k.begins e in absurd (letter_no_mark b.0 b.2 b.1)
token_once (MarkToken m) (NumberToken ds) r s h k e = let b =
    begins_both is_front is_ascii_digit (bytes_of m) ds r s (mark_begins m) k.begins e in absurd (digit_no_mark b.0 b.2 b.1)
token_once (MarkToken m) (MarkToken n) r s h k e =
    let same = mark_once m n r s h k e in
    (ap MarkToken same.0, same.1)

-- a token has a byte
begins_full : (p : ℕ → Bool) (xs r : List ℕ) → BeginsWith p xs → xs ++ r ≡ [] → ⊥
begins_full p [] r h e = h
begins_full p (x ∷ xs) r h e = cc

pub token_full : (t : Token) (r : List ℕ) → StandsBefore t r → spelling t ++ r ≡ [] → ⊥
token_full (NameToken n) r h e = begins_full is_ascii_alphabetic n.bytes r h.begins e
token_full (NumberToken ds) r h e = begins_full is_ascii_digit ds r h.begins e
token_full (MarkToken m) r h e = begins_full is_front (bytes_of m) r (mark_begins m) e

pub next_once : (text : List ℕ) (t u : Token) (r s : List ℕ) → IsNext text t r → IsNext text u s → (t ≡ u) × (r ≡ s)
next_once text t u r s h k = token_once t u r s h.stands k.stands (sym h.spelled ∙ k.spelled)
