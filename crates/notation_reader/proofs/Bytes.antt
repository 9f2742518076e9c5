-- How far a loop over bytes has come.
use Rattle.std.specs.Prelude.{◌≡◌, ℕ, ◌+◌, ◌<◌, Bool, true, false, cond, List, [], ◌∷◌, ◌++◌, length, get_or, take, drop, refl}
use Rattle.std.proofs.Common.{sym, ◌∙◌, ap, subst}
use Rattle.std.proofs.lemmas.List.{take_more, drop_more}
use Rattle.index_notation.specs.Tokens.{behind_blanks, EachPasses, StopsAt}
use Rattle.lists.specs.Blanks.{is_blank}

passes_append : (test : ℕ → Bool) (xs : List ℕ) (x : ℕ) → EachPasses test xs → test x ≡ true → EachPasses test (xs ++ x ∷ [])
passes_append test [] x h e = (e, tt)
passes_append test (y ∷ xs) x h e = (h.0, passes_append test xs x h.1 e)

-- one more byte passes
pub passes_more : (test : ℕ → Bool) (xs : List ℕ) (i : ℕ) → i < length xs → EachPasses test (take i xs) → test (get_or xs i 0) ≡ true
    → EachPasses test (take (i + 1) xs)
passes_more test xs i h p e = subst (EachPasses test) (sym (take_more xs i 0 h)) (passes_append test (take i xs) (get_or xs i 0) p e)

-- the next byte stops the loop
pub stops_here : (test : ℕ → Bool) (xs : List ℕ) (i : ℕ) → i < length xs → test (get_or xs i 0) ≡ false → StopsAt test (drop i xs)
stops_here test xs i h e = subst (StopsAt test) (sym (drop_more xs i 0 h)) e

-- one more blank
pub blanks_more : (xs : List ℕ) (i : ℕ) → i < length xs → behind_blanks xs ≡ behind_blanks (drop i xs) → is_blank (get_or xs i 0) ≡ true
    → behind_blanks xs ≡ behind_blanks (drop (i + 1) xs)
blanks_more xs i h p e =
    p ∙ ap behind_blanks (drop_more xs i 0 h)
    ∙ ap (λ b. cond b (behind_blanks (drop (i + 1) xs)) (get_or xs i 0 ∷ drop (i + 1) xs)) e

-- no blank stands here
pub blanks_end : (xs : List ℕ) (i : ℕ) → i < length xs → behind_blanks xs ≡ behind_blanks (drop i xs) → is_blank (get_or xs i 0) ≡ false
    → behind_blanks xs ≡ drop i xs
blanks_end xs i h p e =
    p ∙ ap behind_blanks (drop_more xs i 0 h)
    ∙ ap (λ b. cond b (behind_blanks (drop (i + 1) xs)) (get_or xs i 0 ∷ drop (i + 1) xs)) e
    ∙ sym (drop_more xs i 0 h)

-- a text without a blank at its front is behind its blanks
pub no_blank_first : (x : ℕ) (xs : List ℕ) → is_blank x ≡ false → behind_blanks (x ∷ xs) ≡ x ∷ xs
no_blank_first x xs e = ap (λ b. cond b (behind_blanks xs) (x ∷ xs)) e

pub behind_twice : (xs : List ℕ) → behind_blanks (behind_blanks xs) ≡ behind_blanks xs
behind_twice [] = refl
behind_twice (x ∷ xs) = elim (is_blank x) as (λ b. is_blank x ≡ b
    → behind_blanks (cond b (behind_blanks xs) (x ∷ xs)) ≡ cond b (behind_blanks xs) (x ∷ xs)) [
      | true ↦ (λ e. behind_twice xs)
      | false ↦ (λ e. no_blank_first x xs e)
    ] refl

pub behind_again : (xs ys : List ℕ) → ys ≡ behind_blanks xs → behind_blanks ys ≡ ys
behind_again xs ys e = ap behind_blanks e ∙ behind_twice xs ∙ sym e
