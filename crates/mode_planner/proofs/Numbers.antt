-- What a function gives of numbers in a row, one more.
use Rattle.std.specs.Prelude.{◌≡◌, ℕ, zero, suc, ◌+◌, [], ◌∷◌, ◌++◌, Option, Some, None, filter_map}
use Rattle.std.specs.List.{cons_option}
use Rattle.std.proofs.Common.{◌∙◌, ap, arith, append-nil}
use Rattle.std.proofs.lemmas.List.Elements.{filter_map-append}
use Rattle.index_notation.specs.Statement.{numbers_from}

numbers_more : (m n : ℕ) → numbers_from m (suc n) ≡ numbers_from m n ++ (m + n) ∷ []
numbers_more m zero = let here : m ≡ m + 0 = omega arith in ap (λ k. k ∷ []) here
numbers_more m (suc n) =
    let there : m + 1 + n ≡ m + suc n = omega arith in
    ap (λ ns. m ∷ ns) (numbers_more (m + 1) n ∙ ap (λ k. numbers_from (m + 1) n ++ k ∷ []) there)

next_numbers : (n : ℕ) → numbers_from 0 (n + 1) ≡ numbers_from 0 n ++ n ∷ []
next_numbers n =
    let more : n + 1 ≡ suc n = omega arith in
    let here : 0 + n ≡ n = omega arith in
    ap (numbers_from 0) more ∙ numbers_more 0 n ∙ ap (λ k. numbers_from 0 n ++ k ∷ []) here

pub next_given : (h : ℕ → Option ℕ) (n x : ℕ) → h n ≡ Some x
    → filter_map h (numbers_from 0 (n + 1)) ≡ filter_map h (numbers_from 0 n) ++ x ∷ []
next_given h n x is = ap (filter_map h) (next_numbers n) ∙ filter_map-append h (numbers_from 0 n) (n ∷ [])
    ∙ ap (λ o. filter_map h (numbers_from 0 n) ++ cons_option o []) is

pub next_none : (h : ℕ → Option ℕ) (n : ℕ) → h n ≡ None → filter_map h (numbers_from 0 (n + 1)) ≡ filter_map h (numbers_from 0 n)
next_none h n is = ap (filter_map h) (next_numbers n) ∙ filter_map-append h (numbers_from 0 n) (n ∷ [])
    ∙ ap (λ o. filter_map h (numbers_from 0 n) ++ cons_option o []) is ∙ append-nil (filter_map h (numbers_from 0 n))
