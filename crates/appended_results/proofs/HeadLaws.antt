-- Heads of rows, where one more comes.
use Rattle.std.specs.Prelude.{◌≡◌, ◌⊎◌, ℕ, zero, suc, ◌<◌, true, false, List, [], ◌∷◌, ◌++◌, length, drop, slice_index}
use Rattle.std.specs.Prelude.{◌-◌, refl}
use Rattle.std.proofs.Common.{◌∙◌, sym, ap, arith, inl, inr}
use Rattle.std.proofs.lemmas.Bool.{cases_order}
use Rattle.std.proofs.lemmas.List.{get_or_append_left, get_or_push}
use Rattle.level_core.specs.declared.letter.Letter.{Letter}
use Rattle.appended_results.specs.Heads.{letter_at, IsHead, key_in}

-- the keys of earlier heads stay
pub key_before : (heads : List (List ℕ)) (key : List ℕ) (d i : ℕ) → i < length heads
    → key_in (heads ++ key ∷ []) d i ≡ key_in heads d i
key_before heads key d i h = ap (λ k. slice_index k d) (get_or_append_left heads (key ∷ []) [] i h)

pub key_last : (heads : List (List ℕ)) (key : List ℕ) (d : ℕ) → key_in (heads ++ key ∷ []) d (length heads) ≡ slice_index key d
key_last heads key d = ap (λ k. slice_index k d) (get_or_push heads key [] (length heads) refl)

-- there is one head alone
pub one_head : (letters : List Letter) (m n : ℕ) → IsHead letters m → IsHead letters n → m ≡ n
one_head letters m n p q = by_order (cases_order m n)
  where
    apart : true ≡ false → ⊥
    apart e = cc

    below : (m n : ℕ) → IsHead letters m → IsHead letters n → m < n → ⊥
    below m n p q less =
        let w = q.within in
        let last : suc (n - 1) ≡ n = omega (arith, less) in
        apart (sym (p.tail (n - 1) (omega (arith, less)) (omega (arith, less, w))) ∙ q.last (n - 1) last)

    by_order : (m ≡ n) ⊎ ((m < n) ⊎ (n < m)) → m ≡ n
    by_order (inl e) = e
    by_order (inr (inl less)) = absurd (below m n p q less)
    by_order (inr (inr more)) = absurd (below n m q p more)

-- the letters from one on
pub letters_from : (letters : List Letter) (d : ℕ) → d < length letters → drop d letters ≡ letter_at letters d ∷ drop (suc d) letters
letters_from [] d h = absurd (omega (arith, h))
letters_from (letter ∷ letters) zero h = refl
letters_from (letter ∷ letters) (suc d) h = letters_from letters d (omega (arith, h))
