-- Lists of coordinates in the order of a dictionary, and lists of rows that name the same ones.
use Rattle.std.specs.Prelude.{◌≡◌, ◌⊎◌, ℕ, zero, suc, ◌≤◌, ◌<◌, refl}
use Rattle.std.proofs.Common.{◌∙◌, sym, ap, subst, arith, inl, inr}
use Rattle.std.proofs.lemmas.Bool.{cases_lt, cases_order}
use Rattle.level_rows.specs.Tables.{Increase}
use Rattle.level_rows.proofs.TableLaws.{before}

-- two lists of coordinates, each a function of the level, are the same at the first n levels
abbrev pub SameKey : ℕ → (ℕ → ℕ) → (ℕ → ℕ) → Type 0
SameKey n x y = (d : ℕ) → d < n → x d ≡ y d

-- the first stands before the second: at the first of n levels where they differ, its coordinate is smaller
abbrev pub KeyBefore : ℕ → (ℕ → ℕ) → (ℕ → ℕ) → Type 0
KeyBefore n x y = (d : ℕ) × (d < n) × SameKey d x y × (x d < y d)

pub key_sym : (n : ℕ) (x y : ℕ → ℕ) → SameKey n x y → SameKey n y x
key_sym n x y s d h = sym (s d h)

pub key_trans : (n : ℕ) (x y z : ℕ → ℕ) → SameKey n x y → SameKey n y z → SameKey n x z
key_trans n x y z s t d h = s d h ∙ t d h

pub key_less : (n m : ℕ) (x y : ℕ → ℕ) → n ≤ m → SameKey m x y → SameKey n x y
key_less n m x y l s d h = s d (omega (arith, l, h))

key_more : (n : ℕ) (x y : ℕ → ℕ) → SameKey n x y → x n ≡ y n → SameKey (suc n) x y
key_more n x y s e d h = by_order (cases_lt d n)
  where
    by_order : (d < n) ⊎ (n ≤ d) → x d ≡ y d
    by_order (inl l) = s d l
    by_order (inr l) = let same : d ≡ n = omega (arith, h, l) in subst (λ k. x k ≡ y k) (sym same) e

-- what is the same may be put for either
pub before_along : (n : ℕ) (x y u v : ℕ → ℕ) → SameKey n x u → SameKey n y v → KeyBefore n x y → KeyBefore n u v
before_along n x y u v s t b = (
  b.0,
  b.1,
  (λ d h. let l = b.1 in sym (s d (omega (arith, h, l))) ∙ b.2 d h ∙ t d (omega (arith, h, l))),
  (let less = b.3 in let p = s b.0 b.1 in let q = t b.0 b.1 in omega (arith, less, p, q)),
)

pub not_itself : (n : ℕ) (x y : ℕ → ℕ) → SameKey n x y → KeyBefore n x y → ⊥
not_itself n x y s b = let e = s b.0 b.1 in let less = b.3 in omega (arith, e, less)

pub key_order : (n : ℕ) (x y : ℕ → ℕ) → SameKey n x y ⊎ (KeyBefore n x y ⊎ KeyBefore n y x)
key_order zero x y = inl (λ d h. absurd (omega (arith, h)))
key_order (suc n) x y = by_rest (key_order n x y)
  where
    deeper : (u v : ℕ → ℕ) → KeyBefore n u v → KeyBefore (suc n) u v
    deeper u v b = (b.0, (let l = b.1 in omega (arith, l)), b.2, b.3)

    by_last : SameKey n x y → (x n ≡ y n) ⊎ ((x n < y n) ⊎ (y n < x n))
        → SameKey (suc n) x y ⊎ (KeyBefore (suc n) x y ⊎ KeyBefore (suc n) y x)
    by_last s (inl e) = inl (key_more n x y s e)
    by_last s (inr (inl less)) = inr (inl (n, omega arith, s, less))
    by_last s (inr (inr more)) = inr (inr (n, omega arith, key_sym n x y s, more))

    by_rest : SameKey n x y ⊎ (KeyBefore n x y ⊎ KeyBefore n y x) → SameKey (suc n) x y ⊎ (KeyBefore (suc n) x y ⊎ KeyBefore (suc n) y x)
    by_rest (inl s) = by_last s (cases_order (x n) (y n))
    by_rest (inr (inl b)) = inr (inl (deeper x y b))
    by_rest (inr (inr b)) = inr (inr (deeper y x b))

pub before_trans : (n : ℕ) (x y z : ℕ → ℕ) → KeyBefore n x y → KeyBefore n y z → KeyBefore n x z
before_trans n x y z p q = by_order (cases_order p.0 q.0)
  where
    by_order : (p.0 ≡ q.0) ⊎ ((p.0 < q.0) ⊎ (q.0 < p.0)) → KeyBefore n x z
    by_order (inl same) =
        let less = p.3 in
        let more = subst (λ d. y d < z d) (sym same) q.3 in
        (p.0, p.1, key_trans p.0 x y z p.2 (subst (λ d. SameKey d y z) (sym same) q.2), omega (arith, less, more))
    by_order (inr (inl first)) =
        let less = p.3 in
        let same = q.2 p.0 first in
        (p.0, p.1, key_trans p.0 x y z p.2 (key_less p.0 q.0 y z (omega (arith, first)) q.2), omega (arith, less, same))
    by_order (inr (inr later)) =
        let less = q.3 in
        let same = p.2 q.0 later in
        (q.0, q.1, key_trans q.0 x y z (key_less q.0 p.0 x y (omega (arith, later)) p.2) q.2, omega (arith, less, same))

-- of rows that increase, equal ones are one
pub same_row : (coords : ℕ → ℕ → ℕ) (n count i j : ℕ) → Increase coords n count → i < count → j < count
    → SameKey n (λ d. coords d i) (λ d. coords d j) → i ≡ j
same_row coords n count i j up h g s = by_order (cases_order i j)
  where
    by_order : (i ≡ j) ⊎ ((i < j) ⊎ (j < i)) → i ≡ j
    by_order (inl e) = e
    by_order (inr (inl less)) =
        absurd (not_itself n (λ d. coords d i) (λ d. coords d j) s (before coords n count i j up less g))
    by_order (inr (inr more)) =
        absurd (not_itself n (λ d. coords d j) (λ d. coords d i) (key_sym n (λ d. coords d i) (λ d. coords d j) s)
        (before coords n count j i up more h))

-- and one that stands before another comes before it
pub row_order : (coords : ℕ → ℕ → ℕ) (n count i j : ℕ) → Increase coords n count → i < count → j < count
    → KeyBefore n (λ d. coords d i) (λ d. coords d j) → i < j
row_order coords n count i j up h g b = by_order (cases_order i j)
  where
    by_order : (i ≡ j) ⊎ ((i < j) ⊎ (j < i)) → i < j
    by_order (inl e) = absurd (not_itself n (λ d. coords d i) (λ d. coords d j) (λ d l. ap (coords d) e) b)
    by_order (inr (inl less)) = less
    by_order (inr (inr more)) =
        absurd (not_itself n (λ d. coords d i) (λ d. coords d i) (λ d l. refl)
        (before_trans n (λ d. coords d i) (λ d. coords d j) (λ d. coords d i) b (before coords n count j i up more h)))
