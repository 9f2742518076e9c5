-- Elements of lists, and elements that are written.
use Rattle.std.specs.Prelude.{◌≡◌, ◌⊎◌, ℕ, zero, suc, ◌+◌, ◌<◌, List, [], ◌∷◌, ◌++◌, length}
use Rattle.std.specs.Prelude.{Some, slice_get, slice_index_or, slice_set, refl}
use Rattle.std.proofs.Common.{sym, ap, arith, inl, inr}

module _ {X : Type 0} where
  pub default_free : (xs : List X) (n : ℕ) (d e : X) → n < length xs → slice_index_or xs n d ≡ slice_index_or xs n e
  default_free [] n d e h = absurd (omega (arith, h))
  default_free (x ∷ xs) zero d e h = refl
  default_free (x ∷ xs) (suc n) d e h = default_free xs n d e (omega (arith, h))

  pub get_is : (xs : List X) (n : ℕ) (x : X) → n < length xs → x ≡ slice_index_or xs n x → slice_get xs n ≡ Some x
  get_is [] n x h is = absurd (omega (arith, h))
  get_is (y ∷ xs) zero x h is = ap (λ z. Some z) (sym is)
  get_is (y ∷ xs) (suc n) x h is = get_is xs n x (omega (arith, h)) is

  pub set_other : (xs : List X) (n m : ℕ) (x : X) → (n ≡ m → ⊥) → slice_get (slice_set xs n x) m ≡ slice_get xs m
  set_other [] n m x apart = refl
  set_other (y ∷ xs) zero zero x apart = absurd (apart refl)
  set_other (y ∷ xs) zero (suc m) x apart = refl
  set_other (y ∷ xs) (suc n) zero x apart = refl
  set_other (y ∷ xs) (suc n) (suc m) x apart = set_other xs n m x (λ e. apart (ap suc e))

  pub set_at : (xs : List X) (n : ℕ) (x : X) → n < length xs → slice_get (slice_set xs n x) n ≡ Some x
  set_at [] n x h = absurd (omega (arith, h))
  set_at (y ∷ xs) zero x h = refl
  set_at (y ∷ xs) (suc n) x h = set_at xs n x (omega (arith, h))

  pub set_long : (xs : List X) (n : ℕ) (x : X) → length (slice_set xs n x) ≡ length xs
  set_long [] n x = refl
  set_long (y ∷ xs) zero x = refl
  set_long (y ∷ xs) (suc n) x = ap suc (set_long xs n x)

  -- an element of a row with one more behind it is one of the row, or that one
  pub behind : (xs : List X) (x y : X) (n : ℕ) → slice_get (xs ++ x ∷ []) n ≡ Some y
      → (slice_get xs n ≡ Some y) ⊎ ((n ≡ length xs) × (x ≡ y))
  behind [] x y zero is = inr (refl, some is)
    where
      some : {v w : X} → Some v ≡ Some w → v ≡ w
      some e = cc
  behind [] x y (suc n) is = absurd cc
  behind (z ∷ xs) x y zero is = inl is
  behind (z ∷ xs) x y (suc n) is = by (behind xs x y n is)
    where
      by : (slice_get xs n ≡ Some y) ⊎ ((n ≡ length xs) × (x ≡ y)) → (slice_get xs n ≡ Some y) ⊎ ((suc n ≡ suc (length xs)) × (x ≡ y))
      by (inl here) = inl here
      by (inr there) = inr (ap suc there.0, there.1)

  pub one_more : (xs : List X) (x : X) → length (xs ++ x ∷ []) ≡ length xs + 1
  one_more [] x = refl
  one_more (y ∷ xs) x = let rest = one_more xs x in omega (arith, rest)
