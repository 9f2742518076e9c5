-- The elements of a list of which one was changed, or that has one more.
use Rattle.std.specs.Prelude.{◌≡◌, ℕ, zero, suc, ◌<◌, List, [], ◌∷◌, ◌++◌, length, Some, slice_get, slice_set, refl}
use Rattle.std.proofs.Common.{ap, arith}

pub get_here : {X : Type 0} (xs : List X) (i : ℕ) (new : X) → i < length xs → slice_get (slice_set xs i new) i ≡ Some new
get_here [] i new l = absurd (omega arith)
get_here (x ∷ xs) zero new l = refl
get_here (x ∷ xs) (suc i) new l = get_here xs i new (omega arith)

pub get_other : {X : Type 0} (xs : List X) (i j : ℕ) (new : X) → (i ≡ j → ⊥) → slice_get (slice_set xs i new) j ≡ slice_get xs j
get_other [] i j new h = refl
get_other (x ∷ xs) zero zero new h = absurd (h refl)
get_other (x ∷ xs) zero (suc j) new h = refl
get_other (x ∷ xs) (suc i) zero new h = refl
get_other (x ∷ xs) (suc i) (suc j) new h = get_other xs i j new (λ e. h (ap suc e))

pub get_last : {X : Type 0} (xs : List X) (new : X) → slice_get (xs ++ new ∷ []) (length xs) ≡ Some new
get_last [] new = refl
get_last (x ∷ xs) new = get_last xs new

pub get_before : {X : Type 0} (xs : List X) (new : X) (j : ℕ) → (length xs ≡ j → ⊥) → slice_get (xs ++ new ∷ []) j ≡ slice_get xs j
get_before [] new zero h = absurd (h refl)
get_before [] new (suc j) h = refl
get_before (x ∷ xs) new zero h = refl
get_before (x ∷ xs) new (suc j) h = get_before xs new j (λ e. h (ap suc e))
