-- What the text of modes holds at each place.
use Rattle.std.specs.Prelude.{◌≡◌, ℕ, zero, suc, ◌+◌, ◌*◌, ◌-◌, ◌≤◌, ◌<◌, List, [], ◌∷◌, ◌++◌, length, Some, slice_get, slice_index_or}
use Rattle.std.specs.Prelude.{refl}
use Rattle.std.proofs.Common.{◌∙◌, ap, arith}
use Rattle.format_spec.specs.Words.{more_modes, mode_text}

pub more_append : (modes : List ℕ) (mode : ℕ) → more_modes (modes ++ mode ∷ []) ≡ more_modes modes ++ 44 ∷ (48 + mode) ∷ []
more_append [] mode = refl
more_append (first ∷ modes) mode = ap (λ text. 44 ∷ (48 + first) ∷ text) (more_append modes mode)

pub text_append : (first : ℕ) (modes : List ℕ) (mode : ℕ)
    → mode_text ((first ∷ modes) ++ mode ∷ []) ≡ mode_text (first ∷ modes) ++ 44 ∷ (48 + mode) ∷ []
text_append first modes mode = ap (λ text. (48 + first) ∷ text) (more_append modes mode)

more_length : (modes : List ℕ) → length (more_modes modes) ≡ 2 * length modes
more_length [] = refl
more_length (mode ∷ modes) = let k = more_length modes in omega (arith, k)

pub text_length : (modes : List ℕ) → length (mode_text modes) ≡ 2 * length modes - 1
text_length [] = refl
text_length (mode ∷ modes) = let k = more_length modes in omega (arith, k)

more_digit : (modes : List ℕ) (k d : ℕ) → k < length modes → slice_get (more_modes modes) (2 * k + 1) ≡ Some (48 + slice_index_or modes k d)
more_digit [] k d h = absurd (omega (arith, h))
more_digit (mode ∷ modes) zero d h = refl
more_digit (mode ∷ modes) (suc k) d h =
    let same : 2 * suc k + 1 ≡ suc (suc (2 * k + 1)) = omega arith in
    ap (λ n. slice_get (more_modes (mode ∷ modes)) n) same ∙ more_digit modes k d (omega (arith, h))

-- the digits stand at the even places
pub text_digit : (modes : List ℕ) (k d : ℕ) → k < length modes → slice_get (mode_text modes) (2 * k) ≡ Some (48 + slice_index_or modes k d)
text_digit [] k d h = absurd (omega (arith, h))
text_digit (mode ∷ modes) zero d h = refl
text_digit (mode ∷ modes) (suc k) d h =
    let same : 2 * suc k ≡ suc (2 * k + 1) = omega arith in
    ap (λ n. slice_get (mode_text (mode ∷ modes)) n) same ∙ more_digit modes k d (omega (arith, h))

-- the text so far, and room in it for one mode more
pub room_for_more : (modes : List ℕ) → length modes < 6 → length (mode_text modes) + 2 ≤ 11
room_for_more modes h = let k = text_length modes in omega (arith, h, k)
