-- Lemmas about what specs/Parts.antt defines.
use Rattle.std.specs.Prelude.{◌≡◌, ℕ, suc, ◌+◌, Bool, true, false, not, cond, nat_lt, List, [], ◌∷◌, length, take, drop, Option, Some, None}
use Rattle.std.specs.Prelude.{unwrap_or, ◌<◌, ◌≤◌, refl}
use Rattle.std.specs.List.{slice_split, onto_first, position, position_or_len}
use Rattle.std.proofs.Common.{arith, ap, subst, ◌∙◌}
use Rattle.std.proofs.lemmas.Bool.{ltb-true, ltb-false}
use Rattle.std.proofs.lemmas.List.{length-take}
use Rattle.std.proofs.lemmas.List.Folds.{length-prefix_len}
use Rattle.text_lines.specs.Parts.{parts_behind}

module _ {X : Type 0} (p : X → Bool) where
  -- the first part ends before the first element that passes, or with the list
  pub first_part : (xs : List X) → slice_split p xs ≡ take (position_or_len p xs) xs ∷ parts_behind p (drop (position_or_len p xs) xs)
  first_part [] = refl
  first_part (x ∷ xs) = by (p x) (first_part xs)
    where
      by : (b : Bool) → slice_split p xs ≡ take (position_or_len p xs) xs ∷ parts_behind p (drop (position_or_len p xs) xs)
          → cond b ([] ∷ slice_split p xs) (onto_first x (slice_split p xs)) ≡ take (cond (not b) (1 + position_or_len p xs) 0) (x ∷ xs)
          ∷ parts_behind p (drop (cond (not b) (1 + position_or_len p xs) 0) (x ∷ xs))
      by true rest = refl
      by false rest =
          let more : suc (position_or_len p xs) ≡ 1 + position_or_len p xs = omega arith in
          subst (λ (n : ℕ). onto_first x (slice_split p xs) ≡ take n (x ∷ xs) ∷ parts_behind p (drop n (x ∷ xs))) more
          (ap (onto_first x) rest)

  pub position_within : (xs : List X) → position_or_len p xs ≤ length xs
  position_within xs =
      let long = length-prefix_len (λ x. not (p x)) xs in
      omega (arith, long, length-take (position_or_len p xs) xs)

  place_by : (xs : List X) (b : Bool) (n : ℕ) → nat_lt (position_or_len p xs) (length xs) ≡ b
      → n ≡ unwrap_or (cond b (Some (position_or_len p xs)) None) (length xs) → n ≡ position_or_len p xs
  place_by xs true n e is = is
  place_by xs false n e is =
      let past : length xs ≤ position_or_len p xs = ltb-false (position_or_len p xs) (length xs) e in
      omega (arith, position_within xs)

  -- the first place, or the length where there is none
  pub place_or_length : (xs : List X) (place : Option ℕ) (n : ℕ) → place ≡ position p xs
      → n ≡ unwrap_or place (length xs) → n ≡ position_or_len p xs
  place_or_length xs place n e is =
      place_by xs (nat_lt (position_or_len p xs) (length xs)) n refl (is ∙ ap (λ (o : Option ℕ). unwrap_or o (length xs)) e)

  found_by : (xs : List X) (b : Bool) (i : ℕ) → nat_lt (position_or_len p xs) (length xs) ≡ b
      → Some i ≡ cond b (Some (position_or_len p xs)) None → (i ≡ position_or_len p xs) × (i < length xs)
  found_by xs true i e is =
      let same : i ≡ position_or_len p xs = cc in
      let below : position_or_len p xs < length xs = ltb-true (position_or_len p xs) (length xs) e in
      (same, omega arith)
  found_by xs false i e is = absurd (cc)

  pub place_found : (xs : List X) (i : ℕ) → Some i ≡ position p xs → (i ≡ position_or_len p xs) × (i < length xs)
  place_found xs i is = found_by xs (nat_lt (position_or_len p xs) (length xs)) i refl is

  missed_by : (xs : List X) (b : Bool) → nat_lt (position_or_len p xs) (length xs) ≡ b
      → None ≡ cond b (Some (position_or_len p xs)) None → length xs ≤ position_or_len p xs
  missed_by xs true e is = absurd (cc)
  missed_by xs false e is = ltb-false (position_or_len p xs) (length xs) e

  pub place_missed : (xs : List X) → None ≡ position p xs → length xs ≤ position_or_len p xs
  place_missed xs is = missed_by xs (nat_lt (position_or_len p xs) (length xs)) refl is
