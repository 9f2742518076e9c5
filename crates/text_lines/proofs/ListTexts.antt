-- Texts of lists, element by element.
use Rattle.std.specs.Prelude.{◌≡◌, ℕ, zero, suc, ◌+◌, List, [], ◌∷◌, ◌++◌, drop, Some, None, slice_get}
use Rattle.std.specs.List.{flat_map}
use Rattle.std.proofs.Common.{◌∙◌, ap, sym, add-one}
use Rattle.std.proofs.lemmas.Option.{same_Some}

module _ {A : Type 0} where
  nothing : (x : A) → None ≡ Some x → ⊥
  nothing x h = cc

  -- what is left of a list from an element on
  pub get_drop : (xs : List A) (i : ℕ) (x : A) → slice_get xs i ≡ Some x → drop i xs ≡ x ∷ drop (suc i) xs
  get_drop [] zero x h = absurd (nothing x h)
  get_drop [] (suc i) x h = absurd (nothing x h)
  get_drop (y ∷ xs) zero x h = ap (λ (z : A). z ∷ xs) (same_Some y x h)
  get_drop (y ∷ xs) (suc i) x h = get_drop xs i x h

  -- the text of the elements from one on
  pub text_step : (f : A → List ℕ) (xs : List A) (i : ℕ) (x : A) → slice_get xs i ≡ Some x
      → flat_map f (drop i xs) ≡ f x ++ flat_map f (drop (i + 1) xs)
  text_step f xs i x h = ap (flat_map f) (get_drop xs i x h) ∙ ap (λ (k : ℕ). f x ++ flat_map f (drop k xs)) (sym (add-one i))
