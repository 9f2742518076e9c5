-- What a test decides, and loops over lists that decide what is left.
use Rattle.std.specs.Prelude.{◌≡◌, ℕ, ◌+◌, ◌<◌, Decides, true, false, List, ◌∷◌, length, drop, slice_index, refl}
use Rattle.std.proofs.Common.{◌∙◌, sym, ap, subst, add-one, drop-cons}

-- two facts that hold together
abbrev pub Same : Type 0 → Type 0 → Type 0
Same P Q = (P → Q) × (Q → P)

pub same_self : {P : Type 0} → Same P P
same_self = (λ p. p, λ p. p)

pub same_then : {P Q R : Type 0} → Same P Q → Same Q R → Same P R
same_then f g = (λ p. g.0 (f.0 p), λ r. f.1 (g.1 r))

pub same_is : {X : Type 0} (P : X → Type 0) (x y : X) → x ≡ y → Same (P x) (P y)
same_is P x y e = (λ p. subst P e p, λ q. subst P (sym e) q)

pub never : false ≡ true → ⊥
never e = cc

pub yes : {P : Type 0} → P → Decides true P
yes p = (λ _. p, λ _. refl)

pub no : {P : Type 0} → (P → ⊥) → Decides false P
no n = (λ e. absurd (never e), λ p. absurd (n p))

-- the number at a place, and those behind it
pub left_is : (xs : List ℕ) (i : ℕ) → i < length xs → drop i xs ≡ slice_index xs i ∷ drop (i + 1) xs
left_is xs i h = drop-cons xs i 0 h ∙ ap (λ n. slice_index xs i ∷ drop n xs) (sym (add-one i))
