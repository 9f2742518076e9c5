-- What reads gave, piece by piece.
use Rattle.std.proofs.Common.{List, [], ◌∷◌, ◌++◌, ◌≡◌, ℕ, refl, ap, append_assoc, append-nil}
use Rattle.outside.specs.Given.{opened, extended}

pub extended-nil : (g : List (List ℕ × List ℕ)) → extended g [] ≡ g
extended-nil [] = refl
extended-nil ((name, bytes) ∷ []) = ap (λ b. (name, b) ∷ []) (append-nil bytes)
extended-nil (file ∷ next ∷ more) = ap (λ w. file ∷ w) (extended-nil (next ∷ more))

pub extended-append : (g : List (List ℕ × List ℕ)) (a b : List ℕ) → extended (extended g a) b ≡ extended g (a ++ b)
extended-append [] a b = refl
extended-append ((name, bytes) ∷ []) a b = ap (λ w. (name, w) ∷ []) (append_assoc bytes a b)
extended-append (file ∷ next ∷ []) a b = ap (λ w. file ∷ w) (extended-append (next ∷ []) a b)
extended-append (file ∷ next ∷ third ∷ more) a b = ap (λ w. file ∷ w) (extended-append (next ∷ third ∷ more) a b)

-- of a file that was just opened
pub extended-opened : (g : List (List ℕ × List ℕ)) (name b : List ℕ) → extended (opened g name) b ≡ g ++ (name, b) ∷ []
extended-opened [] name b = refl
extended-opened (file ∷ []) name b = refl
extended-opened (file ∷ next ∷ more) name b = ap (λ w. file ∷ w) (extended-opened (next ∷ more) name b)
