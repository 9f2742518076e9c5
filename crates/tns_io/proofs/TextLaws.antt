-- What follows from the definition of a tensor's text.
use Rattle.std.specs.Prelude.{◌≡◌, ℕ, Bool, List, [], ◌∷◌, refl}
use Rattle.std.specs.List.{flat_map}
use Rattle.std.specs.Ordering.{nat_cmp, MatchOrdering}
use Rattle.std.specs.declared.cmp.Ordering.{Ordering}
use Rattle.std.specs.declared.cmp.Ordering.TheVariants.{Less, Equal, Greater}
use Rattle.std.specs.Cmp.Lexicographic.{slice_cmp}
use Rattle.std.proofs.Common.{ap, subst, sym, ◌∙◌, inl, inr}
use Rattle.tensor_map.specs.Order.{IsBefore, IsBeforeAll, Increasing}
use Rattle.tensor_map.proofs.OrderLaws.{before_irreflexive, before_trans, compared_as}
use Rattle.numbers.specs.Arithmetic.{Arithmetic}
use Rattle.tns_io.specs.Text.{line_text, IsAmong, IsTnsText}

-- what is before all of these is none of them
pub before_among : (coords : List ℕ) (places : List (List ℕ)) → IsBeforeAll coords places → IsAmong places coords → ⊥
before_among coords [] before among = among
before_among coords (place ∷ places) before (inl here) = before_irreflexive coords (subst (IsBefore coords) here before.0)
before_among coords (place ∷ places) before (inr more) = before_among coords places before.1 more

-- and one of these is behind what is before all of them
among_behind : (first coords : List ℕ) (places : List (List ℕ)) → IsBeforeAll first places → IsAmong places coords → IsBefore first coords
among_behind first coords [] before among = absurd among
among_behind first coords (place ∷ places) before (inl here) = subst (IsBefore first) here before.0
among_behind first coords (place ∷ places) before (inr more) = among_behind first coords places before.1 more

-- a place that is among others, whose first is behind it
never_among : (first second : List ℕ) (others : List (List ℕ)) → IsBefore first second → IsBeforeAll second others
    → IsAmong (second ∷ others) first → ⊥
never_among first second others before up (inl here) = before_irreflexive first (subst (IsBefore first) here before)
never_among first second others before up (inr more) =
    before_irreflexive first (before_trans first second first before (among_behind second first others up more))

rest_among : (first : List ℕ) (xs ys : List (List ℕ)) → IsBeforeAll first xs
    → ((coords : List ℕ) → IsAmong (first ∷ xs) coords → IsAmong (first ∷ ys) coords)
    → (coords : List ℕ) → IsAmong xs coords → IsAmong ys coords
rest_among first xs ys up same coords among = elim (same coords (inr among)) [
  | inl here ↦ absurd (before_among first xs up (subst (IsAmong xs) (sym here) among))
  | inr more ↦ more
]

-- of increasing lists each is told by what is among it
pub one_list : (xs ys : List (List ℕ)) → Increasing xs → Increasing ys → ((coords : List ℕ) → IsAmong xs coords → IsAmong ys coords)
    → ((coords : List ℕ) → IsAmong ys coords → IsAmong xs coords) → xs ≡ ys
one_list [] [] up up' to from = refl
one_list [] (y ∷ ys) up up' to from = absurd (from y (inl refl))
one_list (x ∷ xs) [] up up' to from = absurd (to x (inl refl))
one_list (x ∷ xs) (y ∷ ys) up up' to from =
    by (slice_cmp nat_cmp x y) (compared_as x y (slice_cmp nat_cmp x y) refl)
    (λ is. one_list xs ys up.1 up'.1
    (rest_among x xs ys up.0 (subst (λ (z : List ℕ). (coords : List ℕ) → IsAmong (x ∷ xs) coords → IsAmong (z ∷ ys) coords) (sym is) to))
    (rest_among y ys xs up'.0 (subst (λ (z : List ℕ). (coords : List ℕ) → IsAmong (y ∷ ys) coords → IsAmong (z ∷ xs) coords) is from)))
  where
    by : (r : Ordering) → MatchOrdering r (IsBefore x y) (x ≡ y) (IsBefore y x) → (x ≡ y → xs ≡ ys) → x ∷ xs ≡ y ∷ ys
    by Less before rest = absurd (never_among x y ys before up'.0 (to x (inl refl)))
    by Greater before rest = absurd (never_among y x xs before up.0 (from y (inl refl)))
    by Equal is rest = λ i. is i ∷ rest is i

-- a tensor has one text
pub one_text : (a : Arithmetic) (signed : Bool) (ranges : List ℕ) (value : List ℕ → ℕ) (first second : List ℕ)
    → IsTnsText a signed ranges value first
    → IsTnsText a signed ranges value second → first ≡ second
one_text a signed ranges value first second is is' =
    is.lines
    ∙ ap (flat_map (λ coords. line_text signed coords (value coords)))
    (one_list is.places is'.places is.increasing is'.increasing
    (λ coords among. (is'.exact coords).1 ((is.exact coords).0 among))
    (λ coords among. (is.exact coords).1 ((is'.exact coords).0 among)))
    ∙ sym is'.lines
