-- Some element of a list, of a moved list and of a mapped one.
use Rattle.std.specs.Prelude.{ℕ, zero, suc, ◌<◌, List, [], ◌∷◌, length, map, Contains}
use Rattle.std.specs.List.Sorted.{IsPermutation}
use Rattle.std.proofs.Common.{arith, inl, inr, refl, get_or, subst, sym}
use Rattle.std.proofs.lemmas.List.Sorted.{Contains-permutation}
use Rattle.concrete_notation.specs.Right.{IsSome}

pub some_mapped : {X Y : Type 0} (P : Y → Type 0) (f : X → Y) (xs : List X) → IsSome P (map f xs) → IsSome (λ x. P (f x)) xs
some_mapped P f [] h = absurd h
some_mapped P f (x ∷ xs) (inl h) = inl h
some_mapped P f (x ∷ xs) (inr h) = inr (some_mapped P f xs h)

pub mapped_some : {X Y : Type 0} (P : Y → Type 0) (f : X → Y) (xs : List X) → IsSome (λ x. P (f x)) xs → IsSome P (map f xs)
mapped_some P f [] h = absurd h
mapped_some P f (x ∷ xs) (inl h) = inl h
mapped_some P f (x ∷ xs) (inr h) = inr (mapped_some P f xs h)

pub some_as : {X : Type 0} (P Q : X → Type 0) (xs : List X) → ((x : X) → P x → Q x) → IsSome P xs → IsSome Q xs
some_as P Q [] f h = absurd h
some_as P Q (x ∷ xs) f (inl h) = inl (f x h)
some_as P Q (x ∷ xs) f (inr h) = inr (some_as P Q xs f h)

-- an element with a place, and its property
record Placed {X : Type 0} (P : X → Type 0) (xs : List X) : Type 0 where
  element : X
  holds : P element
  there : Contains xs element

placed : {X : Type 0} (P : X → Type 0) (xs : List X) → IsSome P xs → Placed P xs
placed P [] h = absurd h
placed P (x ∷ xs) (inl h) = record { element = x; holds = h; there = (0, omega arith, refl) }
placed P (x ∷ xs) (inr h) =
    let p = placed P xs h in record { element = p.element; holds = p.holds; there = (suc p.there.0, omega (arith, p.there.1), p.there.2) }

found : {X : Type 0} (P : X → Type 0) (d : X) (xs : List X) (k : ℕ) → k < length xs → P (get_or xs k d) → IsSome P xs
found P d [] k h is = absurd (omega (arith, h))
found P d (x ∷ xs) zero h is = inl is
found P d (x ∷ xs) (suc k) h is = inr (found P d xs k (omega (arith, h)) is)

pub some_moved : {X : Type 0} (P : X → Type 0) (xs ys : List X) → IsPermutation xs ys → IsSome P xs → IsSome P ys
some_moved P xs ys moved h =
    let p = placed P xs h in
    let there = Contains-permutation xs ys p.element moved p.there in
    found P p.element ys there.0 there.1 (subst P (sym there.2) p.holds)

-- what follows from each follows
pub some_is : {X : Type 0} (P : X → Type 0) (Q : Type 0) (xs : List X) → ((x : X) → P x → Q) → IsSome P xs → Q
some_is P Q [] f h = absurd h
some_is P Q (x ∷ xs) f (inl h) = f x h
some_is P Q (x ∷ xs) f (inr h) = some_is P Q xs f h
