-- What is so of each element of lists that are made of others, and of tests of lists.
use Rattle.std.specs.Prelude.{◌≡◌, ◌≢◌, ℕ, suc, Bool, true, false, ◌||◌, nat_eq, List, [], ◌∷◌, ◌++◌, map, refl}
use Rattle.std.specs.List.{All, list_any}
use Rattle.std.specs.List.Sorted.{IsPermutation}
use Rattle.std.proofs.Common.{◌∙◌, sym, arith, true≢false}
use Rattle.std.proofs.lemmas.Bool.{eqb-true}
use Rattle.std.proofs.lemmas.List.Elements.{All-nil, All-cons}
use Rattle.std.proofs.lemmas.List.Sorted.{All-permutation}
use Rattle.lists.specs.Each.{Each}

pub each_weaker : {X : Type 0} (P Q : X → Type 0) (xs : List X) → ((x : X) → P x → Q x) → Each P xs → Each Q xs
each_weaker P Q [] f h = tt
each_weaker P Q (x ∷ xs) f h = (f x h.0, each_weaker P Q xs f h.1)

pub each_unmapped : {X Y : Type 0} (P : Y → Type 0) (f : X → Y) (xs : List X) → Each P (map f xs) → Each (λ x. P (f x)) xs
each_unmapped P f [] h = tt
each_unmapped P f (x ∷ xs) h = (h.0, each_unmapped P f xs h.1)

pub each_parts : {X : Type 0} (P : X → Type 0) (xs ys : List X) → Each P (xs ++ ys) → Each P xs × Each P ys
each_parts P [] ys h = (tt, h)
each_parts P (x ∷ xs) ys h = let more = each_parts P xs ys h.1 in ((h.0, more.0), more.1)

each_all : {X : Type 0} (P : X → Type 0) (xs : List X) → Each P xs → All P xs
each_all P [] h = All-nil P
each_all P (x ∷ xs) h = All-cons P x xs h.0 (each_all P xs h.1)

all_each : {X : Type 0} (P : X → Type 0) (xs : List X) → All P xs → Each P xs
all_each P [] h = tt
all_each P (x ∷ xs) h = (h 0 x (omega arith), all_each P xs (λ k d l. h (suc k) d (omega (arith, l))))

pub each_permuted : {X : Type 0} (P : X → Type 0) (xs ys : List X) → IsPermutation xs ys → Each P xs → Each P ys
each_permuted P xs ys moved h = all_each P ys (All-permutation P xs ys moved (each_all P xs h))

-- ---- tests
pub apart_test : (u v : ℕ) → u ≢ v → nat_eq u v ≡ false
apart_test u v apart = by (nat_eq u v) refl
  where
    by : (b : Bool) → nat_eq u v ≡ b → b ≡ false
    by true e = absurd (apart (eqb-true u v e))
    by false e = refl

pub clash : (b : Bool) → b ≡ true → b ≡ false → ⊥
clash b h g = true≢false (sym h ∙ g)

-- no element passes a test that passes no more
pub none_passes : {X : Type 0} (p q : X → Bool) (xs : List X) → ((x : X) → p x ≡ true → q x ≡ true) → list_any q xs ≡ false
    → list_any p xs ≡ false
none_passes p q [] more h = refl
none_passes p q (x ∷ xs) more h = by (p x) refl (q x) refl h (none_passes p q xs more)
  where
    by : (b : Bool) → p x ≡ b → (c : Bool) → q x ≡ c → (c || list_any q xs) ≡ false → (list_any q xs ≡ false → list_any p xs ≡ false)
        → (b || list_any p xs) ≡ false
    by true e true g none rest = none
    by true e false g none rest = absurd (clash (q x) (more x e) g)
    by false e true g none rest = absurd (true≢false none)
    by false e false g none rest = rest none
