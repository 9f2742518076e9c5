-- Lists of coordinates, each once, and rows of them.
use Rattle.std.specs.Prelude.{◌≡◌, ◌≢◌, ℕ, ◌<◌, ◌≤◌, Bool, true, false, ◌||◌, nat_eq, List, [], ◌∷◌, ◌++◌, length, refl}
use Rattle.std.specs.List.{IsDistinct, AllByRecursion}
use Rattle.std.proofs.Common.{◌∙◌, sym, ap, inl, inr}
use Rattle.std.proofs.lemmas.Bool.Decides.{eqb_tells}
use Rattle.std.proofs.lemmas.Map.Steps.{length-le_from_distinct_below}
use Rattle.lists.proofs.Tests.{number_same, number_apart}
use Rattle.tensor_map.specs.Entries.{Listed}
use Rattle.touched_workspaces.specs.Touched.{stands, AreOnce, touched_rows}

or_false : (b : Bool) → (b || false) ≡ b
or_false true = refl
or_false false = refl

pub stands_last : (xs : List ℕ) (x : ℕ) → stands (xs ++ x ∷ []) x ≡ true
stands_last [] x = ap (λ b. b || false) (number_same x)
stands_last (y ∷ xs) x = by (nat_eq x y) (stands_last xs x)
  where
    by : (b : Bool) → stands (xs ++ x ∷ []) x ≡ true → (b || stands (xs ++ x ∷ []) x) ≡ true
    by true h = refl
    by false h = h

pub stands_other : (xs : List ℕ) (x y : ℕ) → x ≢ y → stands (xs ++ x ∷ []) y ≡ stands xs y
stands_other [] x y h = ap (λ b. b || false) (number_apart y x (λ e. h (sym e)))
stands_other (z ∷ xs) x y h = ap (λ b. nat_eq y z || b) (stands_other xs x y h)

-- neither of two that are told apart
neither : (b c : Bool) → (b || c) ≡ false → (b ≡ false) × (c ≡ false)
neither true c h = absurd (never h)
  where
    never : true ≡ false → ⊥
    never e = cc
neither false c h = (refl, h)

apart_of : (x y : ℕ) → nat_eq x y ≡ false → x ≢ y
apart_of x y h e = never (sym (number_same y) ∙ ap (λ z. nat_eq z y) (sym e) ∙ h)
  where
    never : true ≡ false → ⊥
    never e = cc

pub once_more : (xs : List ℕ) (x : ℕ) → AreOnce xs → stands xs x ≡ false → AreOnce (xs ++ x ∷ [])
once_more [] x once new = (refl, tt)
once_more (y ∷ xs) x once new =
    let parts = neither (nat_eq x y) (stands xs x) new in
    (stands_other xs x y (apart_of x y parts.0) ∙ once.0, once_more xs x once.1 parts.1)

none_equal : (x : ℕ) (xs : List ℕ) → stands xs x ≡ false → AllByRecursion (λ y. nat_eq x y ≡ false) xs
none_equal x [] h = tt
none_equal x (y ∷ xs) h = let parts = neither (nat_eq x y) (stands xs x) h in (parts.0, none_equal x xs parts.1)

distinct : (xs : List ℕ) → AreOnce xs → IsDistinct nat_eq xs
unfolding IsDistinct
distinct [] once = tt
distinct (x ∷ xs) once = (none_equal x xs once.0, distinct xs once.1)

-- there are no more of them than numbers below
pub no_more_than : (xs : List ℕ) (size : ℕ) → AreOnce xs → ((x : ℕ) → stands xs x ≡ true → x < size) → length xs ≤ size
no_more_than xs size once below = length-le_from_distinct_below xs size (distinct xs once) below

pub stands_listed : (value : ℕ) (xs : List ℕ) (x : ℕ) → stands xs x ≡ true → Listed (touched_rows value xs) (x ∷ [])
stands_listed value [] x h = absurd (never h)
  where
    never : false ≡ true → ⊥
    never e = cc
stands_listed value (y ∷ xs) x h = elim (eqb_tells x y) [
  | inl equal ↦ inl (ap (λ z. z ∷ []) (sym equal.1))
  | inr apart ↦ inr (stands_listed value xs x (sym (ap (λ b. b || stands xs x) apart.0) ∙ h))
]

pub listed_stands : (value : ℕ) (xs : List ℕ) (coords : List ℕ) → Listed (touched_rows value xs) coords
    → (x : ℕ) × (coords ≡ x ∷ []) × (stands xs x ≡ true)
listed_stands value [] coords h = absurd h
listed_stands value (y ∷ xs) coords (inl here) = (y, sym here, ap (λ b. b || stands xs y) (number_same y))
listed_stands value (y ∷ xs) coords (inr there) =
    let more = listed_stands value xs coords there in
    (more.0, more.1, by (nat_eq more.0 y) more.2)
  where
    by : {c : Bool} → (b : Bool) → c ≡ true → (b || c) ≡ true
    by true h = refl
    by false h = h
