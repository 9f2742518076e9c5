-- Lemmas about what specs/Permutations.antt defines.
use Rattle.std.specs.Prelude.{◌≡◌, ◌≢◌, ℕ, zero, suc, ◌<◌, Bool, true, false, cond, List, [], ◌∷◌, length, map, ◌↔◌, IsPermutation, refl}
use Rattle.std.specs.List.{swap}
use Rattle.std.proofs.Common.{arith, ap, subst, sym, ◌∙◌, inl, inr, get_or}
use Rattle.std.proofs.Math.ListN.{set, length-set}
use Rattle.std.proofs.lemmas.Bool.{cases_eq}
use Rattle.std.proofs.lemmas.List.{get_or-set_same, get_or-set_other}
use Rattle.std.proofs.lemmas.List.Sorted.{IsPermutation-keeps, IsPermutation-map, IsPermutation-sym, Contains-permutation}
use Rattle.numbers.specs.Arithmetic.{Arithmetic, Laws}
use Rattle.numbers.specs.Sums.{total_of}
use Rattle.numbers.proofs.Sums.{total_fits, zero_before, plus_swap}
use Rattle.tensor_map.specs.Entries.{Entry, coords_of, is_at, value_at, Listed}
use Rattle.tensor_map.proofs.Lemmas.{value_here, value_elsewhere}
use Rattle.tensor_map.specs.Permutations.{place_of}

-- a list without the value at a place, and without those at two
without : List ℕ → ℕ → List ℕ
without [] i = []
without (x ∷ xs) zero = xs
without (x ∷ xs) (suc i) = x ∷ without xs i

without_both : List ℕ → ℕ → ℕ → List ℕ
without_both [] i j = []
without_both (x ∷ xs) zero zero = xs
without_both (x ∷ xs) zero (suc j) = without xs j
without_both (x ∷ xs) (suc i) zero = without xs i
without_both (x ∷ xs) (suc i) (suc j) = x ∷ without_both xs i j

without_set : (xs : List ℕ) (i v : ℕ) → without (set xs i v) i ≡ without xs i
unfolding without
without_set [] i v = refl
without_set (x ∷ xs) zero v = refl
without_set (x ∷ xs) (suc i) v = ap (λ ys. x ∷ ys) (without_set xs i v)

first_set : (xs : List ℕ) (i j v : ℕ) → i ≢ j → without_both (set xs i v) i j ≡ without_both xs i j
unfolding without without_both
first_set [] i j v apart = refl
first_set (x ∷ xs) zero zero v apart = absurd (apart refl)
first_set (x ∷ xs) zero (suc j) v apart = refl
first_set (x ∷ xs) (suc i) zero v apart = without_set xs i v
first_set (x ∷ xs) (suc i) (suc j) v apart = ap (λ ys. x ∷ ys) (first_set xs i j v (λ e. apart (ap (λ n. suc n) e)))

second_set : (xs : List ℕ) (i j v : ℕ) → i ≢ j → without_both (set xs j v) i j ≡ without_both xs i j
unfolding without without_both
second_set [] i j v apart = refl
second_set (x ∷ xs) zero zero v apart = absurd (apart refl)
second_set (x ∷ xs) zero (suc j) v apart = without_set xs j v
second_set (x ∷ xs) (suc i) zero v apart = refl
second_set (x ∷ xs) (suc i) (suc j) v apart = ap (λ ys. x ∷ ys) (second_set xs i j v (λ e. apart (ap (λ n. suc n) e)))

module _ (a : Arithmetic) (laws : Laws a) where
  total_without : (xs : List ℕ) (i d : ℕ) → i < length xs → total_of a xs ≡ a.plus (get_or xs i d) (total_of a (without xs i))
  unfolding without
  total_without [] i d h = absurd (omega arith)
  total_without (x ∷ xs) zero d h = refl
  total_without (x ∷ xs) (suc i) d h = ap (a.plus x) (total_without xs i d (omega arith))
      ∙ plus_swap a laws x (get_or xs i d) (total_of a (without xs i))

  total_without_both : (xs : List ℕ) (i j d : ℕ) → i < length xs → j < length xs → i ≢ j
      → total_of a xs ≡ a.plus (get_or xs i d) (a.plus (get_or xs j d) (total_of a (without_both xs i j)))
  unfolding without without_both
  total_without_both [] i j d h g apart = absurd (omega arith)
  total_without_both (x ∷ xs) zero zero d h g apart = absurd (apart refl)
  total_without_both (x ∷ xs) zero (suc j) d h g apart = ap (a.plus x) (total_without xs j d (omega arith))
  total_without_both (x ∷ xs) (suc i) zero d h g apart = ap (a.plus x) (total_without xs i d (omega arith))
      ∙ plus_swap a laws x (get_or xs i d) (total_of a (without xs i))
  total_without_both (x ∷ xs) (suc i) (suc j) d h g apart =
      ap (a.plus x) (total_without_both xs i j d (omega arith) (omega arith) (λ e. apart (ap (λ n. suc n) e)))
      ∙ plus_swap a laws x (get_or xs i d) (a.plus (get_or xs j d) (total_of a (without_both xs i j)))
      ∙ ap (a.plus (get_or xs i d)) (plus_swap a laws x (get_or xs j d) (total_of a (without_both xs i j)))

  total_exchanged : (xs : List ℕ) (i j d : ℕ) → i < length xs → j < length xs
      → total_of a (set (set xs i (get_or xs j d)) j (get_or xs i d)) ≡ total_of a xs
  total_exchanged xs i j d h g = elim (cases_eq i j) [
    | inl is ↦ (
        let once : List ℕ = set xs i (get_or xs j d) in
        let twice : List ℕ = set once i (get_or xs i d) in
        let long : length once ≡ length xs = length-set xs i (get_or xs j d) in
        let long' : length twice ≡ length once = length-set once i (get_or xs i d) in
        subst (λ k. total_of a (set once k (get_or xs i d)) ≡ total_of a xs) is
        (total_without twice i d (omega arith)
        ∙ ap (λ v. a.plus v (total_of a (without twice i))) (get_or-set_same once i (get_or xs i d) d (omega arith))
        ∙ ap (λ ys. a.plus (get_or xs i d) (total_of a ys)) (without_set once i (get_or xs i d) ∙ without_set xs i (get_or xs j d))
        ∙ sym (total_without xs i d h)))
    | inr apart ↦ (
        let x : ℕ = get_or xs i d in
        let y : ℕ = get_or xs j d in
        let once : List ℕ = set xs i y in
        let twice : List ℕ = set once j x in
        let long : length once ≡ length xs = length-set xs i y in
        let long' : length twice ≡ length once = length-set once j x in
        let first : get_or twice i d ≡ y = get_or-set_other once j i x d apart ∙ get_or-set_same xs i y d h in
        let second : get_or twice j d ≡ x = get_or-set_same once j x d (omega arith) in
        let rest : without_both twice i j ≡ without_both xs i j = second_set once i j x apart ∙ first_set xs i j y apart in
        total_without_both twice i j d (omega arith) (omega arith) apart
        ∙ (λ k. a.plus (first k) (a.plus (second k) (total_of a (rest k))))
        ∙ plus_swap a laws y x (total_of a (without_both xs i j))
        ∙ sym (total_without_both xs i j d h g apart))
  ]

  total_swap : (xs : List ℕ) (i j : ℕ) → i < length xs → j < length xs → total_of a (swap xs i j) ≡ total_of a xs
  total_swap [] i j h g = refl
  total_swap (x ∷ xs) i j h g = total_exchanged (x ∷ xs) i j x h g

  -- a sum of values doesn't depend on their order
  pub total_permutation : (xs ys : List ℕ) → IsPermutation xs ys → total_of a ys ≡ total_of a xs
  total_permutation xs ys moved = IsPermutation-keeps xs (λ zs. total_of a zs ≡ total_of a xs) refl (λ zs i j h g e. total_swap zs i j h g
      ∙ e) ys moved

  -- what an entry adds at a coordinate list
  share : List ℕ → Entry → ℕ
  share coords entry = cond (is_at coords entry) entry.value a.zero

  shared : (coords : List ℕ) (entries : List Entry) → total_of a (map (share coords) entries) ≡ value_at a entries coords
  unfolding share
  shared coords [] = refl
  shared coords (entry ∷ entries) = by (is_at coords entry) refl (shared coords entries)
    where
      by : (b : Bool) → is_at coords entry ≡ b → total_of a (map (share coords) entries) ≡ value_at a entries coords
          → a.plus (cond b entry.value a.zero) (total_of a (map (share coords) entries)) ≡ value_at a (entry ∷ entries) coords
      by true e rest = ap (a.plus entry.value) rest ∙ sym (value_here a coords entry entries e)
      by false e rest = zero_before a laws (total_of a (map (share coords) entries)) (total_fits a laws (map (share coords) entries))
          ∙ rest ∙ sym (value_elsewhere a coords entry entries e)

  -- nor does the value at a coordinate list
  pub value_permutation : (entries moved : List Entry) → IsPermutation entries moved → (coords : List ℕ)
      → value_at a moved coords ≡ value_at a entries coords
  value_permutation entries moved is coords =
      sym (shared coords moved)
      ∙ total_permutation (map (share coords) entries) (map (share coords) moved) (IsPermutation-map (share coords) entries moved is)
      ∙ shared coords entries

listed_place : (coords : List ℕ) (entries : List Entry) (k : ℕ) → k < length (coords_of entries)
    → get_or (coords_of entries) k coords ≡ coords → Listed entries coords
listed_place coords [] k h is = absurd (omega arith)
listed_place coords (entry ∷ entries) zero h is = inl is
listed_place coords (entry ∷ entries) (suc k) h is = inr (listed_place coords entries k (omega arith) is)

-- so they don't depend on the order either
moved_listed : (entries moved : List Entry) → IsPermutation entries moved → (coords : List ℕ) → Listed entries coords → Listed moved coords
moved_listed entries moved is coords listed =
    let there = Contains-permutation (coords_of entries) (coords_of moved) coords
    (IsPermutation-map (λ (entry : Entry). entry.coords) entries moved is) (place_of coords entries listed) in
    listed_place coords moved there.0 there.1 there.2

pub listed_permutation : (entries moved : List Entry) → IsPermutation entries moved → (coords : List ℕ)
    → Listed moved coords ↔ Listed entries coords
listed_permutation entries moved is coords =
    (moved_listed moved entries (IsPermutation-sym entries moved is) coords, moved_listed entries moved is coords)
