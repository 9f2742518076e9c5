-- There is one row of sums of pairs, whatever the order in which they were added.
use Rattle.std.specs.Prelude.{◌≡◌, ℕ, suc, ◌<◌, List, [], ◌∷◌, All, ◌↔◌, IsPermutation, length, refl, slice_index_or}
use Rattle.std.specs.declared.cmp.Ordering.{Ordering}
use Rattle.std.specs.declared.cmp.Ordering.TheVariants.{Less, Equal, Greater}
use Rattle.std.specs.Ordering.{nat_cmp, MatchOrdering}
use Rattle.std.specs.Cmp.Lexicographic.{slice_cmp}
use Rattle.std.proofs.Common.{arith, ap, subst, sym, ◌∙◌, inl, inr}
use Rattle.numbers.specs.Arithmetic.{Arithmetic, Laws}
use Rattle.tensor_map.specs.Order.{IsBefore, IsBeforeAll}
use Rattle.tensor_map.specs.Entries.{Entry, IsEntry, coords_of, value_at, Listed, StrictlyIncreasing}
use Rattle.tensor_map.proofs.OrderLaws.{before_irreflexive, compared_as, before_all_trans}
use Rattle.tensor_map.proofs.Lemmas.{unlisted_before, value_of_entry}
use Rattle.tensor_map.proofs.Permutations.{value_permutation, listed_permutation}
use Rattle.workspaces.specs.Workspaces.{AreSums}

-- a coordinate list that is listed in the rest of a row is after the first one's
rest_is_after : (first : Entry) (entries : List Entry) (coords : List ℕ) → IsBeforeAll first.coords (coords_of entries)
    → Listed entries coords → IsBefore first.coords coords
rest_is_after first (entry ∷ entries) coords before (inl here) = subst (IsBefore first.coords) here before.0
rest_is_after first (entry ∷ entries) coords before (inr more) = rest_is_after first entries coords before.1 more
rest_is_after first [] coords before listed = absurd listed

-- rows that list the same and begin with the same coordinates list the same after them
rest_listed : (first second : Entry) (entries others : List Entry) → first.coords ≡ second.coords
    → IsBeforeAll first.coords (coords_of entries) → ((coords : List ℕ) → Listed (first ∷ entries) coords → Listed (second ∷ others) coords)
    → (coords : List ℕ) → Listed entries coords → Listed others coords
rest_listed first second entries others is before same coords more = by (same coords (inr more))
  where
    by : Listed (second ∷ others) coords → Listed others coords
    by (inl here) =
        absurd (before_irreflexive coords (subst (λ c. IsBefore c coords) (is ∙ here) (rest_is_after first entries coords before more)))
    by (inr there) = there

-- increasing rows that list the same coordinates, with the same values by place, are one row
pub same_rows : (entries others : List Entry) → StrictlyIncreasing entries → StrictlyIncreasing others
    → ((coords : List ℕ) → Listed entries coords ↔ Listed others coords)
    → (v : List ℕ → ℕ)
    → ((k : ℕ) (d : Entry) → k < length entries → (slice_index_or entries k d).value ≡ v (slice_index_or entries k d).coords)
    → ((k : ℕ) (d : Entry) → k < length others → (slice_index_or others k d).value ≡ v (slice_index_or others k d).coords)
    → entries ≡ others
same_rows [] [] up up' same v here there = refl
same_rows [] (second ∷ others) up up' same v here there = absurd ((same second.coords).1 (inl refl))
same_rows (first ∷ entries) [] up up' same v here there = absurd ((same first.coords).0 (inl refl))
same_rows (first ∷ entries) (second ∷ others) up up' same v here there =
    by (slice_cmp nat_cmp first.coords second.coords)
    (compared_as first.coords second.coords (slice_cmp nat_cmp first.coords second.coords) refl)
    (λ is. same_rows entries others up.1 up'.1
    (λ coords. (
      rest_listed first second entries others is up.0 (λ c. (same c).0) coords,
      rest_listed second first others entries (sym is) up'.0 (λ c. (same c).1) coords,
    ))
    v (λ k d h. here (suc k) d (omega arith)) (λ k d h. there (suc k) d (omega arith)))
  where
    by : (r : Ordering)
        → MatchOrdering r (IsBefore first.coords second.coords) (first.coords ≡ second.coords) (IsBefore second.coords first.coords)
        → (first.coords ≡ second.coords → entries ≡ others) → first ∷ entries ≡ second ∷ others
    by Less before after = absurd (unlisted_before first.coords (second ∷ others)
        (before, before_all_trans first.coords second.coords (coords_of others) before up'.0) ((same first.coords).0 (inl refl)))
    by Greater before after = absurd (unlisted_before second.coords (first ∷ entries)
        (before, before_all_trans second.coords first.coords (coords_of entries) before up.0) ((same second.coords).1 (inl refl)))
    by Equal is after =
        let values : first.value ≡ second.value = here 0 first (omega arith) ∙ ap v is ∙ sym (there 0 second (omega arith)) in
        let entry : first ≡ second = λ i. record { coords = is i; value = values i } in
        let rest : entries ≡ others = after is in
        λ i. entry i ∷ rest i

-- the value of each entry of a row of sums
value_in : (a : Arithmetic) → Laws a → (keys : ℕ) (pairs sums : List Entry) → All (IsEntry keys) sums → AreSums a pairs sums
    → (k : ℕ) (d : Entry) → k < length sums → (slice_index_or sums k d).value ≡ value_at a pairs (slice_index_or sums k d).coords
value_in a laws keys pairs sums each are k d h =
    sym (value_of_entry a laws sums k d are.increasing h (each k d h).word) ∙ are.values (slice_index_or sums k d).coords

pub one_row_of_sums : (a : Arithmetic) → Laws a → (keys : ℕ) (pairs sums others : List Entry)
    → All (IsEntry keys) sums → All (IsEntry keys) others
    → AreSums a pairs sums → AreSums a pairs others → sums ≡ others
one_row_of_sums a laws keys pairs sums others each each' are are' =
    same_rows sums others are.increasing are'.increasing
    (λ coords. (λ h. (are'.listed coords).1 ((are.listed coords).0 h), λ h. (are.listed coords).1 ((are'.listed coords).0 h)))
    (value_at a pairs) (value_in a laws keys pairs sums each are) (value_in a laws keys pairs others each' are')

pub sums_of_moved : (a : Arithmetic) → Laws a → (pairs moved sums : List Entry) → IsPermutation pairs moved → AreSums a moved sums
    → AreSums a pairs sums
sums_of_moved a laws pairs moved sums permuted are =
    let listed = listed_permutation pairs moved permuted in
    record {
      listed = λ coords. (λ h. (listed coords).0 ((are.listed coords).0 h), λ h. (are.listed coords).1 ((listed coords).1 h));
      values = λ coords. are.values coords ∙ value_permutation a laws pairs moved permuted coords;
      increasing = are.increasing;
    }
