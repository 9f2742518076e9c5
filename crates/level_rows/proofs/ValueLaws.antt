-- Values that are stored at the positions of rows, one after another.
use Rattle.std.specs.Prelude.{◌≡◌, ◌≢◌, ◌⊎◌, ℕ, suc, ◌+◌, ◌≤◌, ◌<◌, List, length, slice_index, slice_set, refl}
use Rattle.std.proofs.Common.{◌∙◌, sym, ap, subst, arith, inl, inr}
use Rattle.std.proofs.lemmas.Bool.{cases_lt}
use Rattle.std.proofs.Math.ListN.{get_or-eq_default}
use Rattle.std.proofs.lemmas.List.{get_or-set_same, get_or-set_other, length-set}
use Rattle.level_rows.specs.Tables.{Increase, ShareBy}
use Rattle.level_rows.specs.Values.{StoresValues}
use Rattle.level_rows.proofs.TableLaws.{before}

pub none_stored : (place : ℕ → ℕ) (value : ℕ → ℕ) (values : List ℕ) → StoresValues 0 place value values values
none_stored place value values = record { long = refl; stored = λ i h. absurd (omega (arith, h)); others = λ p h. refl }

pub one_stored : (n count : ℕ) (place : ℕ → ℕ) (value : ℕ → ℕ) (first values : List ℕ) → ((i j : ℕ) → i < j → j < count → place i ≢ place j)
    → n < count → place n < length first
    → StoresValues n place value first values → StoresValues (n + 1) place value first (slice_set values (place n) (value n))
one_stored n count place value first values apart h inside s =
    subst (λ m. StoresValues m place value first (slice_set values (place n) (value n))) next (record {
      long = length-set values (place n) (value n) ∙ s.long;
      stored = λ i l. by_order i l (cases_lt i n);
      others = λ p none. get_or-set_other values (place n) p (value n) 0 (λ same. none n (omega arith) (sym same))
          ∙ s.others p (λ i l. none i (omega (arith, l)));
    })
  where
    next : suc n ≡ n + 1
    next = omega arith

    by_order : (i : ℕ) → i < suc n → (i < n) ⊎ (n ≤ i) → slice_index (slice_set values (place n) (value n)) (place i) ≡ value i
    by_order i l (inl earlier) = get_or-set_other values (place n) (place i) (value n) 0 (apart i n earlier h) ∙ s.stored i earlier
    by_order i l (inr from) =
        let here : i ≡ n = omega (arith, l, from) in
        let long = s.long in
        ap (λ j. slice_index (slice_set values (place n) (value n)) (place j)) here
        ∙ get_or-set_same values (place n) (value n) 0 (omega (arith, inside, long)) ∙ ap value (sym here)

-- the values of rows, one after another, are stored where each row's place is its number and there are as many positions
pub all_stored : (count : ℕ) (place : ℕ → ℕ) (value : ℕ → ℕ) (first values : List ℕ) → ((i : ℕ) → i < count → place i ≡ i)
    → length first ≡ count → length values ≡ count → ((i : ℕ) → i < count → slice_index values i ≡ value i)
    → StoresValues count place value first values
all_stored count place value first values own many long at = record {
  long = long ∙ sym many;
  stored = λ i h. ap (slice_index values) (own i h) ∙ at i h;
  others = λ p none. by_order p none (cases_lt p count);
}
  where
    by_order : (p : ℕ) → ((i : ℕ) → i < count → place i ≢ p) → (p < count) ⊎ (count ≤ p) → slice_index values p ≡ slice_index first p
    by_order p none (inl h) = absurd (none p h (own p h))
    by_order p none (inr past) = get_or-eq_default values 0 (omega (arith, long, past))
        ∙ sym (get_or-eq_default first 0 (omega (arith, many, past)))

-- no two rows of a table have one position at the last level
pub places_apart : (coords : ℕ → ℕ → ℕ) (order count positions : ℕ) (place : ℕ → ℕ) → Increase coords order count
    → ShareBy coords order count positions place → (i j : ℕ) → i < j → j < count → place i ≢ place j
places_apart coords order count positions place up share i j less h same =
    let p = before coords order count i j up less h in
    let ends = share.agree i j less h same p.0 p.1 in
    let smaller = p.3 in
    omega (arith, ends, smaller)
