-- The sums at a result's positions, where a head is appended and where a row is added.
use Rattle.std.specs.Prelude.{◌≡◌, ◌⊎◌, ℕ, zero, suc, ◌+◌, ◌-◌, ◌*◌, ◌^◌, ◌≤◌, ◌<◌, List, [], ◌∷◌, ◌++◌, length}
use Rattle.std.specs.Prelude.{drop}
use Rattle.std.specs.Prelude.{slice_index, slice_set, refl}
use Rattle.std.proofs.Common.{◌∙◌, sym, ap, arith, inl, inr}
use Rattle.std.proofs.lemmas.Bool.{cases_order}
use Rattle.std.proofs.lemmas.List.{get_or-set_same, get_or-set_other, length-set}
use Rattle.std.proofs.lemmas.List.{drop_all}
use Rattle.numbers.specs.Arithmetic.{Arithmetic, Laws}
use Rattle.numbers.proofs.Sums.{total_fits}
use Rattle.tensor_map.specs.Entries.{Entry, value_at, values_at}
use Rattle.tensor_map.specs.Laws.{same, other}
use Rattle.tensor_map.proofs.Lemmas.{tested, value_append, value_here, value_elsewhere}
use Rattle.tns_io.specs.Positions.{product, IsBelow, position}
use Rattle.tns_io.proofs.PositionLaws as positions
use Rattle.level_core.specs.declared.letter.Letter.{Letter}
use Rattle.level_appends.proofs.Keys.{same_row}
use Rattle.level_appends.proofs.Placed.{full_within, one_place}
use Rattle.appended_results.specs.Heads.{IsHead, key_in}
use Rattle.appended_results.specs.Places.{place_above, positions_above}
use Rattle.appended_results.specs.Levels.{MayHold}
use Rattle.appended_results.specs.Rows.{all_positions}
use Rattle.appended_results.specs.Sums.{head_at, spot_of, HoldsSums}
use Rattle.appended_results.proofs.PlaceLaws.{place_within, place_apart}
use Rattle.appended_results.proofs.LevelSteps.{full_positions}

pub drop_step : (xs : List ℕ) (d : ℕ) → d < length xs → drop d xs ≡ slice_index xs d ∷ drop (suc d) xs
drop_step [] d h = absurd (omega (arith, h))
drop_step (x ∷ xs) zero h = refl
drop_step (x ∷ xs) (suc d) h = drop_step xs d (omega (arith, h))

-- below the head there are as many positions for each as coordinates of the levels there
tail_positions : (letters : List Letter) (sizes : List ℕ) (coords : ℕ → ℕ → ℕ) (count head more d : ℕ) → IsHead letters head
    → length sizes ≡ length letters → head ≤ d → d + more ≡ length letters
    → positions_above letters sizes coords count (length letters) ≡ positions_above letters sizes coords count d * product (drop d sizes)
tail_positions letters sizes coords count head zero d is each from at =
    let here : d ≡ length letters = omega (arith, at) in
    let none : drop d sizes ≡ [] = drop_all d sizes (omega (arith, each, here)) in
    let one : positions_above letters sizes coords count d ≡ positions_above letters sizes coords count d * 1 = omega arith in
    ap (positions_above letters sizes coords count) (sym here) ∙ one
    ∙ ap (λ ns. positions_above letters sizes coords count d * product ns) (sym none)
tail_positions letters sizes coords count head (suc more) d is each from at =
    let inside : d < length letters = omega (arith, at) in
    let rest = tail_positions letters sizes coords count head more (suc d) is each (omega (arith, from)) (omega (arith, at)) in
    let next = full_positions letters sizes coords count d (is.tail d from inside) in
    let split = ap product (drop_step sizes d (omega (arith, each, inside))) in
    rest ∙ ap (λ p. p * product (drop (suc d) sizes)) next
    ∙ times_times (positions_above letters sizes coords count d) (slice_index sizes d) (product (drop (suc d) sizes))
    ∙ ap (λ q. positions_above letters sizes coords count d * q) (sym split)
  where
    times_times : (a n p : ℕ) → (a * n) * p ≡ a * (n * p)
    times_times a n p = omega arith

module _ (letters : List Letter) (sizes : List ℕ) (head : ℕ) (heads : List (List ℕ)) (may : MayHold letters sizes head heads) where
  pub all_are : all_positions letters sizes heads
      ≡ positions_above letters sizes (key_in heads) (length heads) head * product (drop head sizes)
  all_are =
      let w = may.is_head.within in
      tail_positions letters sizes (key_in heads) (length heads) head (length letters - head) head may.is_head may.each (omega arith)
      (omega (arith, w))

  -- each spot is a position
  pub spot_within : (j : ℕ) (xs : List ℕ) → j < length heads → IsBelow (drop head sizes) xs
      → spot_of letters sizes head heads j xs < all_positions letters sizes heads
  spot_within j xs h below =
      let place = place_within letters sizes (key_in heads) (length heads) head may.chained may.is_head.within may.rise may.below head j
      (omega arith) h in
      let low = positions.position_below (drop head sizes) xs below in
      let all = all_are in
      let spot = full_within (product (drop head sizes)) (place_above letters sizes (key_in heads) head j)
      (positions_above letters sizes (key_in heads) (length heads) head) (position (drop head sizes) xs) low place in
      omega (arith, spot, all)

  -- and no two are one
  pub one_spot : (i j : ℕ) (xs ys : List ℕ) → i < length heads → j < length heads → IsBelow (drop head sizes) xs
      → IsBelow (drop head sizes) ys → spot_of letters sizes head heads i xs ≡ spot_of letters sizes head heads j ys → (i ≡ j) × (xs ≡ ys)
  one_spot i j xs ys h g b d e =
      let one = one_place (product (drop head sizes)) (place_above letters sizes (key_in heads) head i)
      (place_above letters sizes (key_in heads) head j) (position (drop head sizes) xs) (position (drop head sizes) ys)
      (positions.position_below (drop head sizes) xs b) (positions.position_below (drop head sizes) ys d) e in
      (by_order one.0 (cases_order i j), positions.position_injective (drop head sizes) xs ys b d one.1)
    where
      unlike : (i j : ℕ) → i < j → j < length heads
          → place_above letters sizes (key_in heads) head i ≡ place_above letters sizes (key_in heads) head j → ⊥
      unlike i j less h equal =
          place_apart letters sizes (key_in heads) (length heads) head may.chained may.is_head.within may.rise may.below i j less h equal

      by_order : place_above letters sizes (key_in heads) head i ≡ place_above letters sizes (key_in heads) head j
          → (i ≡ j) ⊎ ((i < j) ⊎ (j < i)) → i ≡ j
      by_order equal (inl is) = is
      by_order equal (inr (inl less)) = absurd (unlike i j less g equal)
      by_order equal (inr (inr more)) = absurd (unlike j i more h (sym equal))

  -- two heads with the same coordinates are one
  one_head_at : (i j : ℕ) → i < length heads → j < length heads → head_at heads i ≡ head_at heads j → i ≡ j
  one_head_at i j h g equal =
      same_row (key_in heads) head (length heads) i j may.rise h g (λ d l. ap (λ k. slice_index k d) equal)

-- lists that are equal have equal parts
same_parts : (xs ys us vs : List ℕ) → length xs ≡ length ys → xs ++ us ≡ ys ++ vs → (xs ≡ ys) × (us ≡ vs)
same_parts [] [] us vs long e = (refl, e)
same_parts [] (y ∷ ys) us vs long e = absurd (omega (arith, long))
same_parts (x ∷ xs) [] us vs long e = absurd (omega (arith, long))
same_parts (x ∷ xs) (y ∷ ys) us vs long e =
    let front : x ≡ y = cc in
    let rest : xs ++ us ≡ ys ++ vs = cc in
    let parts = same_parts xs ys us vs (omega (arith, long)) rest in
    (ap (λ z. z ∷ xs) front ∙ ap (λ zs. y ∷ zs) parts.0, parts.1)

-- a row is added at its spot
pub row_added : (a : Arithmetic) → Laws a → (letters : List Letter) (sizes : List ℕ) (head : ℕ) (heads : List (List ℕ))
    → MayHold letters sizes head heads → ((j : ℕ) → j < length heads → length (head_at heads j) ≡ head)
    → (rows : List Entry) (row : Entry) (words : List ℕ) → row.value < 2 ^ 64 → HoldsSums a letters sizes head heads rows words
    → (k : ℕ) (ys : List ℕ) → k < length heads → IsBelow (drop head sizes) ys → row.coords ≡ head_at heads k ++ ys
    → HoldsSums a letters sizes head heads (rows ++ row ∷ [])
    (slice_set words (spot_of letters sizes head heads k ys) (a.plus (slice_index words (spot_of letters sizes head heads k ys)) row.value))
row_added a laws letters sizes head heads may long rows row words word h k ys inside below is = record {
  many = length-set words (spot_of letters sizes head heads k ys)
      (a.plus (slice_index words (spot_of letters sizes head heads k ys)) row.value) ∙ h.many;
  each = λ j xs g b. elim (tested row.coords (head_at heads j ++ xs)) [
    | same e q ↦
        let parts = same_parts (head_at heads k) (head_at heads j) ys xs (long k inside ∙ sym (long j g)) (sym is ∙ e) in
        let at : k ≡ j = one_head_at letters sizes head heads may k j inside g parts.0 in
        let there : spot_of letters sizes head heads j xs ≡ (spot_of letters sizes head heads k ys) =
        ap (λ i. spot_of letters sizes head heads i xs) (sym at) ∙ ap (spot_of letters sizes head heads k) (sym parts.1) in
        ap (slice_index (slice_set words (spot_of letters sizes head heads k ys)
        (a.plus (slice_index words (spot_of letters sizes head heads k ys)) row.value))) there
        ∙ get_or-set_same words (spot_of letters sizes head heads k ys)
        (a.plus (slice_index words (spot_of letters sizes head heads k ys)) row.value) 0 low
        ∙ ap (λ x. a.plus x row.value) (h.each k ys inside below ∙ ap (value_at a rows) (sym is ∙ e))
        ∙ sym (value_append a laws (head_at heads j ++ xs) rows (row ∷ [])
        ∙ ap (a.plus (value_at a rows (head_at heads j ++ xs)))
        (value_here a (head_at heads j ++ xs) row [] q ∙ laws.plus_zero row.value word))
    | other e q ↦
        get_or-set_other words (spot_of letters sizes head heads k ys) (spot_of letters sizes head heads j xs)
        (a.plus (slice_index words (spot_of letters sizes head heads k ys)) row.value) 0
        (λ z. let one = one_spot letters sizes head heads may j k xs ys g inside b below z in
        e (is ∙ ap (λ i. head_at heads i ++ ys) (sym one.0) ∙ ap (λ zs. head_at heads j ++ zs) (sym one.1)))
        ∙ h.each j xs g b
        ∙ sym (value_append a laws (head_at heads j ++ xs) rows (row ∷ [])
        ∙ ap (a.plus (value_at a rows (head_at heads j ++ xs))) (value_elsewhere a (head_at heads j ++ xs) row [] q)
        ∙ laws.plus_zero (value_at a rows (head_at heads j ++ xs)) (total_fits a laws (values_at rows (head_at heads j ++ xs))))
  ];
}
  where
    low : spot_of letters sizes head heads k ys < length words
    low = let w = spot_within letters sizes head heads may k ys inside below in let m = h.many in omega (arith, w, m)
