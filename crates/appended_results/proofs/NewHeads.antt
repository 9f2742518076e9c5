-- The sums at a result's positions once a head is appended: zeros at its positions.
use Rattle.std.specs.Prelude.{◌≡◌, ◌≢◌, ◌⊎◌, ℕ, suc, ◌+◌, ◌-◌, ◌*◌, ◌≤◌, ◌<◌, true, if◌then◌else◌, List, [], ◌∷◌, ◌++◌}
use Rattle.std.specs.Prelude.{length, drop}
use Rattle.std.specs.Prelude.{slice_index, replicate, refl}
use Rattle.std.proofs.Common.{◌∙◌, sym, ap, arith, inl, inr}
use Rattle.std.proofs.lemmas.Bool.{cases_lt}
use Rattle.std.proofs.lemmas.List.{get_or_append_left, get_or-append_right, get_or_push, length-append, length-replicate, length_push}
use Rattle.numbers.specs.Arithmetic.{Arithmetic}
use Rattle.tensor_map.specs.Entries.{Entry, value_at}
use Rattle.tensor_map.specs.Laws.{same, other}
use Rattle.tensor_map.proofs.Lemmas.{tested, value_elsewhere}
use Rattle.tns_io.specs.Positions.{product, IsBelow, position}
use Rattle.level_core.specs.declared.letter.Letter.{Letter}
use Rattle.level_rows.specs.Rows.{begun, place}
use Rattle.tensor_storage.proofs.Chains.{chain_some}
use Rattle.tensor_storage.proofs.PackSteps.{all_same}
use Rattle.level_appends.proofs.Logs.{begun_along}
use Rattle.appended_results.specs.Heads.{key_in, row_at}
use Rattle.appended_results.specs.Places.{through, first_at, place_above, positions_above}
use Rattle.appended_results.specs.Levels.{MayHold}
use Rattle.appended_results.specs.Rows.{all_positions}
use Rattle.appended_results.specs.Sums.{head_at, spot_of, HoldsSums}
use Rattle.appended_results.proofs.HeadLaws.{key_before}
use Rattle.appended_results.proofs.PlaceLaws.{SameCoords, above_along, first_along}
use Rattle.appended_results.proofs.LevelSteps.{sparse_positions, sparse_place}
use Rattle.appended_results.proofs.SumLaws.{all_are, spot_within}
use Rattle.appended_results.proofs.TestLaws.{begins_all}

-- rows none of which is at these coordinates
none_there : (a : Arithmetic) (rows : List Entry) (coords : List ℕ) → ((i : ℕ) → i < length rows → (row_at rows i).coords ≢ coords)
    → value_at a rows coords ≡ a.zero
none_there a [] coords away = refl
none_there a (row ∷ rows) coords away = elim (tested row.coords coords) [
  | same e q ↦ absurd (away 0 (omega arith) e)
  | other e q ↦ value_elsewhere a coords row rows q ∙ none_there a rows coords (λ i h. away (suc i) (omega (arith, h)))
]

module _ (letters : List Letter) (sizes : List ℕ) (head : ℕ) (heads : List (List ℕ)) (key : List ℕ)
    (old : MayHold letters sizes head heads) (may : MayHold letters sizes head (heads ++ key ∷ [])) where
  same_keys : SameCoords (length heads) (key_in heads) (key_in (heads ++ key ∷ []))
  same_keys d i h = key_before heads key d i h

  last : suc (head - 1) ≡ head
  last = let m = may.is_head.some in omega (arith, m)

  begins_there : first_at letters (key_in (heads ++ key ∷ [])) (head - 1) (length heads) ≡ true
  begins_there =
      let some = chain_some (drop (head - 1) letters) in
      let m = may.is_head.some in
      begins_all head heads key (through letters (head - 1)) may.rise (omega (arith, some, m))

  -- the new head's position is the first one behind the others
  new_place : place_above letters sizes (key_in (heads ++ key ∷ [])) head (length heads)
      ≡ positions_above letters sizes (key_in heads) (length heads) head
  new_place =
      let sparse = may.is_head.last (head - 1) last in
      let first = first_at letters (key_in (heads ++ key ∷ [])) (head - 1) in
      let more : begun (first_at letters (key_in (heads ++ key ∷ [])) (head - 1)) (suc (length heads))
      ≡ begun (first_at letters (key_in (heads ++ key ∷ [])) (head - 1)) (length heads) + 1 =
      ap (λ b. if b then begun (first_at letters (key_in (heads ++ key ∷ [])) (head - 1)) (length heads) + 1
      else begun (first_at letters (key_in (heads ++ key ∷ [])) (head - 1)) (length heads)) begins_there in
      let along = begun_along (length heads) (first_at letters (key_in heads) (head - 1))
      (first_at letters (key_in (heads ++ key ∷ [])) (head - 1))
      (first_along letters sizes (key_in heads) (key_in (heads ++ key ∷ [])) (length heads) same_keys (head - 1)) in
      let here : place (first_at letters (key_in (heads ++ key ∷ [])) (head - 1)) (length heads)
      ≡ begun (first_at letters (key_in heads) (head - 1)) (length heads) = omega (arith, more, along) in
      ap (λ d. place_above letters sizes (key_in (heads ++ key ∷ [])) d (length heads)) (sym last)
      ∙ sparse_place letters sizes (key_in (heads ++ key ∷ [])) (head - 1) (length heads) sparse ∙ here
      ∙ sym (sparse_positions letters sizes (key_in heads) (length heads) (head - 1) sparse)
      ∙ ap (positions_above letters sizes (key_in heads) (length heads)) last

  -- the values of a head more
  pub head_added : (a : Arithmetic) (nothing : ℕ) (rows : List Entry) (words : List ℕ) → a.zero ≡ nothing
      → length words ≤ all_positions letters sizes (heads ++ key ∷ [])
      → ((i : ℕ) (xs : List ℕ) → i < length rows → (row_at rows i).coords ≢ key ++ xs)
      → HoldsSums a letters sizes head heads rows words
      → HoldsSums a letters sizes head (heads ++ key ∷ []) rows
      (words ++ replicate (all_positions letters sizes (heads ++ key ∷ []) - length words) nothing)
  head_added a nothing rows words zeros upto fresh h = record {
    many =
        let both = length-append words (replicate (all_positions letters sizes (heads ++ key ∷ []) - length words) nothing) in
        let behind = length-replicate (all_positions letters sizes (heads ++ key ∷ []) - length words) nothing in
        omega (arith, both, behind, upto);
    each = λ j xs g b. by_order j xs g b (cases_lt j (length heads));
  }
    where
      by_order : (j : ℕ) (xs : List ℕ) → j < length (heads ++ key ∷ []) → IsBelow (drop head sizes) xs
          → (j < length heads) ⊎ (length heads ≤ j)
          → slice_index (words ++ replicate (all_positions letters sizes (heads ++ key ∷ []) - length words) nothing)
          (spot_of letters sizes head (heads ++ key ∷ []) j xs) ≡ value_at a rows (head_at (heads ++ key ∷ []) j ++ xs)
      by_order j xs g b (inl less) =
          let w = spot_within letters sizes head heads old j xs less b in
          let m = h.many in
          let spot : spot_of letters sizes head (heads ++ key ∷ []) j xs ≡ spot_of letters sizes head heads j xs =
          ap (λ p. p * product (drop head sizes) + position (drop head sizes) xs)
          (above_along letters sizes (key_in heads) (key_in (heads ++ key ∷ [])) (length heads) same_keys head j less) in
          ap (slice_index (words ++ replicate (all_positions letters sizes (heads ++ key ∷ []) - length words) nothing)) spot
          ∙ get_or_append_left words (replicate (all_positions letters sizes (heads ++ key ∷ []) - length words) nothing) 0
          (spot_of letters sizes head heads j xs) (omega (arith, w, m))
          ∙ h.each j xs less b ∙ ap (λ k. value_at a rows (k ++ xs)) (sym (get_or_append_left heads (key ∷ []) [] j less))
      by_order j xs g b (inr from) =
          let more = length_push heads key in
          let at : j ≡ length heads = omega (arith, from, g, more) in
          let w = spot_within letters sizes head (heads ++ key ∷ []) may j xs g b in
          let all = all_are letters sizes head heads old in
          let m = h.many in
          let start : place_above letters sizes (key_in (heads ++ key ∷ [])) head j
          ≡ positions_above letters sizes (key_in heads) (length heads) head =
          ap (place_above letters sizes (key_in (heads ++ key ∷ [])) head) at ∙ new_place in
          let spot : spot_of letters sizes head (heads ++ key ∷ []) j xs ≡ length words + position (drop head sizes) xs =
          ap (λ p. p * product (drop head sizes) + position (drop head sizes) xs) start
          ∙ ap (λ n. n + position (drop head sizes) xs) (sym all ∙ sym m) in
          get_or-append_right words (replicate (all_positions letters sizes (heads ++ key ∷ []) - length words) nothing) (length words)
          (spot_of letters sizes head (heads ++ key ∷ []) j xs) 0 refl (omega (arith, spot))
          ∙ all_same (all_positions letters sizes (heads ++ key ∷ []) - length words)
          (spot_of letters sizes head (heads ++ key ∷ []) j xs - length words) nothing (omega (arith, w, spot))
          ∙ sym zeros ∙ sym (none_there a rows (key ++ xs) (λ i l. fresh i xs l))
          ∙ ap (λ k. value_at a rows (k ++ xs)) (sym (ap (head_at (heads ++ key ∷ [])) at ∙ get_or_push heads key [] (length heads) refl))
