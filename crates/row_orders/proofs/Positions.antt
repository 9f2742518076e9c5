-- Rows that never fall, by their places and the places of their coordinates.
use Rattle.std.specs.Prelude.{◌≡◌, ◌⊎◌, ℕ, zero, suc, ◌≤◌, ◌<◌, List, []}
use Rattle.std.specs.Prelude.{◌∷◌, length, map, take, slice_index, slice_index_or, refl}
use Rattle.std.proofs.Common.{◌∙◌, sym, ap, subst, arith, inl, inr}
use Rattle.std.proofs.lemmas.List.{length-take-le}
use Rattle.lists.specs.Each.{Each}
use Rattle.level_rows.specs.Tables.{IsBefore}
use Rattle.tensor_map.specs.Entries.{Entry}
use Rattle.tensor_map.specs.Order as lists
use Rattle.tensor_map.proofs.Summed.{IsNotAfterAll, NeverFalls}
use Rattle.tensor_storage.specs.Arranged.{no_entry}
use Rattle.row_orders.specs.Orders.{cut, row_coords, NeverFallAt}

-- coordinates that are before others of the same number are smaller at the first place where they differ
record IsSmaller (xs ys : List ℕ) : Type 0 where
  at : ℕ
  within : at < length xs
  agree : (e : ℕ) → e < at → slice_index xs e ≡ slice_index ys e
  less : slice_index xs at < slice_index ys at

smaller : (xs ys : List ℕ) → length xs ≡ length ys → lists.IsBefore xs ys → IsSmaller xs ys
smaller [] [] long h = absurd h
smaller [] (y ∷ ys) long h = absurd (omega (arith, long))
smaller (x ∷ xs) [] long h = absurd h
smaller (x ∷ xs) (y ∷ ys) long (inl less) = record { at = 0; within = omega arith; agree = λ e h. absurd (omega (arith, h)); less = less }
smaller (x ∷ xs) (y ∷ ys) long (inr rest) =
    let more = smaller xs ys (omega (arith, long)) rest.1 in
    let inside = more.within in
    record { at = suc more.at; within = omega (arith, inside); agree = λ e h. agree more.at more.agree e h; less = more.less }
  where
    agree : (n : ℕ) → ((e : ℕ) → e < n → slice_index xs e ≡ slice_index ys e) → (e : ℕ) → e < suc n
        → slice_index (x ∷ xs) e ≡ slice_index (y ∷ ys) e
    agree n f zero h = rest.0
    agree n f (suc e) h = f e (omega (arith, h))

not_after_at : (coords : List ℕ) (rows : List Entry) (j : ℕ) (d : Entry) → IsNotAfterAll coords rows → j < length rows
    → lists.IsBefore coords (slice_index_or rows j d).coords ⊎ (coords ≡ (slice_index_or rows j d).coords)
not_after_at coords [] j d h inside = absurd (omega (arith, inside))
not_after_at coords (row ∷ rows) zero d h inside = h.0
not_after_at coords (row ∷ rows) (suc j) d h inside = not_after_at coords rows j d h.1 (omega (arith, inside))

falls_at : (rows : List Entry) (i j : ℕ) (d : Entry) → NeverFalls rows → i < j → j < length rows
    → lists.IsBefore (slice_index_or rows i d).coords (slice_index_or rows j d).coords
    ⊎ ((slice_index_or rows i d).coords ≡ (slice_index_or rows j d).coords)
falls_at [] i j d h before inside = absurd (omega (arith, inside))
falls_at (row ∷ rows) i zero d h before inside = absurd (omega (arith, before))
falls_at (row ∷ rows) zero (suc j) d h before inside = not_after_at row.coords rows j d h.0 (omega (arith, inside))
falls_at (row ∷ rows) (suc i) (suc j) d h before inside =
    falls_at rows i j d h.1 (omega (arith, before)) (omega (arith, inside))

each_at : (P : Entry → Type 0) (rows : List Entry) (i : ℕ) (d : Entry) → Each P rows → i < length rows → P (slice_index_or rows i d)
each_at P [] i d h inside = absurd (omega (arith, inside))
each_at P (row ∷ rows) zero d h inside = h.0
each_at P (row ∷ rows) (suc i) d h inside = each_at P rows i d h.1 (omega (arith, inside))

mapped_at : (f : Entry → Entry) (rows : List Entry) (i : ℕ) (d : Entry) → i < length rows
    → slice_index_or (map f rows) i d ≡ f (slice_index_or rows i d)
mapped_at f [] i d inside = absurd (omega (arith, inside))
mapped_at f (row ∷ rows) zero d inside = refl
mapped_at f (row ∷ rows) (suc i) d inside = mapped_at f rows i d (omega (arith, inside))

mapped_long : (f : Entry → Entry) (rows : List Entry) → length (map f rows) ≡ length rows
mapped_long f [] = refl
mapped_long f (row ∷ rows) = ap suc (mapped_long f rows)

taken_at : (n : ℕ) (xs : List ℕ) (d : ℕ) → d < n → slice_index (take n xs) d ≡ slice_index xs d
taken_at zero xs d h = absurd (omega (arith, h))
taken_at (suc n) [] d h = refl
taken_at (suc n) (x ∷ xs) zero h = refl
taken_at (suc n) (x ∷ xs) (suc d) h = taken_at n xs d (omega (arith, h))

-- rows whose first coordinates never fall
pub never_fall_at : (n : ℕ) (rows : List Entry) → NeverFalls (map (cut n) rows) → Each (λ (row : Entry). n ≤ length row.coords) rows
    → NeverFallAt (row_coords rows) n (length rows)
never_fall_at n rows rising long i j before inside =
    elim (falls_at (map (cut n) rows) i j no_entry rising before (omega (arith, inside, many))) [
      | inl less ↦ inr (first_smaller (smaller (first i) (first j) (first_long i below ∙ sym (first_long j inside))
          (subst (λ ys. lists.IsBefore (first i) ys) (first_at j inside)
          (subst (λ xs. lists.IsBefore xs (slice_index_or (map (cut n) rows) j no_entry).coords) (first_at i below) less))))
      | inr same ↦ inl (λ d h. sym (read i d h) ∙ ap (λ xs. slice_index xs d) (sym (first_at i below) ∙ same ∙ first_at j inside)
          ∙ read j d h)
    ]
  where
    many : length (map (cut n) rows) ≡ length rows
    many = mapped_long (cut n) rows

    below : i < length rows
    below = omega (arith, before, inside)

    first : ℕ → List ℕ
    first k = take n (slice_index_or rows k no_entry).coords

    first_at : (k : ℕ) → k < length rows → (slice_index_or (map (cut n) rows) k no_entry).coords ≡ first k
    first_at k h = ap (λ (row : Entry). row.coords) (mapped_at (cut n) rows k no_entry h)

    first_long : (k : ℕ) → k < length rows → length (first k) ≡ n
    first_long k h = length-take-le n (slice_index_or rows k no_entry).coords
        (each_at (λ (row : Entry). n ≤ length row.coords) rows k no_entry long h)

    read : (k d : ℕ) → d < n → slice_index (first k) d ≡ row_coords rows d k
    read k d h = taken_at n (slice_index_or rows k no_entry).coords d h

    first_smaller : IsSmaller (first i) (first j) → IsBefore (row_coords rows) n i j
    first_smaller s =
        let whole = first_long i below in
        let inner = s.within in
        let short : s.at < n = omega (arith, inner, whole) in (
          s.at,
          short,
          (λ e h. sym (read i e (omega (arith, h, short))) ∙ s.agree e h ∙ read j e (omega (arith, h, short))),
          subst (λ y. row_coords rows s.at i < y) (read j s.at short)
              (subst (λ x. x < slice_index (first j) s.at) (read i s.at short) s.less),
        )
