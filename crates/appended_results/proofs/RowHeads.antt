-- The heads of rows where one row more comes.
use Rattle.std.specs.Prelude.{◌≡◌, ◌≢◌, ◌⊎◌, ℕ, zero, suc, ◌-◌, ◌≤◌, ◌<◌, List, [], ◌∷◌, ◌++◌, length, take, slice_index}
use Rattle.std.specs.Prelude.{slice_index_or, refl}
use Rattle.std.proofs.Common.{◌∙◌, sym, ap, arith, inl, inr}
use Rattle.std.proofs.lemmas.Bool.{cases_lt}
use Rattle.std.proofs.lemmas.List.{get_or_append_left, get_or_push, get_or-take, length_push}
use Rattle.lists.specs.Each.{Each}
use Rattle.level_rows.specs.Tables.{Increase}
use Rattle.tensor_map.specs.Entries.{Entry}
use Rattle.tensor_storage.specs.Arranged.{no_entry}
use Rattle.level_appends.proofs.Keys.{SameKey, KeyBefore, before_along, same_row}
use Rattle.appended_results.specs.Heads.{key_in, row_at, AreHeads, Follows}
use Rattle.appended_results.proofs.HeadLaws.{key_before, key_last}

each_push : {A : Type 0} (P : A → Type 0) (xs : List A) (x : A) → Each P xs → P x → Each P (xs ++ x ∷ [])
each_push P [] x e p = (p, tt)
each_push P (y ∷ ys) x e p = (e.0, each_push P ys x e.1 p)

pub each_at : (head : ℕ) (heads : List (List ℕ)) (j : ℕ) → Each (λ key. length key ≡ head) heads → j < length heads
    → length (slice_index_or heads j []) ≡ head
each_at head [] j e h = absurd (omega (arith, h))
each_at head (key ∷ heads) zero e h = e.0
each_at head (key ∷ heads) (suc j) e h = each_at head heads j e.1 (omega (arith, h))

module _ (head : ℕ) (rows : List Entry) (row : Entry) (heads : List (List ℕ)) (are : AreHeads head rows heads) where
  counted : length (rows ++ row ∷ []) ≡ suc (length rows)
  counted = let k = length_push rows row in omega (arith, k)

  earlier : (i : ℕ) → i < length rows → row_at (rows ++ row ∷ []) i ≡ row_at rows i
  earlier i h = get_or_append_left rows (row ∷ []) no_entry i h

  latest : row_at (rows ++ row ∷ []) (length rows) ≡ row
  latest = get_or_push rows row no_entry (length rows) refl

  -- its head is the last one
  pub heads_same : (k : ℕ) → length heads ≡ suc k → take head row.coords ≡ slice_index_or heads k []
      → AreHeads head (rows ++ row ∷ []) heads
  heads_same k is_last key = record {
    rise = are.rise;
    long = are.long;
    each = λ i h. by_order i h (cases_lt i (length rows));
    some = λ j h. let s = are.some j h in
        (s.0, (let l = s.1 in omega (arith, l, counted)), ap (λ (r : Entry). take head r.coords) (earlier s.0 s.1) ∙ s.2);
    last = λ i j is js.
        let at : i ≡ length rows = omega (arith, is, counted) in
        let there : j ≡ k = omega (arith, js, is_last) in
        ap (λ n. take head (row_at (rows ++ row ∷ []) n).coords) at ∙ ap (λ (r : Entry). take head r.coords) latest ∙ key
        ∙ ap (λ n. slice_index_or heads n []) (sym there);
  }
    where
      by_order : (i : ℕ) → i < length (rows ++ row ∷ []) → (i < length rows) ⊎ (length rows ≤ i)
          → (j : ℕ) × (j < length heads) × (take head (row_at (rows ++ row ∷ []) i).coords ≡ slice_index_or heads j [])
      by_order i h (inl less) = let e = are.each i less in (e.0, e.1, ap (λ (r : Entry). take head r.coords) (earlier i less) ∙ e.2)
      by_order i h (inr from) =
          let at : i ≡ length rows = omega (arith, h, from, counted) in (
            k,
            omega (arith, is_last),
            ap (λ n. take head (row_at (rows ++ row ∷ []) n).coords) at
                ∙ ap (λ (r : Entry). take head r.coords) latest ∙ key,
          )

  -- or it is a head more
  pub heads_more : (key : List ℕ) → take head row.coords ≡ key → length key ≡ head
      → Increase (key_in (heads ++ key ∷ [])) head (length (heads ++ key ∷ [])) → AreHeads head (rows ++ row ∷ []) (heads ++ key ∷ [])
  heads_more key is many rise = record {
    rise = rise;
    long = each_push (λ k. length k ≡ head) heads key are.long many;
    each = λ i h. by_order i h (cases_lt i (length rows));
    some = λ j h. by_head j h (cases_lt j (length heads));
    last = λ i j at there.
        let a : i ≡ length rows = omega (arith, at, counted) in
        let t : j ≡ length heads = omega (arith, there, more) in
        row_last i a ∙ is ∙ sym (key_there j t);
  }
    where
      more : length (heads ++ key ∷ []) ≡ suc (length heads)
      more = let k = length_push heads key in omega (arith, k)

      key_there : (j : ℕ) → j ≡ length heads → slice_index_or (heads ++ key ∷ []) j [] ≡ key
      key_there j t = ap (λ n. slice_index_or (heads ++ key ∷ []) n []) t ∙ get_or_push heads key [] (length heads) refl

      row_last : (i : ℕ) → i ≡ length rows → take head (row_at (rows ++ row ∷ []) i).coords ≡ take head row.coords
      row_last i a = ap (λ n. take head (row_at (rows ++ row ∷ []) n).coords) a ∙ ap (λ (r : Entry). take head r.coords) latest

      by_order : (i : ℕ) → i < length (rows ++ row ∷ []) → (i < length rows) ⊎ (length rows ≤ i)
          → (j : ℕ) × (j < length (heads ++ key ∷ []))
          × (take head (row_at (rows ++ row ∷ []) i).coords ≡ slice_index_or (heads ++ key ∷ []) j [])
      by_order i h (inl less) =
          let e = are.each i less in (
            e.0,
            (let l = e.1 in omega (arith, l, more)),
            ap (λ (r : Entry). take head r.coords) (earlier i less) ∙ e.2
                ∙ sym (get_or_append_left heads (key ∷ []) [] e.0 e.1),
          )
      by_order i h (inr from) =
          let at : i ≡ length rows = omega (arith, h, from, counted) in
          (length heads, omega (arith, more), row_last i at ∙ is ∙ sym (key_there (length heads) refl))

      by_head : (j : ℕ) → j < length (heads ++ key ∷ []) → (j < length heads) ⊎ (length heads ≤ j)
          → (i : ℕ) × (i < length (rows ++ row ∷ []))
          × (take head (row_at (rows ++ row ∷ []) i).coords ≡ slice_index_or (heads ++ key ∷ []) j [])
      by_head j h (inl less) =
          let s = are.some j less in (
            s.0,
            (let l = s.1 in omega (arith, l, counted)),
            ap (λ (r : Entry). take head r.coords) (earlier s.0 s.1) ∙ s.2
                ∙ sym (get_or_append_left heads (key ∷ []) [] j less),
          )
      by_head j h (inr from) =
          let at : j ≡ length heads = omega (arith, h, from, more) in
          (length rows, omega (arith, counted), row_last (length rows) refl ∙ is ∙ sym (key_there j at))

  -- the row's head is the last one or behind it
  pub head_follows : Follows head rows row → (j : ℕ) → length heads ≡ suc j
      → SameKey head (λ d. key_in heads d j) (slice_index (take head row.coords))
      ⊎ KeyBefore head (λ d. key_in heads d j) (slice_index (take head row.coords))
  head_follows follows j is = by_case (follows (length rows - 1) last_row)
    where
      some_row : 0 < length rows
      some_row = let s = are.some j (omega (arith, is)) in let l = s.1 in omega (arith, l)

      last_row : length rows ≡ suc (length rows - 1)
      last_row = omega (arith, some_row)

      last_key : take head (row_at rows (length rows - 1)).coords ≡ slice_index_or heads j []
      last_key = are.last (length rows - 1) j last_row is

      front : (cs : List ℕ) (d : ℕ) → d < head → slice_index (take head cs) d ≡ slice_index cs d
      front cs d h = get_or-take head cs d 0 h

      by_case : (take head (row_at rows (length rows - 1)).coords ≡ take head row.coords)
          ⊎ KeyBefore head (slice_index (row_at rows (length rows - 1)).coords) (slice_index row.coords)
          → SameKey head (λ d. key_in heads d j) (slice_index (take head row.coords))
          ⊎ KeyBefore head (λ d. key_in heads d j) (slice_index (take head row.coords))
      by_case (inl e) = inl (λ d h. ap (λ k. slice_index k d) (sym last_key ∙ e))
      by_case (inr b) =
          inr (before_along head (slice_index (row_at rows (length rows - 1)).coords) (slice_index row.coords) (λ d. key_in heads d j)
          (slice_index (take head row.coords))
          (λ d h. sym (front (row_at rows (length rows - 1)).coords d h) ∙ ap (λ k. slice_index k d) last_key)
          (λ d h. sym (front row.coords d h)) b)

  -- where a head is new, no row has it
  pub head_fresh : (key : List ℕ) → length key ≡ head → Increase (key_in (heads ++ key ∷ [])) head (length (heads ++ key ∷ []))
      → (i : ℕ) (xs : List ℕ) → i < length rows → (row_at rows i).coords ≢ key ++ xs
  head_fresh key many rise i xs h e =
      let there = are.each i h in
      let more = length_push heads key in
      let less = there.1 in
      let same : there.0 ≡ length heads =
      same_row (key_in (heads ++ key ∷ [])) head (length (heads ++ key ∷ [])) there.0 (length heads) rise (omega (arith, less, more))
      (omega (arith, more))
      (λ d l. key_before heads key d there.0 less ∙ ap (λ k. slice_index k d) (sym there.2 ∙ ap (take head) e)
      ∙ get_or-take head (key ++ xs) d 0 l ∙ get_or_append_left key xs 0 d (omega (arith, l, many)) ∙ sym (key_last heads key d)) in
      omega (arith, same, less)
