-- A result that rows are appended to takes rows that come in the order of its levels.
use Rattle.std.specs.Prelude.{◌≡◌, ◌⊎◌, ℕ, suc, ◌-◌, ◌≤◌, ◌<◌, ◌^◌, List, [], ◌∷◌, ◌++◌, length, take, slice_index, refl}
use Rattle.std.proofs.Common.{◌∙◌, sym, ap, subst, arith, inl, inr}
use Rattle.std.proofs.lemmas.Grind.{same_number_lists}
use Rattle.std.proofs.lemmas.List.{append_assoc, get_or_append_left, get_or-append_right, get_or-take, length-append, length-take-le}
use Rattle.tensor_map.specs.Entries.{Entry}
use Rattle.tensor_storage.specs.Arranged.{no_entry}
use Rattle.tensor_storage.specs.Storages.{in_level_order}
use Rattle.tns_io.specs.Positions.{IsBelow}
use Rattle.result_targets.specs.Sinks.{TakesAll}
use Rattle.level_appends.proofs.Keys.{SameKey, KeyBefore}
use Rattle.row_orders.specs.Orders.{IsNotAfter, NeverFallAt, row_coords}
use Rattle.appended_results.specs.Heads.{row_at}
use Rattle.appended_results.specs.Results.{MayCome}
use Rattle.appended_results.specs.declared.sink.AppendedSink.{AppendedSink}
use Rattle.appended_results.specs.Sink.{appended_sink}

-- lists of coordinates that are the same at the first ones begin with the same
same_take : (m : ℕ) (xs ys : List ℕ) → m ≤ length xs → m ≤ length ys → SameKey m (slice_index xs) (slice_index ys) → take m xs ≡ take m ys
same_take m xs ys h g same =
    let first = length-take-le m xs h in
    let second = length-take-le m ys g in
    same_number_lists (take m xs) (take m ys) (first ∙ sym second)
    (λ d l. get_or-take m xs d 0 (omega (arith, l, first)) ∙ same d (omega (arith, l, first))
    ∙ sym (get_or-take m ys d 0 (omega (arith, l, first))))

module _ (sizes : List ℕ) (head : ℕ) (all : List Entry) (below : (i : ℕ) → i < length all → IsBelow sizes (row_at all i).coords)
    (word : (i : ℕ) → i < length all → (row_at all i).value < 2 ^ 64)
    (long : (i : ℕ) → i < length all → head ≤ length (row_at all i).coords)
    (order : NeverFallAt (row_coords all) head (length all)) where
  follows_at : (i j : ℕ) → i < j → j < length all
      → (take head (row_at all i).coords ≡ take head (row_at all j).coords)
      ⊎ KeyBefore head (slice_index (row_at all i).coords) (slice_index (row_at all j).coords)
  follows_at i j less h = by_case (order i j less h)
    where
      by_case : IsNotAfter (row_coords all) head i j
          → (take head (row_at all i).coords ≡ take head (row_at all j).coords)
          ⊎ KeyBefore head (slice_index (row_at all i).coords) (slice_index (row_at all j).coords)
      by_case (inl same) =
          inl (same_take head (row_at all i).coords (row_at all j).coords (long i (omega (arith, less, h))) (long j h) same)
      by_case (inr before) = inr before

  -- each row in its turn
  comes_next : (before rest : List Entry) (row : Entry) → before ++ row ∷ rest ≡ all → MayCome sizes head before row
  comes_next before rest row is = record {
    below = subst (λ (r : Entry). IsBelow sizes r.coords) here (below (length before) inside);
    word = subst (λ (r : Entry). r.value < 2 ^ 64) here (word (length before) inside);
    follows = λ i last.
        let earlier : row_at all i ≡ row_at before i =
        ap (λ rs. row_at rs i) (sym is) ∙ get_or_append_left before (row ∷ rest) no_entry i (omega (arith, last)) in
        subst (λ (r : Entry). (take head r.coords ≡ take head row.coords)
        ⊎ KeyBefore head (slice_index r.coords) (slice_index row.coords)) earlier
        (subst (λ (r : Entry). (take head (row_at all i).coords ≡ take head r.coords)
        ⊎ KeyBefore head (slice_index (row_at all i).coords) (slice_index r.coords)) here
        (follows_at i (length before) (omega (arith, last)) inside));
  }
    where
      inside : length before < length all
      inside =
          let whole = ap length is in
          let parts = length-append before (row ∷ rest) in
          let some : length (row ∷ rest) ≡ suc (length rest) = refl in
          omega (arith, whole, parts, some)

      here : row_at all (length before) ≡ row
      here =
          let none : length before - length before ≡ 0 = omega arith in
          ap (λ rs. row_at rs (length before)) (sym is)
          ∙ get_or-append_right before (row ∷ rest) (length before) (length before) no_entry refl (omega arith)
          ∙ ap (row_at (row ∷ rest)) none

  -- so does the sink
  pub takes_all : (k : AppendedSink) (ranges : List ℕ) → in_level_order k.levels ranges ≡ sizes → k.head ≡ head
      → (before rows : List Entry) → before ++ rows ≡ all → TakesAll appended_sink k ranges before rows
  takes_all k ranges sized headed before [] is = tt
  takes_all k ranges sized headed before (row ∷ rows) is = (
    subst (λ ns. MayCome ns k.head before row) (sym sized)
        (subst (λ h. MayCome sizes h before row) (sym headed) (comes_next before rows row is)),
    takes_all k ranges sized headed (before ++ row ∷ []) rows (append_assoc before (row ∷ []) rows ∙ is),
  )
