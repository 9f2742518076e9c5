-- The sums of rows name the heads of the rows: each sum has its head, in order.
use Rattle.std.specs.Prelude.{◌≡◌, ℕ, zero, suc, ◌≤◌, ◌<◌, ◌^◌, List, [], ◌∷◌, ◌++◌}
use Rattle.std.specs.Prelude.{length, take, drop, slice_index, slice_index_or}
use Rattle.std.specs.declared.cmp.Ordering.{Ordering}
use Rattle.std.specs.declared.cmp.Ordering.TheVariants.{Less, Equal, Greater}
use Rattle.std.specs.Ordering.{nat_cmp}
use Rattle.std.specs.Cmp.Lexicographic.{slice_cmp}
use Rattle.std.proofs.Common.{◌∙◌, sym, ap, arith, inl, inr}
use Rattle.std.proofs.lemmas.Grind.{same_number_lists}
use Rattle.std.proofs.lemmas.List.{get_or-take, length-take-le, take-append-drop}
use Rattle.lists.specs.Each.{Each}
use Rattle.numbers.specs.Arithmetic.{Arithmetic, Laws}
use Rattle.tensor_map.specs.Entries.{Entry, Listed}
use Rattle.tensor_map.proofs.Lemmas.{listed_at}
use Rattle.level_rows.specs.Tables.{Increase}
use Rattle.concrete_notation.specs.Contributions.{put_by, put_pair, sums_of}
use Rattle.concrete_notation.proofs.SumsOf.{sums_each, sums_listed}
use Rattle.tensor_storage.specs.Arranged.{no_entry}
use Rattle.level_appends.proofs.Keys.{SameKey}
use Rattle.level_appends.proofs.Matched.{Matches, matching}
use Rattle.sparse_results.specs.Tables.{table_of, IsRow}
use Rattle.appended_results.specs.Heads.{key_in, row_at, AreHeads}
use Rattle.appended_results.specs.Sums.{head_at}
use Rattle.appended_results.proofs.RowHeads.{each_at as head_long}

-- ---- rows of a list
pub each_at : {X : Type 0} (P : X → Type 0) (xs : List X) (none : X) (k : ℕ) → Each P xs → k < length xs → P (slice_index_or xs k none)
each_at P [] none k each h = absurd (omega (arith, h))
each_at P (x ∷ xs) none zero each h = each.0
each_at P (x ∷ xs) none (suc k) each h = each_at P xs none k each.1 (omega (arith, h))

-- coordinates that are listed are those of a row
pub listed_row : (rows : List Entry) (coords : List ℕ) → Listed rows coords
    → (k : ℕ) × (k < length rows) × ((row_at rows k).coords ≡ coords)
listed_row [] coords h = absurd h
listed_row (row ∷ rows) coords (inl here) = (0, omega arith, here)
listed_row (row ∷ rows) coords (inr there) =
    let k = listed_row rows coords there in (suc k.0, (let l = k.1 in omega (arith, l)), k.2)

abbrev HasWord : Entry → Type 0
HasWord row = row.value < 2 ^ 64

put_words : (a : Arithmetic) → Laws a → (pair : Entry) (row : List Entry) → HasWord pair → Each HasWord row
    → Each HasWord (put_pair a pair row)
put_words a laws pair [] is each = (is, tt)
put_words a laws pair (first ∷ others) is each =
    by (slice_cmp nat_cmp pair.coords first.coords) (put_words a laws pair others is each.1)
  where
    by : (r : Ordering) → Each HasWord (put_pair a pair others) → Each HasWord (put_by a r pair first others (put_pair a pair others))
    by Less later = (is, each)
    by Equal later = (laws.plus_fits pair.value first.value, each.1)
    by Greater later = (each.0, later)

sums_words : (a : Arithmetic) → Laws a → (keys : ℕ) (rows : List Entry) → Each (IsRow keys) rows → Each HasWord (sums_of a rows)
sums_words a laws keys [] each = tt
sums_words a laws keys (row ∷ rows) each =
    put_words a laws row (sums_of a rows) each.0.word (sums_words a laws keys rows each.1)

rows_long : (keys : ℕ) (rows : List Entry) → Each (IsRow keys) rows → Each (λ (row : Entry). length row.coords ≡ keys) rows
rows_long keys [] each = tt
rows_long keys (row ∷ rows) each = (each.0.many, rows_long keys rows each.1)

module _ (a : Arithmetic) (keys : ℕ) (rows : List Entry) (each : Each (IsRow keys) rows) where
  -- each sum is a word
  pub sum_word : Laws a → (i : ℕ) → i < length (sums_of a rows) → (row_at (sums_of a rows) i).value < 2 ^ 64
  sum_word laws i h = each_at HasWord (sums_of a rows) no_entry i (sums_words a laws keys rows each) h

  -- and has so many coordinates
  pub sum_long : (i : ℕ) → i < length (sums_of a rows) → length (row_at (sums_of a rows) i).coords ≡ keys
  sum_long i h =
      each_at (λ (row : Entry). length row.coords ≡ keys) (sums_of a rows) no_entry i
      (sums_each (λ ks. length ks ≡ keys) a rows (rows_long keys rows each)) h

  module _ (head : ℕ) (heads : List (List ℕ)) (are : AreHeads head rows heads) (deep : head ≤ keys)
      (order : Increase (table_of (sums_of a rows)).coords keys (length (sums_of a rows))) where
    -- the head's coordinates are those that a row begins with
    same_front : (j : ℕ) (coords : List ℕ) → take head coords ≡ slice_index_or heads j []
        → SameKey head (slice_index coords) (λ d. key_in heads d j)
    same_front j coords is d h = sym (get_or-take head coords d 0 h) ∙ ap (λ k. slice_index k d) is

    head_there : (j : ℕ) → j < length heads
        → (i : ℕ) × (i < length (sums_of a rows)) × SameKey head (λ d. key_in heads d j) (λ d. (table_of (sums_of a rows)).coords d i)
    head_there j h =
        let some = are.some j h in
        let found = listed_row (sums_of a rows) (row_at rows some.0).coords
        ((sums_listed a rows (row_at rows some.0).coords).1 (listed_at rows some.0 no_entry some.1)) in (
          found.0,
          found.1,
          (λ d l. sym (same_front j (row_at rows some.0).coords some.2 d l) ∙ ap (λ cs. slice_index cs d) (sym found.2)),
        )

    row_there : (i : ℕ) → i < length (sums_of a rows)
        → (j : ℕ) × (j < length heads) × SameKey head (λ d. (table_of (sums_of a rows)).coords d i) (λ d. key_in heads d j)
    row_there i h =
        let found = listed_row rows (row_at (sums_of a rows) i).coords
        ((sums_listed a rows (row_at (sums_of a rows) i).coords).0 (listed_at (sums_of a rows) i no_entry h)) in
        let each = are.each found.0 found.1 in (
          each.0,
          each.1,
          (λ d l. ap (λ cs. slice_index cs d) (sym found.2) ∙ same_front each.0 (row_at rows found.0).coords each.2 d l),
        )

    -- the sums have their heads in order
    pub sums_named : (to : ℕ → ℕ)
        × Matches head (key_in heads) (length heads) (table_of (sums_of a rows)).coords (length (sums_of a rows)) to
    sums_named =
        matching head (key_in heads) (length heads) (table_of (sums_of a rows)).coords (length (sums_of a rows))
        (record {
          rise = are.rise;
          order = keys;
          deep = deep;
          up = order;
          head_there = head_there;
          row_there = row_there;
        })

    module _ (to : ℕ → ℕ)
        (matches : Matches head (key_in heads) (length heads) (table_of (sums_of a rows)).coords (length (sums_of a rows)) to) where
      -- each sum begins with its head
      pub sum_front : (i : ℕ) → i < length (sums_of a rows)
          → take head (row_at (sums_of a rows) i).coords ≡ head_at heads (to i)
      sum_front i h =
          let long = sum_long i h in
          let many = head_long head heads (to i) are.long (matches.within i h) in
          let front : length (take head (row_at (sums_of a rows) i).coords) ≡ head =
          length-take-le head (row_at (sums_of a rows) i).coords (omega (arith, long, deep)) in
          same_number_lists (take head (row_at (sums_of a rows) i).coords) (head_at heads (to i)) (front ∙ sym many)
          (λ d l. get_or-take head (row_at (sums_of a rows) i).coords d 0 (omega (arith, l, front))
          ∙ matches.same i h d (omega (arith, l, front)))

      pub sum_coords : (i : ℕ) → i < length (sums_of a rows)
          → head_at heads (to i) ++ drop head (row_at (sums_of a rows) i).coords ≡ (row_at (sums_of a rows) i).coords
      sum_coords i h =
          ap (λ k. k ++ drop head (row_at (sums_of a rows) i).coords) (sym (sum_front i h))
          ∙ take-append-drop head (row_at (sums_of a rows) i).coords
