-- Rows of a workspace by the places of their keys: compared, sorted, summed and written back.
use denote.Ref.{Bor}
use Rattle.std.specs.Prelude.{◌≡◌, ◌⊎◌, ℕ, zero, suc, ◌+◌, ◌≤◌, ◌<◌, Bool, true, false, if◌then◌else◌, List, [], ◌∷◌, ◌++◌, length, map}
use Rattle.std.specs.Prelude.{reverse, take, drop, ◌==◌, Option, Some, None, unwrap_or, slice_index, slice_index_or, refl}
use Rattle.std.proofs.Common.{◌∙◌, sym, ap, arith, inl, inr}
use Rattle.std.proofs.lemmas.Bool.Decides.{nat_tests}
use Rattle.std.proofs.lemmas.List.{map-append, reverse-append}
use Rattle.std.specs.declared.cmp.Ordering.{Ordering}
use Rattle.std.specs.declared.cmp.Ordering.TheVariants.{Less, Equal, Greater}
use Rattle.std.specs.Ordering.{nat_cmp, ordering_then, is_eq}
use Rattle.numbers.specs.Arithmetic.{Arithmetic}
use Rattle.machine_parts.specs.declared.sums.PlacedRow.{PlacedRow}
use Rattle.kernel_code.specs.declared.syntax.Arr.TheVariants.{Key, Sums}
use Rattle.kernel_code.specs.Arrays.{same_arr}
use Rattle.machine_parts.specs.Rows.{row_of}
use Rattle.kernel_code.specs.Rows.{Row, insert_by, sorted_by, compare_keys, join_row, joined_rows, keys_at, summed_rows, rows_from}
use Rattle.kernel_code.specs.Rows.{column_of}
use Rattle.kernel_code.specs.Meaning.{State, Ended, set_array, one_more_column, key_columns, set_columns, summed, sort_sum_outcome}

-- columns behind references
abbrev pub read : List (Bor (List ℕ)) → List (List ℕ)
read columns = map (λ c. c.now) columns

-- comparison, a column at a time
pub compare_from : (columns : List (Bor (List ℕ))) (n i j : ℕ) (d : Bor (List ℕ)) → n < length columns
    → compare_keys (keys_at (read (drop n columns)) i) (keys_at (read (drop n columns)) j)
    ≡ ordering_then (nat_cmp (slice_index (slice_index_or columns n d).now i) (slice_index (slice_index_or columns n d).now j))
    (compare_keys (keys_at (read (drop (suc n) columns)) i) (keys_at (read (drop (suc n) columns)) j))
compare_from [] n i j d l = absurd (omega arith)
compare_from (c ∷ cs) zero i j d l = refl
compare_from (c ∷ cs) (suc n) i j d l = compare_from cs n i j d (omega arith)

pub decided : (o p : Ordering) → is_eq o ≡ false → ordering_then o p ≡ o
decided Less p h = refl
decided Equal p h = cc
decided Greater p h = refl

pub undecided : (o p : Ordering) → is_eq o ≡ true → ordering_then o p ≡ p
undecided Less p h = cc
undecided Equal p h = refl
undecided Greater p h = cc

-- one row more
pub rows_from_more : (columns : List (List ℕ)) (k i j : ℕ) (vs : List ℕ) → i < length vs → j ≡ k + i
    → rows_from columns k (take (suc i) vs) ≡ rows_from columns k (take i vs)
    ++ record { keys = keys_at columns j; value = slice_index vs i } ∷ []
rows_from_more columns k i j [] l e = absurd (omega arith)
rows_from_more columns k zero j (v ∷ vs) l e = let here : k ≡ j =
    omega arith in ap (λ n. record { keys = keys_at columns n; value = v } ∷ []) here
rows_from_more columns k (suc i) j (v ∷ vs) l e =
    ap (λ rs. record { keys = keys_at columns k; value = v } ∷ rs) (rows_from_more columns (k + 1) i j vs (omega arith) (omega arith))

pub row_added : (columns : List (List ℕ)) (xs : List PlacedRow) (x : PlacedRow) (rs : List Row) → map (row_of columns) xs ≡ rs
    → map (row_of columns) (xs ++ x ∷ []) ≡ rs ++ row_of columns x ∷ []
row_added columns xs x rs h = map-append (row_of columns) xs (x ∷ []) ∙ ap (λ ys. ys ++ row_of columns x ∷ []) h

-- sorting what stands for rows sorts the rows
insert_map : {X Y : Type 0} (f : X → Y) (lt : Y → Y → Bool) (r : X) (qs : List X)
    → map f (insert_by (λ p q. lt (f p) (f q)) r qs) ≡ insert_by lt (f r) (map f qs)
insert_map f lt r [] = refl
insert_map {X} {Y} f lt r (q ∷ qs) = chosen (lt (f q) (f r))
    ∙ ap (λ ys. if lt (f q) (f r) then f q ∷ ys else f r ∷ (f q ∷ map f qs)) (insert_map f lt r qs)
  where
    chosen : (b : Bool) → map f (if b then q ∷ insert_by (λ p q. lt (f p) (f q)) r qs else r ∷ (q ∷ qs)) ≡ (if b then f q
        ∷ map f (insert_by (λ p q. lt (f p) (f q)) r qs) else f r ∷ (f q ∷ map f qs))
    chosen true = refl
    chosen false = refl

pub sorted_map : {X Y : Type 0} (f : X → Y) (lt : Y → Y → Bool) (xs : List X)
    → map f (sorted_by (λ p q. lt (f p) (f q)) xs) ≡ sorted_by lt (map f xs)
sorted_map f lt [] = refl
sorted_map f lt (x ∷ xs) = insert_map f lt x (sorted_by (λ p q. lt (f p) (f q)) xs) ∙ ap (insert_by lt (f x)) (sorted_map f lt xs)

-- sums that stand last first
pub last_first : {X Y : Type 0} (f : X → Y) (xs : List X) (x : X) → reverse (map f (xs ++ x ∷ [])) ≡ f x ∷ reverse (map f xs)
last_first f xs x = ap reverse (map-append f xs (x ∷ [])) ∙ reverse-append (map f xs) (f x ∷ [])

pub map_reverse : {X Y : Type 0} (f : X → Y) (xs : List X) → map f (reverse xs) ≡ reverse (map f xs)
map_reverse f [] = refl
map_reverse f (x ∷ xs) =
    ap (map f) (reverse-append (x ∷ []) xs) ∙ map-append f (reverse xs) (x ∷ []) ∙ ap (λ ys. ys ++ f x ∷ []) (map_reverse f xs)
    ∙ sym (reverse-append (f x ∷ []) (map f xs))

-- rows joined ahead of sums
abbrev pub onto : Arithmetic → List Row → List Row → List Row
onto a [] sums = sums
onto a (r ∷ rs) sums = join_row a r (onto a rs sums)

pub onto_none : (a : Arithmetic) (rs : List Row) → onto a rs [] ≡ joined_rows a rs
onto_none a [] = refl
onto_none a (r ∷ rs) = ap (join_row a r) (onto_none a rs)

pub onto_last : (a : Arithmetic) (rs : List Row) (r : Row) (sums : List Row) → onto a (rs ++ r ∷ []) sums ≡ onto a rs (join_row a r sums)
onto_last a [] r sums = refl
onto_last a (q ∷ qs) r sums = ap (join_row a q) (onto_last a qs r sums)

-- a column that isn't there, or isn't as long
below_or_here : (j i : ℕ) → j < suc i → (j < i) ⊎ (j ≡ i)
below_or_here j i h = grind arith

pub none_stays : (s : State) (w count n m : ℕ) → n ≤ m → key_columns s w count n ≡ None → key_columns s w count m ≡ None
none_stays s w count n zero l h = let e : n ≡ 0 = omega arith in ap (key_columns s w count) (sym e) ∙ h
none_stays s w count n (suc m) l h = elim (up_to n m l) [
  | inl below ↦ ap (λ cs. one_more_column count cs (s.arrays (Key w m))) (none_stays s w count n m below h)
  | inr here ↦ ap (key_columns s w count) (sym here) ∙ h
]
  where
    up_to : (n m : ℕ) → n ≤ suc m → (n ≤ m) ⊎ (n ≡ suc m)
    up_to n m h = grind arith

pub no_column : (s : State) (w count k keys : ℕ) (columns : List (List ℕ)) → key_columns s w count k ≡ Some columns
    → s.arrays (Key w k) ≡ None → k < keys → key_columns s w count keys ≡ None
no_column s w count k keys columns h g l =
    none_stays s w count (suc k) keys (omega arith) (ap (λ cs. one_more_column count cs (s.arrays (Key w k))) h
    ∙ ap (one_more_column count (Some columns)) g)

other_length : (m n : ℕ) → (m ≡ n → ⊥) → (m == n) ≡ false
other_length m n h = grind (arith, nat_tests)

pub other_column : (s : State) (w count k keys : ℕ) (columns : List (List ℕ)) (xs : List ℕ) → key_columns s w count k ≡ Some columns
    → s.arrays (Key w k) ≡ Some xs → (length xs ≡ count → ⊥) → k < keys → key_columns s w count keys ≡ None
other_column s w count k keys columns xs h g n l =
    none_stays s w count (suc k) keys (omega arith)
    (ap (λ cs. one_more_column count cs (s.arrays (Key w k))) h ∙ ap (one_more_column count (Some columns)) g
    ∙ ap (λ b. if b then Some (columns ++ xs ∷ []) else None) (other_length (length xs) count n))

pub read_more : (columns : List (Bor (List ℕ))) (c : Bor (List ℕ)) → read (columns ++ c ∷ []) ≡ read columns ++ c.now ∷ []
read_more columns c = map-append (λ (c : Bor (List ℕ)). c.now) columns (c ∷ [])

-- what the columns are made of
record OneMore (old : Option (List (List ℕ))) (xs : Option (List ℕ)) (columns : List (List ℕ)) : Type 0 where
  before : List (List ℕ)
  last : List ℕ
  old_is : old ≡ Some before
  last_is : xs ≡ Some last
  is : columns ≡ before ++ last ∷ []

one_more : (count : ℕ) (old : Option (List (List ℕ))) (xs : Option (List ℕ)) (columns : List (List ℕ))
    → one_more_column count old xs ≡ Some columns → OneMore old xs columns
one_more count None xs columns h = absurd (cc)
one_more count (Some before) None columns h = absurd (cc)
one_more count (Some before) (Some last) columns h = by (length last == count) h
  where
    by : (b : Bool) → (if b then Some (before ++ last ∷ []) else None) ≡ Some columns → OneMore (Some before) (Some last) columns
    by true h = record { before = before; last = last; old_is = refl; last_is = refl; is = cc }
    by false h = absurd (cc)

at_before : {X : Type 0} (xs : List X) (y : X) (k : ℕ) (d : X) → k < length xs → slice_index_or (xs ++ y ∷ []) k d ≡ slice_index_or xs k d
at_before [] y k d l = absurd (omega arith)
at_before (x ∷ xs) y zero d l = refl
at_before (x ∷ xs) y (suc k) d l = at_before xs y k d (omega arith)

at_last : {X : Type 0} (xs : List X) (y : X) (d : X) → slice_index_or (xs ++ y ∷ []) (length xs) d ≡ y
at_last [] y d = refl
at_last (x ∷ xs) y d = at_last xs y d

length_more : {X : Type 0} (xs : List X) (y : X) → length (xs ++ y ∷ []) ≡ suc (length xs)
length_more [] y = refl
length_more (x ∷ xs) y = ap suc (length_more xs y)

column_count : (s : State) (w count n : ℕ) (columns : List (List ℕ)) → key_columns s w count n ≡ Some columns → length columns ≡ n
column_count s w count zero columns h = let e : [] ≡ columns = cc in sym (ap length e)
column_count s w count (suc n) columns h =
    let m = one_more count (key_columns s w count n) (s.arrays (Key w n)) columns h in
    ap length m.is ∙ length_more m.before m.last ∙ ap suc (column_count s w count n m.before m.old_is)

pub column_is : (s : State) (w count n : ℕ) (columns : List (List ℕ)) (k : ℕ) → key_columns s w count n ≡ Some columns → k < n
    → unwrap_or (s.arrays (Key w k)) [] ≡ slice_index_or columns k []
column_is s w count zero columns k h l = absurd (omega arith)
column_is s w count (suc n) columns k h l =
    let m = one_more count (key_columns s w count n) (s.arrays (Key w n)) columns h in
    let long = column_count s w count n m.before m.old_is in
    elim (below_or_here k n l) [
      | inl below ↦ column_is s w count n m.before k m.old_is below
          ∙ sym (ap (λ cs. slice_index_or cs k []) m.is ∙ at_before m.before m.last k [] (omega arith))
      | inr here ↦ ap (λ j. unwrap_or (s.arrays (Key w j)) []) here ∙ ap (λ xs. unwrap_or xs []) m.last_is
          ∙ sym (ap (λ cs. slice_index_or cs k []) m.is ∙ ap (λ j. slice_index_or (m.before ++ m.last ∷ []) j []) (here ∙ sym long)
          ∙ at_last m.before m.last [])
    ]

-- columns that aren't replaced yet
other_key : (w n k : ℕ) → n < k → same_arr (Key w n) (Key w k) ≡ false
other_key w n k l = grind (arith, nat_tests)

pub column_kept : (s : State) (w : ℕ) (rows : List Row) (n k : ℕ) → n ≤ k → (set_columns s w rows n).arrays (Key w k) ≡ s.arrays (Key w k)
column_kept s w rows zero k l = refl
column_kept s w rows (suc n) k l =
    ap (λ b. if b then Some (column_of n rows) else (set_columns s w rows n).arrays (Key w k)) (other_key w n k (omega arith))
    ∙ column_kept s w rows n k (omega arith)

-- a column at the places of rows
key_at : (columns : List (List ℕ)) (i k : ℕ) → slice_index (slice_index_or columns k []) i ≡ slice_index (keys_at columns i) k
key_at [] i k = refl
key_at (c ∷ cs) i zero = refl
key_at (c ∷ cs) i (suc k) = key_at cs i k

pub column_at_places : (columns : List (List ℕ)) (k : ℕ) (ps : List PlacedRow)
    → map (λ p. slice_index (slice_index_or columns k []) p.place) ps ≡ column_of k (map (row_of columns) ps)
column_at_places columns k [] = refl
column_at_places columns k (p ∷ ps) = (λ i. key_at columns p.place k i ∷ column_at_places columns k ps i)

pub values_of_places : (columns : List (List ℕ)) (ps : List PlacedRow)
    → map (λ p. p.value) ps ≡ map (λ r. r.value) (map (row_of columns) ps)
values_of_places columns [] = refl
values_of_places columns (p ∷ ps) = ap (λ vs. p.value ∷ vs) (values_of_places columns ps)

pub sum_done : (a : Arithmetic) (s t : State) (w keys : ℕ) (vs : List ℕ) (columns : List (List ℕ)) (ks : Option ℕ) (xs : Option (List ℕ))
    → ks ≡ Some keys → xs ≡ Some vs → key_columns s w (length vs) keys ≡ Some columns
    → t ≡ set_array (set_columns s w (summed_rows a (rows_from columns 0 vs)) keys) (Sums w)
    (map (λ r. r.value) (summed_rows a (rows_from columns 0 vs)))
    → Ended t ≡ sort_sum_outcome a s w ks xs
sum_done a s t w keys vs columns ks xs k x h e = ap Ended e
    ∙ sym (ap (λ ks. sort_sum_outcome a s w ks xs) k ∙ ap (sort_sum_outcome a s w (Some keys)) x ∙ ap (summed a s w keys vs) h)

pub no_items : {X : Type 0} (xs : List X) → length xs ≡ 0 → xs ≡ []
no_items [] h = refl
no_items (x ∷ xs) h = absurd (omega arith)
