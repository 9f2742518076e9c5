-- Rows of a workspace, sorted and summed, are the sums of the rows that were pushed.
use Rattle.std.specs.Prelude.{◌≡◌, ℕ, zero, suc, ◌+◌, ◌<◌, ◌≤◌, Bool, true, false, if◌then◌else◌, List, [], ◌∷◌, ◌++◌, length, map, Some}
use Rattle.std.specs.Prelude.{slice_get, slice_index, slice_index_or, refl}
use Rattle.std.specs.declared.cmp.Ordering.{Ordering}
use Rattle.std.specs.declared.cmp.Ordering.TheVariants.{Less, Equal, Greater}
use Rattle.std.specs.Ordering.{nat_cmp, MatchOrdering, is_lt, is_eq, is_gt}
use Rattle.std.specs.Cmp.Lexicographic.{slice_cmp}
use Rattle.std.proofs.Common.{◌∙◌, sym, ap, subst, arith}
use Rattle.std.proofs.lemmas.Bool.Decides.{nat_tests}
use Rattle.std.proofs.lemmas.List.{length-map}
use Rattle.numbers.specs.Arithmetic.{Arithmetic}
use Rattle.kernel_code.specs.Arrays.{same_arr}
use Rattle.kernel_code.specs.Does.{Never}
use Rattle.kernel_code.specs.Meaning.{Setting, State, Ended, set_array, key_columns, set_columns, summed, sort_sum_outcome}
use Rattle.kernel_code.specs.Rows.{Row, insert_by, sorted_by, compare_keys, row_before, join_row, joined_rows, summed_rows, keys_at}
use Rattle.kernel_code.specs.Rows.{rows_from, column_of}
use Rattle.kernel_code.specs.declared.syntax.Arr.{Arr}
use Rattle.kernel_code.specs.declared.syntax.Arr.TheVariants.{Range, Values, Dimension, Ends, Coordinates, Width, Key, Sums}
use Rattle.kernel_code.specs.declared.syntax.Arr.TheVariants.{ListCoordinates, ListPositions}
use Rattle.kernel_code.proofs.ArrayNames.{same_arr_is, same_arr_self}
use Rattle.kernel_code.proofs.Does.{does_sort_sum, does_nothing}
use Rattle.kernel_code.proofs.SumLemmas.{joins, joins_not, next_column}
use Rattle.tensor_map.specs.Order.{IsBefore}
use Rattle.tensor_map.specs.Entries.{Entry}
use Rattle.tensor_map.proofs.OrderLaws.{compared_as, before_irreflexive, before_trans}
use Rattle.lists.specs.Each.{Each}
use Rattle.concrete_notation.specs.Contributions.{put_by, put_pair, sums_of}
use Rattle.tensor_storage.specs.Arranged.{no_entry}
use Rattle.term_code.specs.WorkspaceSinks.{HoldsRows, IsOfWorkspace, column, values}
use Rattle.sparse_results.specs.Sorting.{LeavesSums, SortingSums}
use Rattle.sparse_results.proofs.NoMore.{sums_are_no_more}

-- ---- comparing
turned_by : (xs ys : List ℕ) (o p : Ordering) → MatchOrdering o (IsBefore xs ys) (xs ≡ ys) (IsBefore ys xs)
    → MatchOrdering p (IsBefore ys xs) (ys ≡ xs) (IsBefore xs ys) → is_gt o ≡ is_lt p
turned_by xs ys Less Less h g = absurd (before_irreflexive xs (before_trans xs ys xs h g))
turned_by xs ys Less Equal h g = refl
turned_by xs ys Less Greater h g = refl
turned_by xs ys Equal Less h g = absurd (before_irreflexive ys (subst (IsBefore ys) h g))
turned_by xs ys Equal Equal h g = refl
turned_by xs ys Equal Greater h g = refl
turned_by xs ys Greater Less h g = refl
turned_by xs ys Greater Equal h g = absurd (before_irreflexive xs (subst (λ zs. IsBefore zs xs) g h))
turned_by xs ys Greater Greater h g = absurd (before_irreflexive xs (before_trans xs ys xs g h))

turned : (xs ys : List ℕ) → is_gt (compare_keys xs ys) ≡ is_lt (compare_keys ys xs)
turned xs ys =
    turned_by xs ys (slice_cmp nat_cmp xs ys) (slice_cmp nat_cmp ys xs) (compared_as xs ys (slice_cmp nat_cmp xs ys) refl)
    (compared_as ys xs (slice_cmp nat_cmp ys xs) refl)

less_apart : (o : Ordering) → is_lt o ≡ true → is_eq o ≡ false
less_apart Less h = refl
less_apart Equal h = cc
less_apart Greater h = refl

equal_by : (xs ys : List ℕ) (o : Ordering) → MatchOrdering o (IsBefore xs ys) (xs ≡ ys) (IsBefore ys xs) → is_eq o ≡ true → xs ≡ ys
equal_by xs ys Less h e = absurd (clash e)
  where
    clash : false ≡ true → ⊥
    clash g = cc
equal_by xs ys Equal h e = h
equal_by xs ys Greater h e = absurd (clash e)
  where
    clash : false ≡ true → ⊥
    clash g = cc

equal_keys : (xs ys : List ℕ) → is_eq (compare_keys xs ys) ≡ true → xs ≡ ys
equal_keys xs ys e = equal_by xs ys (slice_cmp nat_cmp xs ys) (compared_as xs ys (slice_cmp nat_cmp xs ys) refl) e

-- ---- a row put among sums
abbrev put_row_by : Arithmetic → Ordering → Row → Row → List Row → List Row → List Row
put_row_by a Less r q qs later = r ∷ q ∷ qs
put_row_by a Equal r q qs later = record { keys = q.keys; value = a.plus r.value q.value } ∷ qs
put_row_by a Greater r q qs later = q ∷ later

abbrev put_row : Arithmetic → Row → List Row → List Row
put_row a r [] = r ∷ []
put_row a r (q ∷ qs) = put_row_by a (compare_keys r.keys q.keys) r q qs (put_row a r qs)

make_one : (a : Arithmetic) (r q : Row) (qs : List Row) → is_eq (compare_keys r.keys q.keys) ≡ true
    → join_row a r (q ∷ qs) ≡ record { keys = q.keys; value = a.plus r.value q.value } ∷ qs
make_one a r q qs h = sym (joins a r q qs h)

stay_two : (a : Arithmetic) (r q : Row) (qs : List Row) → is_eq (compare_keys r.keys q.keys) ≡ false
    → join_row a r (q ∷ qs) ≡ r ∷ (q ∷ qs)
stay_two a r q qs h = sym (joins_not a r q qs h)

module _ (a : Arithmetic) where
  abbrev both : Row → Row → Row
  both q p = record { keys = p.keys; value = a.plus q.value p.value }

  put_greater : (r q : Row) (qs : List Row) → is_gt (compare_keys r.keys q.keys) ≡ true → put_row a r (q ∷ qs) ≡ q ∷ put_row a r qs
  put_greater r q qs h = by (compare_keys r.keys q.keys) h
    where
      by : (o : Ordering) → is_gt o ≡ true → put_row_by a o r q qs (put_row a r qs) ≡ q ∷ put_row a r qs
      by Less e = cc
      by Equal e = cc
      by Greater e = refl

  join_is_put : (r q : Row) (qs : List Row) → is_gt (compare_keys r.keys q.keys) ≡ false → join_row a r (q ∷ qs) ≡ put_row a r (q ∷ qs)
  join_is_put r q qs h = by (compare_keys r.keys q.keys) h
    where
      by : (o : Ordering) → is_gt o ≡ false
          → (if is_eq o then record { keys = q.keys; value = a.plus r.value q.value } ∷ qs else r ∷ (q ∷ qs))
          ≡ put_row_by a o r q qs (put_row a r qs)
      by Less e = refl
      by Equal e = refl
      by Greater e = cc

  apart_put : (q r p : Row) (ps : List Row) → is_eq (compare_keys q.keys r.keys) ≡ false → is_eq (compare_keys q.keys p.keys) ≡ false
      → join_row a q (put_row a r (p ∷ ps)) ≡ q ∷ put_row a r (p ∷ ps)
  apart_put q r p ps h g = by (compare_keys r.keys p.keys)
    where
      by : (o : Ordering) → join_row a q (put_row_by a o r p ps (put_row a r ps)) ≡ q ∷ put_row_by a o r p ps (put_row a r ps)
      by Less = stay_two a q r (p ∷ ps) h
      by Equal = stay_two a q (both r p) ps g
      by Greater = stay_two a q p (put_row a r ps) g

  after : (q r : Row) (qs : List Row) → is_gt (compare_keys r.keys q.keys) ≡ true → is_eq (compare_keys q.keys r.keys) ≡ false
      → join_row a q (put_row a r qs) ≡ put_row a r (join_row a q qs)
  after q r [] greater apart = stay_two a q r [] apart ∙ sym (put_greater r q [] greater)
  after q r (p ∷ ps) greater apart = by (is_eq (compare_keys q.keys p.keys)) refl
    where
      by : (b : Bool) → is_eq (compare_keys q.keys p.keys) ≡ b
          → join_row a q (put_row a r (p ∷ ps)) ≡ put_row a r (join_row a q (p ∷ ps))
      by true e =
          let there : is_gt (compare_keys r.keys p.keys) ≡ true =
          ap (λ ks. is_gt (compare_keys r.keys ks)) (sym (equal_keys q.keys p.keys e)) ∙ greater in
          ap (join_row a q) (put_greater r p ps there) ∙ make_one a q p (put_row a r ps) e
          ∙ sym (ap (put_row a r) (make_one a q p ps e) ∙ put_greater r (both q p) ps there)
      by false e =
          apart_put q r p ps apart e ∙ sym (ap (put_row a r) (stay_two a q p ps e) ∙ put_greater r q (p ∷ ps) greater)

  before : (q r : Row) (qs : List Row) → is_gt (compare_keys r.keys q.keys) ≡ false
      → join_row a r (join_row a q qs) ≡ put_row a r (join_row a q qs)
  before q r [] h = join_is_put r q [] h
  before q r (p ∷ ps) h = by (is_eq (compare_keys q.keys p.keys)) refl
    where
      by : (b : Bool) → is_eq (compare_keys q.keys p.keys) ≡ b
          → join_row a r (join_row a q (p ∷ ps)) ≡ put_row a r (join_row a q (p ∷ ps))
      by true e =
          subst (λ rs. join_row a r rs ≡ put_row a r rs) (sym (make_one a q p ps e))
          (join_is_put r (both q p) ps (ap (λ ks. is_gt (compare_keys r.keys ks)) (sym (equal_keys q.keys p.keys e)) ∙ h))
      by false e =
          subst (λ rs. join_row a r rs ≡ put_row a r rs) (sym (stay_two a q p ps e)) (join_is_put r q (p ∷ ps) h)

  inserted : (r : Row) (qs : List Row) → joined_rows a (insert_by row_before r qs) ≡ put_row a r (joined_rows a qs)
  inserted r [] = refl
  inserted r (q ∷ qs) = by (row_before q r) refl (inserted r qs)
    where
      by : (b : Bool) → row_before q r ≡ b → joined_rows a (insert_by row_before r qs) ≡ put_row a r (joined_rows a qs)
          → joined_rows a (if b then q ∷ insert_by row_before r qs else r ∷ (q ∷ qs)) ≡ put_row a r (join_row a q (joined_rows a qs))
      by true e rest =
          ap (join_row a q) rest
          ∙ after q r (joined_rows a qs) (turned r.keys q.keys ∙ e) (less_apart (compare_keys q.keys r.keys) e)
      by false e rest = before q r (joined_rows a qs) (turned r.keys q.keys ∙ e)

  -- ---- pairs as rows
  abbrev to_row : Entry → Row
  to_row e = record { keys = e.coords; value = e.value }

  mapped_put : (e : Entry) (es : List Entry) → map to_row (put_pair a e es) ≡ put_row a (to_row e) (map to_row es)
  mapped_put e [] = refl
  mapped_put e (f ∷ es) = by (slice_cmp nat_cmp e.coords f.coords) (mapped_put e es)
    where
      by : (o : Ordering) → map to_row (put_pair a e es) ≡ put_row a (to_row e) (map to_row es)
          → map to_row (put_by a o e f es (put_pair a e es))
          ≡ put_row_by a o (to_row e) (to_row f) (map to_row es) (put_row a (to_row e) (map to_row es))
      by Less rest = refl
      by Equal rest = refl
      by Greater rest = ap (λ rs. to_row f ∷ rs) rest

  summed_are : (es : List Entry) → summed_rows a (map to_row es) ≡ map to_row (sums_of a es)
  summed_are [] = refl
  summed_are (e ∷ es) =
      inserted (to_row e) (sorted_by row_before (map to_row es))
      ∙ ap (put_row a (to_row e)) (summed_are es) ∙ sym (mapped_put e (sums_of a es))

  -- ---- columns
  rows_are : (columns : List (List ℕ)) (j : ℕ) (es : List Entry)
      → ((k : ℕ) → k < length es → keys_at columns (j + k) ≡ (slice_index_or es k no_entry).coords)
      → rows_from columns j (values es) ≡ map to_row es
  rows_are columns j [] h = refl
  rows_are columns j (e ∷ es) h =
      let here : j + 0 ≡ j = omega arith in
      let first : keys_at columns j ≡ e.coords = ap (keys_at columns) (sym here) ∙ h 0 (omega arith) in
      let rest = rows_are columns (j + 1) es (λ k l. ap (keys_at columns) (next k) ∙ h (suc k) (omega (arith, l))) in
      λ i. record { keys = first i; value = e.value } ∷ rest i
    where
      next : (k : ℕ) → j + 1 + k ≡ j + suc k
      next k = omega arith

abbrev columns_of : ℕ → List Entry → List (List ℕ)
columns_of zero rows = []
columns_of (suc n) rows = columns_of n rows ++ column n rows ∷ []

-- the first numbers of a list
abbrev firsts : ℕ → List ℕ → List ℕ
firsts zero xs = []
firsts (suc n) xs = firsts n xs ++ slice_index xs n ∷ []

firsts_behind : (n x : ℕ) (xs : List ℕ) → firsts (suc n) (x ∷ xs) ≡ x ∷ firsts n xs
firsts_behind zero x xs = refl
firsts_behind (suc n) x xs = ap (λ ys. ys ++ slice_index xs n ∷ []) (firsts_behind n x xs)

firsts_all : (xs : List ℕ) → firsts (length xs) xs ≡ xs
firsts_all [] = refl
firsts_all (x ∷ xs) = firsts_behind (length xs) x xs ∙ ap (λ ys. x ∷ ys) (firsts_all xs)

keys_both : (columns others : List (List ℕ)) (i : ℕ) → keys_at (columns ++ others) i ≡ keys_at columns i ++ keys_at others i
keys_both [] others i = refl
keys_both (c ∷ columns) others i = ap (λ ks. slice_index c i ∷ ks) (keys_both columns others i)

pub column_at : (k : ℕ) (rows : List Entry) (i : ℕ) → i < length rows
    → slice_index (column k rows) i ≡ slice_index (slice_index_or rows i no_entry).coords k
column_at k [] i h = absurd (omega (arith, h))
column_at k (row ∷ rows) zero h = refl
column_at k (row ∷ rows) (suc i) h = column_at k rows i (omega (arith, h))

keys_are : (n : ℕ) (rows : List Entry) (i : ℕ) → i < length rows
    → keys_at (columns_of n rows) i ≡ firsts n (slice_index_or rows i no_entry).coords
keys_are zero rows i h = refl
keys_are (suc n) rows i h =
    keys_both (columns_of n rows) (column n rows ∷ []) i
    ∙ ap (λ ks. ks ++ slice_index (column n rows) i ∷ []) (keys_are n rows i h)
    ∙ ap (λ k. firsts n (slice_index_or rows i no_entry).coords ++ k ∷ []) (column_at n rows i h)

long_at : (keys : ℕ) (rows : List Entry) → Each (λ (row : Entry). length row.coords ≡ keys) rows → (i : ℕ) → i < length rows
    → length (slice_index_or rows i no_entry).coords ≡ keys
long_at keys [] each i h = absurd (omega (arith, h))
long_at keys (row ∷ rows) each zero h = each.0
long_at keys (row ∷ rows) each (suc i) h = long_at keys rows each.1 i (omega (arith, h))

column_rows : (k : ℕ) (es : List Entry) (a : Arithmetic) → column_of k (map (to_row a) es) ≡ column k es
column_rows k [] a = refl
column_rows k (e ∷ es) a = ap (λ ks. slice_index e.coords k ∷ ks) (column_rows k es a)

value_rows : (es : List Entry) (a : Arithmetic) → map (λ (r : Row). r.value) (map (to_row a) es) ≡ values es
value_rows [] a = refl
value_rows (e ∷ es) a = ap (λ vs. e.value ∷ vs) (value_rows es a)

-- ---- arrays
key_test : (w n k : ℕ) → (n ≡ k → ⊥) → same_arr (Key w n) (Key w k) ≡ false
key_test w n k h = grind (arith, nat_tests)

set_key : (s : State) (w : ℕ) (rows : List Row) (n k : ℕ) → k < n → (set_columns s w rows n).arrays (Key w k) ≡ Some (column_of k rows)
set_key s w rows zero k h = absurd (omega (arith, h))
set_key s w rows (suc n) k h = by (same_arr (Key w n) (Key w k)) refl (set_key s w rows n k)
  where
    by : (b : Bool) → same_arr (Key w n) (Key w k) ≡ b
        → (k < n → (set_columns s w rows n).arrays (Key w k) ≡ Some (column_of k rows))
        → (if b then Some (column_of n rows) else (set_columns s w rows n).arrays (Key w k)) ≡ Some (column_of k rows)
    by true e rest = ap (λ (b : Arr). Some (column_of (key_of b) rows)) (same_arr_is (Key w n) (Key w k) e)
      where
        key_of : Arr → ℕ
        key_of (Key m j) = j
        key_of _ = 0
    by false e rest = rest (less (λ same. clash (same_arr (Key w n) (Key w k)) (ap (λ j. same_arr (Key w n) (Key w j)) (sym same)
        ∙ same_arr_self (Key w n)) e))
      where
        less : (n ≡ k → ⊥) → k < n
        less apart = omega (arith, h, apart)

        clash : (b : Bool) → b ≡ true → b ≡ false → ⊥
        clash b g f = cc

key_apart : (w k : ℕ) (b : Arr) → (IsOfWorkspace w b → ⊥) → same_arr (Key w k) b ≡ false
key_apart w k Range h = refl
key_apart w k (Values n) h = refl
key_apart w k (Dimension n j) h = refl
key_apart w k (Ends n j) h = refl
key_apart w k (Coordinates n j) h = refl
key_apart w k (Width n j) h = refl
key_apart w k (Key n j) h = let apart : w ≡ n → ⊥ = λ e. h (sym e) in grind (arith, nat_tests)
key_apart w k (Sums n) h = refl
key_apart w k (ListCoordinates n) h = refl
key_apart w k (ListPositions n) h = refl

sums_apart : (w : ℕ) (b : Arr) → (IsOfWorkspace w b → ⊥) → same_arr (Sums w) b ≡ false
sums_apart w Range h = refl
sums_apart w (Values n) h = refl
sums_apart w (Dimension n j) h = refl
sums_apart w (Ends n j) h = refl
sums_apart w (Coordinates n j) h = refl
sums_apart w (Width n j) h = refl
sums_apart w (Key n j) h = refl
sums_apart w (Sums n) h = let apart : w ≡ n → ⊥ = λ e. h (sym e) in grind (arith, nat_tests)
sums_apart w (ListCoordinates n) h = refl
sums_apart w (ListPositions n) h = refl

columns_kept : (s : State) (w : ℕ) (rows : List Row) (n : ℕ) (b : Arr) → (IsOfWorkspace w b → ⊥)
    → (set_columns s w rows n).arrays b ≡ s.arrays b
columns_kept s w rows zero b h = refl
columns_kept s w rows (suc n) b h =
    ap (λ t. if t then Some (column_of n rows) else (set_columns s w rows n).arrays b) (key_apart w n b h)
    ∙ columns_kept s w rows n b h

vars_kept : (s : State) (w : ℕ) (rows : List Row) (n x : ℕ) → (set_columns s w rows n).vars x ≡ s.vars x
vars_kept s w rows zero x = refl
vars_kept s w rows (suc n) x = vars_kept s w rows n x

turns_kept : (s : State) (w : ℕ) (rows : List Row) (n : ℕ) → (set_columns s w rows n).turns ≡ s.turns
turns_kept s w rows zero = refl
turns_kept s w rows (suc n) = turns_kept s w rows n

module _ (c : Setting) (w keys : ℕ) (there : slice_get c.workspaces w ≡ Some keys) (rows : List Entry)
    (each : Each (λ (row : Entry). length row.coords ≡ keys) rows) (s : State) (holds : HoldsRows w keys rows s.arrays) where
  abbrev sums : List Row
  sums = map (to_row c.arithmetic) (sums_of c.arithmetic rows)

  abbrev end : State
  end = set_array (set_columns s w sums keys) (Sums w) (map (λ (r : Row). r.value) sums)

  columns_there : (n : ℕ) → n ≤ keys → key_columns s w (length (values rows)) n ≡ Some (columns_of n rows)
  columns_there zero h = refl
  columns_there (suc n) h =
      next_column s w (length (values rows)) n (columns_of n rows) (column n rows) (columns_there n (omega (arith, h)))
      (holds.key n (omega (arith, h)))
      (length-map rows (λ (e : Entry). slice_index e.coords n) ∙ sym (length-map rows (λ (e : Entry). e.value)))

  rows_there : rows_from (columns_of keys rows) 0 (values rows) ≡ map (to_row c.arithmetic) rows
  rows_there = rows_are c.arithmetic (columns_of keys rows) 0 rows (λ k h.
      ap (keys_at (columns_of keys rows)) (omega arith) ∙ keys_are keys rows k h
      ∙ ap (λ n. firsts n (slice_index_or rows k no_entry).coords) (sym (long_at keys rows each k h))
      ∙ firsts_all (slice_index_or rows k no_entry).coords)

  sums_there : summed_rows c.arithmetic (rows_from (columns_of keys rows) 0 (values rows)) ≡ sums
  sums_there = ap (summed_rows c.arithmetic) rows_there ∙ summed_are c.arithmetic rows

  ended : sort_sum_outcome c.arithmetic s w (slice_get c.workspaces w) (s.arrays (Sums w)) ≡ Ended end
  ended =
      ap (λ ks. sort_sum_outcome c.arithmetic s w ks (s.arrays (Sums w))) there
      ∙ ap (sort_sum_outcome c.arithmetic s w (Some keys)) holds.sums
      ∙ ap (summed c.arithmetic s w keys (values rows)) (columns_there keys (omega arith))
      ∙ ap (λ (rs : List Row). Ended (set_array (set_columns s w rs keys) (Sums w) (map (λ (r : Row). r.value) rs))) sums_there

  leaves_sums : LeavesSums w keys (sums_of c.arithmetic rows) s end
  leaves_sums = record {
    holds = record {
      key = λ k h.
          set_key s w sums keys k h ∙ ap Some (column_rows k (sums_of c.arithmetic rows) c.arithmetic);
      sums = ap (λ b. if b then Some (map (λ (r : Row). r.value) sums) else (set_columns s w sums keys).arrays (Sums w))
          (same_arr_self (Sums w)) ∙ ap Some (value_rows (sums_of c.arithmetic rows) c.arithmetic);
      few =
          let no_more = sums_are_no_more c.arithmetic rows in
          let held = holds.few in
          omega (arith, no_more, held);
    };
    leaves = λ top. record {
      below = λ y l n. vars_kept s w sums keys y;
      arrays = λ b h.
          ap (λ t. if t then Some (map (λ (r : Row). r.value) sums) else (set_columns s w sums keys).arrays b) (sums_apart w b h)
          ∙ columns_kept s w sums keys b h;
      turns = λ k. let same = ap (λ (f : _). f k) (turns_kept s w sums keys) in omega (arith, same);
    };
  }

pub sorting_sums : SortingSums
sorting_sums c w keys there rows each s holds =
    does_sort_sum c w [] s (end c w keys there rows each s holds) (LeavesSums w keys (sums_of c.arithmetic rows) s) Never
    (ended c w keys there rows each s holds)
    (does_nothing c (end c w keys there rows each s holds) (LeavesSums w keys (sums_of c.arithmetic rows) s) Never
    (leaves_sums c w keys there rows each s holds))
