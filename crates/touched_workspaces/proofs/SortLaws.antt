-- Sorting the list of touched coordinates leaves the sums of the rows.
use Rattle.std.specs.Prelude.{◌≡◌, ◌↔◌, ℕ, zero, suc, ◌^◌, ◌≤◌, ◌<◌, nat_eq, nat_lt, ◌||◌, Bool, true, false, List, [], ◌∷◌}
use Rattle.std.specs.Prelude.{length, map, replicate, Some, slice_get, slice_index, slice_index_or, refl}
use Rattle.std.specs.declared.cmp.Ordering.{Ordering}
use Rattle.std.specs.declared.cmp.Ordering.TheVariants.{Less, Equal, Greater}
use Rattle.std.specs.Ordering.{nat_cmp}
use Rattle.std.specs.Cmp.Lexicographic.{slice_cmp}
use Rattle.std.proofs.Common.{◌∙◌, sym, ap, subst, arith, inl, inr}
use Rattle.std.proofs.lemmas.Bool.Decides.{nat_tests, eqb_tells}
use Rattle.std.proofs.lemmas.List.{length-map}
use Rattle.numbers.specs.Arithmetic.{Arithmetic, Laws}
use Rattle.lists.specs.Each.{Each}
use Rattle.lists.proofs.Tests.{number_same}
use Rattle.kernel_code.specs.Does.{Does, Never}
use Rattle.kernel_code.specs.Keeps.{Leaves, NoVariable, no_turns}
use Rattle.kernel_code.specs.Meaning.{Setting, State, word_of}
use Rattle.kernel_code.specs.declared.syntax.Arr.TheVariants.{Range, Key, Sums}
use Rattle.kernel_code.specs.declared.syntax.KStmt.{SortSum}
use Rattle.kernel_code.proofs.Does.{does_weaker}
use Rattle.kernel_code.proofs.Keeps.{leaves_wider}
use Rattle.tensor_map.specs.Entries.{Entry, Listed, SameListed, coords_of}
use Rattle.tensor_map.specs.Order.{Increasing}
use Rattle.tns_io.specs.Positions.{IsBelow}
use Rattle.workspaces.proofs.SumsOfPairs.{same_rows}
use Rattle.concrete_notation.specs.Contributions.{put_by, put_pair, sums_of}
use Rattle.concrete_notation.proofs.SumsOf.{sums_each, sums_listed, sums_value, sums_increasing}
use Rattle.term_code.specs.WorkspaceSinks.{column, values}
use Rattle.sparse_results.specs.Sorting.{LeavesSums}
use Rattle.sparse_results.proofs.Sorting.{sorting_sums}
use Rattle.touched_workspaces.specs.Drains.{AreWaiting, IsDraining, SortingTouched}
use Rattle.touched_workspaces.specs.Sinks.{TouchedSink, HasRange, IsOther, HoldsTouched, IsTouching}
use Rattle.touched_workspaces.specs.Sizes.{greatest_marked_range}
use Rattle.touched_workspaces.specs.Touched.{stands, touched_rows, HoldsMarked}
use Rattle.touched_workspaces.proofs.Coordinates.{stands_listed, listed_stands}
use Rattle.touched_workspaces.proofs.RowLaws.{range_kept}

-- ---- what is true of the value of each row and kept by sums is true of each sum
put_values : (P : ℕ → Type 0) (a : Arithmetic) → ((x y : ℕ) → P x → P y → P (a.plus x y)) → (pair : Entry) (row : List Entry)
    → P pair.value → Each (λ (e : Entry). P e.value) row → Each (λ (e : Entry). P e.value) (put_pair a pair row)
put_values P a kept pair [] is each = (is, tt)
put_values P a kept pair (first ∷ others) is each =
    by (slice_cmp nat_cmp pair.coords first.coords) (put_values P a kept pair others is each.1)
  where
    by : (r : Ordering) → Each (λ (e : Entry). P e.value) (put_pair a pair others)
        → Each (λ (e : Entry). P e.value) (put_by a r pair first others (put_pair a pair others))
    by Less later = (is, each)
    by Equal later = (kept pair.value first.value is each.0, each.1)
    by Greater later = (each.0, later)

sums_values : (P : ℕ → Type 0) (a : Arithmetic) → ((x y : ℕ) → P x → P y → P (a.plus x y)) → (rows : List Entry)
    → Each (λ (e : Entry). P e.value) rows → Each (λ (e : Entry). P e.value) (sums_of a rows)
sums_values P a kept [] each = tt
sums_values P a kept (row ∷ rows) each = put_values P a kept row (sums_of a rows) each.0 (sums_values P a kept rows each.1)

-- ---- rows of one coordinate
abbrev pub head_of : List ℕ → ℕ
head_of [] = 0
head_of (x ∷ xs) = x

abbrev IsOne : List ℕ → Type 0
IsOne coords = length coords ≡ 1

pub one_is : (coords : List ℕ) → length coords ≡ 1 → coords ≡ slice_index coords 0 ∷ []
one_is [] h = absurd (omega (arith, h))
one_is (x ∷ []) h = refl
one_is (x ∷ y ∷ coords) h = absurd (omega (arith, h))

-- a coordinate stands in the column of such rows exactly where it is listed
pub column_listed : (rows : List Entry) → Each (λ (e : Entry). length e.coords ≡ 1) rows → (x : ℕ) → stands (column 0 rows) x ≡ true
    → Listed rows (x ∷ [])
column_listed [] each x h = absurd (never h)
  where
    never : false ≡ true → ⊥
    never e = cc
column_listed (row ∷ rows) each x h = elim (eqb_tells x (slice_index row.coords 0)) [
  | inl equal ↦ inl (one_is row.coords each.0 ∙ ap (λ n. n ∷ []) (sym equal.1))
  | inr apart ↦ inr (column_listed rows each.1 x (sym (ap (λ b. b || stands (column 0 rows) x) apart.0) ∙ h))
]

pub listed_column : (rows : List Entry) (x : ℕ) → Listed rows (x ∷ []) → stands (column 0 rows) x ≡ true
listed_column [] x h = absurd h
listed_column (row ∷ rows) x (inl here) =
    ap (λ cs. nat_eq x (slice_index cs 0) || stands (column 0 rows) x) here
    ∙ ap (λ b. b || stands (column 0 rows) x) (number_same x)
listed_column (row ∷ rows) x (inr there) = by (nat_eq x (slice_index row.coords 0)) (listed_column rows x there)
  where
    by : (b : Bool) → stands (column 0 rows) x ≡ true → (b || stands (column 0 rows) x) ≡ true
    by true h = refl
    by false h = h

same_test : (b c : Bool) → (b ≡ true → c ≡ true) → (c ≡ true → b ≡ true) → b ≡ c
same_test true c f g = sym (f refl)
same_test false true f g = g refl
same_test false false f g = refl

-- ---- the same rows, each with the value zero
abbrev blank : ℕ → Entry → Entry
blank value row = record { coords = row.coords; value = value }

blank_coords : (value : ℕ) (rows : List Entry) → coords_of (map (blank value) rows) ≡ coords_of rows
blank_coords value [] = refl
blank_coords value (row ∷ rows) = ap (λ cs. row.coords ∷ cs) (blank_coords value rows)

blank_listed : (value : ℕ) (rows : List Entry) (coords : List ℕ) → Listed (map (blank value) rows) coords ↔ Listed rows coords
blank_listed value [] coords = (λ h. h, λ h. h)
blank_listed value (row ∷ rows) coords =
    let rest = blank_listed value rows coords in (
      λ h. elim h [ inl here ↦ inl here | inr there ↦ inr (rest.0 there) ],
      λ h. elim h [ inl here ↦ inl here | inr there ↦ inr (rest.1 there) ],
    )

blank_column : (value : ℕ) (rows : List Entry) → column 0 (map (blank value) rows) ≡ column 0 rows
blank_column value [] = refl
blank_column value (row ∷ rows) = ap (λ xs. slice_index row.coords 0 ∷ xs) (blank_column value rows)

blank_values : (value : ℕ) (rows : List Entry) → values (map (blank value) rows) ≡ replicate (length rows) value
blank_values value [] = refl
blank_values value (row ∷ rows) = ap (λ xs. value ∷ xs) (blank_values value rows)

value_each : (P : ℕ → Type 0) (rows : List Entry) (n : ℕ) (d : Entry) → Each (λ (e : Entry). P e.value) rows → n < length rows
    → P (slice_index_or rows n d).value
value_each P [] n d each h = absurd (omega (arith, h))
value_each P (row ∷ rows) zero d each h = each.0
value_each P (row ∷ rows) (suc n) d each h = value_each P rows n d each.1 (omega (arith, h))

blank_each : (value : ℕ) (rows : List Entry) → Each (λ (e : Entry). e.value ≡ value) (map (blank value) rows)
blank_each value [] = tt
blank_each value (row ∷ rows) = (refl, blank_each value rows)

touched_each : (value : ℕ) (xs : List ℕ) → Each (λ (e : Entry). e.value ≡ value) (touched_rows value xs)
touched_each value [] = tt
touched_each value (x ∷ xs) = (refl, touched_each value xs)

touched_long : (value : ℕ) (xs : List ℕ) → Each (λ (e : Entry). length e.coords ≡ 1) (touched_rows value xs)
touched_long value [] = tt
touched_long value (x ∷ xs) = (refl, touched_long value xs)

-- rows as a sink takes them
rows_one : (size : ℕ) (rows : List Entry) → Each (IsTouching (size ∷ [])) rows → Each (λ (e : Entry). IsBelow (size ∷ []) e.coords) rows
rows_one size [] each = tt
rows_one size (row ∷ rows) each = (each.0.below, rows_one size rows each.1)

pub rows_words : (size : ℕ) (rows : List Entry) → Each (IsTouching (size ∷ [])) rows → Each (λ (e : Entry). e.value < 2 ^ 64) rows
rows_words size [] each = tt
rows_words size (row ∷ rows) each = (each.0.word, rows_words size rows each.1)

pub below_long : (size : ℕ) (coords : List ℕ) → IsBelow (size ∷ []) coords → length coords ≡ 1
below_long size [] h = absurd h
below_long size (x ∷ []) h = refl
below_long size (x ∷ y ∷ coords) h = absurd h.1

long_each : (size : ℕ) (rows : List Entry) → Each (λ (e : Entry). IsBelow (size ∷ []) e.coords) rows
    → Each (λ (e : Entry). length e.coords ≡ 1) rows
long_each size [] each = tt
long_each size (row ∷ rows) each = (below_long size row.coords each.0, long_each size rows each.1)

touching_each : (size : ℕ) (rows : List Entry) → Each (λ (e : Entry). IsBelow (size ∷ []) e.coords) rows
    → Each (λ (e : Entry). e.value < 2 ^ 64) rows → Each (IsTouching (size ∷ [])) rows
touching_each size [] below words = tt
touching_each size (row ∷ rows) below words =
    (record { one = refl; below = below.0; word = words.0 }, touching_each size rows below.1 words.1)

-- ---- the sums of rows as a sink takes them
module _ (a : Arithmetic) (laws : Laws a) (size : ℕ) (rows : List Entry) (each : Each (IsTouching (size ∷ [])) rows) where
  sums_below : Each (λ (e : Entry). IsBelow (size ∷ []) e.coords) (sums_of a rows)
  sums_below = sums_each (IsBelow (size ∷ [])) a rows (rows_one size rows each)

  pub sums_touch : Each (IsTouching (size ∷ [])) (sums_of a rows)
  sums_touch =
      touching_each size (sums_of a rows) sums_below
      (sums_values (λ n. n < 2 ^ 64) a (λ x y h g. laws.plus_fits x y) rows (rows_words size rows each))

  -- touched coordinates that are those of the rows, sorted: as the sums, each with the value zero
  module _ (touched : List ℕ) (listed : SameListed rows (touched_rows a.zero touched)) where
    zeros_each : Each (λ (e : Entry). e.value ≡ a.zero) (sums_of a (touched_rows a.zero touched))
    zeros_each =
        sums_values (λ n. n ≡ a.zero) a
        (λ x y h g. ap (λ n. a.plus n y) h ∙ ap (a.plus a.zero) g ∙ laws.plus_zero a.zero laws.zero_fits)
        (touched_rows a.zero touched) (touched_each a.zero touched)

    pub sorted_is : sums_of a (touched_rows a.zero touched) ≡ map (blank a.zero) (sums_of a rows)
    sorted_is =
        same_rows (sums_of a (touched_rows a.zero touched)) (map (blank a.zero) (sums_of a rows))
        (sums_increasing a (touched_rows a.zero touched))
        (subst Increasing (sym (blank_coords a.zero (sums_of a rows))) (sums_increasing a rows))
        both (λ coords. a.zero)
        (λ n d h. value_each (λ v. v ≡ a.zero) (sums_of a (touched_rows a.zero touched)) n d zeros_each h)
        (λ n d h. value_each (λ v. v ≡ a.zero) (map (blank a.zero) (sums_of a rows)) n d (blank_each a.zero (sums_of a rows)) h)
      where
        both : (coords : List ℕ)
            → Listed (sums_of a (touched_rows a.zero touched)) coords ↔ Listed (map (blank a.zero) (sums_of a rows)) coords
        both coords =
            let first = sums_listed a (touched_rows a.zero touched) coords in
            let middle = listed coords in
            let last = sums_listed a rows coords in
            let blanked = blank_listed a.zero (sums_of a rows) coords in
            (λ h. blanked.1 (last.1 (middle.0 (first.0 h))), λ h. first.1 (middle.1 (last.0 (blanked.0 h))))

    pub stands_as : (x : ℕ) → stands touched x ≡ stands (column 0 (sums_of a rows)) x
    stands_as x =
        let last = sums_listed a rows (x ∷ []) in
        same_test (stands touched x) (stands (column 0 (sums_of a rows)) x)
        (λ h. listed_column (sums_of a rows) x (last.1 ((listed (x ∷ [])).0 (stands_listed a.zero touched x h))))
        (λ h. found x ((listed (x ∷ [])).1 (last.0
        (column_listed (sums_of a rows) (long_each size (sums_of a rows) sums_below) x h))))
      where
        found : (x : ℕ) → Listed (touched_rows a.zero touched) (x ∷ []) → stands touched x ≡ true
        found x h =
            let p = listed_stands a.zero touched (x ∷ []) h in
            subst (λ n. stands touched n ≡ true) (sym (ap head_of p.1)) p.2

-- ---- the law
module _ (k : TouchedSink) (c : Setting) (laws : Laws c.arithmetic) (there : slice_get c.workspaces k.list ≡ Some 1) (size : ℕ)
    (rows : List Entry) (s : State) (holds : HoldsTouched k c.arithmetic (size ∷ []) rows s) (top : ℕ) where
  abbrev IsSorted : State → Type 0
  IsSorted t = Leaves NoVariable (IsOther k) top no_turns s t × IsDraining k c.arithmetic size [] (sums_of c.arithmetic rows) t

  same_size : holds.size ≡ size
  same_size = ap head_of (sym holds.ranges_are)

  leaves_others : (t : State) (listed : List Entry) → LeavesSums k.list 1 listed s t → Leaves NoVariable (IsOther k) top no_turns s t
  leaves_others t listed h =
      leaves_wider NoVariable NoVariable _ (IsOther k) top no_turns no_turns s t (λ z m. m) (λ b out of. out (inr of)) (λ j. omega arith)
      (h.leaves top)

  range_there : (t : State) (listed : List Entry) → LeavesSums k.list 1 listed s t → HasRange k.variable size t
  range_there t listed h =
      range_kept k.variable size s t ((h.leaves top).arrays Range (λ none. none))
      (subst (λ n. HasRange k.variable n s) same_size holds.range)

  sorted_large : greatest_marked_range < size → Does c (SortSum k.list ∷ []) s IsSorted Never
  sorted_large large =
      does_weaker c (SortSum k.list ∷ []) s _ IsSorted Never Never
      (sorting_sums c k.list 1 there rows (long_each size rows (rows_one size rows holds.each)) s
      (holds.pushed (subst (λ n. greatest_marked_range < n) (sym same_size) large)))
      (λ t h. (
        leaves_others t _ h,
        record {
          range = range_there t _ h;
          zero_is = holds.zero_is;
          apart = holds.apart;
          increasing = sums_increasing c.arithmetic rows;
          each = sums_touch c.arithmetic laws size rows holds.each;
          few = h.holds.few;
          keys_are = h.holds.key 0 (omega arith);
          marked = λ small. absurd (omega (arith, small, large));
          pushed = λ _. h.holds.sums;
        },
      )) (λ t b n none. none)

  module _ (small : size ≤ greatest_marked_range) where
    waiting : (t : State) (m : HoldsMarked k.dense k.list size c.arithmetic rows s.arrays)
        → LeavesSums k.list 1 (map (blank c.arithmetic.zero) (sums_of c.arithmetic rows)) s t
        → AreWaiting k c.arithmetic size [] (sums_of c.arithmetic rows) t.arrays
    waiting t m h = record {
      values_are = h.holds.sums ∙ ap Some (blank_values c.arithmetic.zero (sums_of c.arithmetic rows));
      marked = record {
        marks = m.marked.marks;
        held = (h.leaves top).arrays (Key k.dense 0) holds.apart ∙ m.marked.held;
        many = m.marked.many;
        each = λ x g. m.marked.each x g ∙ ap word_of (stands_as c.arithmetic laws size rows holds.each m.touched m.same x);
      };
      summed = record {
        sums = m.summed.sums;
        held = (h.leaves top).arrays (Sums k.dense) holds.apart ∙ m.summed.held;
        many = m.summed.many;
        each = λ x g. m.summed.each x g ∙ sym (sums_value c.arithmetic laws (x ∷ []) rows);
      };
    }

    sorted_small : (m : HoldsMarked k.dense k.list size c.arithmetic rows s.arrays) → Does c (SortSum k.list ∷ []) s IsSorted Never
    sorted_small m =
        let sorted = sorted_is c.arithmetic laws size rows holds.each m.touched m.same in
        does_weaker c (SortSum k.list ∷ []) s _ IsSorted Never Never
        (sorting_sums c k.list 1 there (touched_rows c.arithmetic.zero m.touched) (touched_long c.arithmetic.zero m.touched) s
        m.marked.listed)
        (λ t g.
        let h = subst (λ es. LeavesSums k.list 1 es s t) sorted g in (
          leaves_others t _ h,
          record {
            range = range_there t _ h;
            zero_is = holds.zero_is;
            apart = holds.apart;
            increasing = sums_increasing c.arithmetic rows;
            each = sums_touch c.arithmetic laws size rows holds.each;
            few =
                let few = h.holds.few in
                let many = length-map (sums_of c.arithmetic rows) (blank c.arithmetic.zero) in
                omega (arith, few, many);
            keys_are = h.holds.key 0 (omega arith) ∙ ap Some (blank_column c.arithmetic.zero (sums_of c.arithmetic rows));
            marked = λ _. waiting t m h;
            pushed = λ large. absurd (omega (arith, small, large));
          },
        )) (λ t b n none. none)

  sorts : Does c (SortSum k.list ∷ []) s IsSorted Never
  sorts = by (nat_lt greatest_marked_range size) refl
    where
      by : (b : Bool) → nat_lt greatest_marked_range size ≡ b → Does c (SortSum k.list ∷ []) s IsSorted Never
      by true test = let large : greatest_marked_range < size = grind (arith, nat_tests, test) in sorted_large large
      by false test =
          let small : size ≤ greatest_marked_range = grind (arith, nat_tests, test) in
          sorted_small small (subst (λ n. HoldsMarked k.dense k.list n c.arithmetic rows s.arrays) same_size
          (holds.marked (subst (λ n. n ≤ greatest_marked_range) (sym same_size) small)))

pub sorting_touched : SortingTouched
sorting_touched k c laws there size rows s holds top = sorts k c laws there size rows s holds top
