-- The code of a row adds it to those that the two workspaces hold.
use Rattle.std.specs.Prelude.{◌≡◌, ◌≢◌, ℕ, zero, suc, ◌+◌, ◌^◌, ◌≤◌, ◌<◌, nat_eq, nat_lt, ◌&&◌, Bool, true, false, List, [], ◌∷◌, ◌++◌}
use Rattle.std.specs.Prelude.{length, Option, Some, slice_index, slice_set, refl}
use Rattle.std.specs.Cmp.Lexicographic.{pointwise}
use Rattle.std.proofs.Common.{◌∙◌, sym, ap, subst, arith, inl, inr, lit≤}
use Rattle.std.proofs.lemmas.Bool.Decides.{nat_tests, eqb_tells}
use Rattle.std.proofs.lemmas.List.{get_or-set_same, get_or-set_other, length-set, length-append, length-map, map-append}
use Rattle.std.proofs.lemmas.Option.{slice_get-get_or}
use Rattle.limits.specs.Limits.{greatest_workspace_pairs}
use Rattle.numbers.specs.Arithmetic.{Laws}
use Rattle.numbers.proofs.Sums.{total_fits}
use Rattle.lists.proofs.Each.{each_append}
use Rattle.lists.proofs.Tests.{number_apart, test_within}
use Rattle.kernel_code.specs.Arrays.{same_arr, may_have}
use Rattle.kernel_code.specs.Does.{Refusal, Does, Never}
use Rattle.kernel_code.specs.Keeps.{Leaves, NoVariable, no_turns}
use Rattle.kernel_code.specs.Meaning.{Setting, State, value, set_array, word_of}
use Rattle.kernel_code.specs.declared.syntax.Arr.{Arr}
use Rattle.kernel_code.specs.declared.syntax.Arr.TheVariants.{Range, Key, Sums}
use Rattle.kernel_code.specs.declared.syntax.KExpr.{Num, Var, At}
use Rattle.kernel_code.specs.declared.syntax.KStmt.{AddTo}
use Rattle.kernel_code.proofs.ArrayNames.{same_arr_self, same_arr_is}
use Rattle.kernel_code.proofs.Does.{does_nothing, does_weaker, does_put, does_push, does_add_to, does_if_yes, does_if_no}
use Rattle.kernel_code.proofs.Keeps.{this_array, other_array, leaves_none, leaves_array, leaves_wider}
use Rattle.kernel_code.proofs.Words.{word_is, less_is}
use Rattle.level_core.specs.Fragments.{RefusedWithin}
use Rattle.tensor_map.specs.Entries.{Entry, Listed, SameListed, is_at, value_at, values_at}
use Rattle.tensor_map.specs.Laws.{same, other}
use Rattle.tensor_map.proofs.Lemmas.{tested, at_itself, value_append, value_here, value_elsewhere, listed_append}
use Rattle.tns_io.specs.Positions.{IsBelow}
use Rattle.result_targets.specs.Sinks.{AddsTo, Adds, VarsAre}
use Rattle.term_code.specs.WorkspaceSinks.{column, values, HoldsRows, push_code}
use Rattle.term_code.proofs.WorkspaceLaws.{pushes}
use Rattle.touched_workspaces.specs.Codes.{is_large, touch_code, mark_code, row_code}
use Rattle.touched_workspaces.specs.Sinks.{TouchedSink, HasRange, IsOfTouched, IsOther, HoldsTouched, IsTouching, PassesList, touched_sink}
use Rattle.touched_workspaces.specs.Sizes.{greatest_marked_range}
use Rattle.touched_workspaces.specs.Touched.{stands, touched_row, touched_rows, AreMarked, HoldsMarked}
use Rattle.touched_workspaces.proofs.Coordinates.{stands_last, stands_other, once_more, no_more_than, stands_listed}

-- a list of touched coordinates stays below the limit on pairs
pub marks_are_few : greatest_marked_range ≤ greatest_workspace_pairs
unfolding greatest_marked_range greatest_workspace_pairs
marks_are_few = lit≤ tt

-- an array of one of the two workspaces isn't another one
pub not_other : (k : TouchedSink) (a b : Arr) → IsOfTouched k a → IsOther k b → same_arr a b ≡ false
not_other k a b of out = by (same_arr a b) refl
  where
    by : (t : Bool) → same_arr a b ≡ t → t ≡ false
    by true is = absurd (out (subst (IsOfTouched k) (same_arr_is a b is) of))
    by false is = refl

-- the range is told while its array stays
pub large_is : (variable size : ℕ) (s : State) → HasRange variable size s
    → value (is_large variable) s ≡ Some (word_of (nat_lt greatest_marked_range size))
large_is variable size s has =
    less_is (Num greatest_marked_range) (At Range (Num variable)) greatest_marked_range size s refl
    (word_is Range (Num variable) has.words variable size s has.words_are refl has.told)

pub range_kept : (variable size : ℕ) (s t : State) → t.arrays Range ≡ s.arrays Range → HasRange variable size s
    → HasRange variable size t
range_kept variable size s t stays has = record { words = has.words; words_are = stays ∙ has.words_are; told = has.told }

-- rows of one coordinate have one column
pub only_key : (list : ℕ) (rows : List Entry) (arrays : Arr → Option (List ℕ)) → arrays (Key list 0) ≡ Some (column 0 rows) → (j : ℕ)
    → j < 1 → arrays (Key list j) ≡ Some (column j rows)
only_key list rows arrays h zero l = h
only_key list rows arrays h (suc j) l = absurd (omega (arith, l))

pub denied : {A : Type 0} (b : Bool) → b ≡ true → b ≡ false → A
denied b holds fails = absurd (never (sym holds ∙ fails))
  where
    never : true ≡ false → ⊥
    never e = cc

-- rows of a list stay while its two arrays do
pub rows_kept : (list : ℕ) (rows : List Entry) (s t : State) → ((j : ℕ) → t.arrays (Key list j) ≡ s.arrays (Key list j))
    → t.arrays (Sums list) ≡ s.arrays (Sums list) → HoldsRows list 1 rows s.arrays → HoldsRows list 1 rows t.arrays
rows_kept list rows s t keys sums h = record { key = λ j l. keys j ∙ h.key j l; sums = sums ∙ h.sums; few = h.few }

module _ (k : TouchedSink) (c : Setting) (laws : Laws c.arithmetic) (size : ℕ) (small : size ≤ greatest_marked_range)
    (zero_is : k.zero ≡ c.arithmetic.zero) (apart : k.dense ≡ k.list → ⊥) (free : ℕ)
    (rows : List Entry) (row : Entry) (x : ℕ) (inside : x < size) (is : row.coords ≡ x ∷ []) (word : row.value < 2 ^ 64)
    (y v : ℕ) (s : State) (at : s.vars y ≡ Some x) (has : s.vars v ≡ Some row.value)
    (holds : HoldsMarked k.dense k.list size c.arithmetic rows s.arrays) where
  -- the coordinate is touched, and nothing is added yet
  record IsTouched (t : State) : Type 0 where
    touched : List ℕ
    marked : AreMarked k.dense k.list size c.arithmetic.zero touched t.arrays
    same : SameListed (rows ++ row ∷ []) (touched_rows c.arithmetic.zero touched)
    vars : (z : ℕ) → t.vars z ≡ s.vars z
    sums : t.arrays (Sums k.dense) ≡ s.arrays (Sums k.dense)
    leaves : Leaves NoVariable (IsOther k) free no_turns s t

  touched_still : stands holds.touched x ≡ true → IsTouched s
  touched_still old = record {
    touched = holds.touched;
    marked = holds.marked;
    same = λ coords.
        let whole = listed_append coords rows (row ∷ []) in
        let before = holds.same coords in (
          λ h. whole.1 (inl (before.0 h)),
          λ h. elim (whole.0 h) [
            | inl there ↦ before.1 there
            | inr here ↦ last coords here
          ],
        );
    vars = λ z. refl;
    sums = refl;
    leaves = leaves_none NoVariable (IsOther k) free no_turns s;
  }
    where
      last : (coords : List ℕ) → Listed (row ∷ []) coords → Listed (touched_rows c.arithmetic.zero holds.touched) coords
      last coords (inl here) =
          subst (Listed (touched_rows c.arithmetic.zero holds.touched)) (sym is ∙ here)
          (stands_listed c.arithmetic.zero holds.touched x old)
      last coords (inr none) = absurd none

  abbrev marks_after : List ℕ
  marks_after = slice_set holds.marked.marks x 1

  abbrev listed_before : List Entry
  listed_before = touched_rows c.arithmetic.zero holds.touched

  abbrev listed_after : List Entry
  listed_after = touched_rows c.arithmetic.zero holds.touched ++ touched_row c.arithmetic.zero x ∷ []

  abbrev with_mark : State
  with_mark = set_array s (Key k.dense 0) marks_after

  abbrev with_key : State
  with_key = set_array with_mark (Key k.list 0) (column 0 listed_before ++ x ∷ [])

  abbrev with_value : State
  with_value = set_array with_key (Sums k.list) (values listed_before ++ k.zero ∷ [])

  keys_apart : same_arr (Key k.list 0) (Key k.dense 0) ≡ false
  keys_apart = ap (λ b. b && true) (number_apart k.list k.dense (λ e. apart (sym e)))

  keys_apart_too : same_arr (Key k.dense 0) (Key k.list 0) ≡ false
  keys_apart_too = ap (λ b. b && true) (number_apart k.dense k.list apart)

  sums_apart : same_arr (Sums k.list) (Sums k.dense) ≡ false
  sums_apart = number_apart k.list k.dense (λ e. apart (sym e))

  sums_apart_too : same_arr (Sums k.dense) (Sums k.list) ≡ false
  sums_apart_too = number_apart k.dense k.list apart

  rows_after : touched_rows c.arithmetic.zero (holds.touched ++ x ∷ []) ≡ listed_after
  rows_after = map-append (touched_row c.arithmetic.zero) holds.touched (x ∷ [])

  fits : stands holds.touched x ≡ false → length holds.touched + 1 ≤ size
  fits new =
      let within = no_more_than (holds.touched ++ x ∷ []) size (once_more holds.touched x holds.marked.once new) below_all in
      let long = length-append holds.touched (x ∷ []) in
      omega (arith, within, long)
    where
      below_all : (z : ℕ) → stands (holds.touched ++ x ∷ []) z ≡ true → z < size
      below_all z h = elim (eqb_tells x z) [
        | inl equal ↦ subst (λ n. n < size) equal.1 inside
        | inr away ↦ holds.marked.below z (sym (stands_other holds.touched x z away.1) ∙ h)
      ]

  pairs_fit : stands holds.touched x ≡ false → length holds.touched + 1 ≤ greatest_workspace_pairs
  pairs_fit new = let few = fits new in let less = marks_are_few in omega (arith, few, less, small)

  key_held : with_key.arrays (Key k.list 0) ≡ Some (column 0 listed_after)
  key_held =
      this_array with_mark (Key k.list 0) (Key k.list 0) (column 0 listed_before ++ x ∷ []) (same_arr_self (Key k.list 0))
      ∙ ap Some (sym (map-append (λ (e : Entry). slice_index e.coords 0) listed_before (touched_row c.arithmetic.zero x ∷ [])))

  sums_held : with_value.arrays (Sums k.list) ≡ Some (values listed_after)
  sums_held =
      this_array with_key (Sums k.list) (Sums k.list) (values listed_before ++ k.zero ∷ []) (same_arr_self (Sums k.list))
      ∙ ap (λ n. Some (values listed_before ++ n ∷ [])) zero_is
      ∙ ap Some (sym (map-append (λ (e : Entry). e.value) listed_before (touched_row c.arithmetic.zero x ∷ [])))

  rows_held : stands holds.touched x ≡ false → HoldsRows k.list 1 listed_after with_value.arrays
  rows_held new = record {
    key = only_key k.list listed_after with_value.arrays (other_array with_key (Sums k.list) (Key k.list 0)
        (values listed_before ++ k.zero ∷ []) refl ∙ key_held);
    sums = sums_held;
    few =
        let long = length-append listed_before (touched_row c.arithmetic.zero x ∷ []) in
        let many = length-map holds.touched (touched_row c.arithmetic.zero) in
        let few = pairs_fit new in
        omega (arith, long, many, few);
  }

  same_after : SameListed (rows ++ row ∷ []) listed_after
  same_after coords =
      let whole = listed_append coords rows (row ∷ []) in
      let listed = listed_append coords listed_before (touched_row c.arithmetic.zero x ∷ []) in
      let before = holds.same coords in (
        λ h. elim (listed.0 h) [
          | inl there ↦ whole.1 (inl (before.0 there))
          | inr here ↦ whole.1 (inr (turned coords here))
        ],
        λ h. elim (whole.0 h) [
          | inl there ↦ listed.1 (inl (before.1 there))
          | inr here ↦ listed.1 (inr (turned_back coords here))
        ],
      )
    where
      turned : (coords : List ℕ) → Listed (touched_row c.arithmetic.zero x ∷ []) coords → Listed (row ∷ []) coords
      turned coords (inl here) = inl (is ∙ here)
      turned coords (inr none) = absurd none

      turned_back : (coords : List ℕ) → Listed (row ∷ []) coords → Listed (touched_row c.arithmetic.zero x ∷ []) coords
      turned_back coords (inl here) = inl (sym is ∙ here)
      turned_back coords (inr none) = absurd none

  touched_now : stands holds.touched x ≡ false → IsTouched with_value
  touched_now new = record {
    touched = holds.touched ++ x ∷ [];
    marked = record {
      marks = marks_after;
      held = other_array with_key (Sums k.list) (Key k.dense 0) (values listed_before ++ k.zero ∷ []) refl
          ∙ other_array with_mark (Key k.list 0) (Key k.dense 0) (column 0 listed_before ++ x ∷ []) keys_apart
          ∙ this_array s (Key k.dense 0) (Key k.dense 0) marks_after (same_arr_self (Key k.dense 0));
      many = length-set holds.marked.marks x 1 ∙ holds.marked.many;
      each = λ z h. elim (eqb_tells x z) [
        | inl equal ↦
            ap (slice_index marks_after) (sym equal.1)
            ∙ get_or-set_same holds.marked.marks x 1 0 (let many = holds.marked.many in omega (arith, inside, many))
            ∙ ap word_of (sym (stands_last holds.touched x))
            ∙ ap (λ n. word_of (stands (holds.touched ++ x ∷ []) n)) equal.1
        | inr away ↦
            get_or-set_other holds.marked.marks x z 1 0 (λ e. away.1 (sym e))
            ∙ holds.marked.each z h
            ∙ ap word_of (sym (stands_other holds.touched x z away.1))
      ];
      once = once_more holds.touched x holds.marked.once new;
      below = λ z h. elim (eqb_tells x z) [
        | inl equal ↦ subst (λ n. n < size) equal.1 inside
        | inr away ↦ holds.marked.below z (sym (stands_other holds.touched x z away.1) ∙ h)
      ];
      listed = subst (λ es. HoldsRows k.list 1 es with_value.arrays) (sym rows_after) (rows_held new);
    };
    same = subst (SameListed (rows ++ row ∷ [])) (sym rows_after) same_after;
    vars = λ z. refl;
    sums = other_array with_key (Sums k.list) (Sums k.dense) (values listed_before ++ k.zero ∷ []) sums_apart;
    leaves = leaves_array NoVariable (IsOther k) free no_turns s with_key (Sums k.list) (values listed_before ++ k.zero ∷ [])
        (λ b out. not_other k (Sums k.list) b (inr refl) out)
        (leaves_array NoVariable (IsOther k) free no_turns s with_mark (Key k.list 0) (column 0 listed_before ++ x ∷ [])
        (λ b out. not_other k (Key k.list 0) b (inr refl) out)
        (leaves_array NoVariable (IsOther k) free no_turns s s (Key k.dense 0) marks_after
        (λ b out. not_other k (Key k.dense 0) b (inl refl) out) (leaves_none NoVariable (IsOther k) free no_turns s)));
  }

  touches : stands holds.touched x ≡ false → Does c (touch_code k y) s IsTouched Never
  touches new =
      let fit = pairs_fit new in
      let many = length-map holds.touched (touched_row c.arithmetic.zero) in
      let keys = length-map listed_before (λ (e : Entry). slice_index e.coords 0) in
      let sums = length-map listed_before (λ (e : Entry). e.value) in
      does_put c (Key k.dense 0) (Var y) (Num 1) _ s x 1 holds.marked.marks IsTouched Never at refl refl holds.marked.held
      (let long = holds.marked.many in omega (arith, inside, long))
      (does_push c (Key k.list 0) (Var y) _ with_mark x (column 0 listed_before) IsTouched Never at refl
      (other_array s (Key k.dense 0) (Key k.list 0) marks_after keys_apart_too ∙ holds.marked.listed.key 0 (omega arith))
      (λ may. does_push c (Sums k.list) (Num k.zero) [] with_key k.zero (values listed_before) IsTouched Never refl refl
      (other_array with_mark (Key k.list 0) (Sums k.list) (column 0 listed_before ++ x ∷ []) refl
      ∙ other_array s (Key k.dense 0) (Sums k.list) marks_after refl
      ∙ holds.marked.listed.sums)
      (λ also. does_nothing c with_value IsTouched Never (touched_now new))
      (λ over. denied (may_have (Sums k.list) (length (values listed_before) + 1))
      (test_within (length (values listed_before) + 1) greatest_workspace_pairs (omega (arith, fit, many, sums))) over))
      (λ over. denied (may_have (Key k.list 0) (length (column 0 listed_before) + 1))
      (test_within (length (column 0 listed_before) + 1) greatest_workspace_pairs (omega (arith, fit, many, keys))) over))

  -- the row is added
  abbrev IsAdded : State → Type 0
  IsAdded t = Leaves NoVariable (IsOther k) free no_turns s t × HoldsMarked k.dense k.list size c.arithmetic (rows ++ row ∷ []) t.arrays

  abbrev sum_after : ℕ
  sum_after = c.arithmetic.plus (slice_index holds.summed.sums x) row.value

  abbrev sums_after : List ℕ
  sums_after = slice_set holds.summed.sums x sum_after

  value_after : (z : ℕ) → z < size → slice_index sums_after z ≡ value_at c.arithmetic (rows ++ row ∷ []) (z ∷ [])
  value_after z h =
      let a = c.arithmetic in
      elim (eqb_tells x z) [
        | inl equal ↦
            ap (slice_index sums_after) (sym equal.1)
            ∙ get_or-set_same holds.summed.sums x sum_after 0 (let many = holds.summed.many in omega (arith, inside, many))
            ∙ ap (λ n. a.plus n row.value) (holds.summed.each x inside)
            ∙ sym (value_append a laws (x ∷ []) rows (row ∷ [])
            ∙ ap (a.plus (value_at a rows (x ∷ [])))
            (value_here a (x ∷ []) row [] (ap (λ cs. pointwise nat_eq cs (x ∷ [])) is ∙ at_itself (x ∷ []))
            ∙ laws.plus_zero row.value word))
            ∙ ap (λ n. value_at a (rows ++ row ∷ []) (n ∷ [])) equal.1
        | inr other_one ↦
            get_or-set_other holds.summed.sums x z sum_after 0 (λ e. other_one.1 (sym e))
            ∙ holds.summed.each z h
            ∙ sym (value_append a laws (z ∷ []) rows (row ∷ [])
            ∙ ap (a.plus (value_at a rows (z ∷ []))) (value_elsewhere a (z ∷ []) row [] (away z other_one.1))
            ∙ laws.plus_zero (value_at a rows (z ∷ [])) (total_fits a laws (values_at rows (z ∷ []))))
      ]
    where
      first_of : List ℕ → ℕ
      first_of [] = 0
      first_of (n ∷ ns) = n

      away : (z : ℕ) → x ≢ z → is_at (z ∷ []) row ≡ false
      away z h = elim (tested row.coords (z ∷ [])) [
        | same e q ↦ absurd (h (ap first_of (sym is ∙ e)))
        | other e q ↦ q
      ]

  adds : (t : State) → IsTouched t → Does c (AddTo (Sums k.dense) (Var y) (Var v) ∷ []) t IsAdded Never
  adds t h =
      let u = set_array t (Sums k.dense) sums_after in
      does_add_to c (Sums k.dense) (Var y) (Var v) [] t x row.value holds.summed.sums IsAdded Never (h.vars y ∙ at) (h.vars v ∙ has) refl
      (h.sums ∙ holds.summed.held) (let many = holds.summed.many in omega (arith, inside, many))
      (does_nothing c u IsAdded Never (
        leaves_array NoVariable (IsOther k) free no_turns s t (Sums k.dense) sums_after
            (λ b out. not_other k (Sums k.dense) b (inl refl) out) h.leaves,
        record {
          touched = h.touched;
          marked = record {
            marks = h.marked.marks;
            held = other_array t (Sums k.dense) (Key k.dense 0) sums_after refl ∙ h.marked.held;
            many = h.marked.many;
            each = h.marked.each;
            once = h.marked.once;
            below = h.marked.below;
            listed = rows_kept k.list (touched_rows c.arithmetic.zero h.touched) t u
                (λ j. other_array t (Sums k.dense) (Key k.list j) sums_after refl)
                (other_array t (Sums k.dense) (Sums k.list) sums_after sums_apart_too) h.marked.listed;
          };
          summed = record {
            sums = sums_after;
            held = this_array t (Sums k.dense) (Sums k.dense) sums_after (same_arr_self (Sums k.dense));
            many = length-set holds.summed.sums x sum_after ∙ holds.summed.many;
            each = value_after;
          };
          same = h.same;
        },
      ))

  pub adds_marked : Does c (mark_code k y v) s IsAdded Never
  adds_marked = by (stands holds.touched x) refl
    where
      told : value (At (Key k.dense 0) (Var y)) s ≡ Some (word_of (stands holds.touched x))
      told =
          word_is (Key k.dense 0) (Var y) holds.marked.marks x (word_of (stands holds.touched x)) s holds.marked.held at
          (slice_get-get_or holds.marked.marks x 0 (let many = holds.marked.many in omega (arith, inside, many))
          ∙ ap Some (holds.marked.each x inside))

      by : (b : Bool) → stands holds.touched x ≡ b → Does c (mark_code k y v) s IsAdded Never
      by true old =
          does_if_yes c (At (Key k.dense 0) (Var y)) [] (touch_code k y) _ s 0 IsTouched IsAdded Never
          (told ∙ ap (λ b. Some (word_of b)) old) (does_nothing c s IsTouched Never (touched_still old)) adds
      by false new =
          does_if_no c (At (Key k.dense 0) (Var y)) [] (touch_code k y) _ s IsTouched IsAdded Never
          (told ∙ ap (λ b. Some (word_of b)) new) (touches new) adds

-- the code of a row, whose coordinate and value stand in variables
module _ (k : TouchedSink) (c : Setting) (laws : Laws c.arithmetic) (free : ℕ) (ranges : List ℕ) (rows : List Entry) (row : Entry)
    (touching : IsTouching ranges row) (s : State) (y v x : ℕ) (at : s.vars y ≡ Some x) (has : s.vars v ≡ Some row.value)
    (holds : HoldsTouched k c.arithmetic ranges rows s) (inside : x < holds.size) (is : row.coords ≡ x ∷ []) where
  abbrev IsHeld : State → Type 0
  IsHeld t = Leaves NoVariable (IsOther k) free no_turns s t × HoldsTouched k c.arithmetic ranges (rows ++ row ∷ []) t

  range_left : (t : State) → Leaves NoVariable (IsOther k) free no_turns s t → HasRange k.variable holds.size t
  range_left t leaves = range_kept k.variable holds.size s t (leaves.arrays Range no_array) holds.range
    where
      no_array : IsOther k Range
      no_array (inl none) = none
      no_array (inr none) = none

  small_row : nat_lt greatest_marked_range holds.size ≡ false → Does c (mark_code k y v) s IsHeld Never
  small_row test =
      let small : holds.size ≤ greatest_marked_range = grind (arith, nat_tests, test) in
      does_weaker c (mark_code k y v) s _ IsHeld Never Never
      (adds_marked k c laws holds.size small holds.zero_is holds.apart free rows row x inside is touching.word y v s at has
      (holds.marked small))
      (λ t h. (
        h.0,
        record {
          size = holds.size;
          ranges_are = holds.ranges_are;
          range = range_left t h.0;
          zero_is = holds.zero_is;
          apart = holds.apart;
          each = each_append (IsTouching ranges) rows (row ∷ []) holds.each (touching, tt);
          marked = λ _. h.1;
          pushed = λ large. absurd (omega (arith, small, large));
        },
      )) (λ t b n none. none)

  abbrev Refused : Refusal
  Refused = RefusedWithin no_turns s (PassesList k ranges (rows ++ row ∷ []))

  large_row : nat_lt greatest_marked_range holds.size ≡ true → Does c (push_code k.list 0 (y ∷ []) v) s IsHeld Refused
  large_row test =
      let large : greatest_marked_range < holds.size = grind (arith, nat_tests, test) in
      does_weaker c (push_code k.list 0 (y ∷ []) v) s _ IsHeld _ Refused
      (pushes (record { number = k.list; keys = 1 }) (y ∷ []) v free c laws (λ z none. absurd none) ranges rows row (ap length is) s
      (subst (λ cs. VarsAre (y ∷ []) cs s) (sym is) (at, tt)) has (holds.pushed large))
      (λ t h.
      let leaves = leaves_wider NoVariable NoVariable _ (IsOther k) free no_turns no_turns s t (λ z m. m) (λ b out of. out (inr of))
      (λ j. omega arith) h.0 in (
        leaves,
        record {
          size = holds.size;
          ranges_are = holds.ranges_are;
          range = range_left t leaves;
          zero_is = holds.zero_is;
          apart = holds.apart;
          each = each_append (IsTouching ranges) rows (row ∷ []) holds.each (touching, tt);
          marked = λ small. absurd (omega (arith, small, large));
          pushed = λ _. h.1;
        },
      ))
      (λ t b n h. (
        h.0,
        record {
          large = subst (λ ns. greatest_marked_range < slice_index ns 0) (sym holds.ranges_are) large;
          passes = h.1;
        },
      ))

  pub adds_row : Does c (row_code k y v) s IsHeld Refused
  adds_row = by (nat_lt greatest_marked_range holds.size) refl
    where
      by : (b : Bool) → nat_lt greatest_marked_range holds.size ≡ b → Does c (row_code k y v) s IsHeld Refused
      by true test =
          does_if_yes c (is_large k.variable) (push_code k.list 0 (y ∷ []) v) (mark_code k y v) [] s 0 IsHeld IsHeld Refused
          (large_is k.variable holds.size s holds.range ∙ ap (λ b. Some (word_of b)) test) (large_row test)
          (λ t h. does_nothing c t IsHeld Refused h)
      by false test =
          does_if_no c (is_large k.variable) (push_code k.list 0 (y ∷ []) v) (mark_code k y v) [] s IsHeld IsHeld Refused
          (large_is k.variable holds.size s holds.range ∙ ap (λ b. Some (word_of b)) test)
          (does_weaker c (mark_code k y v) s IsHeld IsHeld Never Refused (small_row test) (λ t h. h) (λ t b n none. absurd none))
          (λ t h. does_nothing c t IsHeld Refused h)

pub touches_row : (k : TouchedSink) (keys : List ℕ) (v free : ℕ) → AddsTo touched_sink k keys v free (row_code k (slice_index keys 0) v)
touches_row k keys v free = λ c laws mine ranges rows row takes s vars at holds.
    by c laws ranges rows row takes s at holds keys row.coords vars
    (subst (λ ns. IsBelow ns row.coords) holds.ranges_are takes.below) refl
  where
    by : (c : Setting) → Laws c.arithmetic → (ranges : List ℕ) (rows : List Entry) (row : Entry) → IsTouching ranges row → (s : State)
        → s.vars v ≡ Some row.value → (holds : HoldsTouched k c.arithmetic ranges rows s) → (ys xs : List ℕ) → VarsAre ys xs s
        → IsBelow (holds.size ∷ []) xs → row.coords ≡ xs
        → Adds touched_sink k c ranges (row_code k (slice_index ys 0) v) free no_turns rows (row ∷ []) s
    by c laws ranges rows row takes s at holds (y ∷ []) (x ∷ []) vars below is =
        adds_row k c laws free ranges rows row takes s y v x vars.0 at holds below.0 is
    by c laws ranges rows row takes s at holds ys [] vars below is = absurd below
    by c laws ranges rows row takes s at holds ys (x ∷ z ∷ xs) vars below is = absurd below.1
    by c laws ranges rows row takes s at holds [] (x ∷ []) vars below is = absurd vars
    by c laws ranges rows row takes s at holds (y ∷ z ∷ ys) (x ∷ []) vars below is = absurd vars.1
