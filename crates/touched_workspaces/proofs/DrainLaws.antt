-- The code of the drain: a row is taken, and at last the list is emptied.
use Rattle.std.specs.Prelude.{◌≡◌, ◌≢◌, ℕ, ◌≤◌, ◌<◌, nat_lt, ◌&&◌, ◌||◌, Bool, true, false, List, [], ◌∷◌}
use Rattle.std.specs.Prelude.{◌++◌, length, replicate, Some, slice_get, slice_index, slice_set, refl}
use Rattle.std.proofs.Common.{◌∙◌, sym, ap, subst, arith, inl, inr}
use Rattle.std.proofs.lemmas.Bool.Decides.{nat_tests, eqb_tells}
use Rattle.std.proofs.lemmas.List.{append_assoc, append-nil, get_or-set_same, get_or-set_other}
use Rattle.std.proofs.lemmas.List.{length-set, length-append, length-map, length-replicate}
use Rattle.std.proofs.lemmas.Option.{slice_get-get_or}
use Rattle.limits.specs.Limits.{greatest_workspace_pairs}
use Rattle.numbers.specs.Arithmetic.{Laws}
use Rattle.numbers.proofs.Sums.{zero_before}
use Rattle.lists.specs.Each.{Each}
use Rattle.lists.proofs.Tests.{number_apart}
use Rattle.kernel_code.specs.Arrays.{same_arr}
use Rattle.kernel_code.specs.Does.{Does, Never}
use Rattle.kernel_code.specs.Keeps.{Leaves, NoVariable, no_turns}
use Rattle.kernel_code.specs.Meaning.{Setting, State, set_var, set_array, word_of}
use Rattle.kernel_code.specs.declared.syntax.Arr.TheVariants.{Range, Key, Sums}
use Rattle.kernel_code.specs.declared.syntax.KExpr.{Num, Var, At}
use Rattle.kernel_code.proofs.ArrayNames.{same_arr_self}
use Rattle.kernel_code.proofs.Does.{does_nothing, does_set, does_put, does_add_to, does_cut, does_if_yes, does_if_no}
use Rattle.kernel_code.proofs.Keeps.{this_var, other_var, this_array, other_array, leaves_none, leaves_set, leaves_array}
use Rattle.kernel_code.proofs.Words.{word_is}
use Rattle.tensor_map.specs.Entries.{Entry, Listed, is_at, value_at}
use Rattle.tensor_map.specs.Laws.{same, other}
use Rattle.tensor_map.proofs.Lemmas.{tested, value_elsewhere, value_unlisted, value_of_entry, unlisted_before}
use Rattle.tns_io.specs.Positions.{IsBelow}
use Rattle.concrete_notation.specs.Contributions.{sums_of}
use Rattle.concrete_notation.proofs.SumsOf.{are_sums}
use Rattle.term_code.specs.WorkspaceSinks.{column, values, HoldsRows}
use Rattle.touched_workspaces.specs.Codes.{is_large, take_code, next_code, empty_code}
use Rattle.touched_workspaces.specs.Drains.{AreWaiting, IsDraining, TakesNext, EmptiesTouched, TakenAll, DrainedAsPairs}
use Rattle.touched_workspaces.specs.Sinks.{TouchedSink, IsOther, HoldsTouched, IsTouching}
use Rattle.touched_workspaces.specs.Sizes.{greatest_marked_range}
use Rattle.touched_workspaces.specs.Touched.{stands, HoldsMarked}
use Rattle.touched_workspaces.proofs.RowLaws.{not_other, large_is, range_kept, only_key}
use Rattle.touched_workspaces.proofs.SortLaws.{one_is, below_long, column_listed, head_of}

below_first : (size : ℕ) (coords : List ℕ) → IsBelow (size ∷ []) coords → slice_index coords 0 < size
below_first size [] h = absurd h
below_first size (x ∷ coords) h = h.0

-- the row behind those that were taken
pub key_at : (taken : List Entry) (row : Entry) (waiting : List Entry)
    → slice_get (column 0 (taken ++ row ∷ waiting)) (length taken) ≡ Some (slice_index row.coords 0)
key_at [] row waiting = refl
key_at (first ∷ taken) row waiting = key_at taken row waiting

value_there : (taken : List Entry) (n : ℕ) (rest : List ℕ) → slice_index (values taken ++ n ∷ rest) (length taken) ≡ n
value_there [] n rest = refl
value_there (first ∷ taken) n rest = value_there taken n rest

value_set : (taken : List Entry) (row : Entry) (n : ℕ) (rest : List ℕ)
    → slice_set (values taken ++ n ∷ rest) (length taken) row.value ≡ values (taken ++ row ∷ []) ++ rest
value_set [] row n rest = refl
value_set (first ∷ taken) row n rest = ap (λ ns. first.value ∷ ns) (value_set taken row n rest)

module _ (k : TouchedSink) (at free : ℕ) (low : at < free) (c : Setting) (laws : Laws c.arithmetic) (size : ℕ) (taken : List Entry)
    (row : Entry) (waiting : List Entry) (s : State) (h : IsDraining k c.arithmetic size taken (row ∷ waiting) s)
    (place : s.vars at ≡ Some (length taken)) where
  abbrev IsTaken : State → Type 0
  IsTaken t = Leaves NoVariable (IsOther k) free no_turns s t × IsDraining k c.arithmetic size (taken ++ row ∷ []) waiting t

  front : taken ++ row ∷ waiting ≡ (taken ++ row ∷ []) ++ waiting
  front = sym (append_assoc taken (row ∷ []) waiting)

  taken_large : greatest_marked_range < size → IsTaken s
  taken_large large = (
    leaves_none NoVariable (IsOther k) free no_turns s,
    record {
      range = h.range;
      zero_is = h.zero_is;
      apart = h.apart;
      increasing = h.increasing.1;
      each = h.each.1;
      few = subst (λ es. length es ≤ greatest_workspace_pairs) front h.few;
      keys_are = h.keys_are ∙ ap (λ (es : List Entry). Some (column 0 es)) front;
      marked = λ small. absurd (omega (arith, small, large));
      pushed = λ _. h.pushed large ∙ ap (λ (es : List Entry). Some (values es)) front;
    },
  )

  abbrev x : ℕ
  x = slice_index row.coords 0

  coords_are : row.coords ≡ slice_index row.coords 0 ∷ []
  coords_are = one_is row.coords (below_long size row.coords h.each.0.below)

  inside : slice_index row.coords 0 < size
  inside = below_first size row.coords h.each.0.below

  none_there : Listed waiting (slice_index row.coords 0 ∷ []) → ⊥
  none_there there = unlisted_before row.coords waiting h.increasing.0 (subst (Listed waiting) (sym coords_are) there)

  stands_no_more : stands (column 0 waiting) (slice_index row.coords 0) ≡ false
  stands_no_more = by (stands (column 0 waiting) (slice_index row.coords 0)) refl
    where
      by : (b : Bool) → stands (column 0 waiting) (slice_index row.coords 0) ≡ b → b ≡ false
      by true is = absurd (none_there (column_listed waiting (long_waiting waiting h.each.1) (slice_index row.coords 0) is))
        where
          long_waiting : (rows : List Entry) → Each (IsTouching (size ∷ [])) rows → Each (λ (e : Entry). length e.coords ≡ 1) rows
          long_waiting [] each = tt
          long_waiting (first ∷ rows) each = (below_long size first.coords each.0.below, long_waiting rows each.1)
      by false is = refl

  value_is : value_at c.arithmetic (row ∷ waiting) (slice_index row.coords 0 ∷ []) ≡ row.value
  value_is =
      ap (value_at c.arithmetic (row ∷ waiting)) (sym coords_are)
      ∙ value_of_entry c.arithmetic laws (row ∷ waiting) 0 row h.increasing (omega arith) h.each.0.word

  module _ (small : size ≤ greatest_marked_range) (w : AreWaiting k c.arithmetic size taken (row ∷ waiting) s.arrays) where
    abbrev with_x : State
    with_x = set_var s free x

    abbrev values_before : List ℕ
    values_before = values taken ++ replicate (length (row ∷ waiting)) c.arithmetic.zero

    abbrev values_after : List ℕ
    values_after = slice_set values_before (length taken) (c.arithmetic.plus (slice_index values_before (length taken)) row.value)

    abbrev marks_after : List ℕ
    marks_after = slice_set w.marked.marks x 0

    abbrev sums_after : List ℕ
    sums_after = slice_set w.summed.sums x k.zero

    abbrev joined : State
    joined = set_array with_x (Sums k.list) values_after

    abbrev unmarked : State
    unmarked = set_array joined (Key k.dense 0) marks_after

    abbrev cleared : State
    cleared = set_array unmarked (Sums k.dense) sums_after

    values_taken : values_after ≡ values (taken ++ row ∷ []) ++ replicate (length waiting) c.arithmetic.zero
    values_taken =
        ap (λ n. slice_set values_before (length taken) (c.arithmetic.plus n row.value))
        (value_there taken c.arithmetic.zero (replicate (length waiting) c.arithmetic.zero))
        ∙ ap (slice_set values_before (length taken)) (zero_before c.arithmetic laws row.value h.each.0.word)
        ∙ value_set taken row c.arithmetic.zero (replicate (length waiting) c.arithmetic.zero)

    lists_apart : same_arr (Sums k.list) (Sums k.dense) ≡ false
    lists_apart = number_apart k.list k.dense (λ e. h.apart (sym e))

    marks_left : (z : ℕ) → z < size → slice_index marks_after z ≡ word_of (stands (column 0 waiting) z)
    marks_left z inside_too = elim (eqb_tells x z) [
      | inl equal ↦
          ap (slice_index marks_after) (sym equal.1)
          ∙ get_or-set_same w.marked.marks x 0 0 (let many = w.marked.many in let l = inside in omega (arith, l, many))
          ∙ ap word_of (sym stands_no_more)
          ∙ ap (λ n. word_of (stands (column 0 waiting) n)) equal.1
      | inr apart ↦
          get_or-set_other w.marked.marks x z 0 0 (λ e. apart.1 (sym e))
          ∙ w.marked.each z inside_too
          ∙ ap (λ b. word_of (b || stands (column 0 waiting) z)) (number_apart z x (λ e. apart.1 (sym e)))
    ]

    sums_left : (z : ℕ) → z < size → slice_index sums_after z ≡ value_at c.arithmetic waiting (z ∷ [])
    sums_left z inside_too = elim (eqb_tells x z) [
      | inl equal ↦
          ap (slice_index sums_after) (sym equal.1)
          ∙ get_or-set_same w.summed.sums x k.zero 0 (let many = w.summed.many in let l = inside in omega (arith, l, many))
          ∙ h.zero_is
          ∙ sym (value_unlisted c.arithmetic laws (slice_index row.coords 0 ∷ []) waiting none_there)
          ∙ ap (λ n. value_at c.arithmetic waiting (n ∷ [])) equal.1
      | inr apart ↦
          get_or-set_other w.summed.sums x z k.zero 0 (λ e. apart.1 (sym e))
          ∙ w.summed.each z inside_too
          ∙ value_elsewhere c.arithmetic (z ∷ []) row waiting (away z apart.1)
    ]
      where
        away : (z : ℕ) → slice_index row.coords 0 ≢ z → is_at (z ∷ []) row ≡ false
        away z apart = elim (tested row.coords (z ∷ [])) [
          | same e q ↦ absurd (apart (ap head_of (sym coords_are ∙ e)))
          | other e q ↦ q
        ]

    taken_small : IsTaken cleared
    taken_small = (
      leaves_array NoVariable (IsOther k) free no_turns s unmarked (Sums k.dense) sums_after
          (λ b out. not_other k (Sums k.dense) b (inl refl) out)
          (leaves_array NoVariable (IsOther k) free no_turns s joined (Key k.dense 0) marks_after
          (λ b out. not_other k (Key k.dense 0) b (inl refl) out)
          (leaves_array NoVariable (IsOther k) free no_turns s with_x (Sums k.list) values_after
          (λ b out. not_other k (Sums k.list) b (inr refl) out)
          (leaves_set NoVariable (IsOther k) free no_turns s s free x (λ y b e. omega (arith, b, e))
          (leaves_none NoVariable (IsOther k) free no_turns s)))),
      record {
        range = range_kept k.variable size s cleared
            (other_array unmarked (Sums k.dense) Range sums_after refl ∙ other_array joined (Key k.dense 0) Range marks_after refl
            ∙ other_array with_x (Sums k.list) Range values_after refl) h.range;
        zero_is = h.zero_is;
        apart = h.apart;
        increasing = h.increasing.1;
        each = h.each.1;
        few = subst (λ es. length es ≤ greatest_workspace_pairs) front h.few;
        keys_are = other_array unmarked (Sums k.dense) (Key k.list 0) sums_after refl
            ∙ other_array joined (Key k.dense 0) (Key k.list 0) marks_after (ap (λ b. b && true) (number_apart k.dense k.list h.apart))
            ∙ other_array with_x (Sums k.list) (Key k.list 0) values_after refl
            ∙ h.keys_are ∙ ap (λ (es : List Entry). Some (column 0 es)) front;
        marked = λ _. record {
          values_are = other_array unmarked (Sums k.dense) (Sums k.list) sums_after (number_apart k.dense k.list h.apart)
              ∙ other_array joined (Key k.dense 0) (Sums k.list) marks_after refl
              ∙ this_array with_x (Sums k.list) (Sums k.list) values_after (same_arr_self (Sums k.list))
              ∙ ap Some values_taken;
          marked = record {
            marks = marks_after;
            held = other_array unmarked (Sums k.dense) (Key k.dense 0) sums_after refl
                ∙ this_array joined (Key k.dense 0) (Key k.dense 0) marks_after (same_arr_self (Key k.dense 0));
            many = length-set w.marked.marks x 0 ∙ w.marked.many;
            each = marks_left;
          };
          summed = record {
            sums = sums_after;
            held = this_array unmarked (Sums k.dense) (Sums k.dense) sums_after (same_arr_self (Sums k.dense));
            many = length-set w.summed.sums x k.zero ∙ w.summed.many;
            each = sums_left;
          };
        };
        pushed = λ large. absurd (omega (arith, small, large));
      },
    )

    takes_small : Does c (take_code k at free) s IsTaken Never
    takes_small =
        let l = inside in
        let marks = w.marked.many in
        let sums = w.summed.many in
        let before = length-append (values taken) (replicate (length (row ∷ waiting)) c.arithmetic.zero) in
        let first = length-map taken (λ (e : Entry). e.value) in
        let last = length-replicate (length (row ∷ waiting)) c.arithmetic.zero in
        does_set c free (At (Key k.list 0) (Var at)) _ s x IsTaken Never
        (word_is (Key k.list 0) (Var at) (column 0 (taken ++ row ∷ waiting)) (length taken) x s h.keys_are place (key_at taken row waiting))
        (does_add_to c (Sums k.list) (Var at) (At (Sums k.dense) (Var free)) _ with_x (length taken) row.value values_before IsTaken Never
        (other_var s free at x (λ e. omega (arith, low, e)) ∙ place)
        (word_is (Sums k.dense) (Var free) w.summed.sums x row.value with_x w.summed.held (this_var s free x)
        (slice_get-get_or w.summed.sums x 0 (omega (arith, l, sums)) ∙ ap Some (w.summed.each x inside ∙ value_is)))
        refl w.values_are (omega (arith, before, first, last))
        (does_put c (Key k.dense 0) (Var free) (Num 0) _ joined x 0 w.marked.marks IsTaken Never (this_var s free x) refl refl
        (other_array with_x (Sums k.list) (Key k.dense 0) values_after refl ∙ w.marked.held) (omega (arith, l, marks))
        (does_put c (Sums k.dense) (Var free) (Num k.zero) [] unmarked x k.zero w.summed.sums IsTaken Never (this_var s free x) refl refl
        (other_array joined (Key k.dense 0) (Sums k.dense) marks_after refl
        ∙ other_array with_x (Sums k.list) (Sums k.dense) values_after lists_apart ∙ w.summed.held) (omega (arith, l, sums))
        (does_nothing c cleared IsTaken Never taken_small))))

  takes : Does c (next_code k at free) s IsTaken Never
  takes = by (nat_lt greatest_marked_range size) refl
    where
      by : (b : Bool) → nat_lt greatest_marked_range size ≡ b → Does c (next_code k at free) s IsTaken Never
      by true test =
          let large : greatest_marked_range < size = grind (arith, nat_tests, test) in
          does_if_yes c (is_large k.variable) [] (take_code k at free) [] s 0 IsTaken IsTaken Never
          (large_is k.variable size s h.range ∙ ap (λ b. Some (word_of b)) test) (does_nothing c s IsTaken Never (taken_large large))
          (λ t g. does_nothing c t IsTaken Never g)
      by false test =
          let small : size ≤ greatest_marked_range = grind (arith, nat_tests, test) in
          does_if_no c (is_large k.variable) [] (take_code k at free) [] s IsTaken IsTaken Never
          (large_is k.variable size s h.range ∙ ap (λ b. Some (word_of b)) test) (takes_small small (h.marked small))
          (λ t g. does_nothing c t IsTaken Never g)

pub takes_next : (k : TouchedSink) (at free : ℕ) → at < free → TakesNext k at free (next_code k at free)
takes_next k at free low = λ c laws size taken row waiting s h place. takes k at free low c laws size taken row waiting s h place

module _ (k : TouchedSink) (c : Setting) (size : ℕ) (taken : List Entry) (s : State) (h : IsDraining k c.arithmetic size taken [] s)
    (top : ℕ) (before : List ℕ) (held : s.arrays (Sums k.list) ≡ Some before) where
  abbrev IsEmpty : State → Type 0
  IsEmpty t = Leaves NoVariable (IsOther k) top no_turns s t × HoldsTouched k c.arithmetic (size ∷ []) [] t

  abbrev no_keys : State
  no_keys = set_array s (Key k.list 0) []

  abbrev no_values : State
  no_values = set_array no_keys (Sums k.list) []

  no_rows : HoldsRows k.list 1 [] no_values.arrays
  no_rows = record {
    key = only_key k.list [] no_values.arrays
        (other_array no_keys (Sums k.list) (Key k.list 0) [] refl
        ∙ this_array s (Key k.list 0) (Key k.list 0) [] (same_arr_self (Key k.list 0)));
    sums = this_array no_keys (Sums k.list) (Sums k.list) [] (same_arr_self (Sums k.list));
    few = omega arith;
  }

  none_marked : AreWaiting k c.arithmetic size taken [] s.arrays → HoldsMarked k.dense k.list size c.arithmetic [] no_values.arrays
  none_marked w = record {
    touched = [];
    marked = record {
      marks = w.marked.marks;
      held = other_array no_keys (Sums k.list) (Key k.dense 0) [] refl
          ∙ other_array s (Key k.list 0) (Key k.dense 0) [] (ap (λ b. b && true) (number_apart k.list k.dense (λ e. h.apart (sym e))))
          ∙ w.marked.held;
      many = w.marked.many;
      each = w.marked.each;
      once = tt;
      below = λ x g. absurd (never g);
      listed = no_rows;
    };
    summed = record {
      sums = w.summed.sums;
      held = other_array no_keys (Sums k.list) (Sums k.dense) [] (number_apart k.list k.dense (λ e. h.apart (sym e)))
          ∙ other_array s (Key k.list 0) (Sums k.dense) [] refl ∙ w.summed.held;
      many = w.summed.many;
      each = w.summed.each;
    };
    same = λ coords. (λ g. g, λ g. g);
  }
    where
      never : false ≡ true → ⊥
      never e = cc

  empties : Does c (empty_code k) s IsEmpty Never
  empties =
      does_cut c (Key k.list 0) (Num 0) _ s 0 (column 0 (taken ++ [])) IsEmpty Never refl refl h.keys_are
      (does_cut c (Sums k.list) (Num 0) [] no_keys 0 before IsEmpty Never refl refl
      (other_array s (Key k.list 0) (Sums k.list) [] refl ∙ held)
      (does_nothing c no_values IsEmpty Never (
        leaves_array NoVariable (IsOther k) top no_turns s no_keys (Sums k.list) [] (λ b out. not_other k (Sums k.list) b (inr refl) out)
            (leaves_array NoVariable (IsOther k) top no_turns s s (Key k.list 0) [] (λ b out. not_other k (Key k.list 0) b (inr refl) out)
            (leaves_none NoVariable (IsOther k) top no_turns s)),
        record {
          size = size;
          ranges_are = refl;
          range = range_kept k.variable size s no_values
              (other_array no_keys (Sums k.list) Range [] refl ∙ other_array s (Key k.list 0) Range [] refl) h.range;
          zero_is = h.zero_is;
          apart = h.apart;
          each = tt;
          marked = λ small. none_marked (h.marked small);
          pushed = λ _. no_rows;
        },
      )))

pub empties_touched : (k : TouchedSink) → EmptiesTouched k (empty_code k)
empties_touched k = λ c size taken s h top. by c size taken s h top (nat_lt greatest_marked_range size) refl
  where
    by : (c : Setting) (size : ℕ) (taken : List Entry) (s : State) (h : IsDraining k c.arithmetic size taken [] s) (top : ℕ) (b : Bool)
        → nat_lt greatest_marked_range size ≡ b
        → Does c (empty_code k) s (λ t. Leaves NoVariable (IsOther k) top no_turns s t × HoldsTouched k c.arithmetic (size ∷ []) [] t) Never
    by c size taken s h top true test =
        let large : greatest_marked_range < size = grind (arith, nat_tests, test) in
        empties k c size taken s h top (values (taken ++ [])) (h.pushed large)
    by c size taken s h top false test =
        let small : size ≤ greatest_marked_range = grind (arith, nat_tests, test) in
        empties k c size taken s h top (values taken ++ []) ((h.marked small).values_are)

pub taken_all : TakenAll
taken_all k a size taken s h = record {
  listed = record {
    key = only_key k.list taken s.arrays (h.keys_are ∙ ap (λ (es : List Entry). Some (column 0 es)) (append-nil taken));
    sums = by (nat_lt greatest_marked_range size) refl;
    few = subst (λ es. length es ≤ greatest_workspace_pairs) (append-nil taken) h.few;
  };
  unmarked = λ small. (h.marked small).marked;
  no_sums = λ small. (h.marked small).summed;
}
  where
    by : (b : Bool) → nat_lt greatest_marked_range size ≡ b → s.arrays (Sums k.list) ≡ Some (values taken)
    by true test =
        let large : greatest_marked_range < size = grind (arith, nat_tests, test) in
        h.pushed large ∙ ap (λ (es : List Entry). Some (values es)) (append-nil taken)
    by false test =
        let small : size ≤ greatest_marked_range = grind (arith, nat_tests, test) in
        (h.marked small).values_are ∙ ap Some (append-nil (values taken))

pub drained_as_pairs : DrainedAsPairs
drained_as_pairs k a laws size rows s h = record {
  sums = sums_of a rows;
  held = (taken_all k a size (sums_of a rows) s h).listed;
  are = are_sums a laws rows;
}
