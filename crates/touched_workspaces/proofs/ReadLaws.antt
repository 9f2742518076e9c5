-- A row that is taken is read, and whether one waits.
use Rattle.std.specs.Prelude.{◌≡◌, ℕ, ◌+◌, ◌≤◌, ◌<◌, nat_lt, Bool, true, false, List, [], ◌∷◌, ◌++◌, length, replicate, Some, slice_get}
use Rattle.std.specs.Prelude.{slice_index, refl}
use Rattle.std.proofs.Common.{◌∙◌, ap, arith}
use Rattle.std.proofs.lemmas.Bool.Decides.{nat_tests}
use Rattle.std.proofs.lemmas.List.{append_assoc, length-append, length-map}
use Rattle.numbers.specs.Arithmetic.{Arithmetic}
use Rattle.kernel_code.specs.Does.{Never}
use Rattle.kernel_code.specs.Keeps.{NoVariable, no_turns}
use Rattle.kernel_code.specs.Meaning.{State, set_var, length_of}
use Rattle.kernel_code.specs.declared.syntax.Arr.TheVariants.{Key, Sums}
use Rattle.kernel_code.specs.declared.syntax.KExpr.{Var, At, Len}
use Rattle.kernel_code.specs.declared.syntax.KStmt.{Set}
use Rattle.kernel_code.proofs.Does.{does_nothing, does_append, does_set}
use Rattle.kernel_code.proofs.Keeps.{this_var, other_var, leaves_set}
use Rattle.kernel_code.proofs.Words.{word_is, less_yes, less_no}
use Rattle.tensor_map.specs.Entries.{Entry}
use Rattle.term_code.specs.WorkspaceSinks.{column, values}
use Rattle.touched_workspaces.specs.DrainedLaws.{draining_stays}
use Rattle.touched_workspaces.specs.Codes.{next_code, taken_code, wait_test}
use Rattle.touched_workspaces.specs.Drains.{IsDraining, IsTakenRow, TakesRow, TellsWaiting}
use Rattle.touched_workspaces.specs.Sinks.{TouchedSink, IsOther}
use Rattle.touched_workspaces.specs.Sizes.{greatest_marked_range}
use Rattle.touched_workspaces.proofs.DrainLaws.{key_at, takes_next}

-- the value of a row in a column of values
value_of : (taken : List Entry) (row : Entry) (waiting : List Entry)
    → slice_get (values (taken ++ row ∷ waiting)) (length taken) ≡ Some row.value
value_of [] row waiting = refl
value_of (first ∷ taken) row waiting = value_of taken row waiting

last_value : (taken : List Entry) (row : Entry) (rest : List ℕ)
    → slice_get (values (taken ++ row ∷ []) ++ rest) (length taken) ≡ Some row.value
last_value [] row rest = refl
last_value (first ∷ taken) row rest = last_value taken row rest

-- the list's values, with that of the row which was taken last
record HasValue (k : TouchedSink) (n value : ℕ) (s : State) : Type 0 where
  words : List ℕ
  held : s.arrays (Sums k.list) ≡ Some words
  there : slice_get words n ≡ Some value

has_value : (k : TouchedSink) (a : Arithmetic) (size : ℕ) (taken : List Entry) (row : Entry) (waiting : List Entry) (s : State)
    → IsDraining k a size (taken ++ row ∷ []) waiting s → HasValue k (length taken) row.value s
has_value k a size taken row waiting s h = by (nat_lt greatest_marked_range size) refl
  where
    by : (b : Bool) → nat_lt greatest_marked_range size ≡ b → HasValue k (length taken) row.value s
    by true test =
        let large : greatest_marked_range < size = grind (arith, nat_tests, test) in
        record {
          words = values ((taken ++ row ∷ []) ++ waiting);
          held = h.pushed large;
          there = ap (λ (es : List Entry). slice_get (values es) (length taken)) (append_assoc taken (row ∷ []) waiting)
              ∙ value_of taken row waiting;
        }
    by false test =
        let small : size ≤ greatest_marked_range = grind (arith, nat_tests, test) in
        record {
          words = values (taken ++ row ∷ []) ++ replicate (length waiting) a.zero;
          held = (h.marked small).values_are;
          there = last_value taken row (replicate (length waiting) a.zero);
        }

-- draining goes on while a variable is set
drains_still : (k : TouchedSink) (a : Arithmetic) (size : ℕ) (taken waiting : List Entry) (s : State) (x v : ℕ)
    → IsDraining k a size taken waiting s → IsDraining k a size taken waiting (set_var s x v)
drains_still k a size taken waiting s x v h = draining_stays k a s (set_var s x v) (λ b of. refl) refl size taken waiting h

pub takes_row : (k : TouchedSink) (at free : ℕ) → at < free → TakesRow k at free (taken_code k at free)
takes_row k at free low = λ c laws size taken row waiting s h place.
    does_append c (next_code k at free) (Set free (At (Key k.list 0) (Var at)) ∷ Set (free + 1) (At (Sums k.list) (Var at)) ∷ []) s _
    (IsTakenRow k c.arithmetic size free taken row waiting s) Never
    (takes_next k at free low c laws size taken row waiting s h place)
    (λ t g.
    let x = slice_index row.coords 0 in
    let now = g.0.below at low (λ none. none) ∙ place in
    let has = has_value k c.arithmetic size taken row waiting t g.1 in
    does_set c free (At (Key k.list 0) (Var at)) _ t x _ Never
    (word_is (Key k.list 0) (Var at) (column 0 ((taken ++ row ∷ []) ++ waiting)) (length taken) x t g.1.keys_are now
    (ap (λ (es : List Entry). slice_get (column 0 es) (length taken)) (append_assoc taken (row ∷ []) waiting)
    ∙ key_at taken row waiting))
    (does_set c (free + 1) (At (Sums k.list) (Var at)) [] (set_var t free x) row.value _ Never
    (word_is (Sums k.list) (Var at) has.words (length taken) row.value (set_var t free x) has.held
    (other_var t free at x (λ e. omega (arith, low, e)) ∙ now) has.there)
    (does_nothing c (set_var (set_var t free x) (free + 1) row.value) _ Never (record {
      coordinate = other_var (set_var t free x) (free + 1) free row.value (λ e. omega (arith, e)) ∙ this_var t free x;
      value_is = this_var (set_var t free x) (free + 1) row.value;
      draining = drains_still k c.arithmetic size (taken ++ row ∷ []) waiting (set_var t free x) (free + 1) row.value
          (drains_still k c.arithmetic size (taken ++ row ∷ []) waiting t free x g.1);
      leaves = leaves_set NoVariable (IsOther k) free no_turns s (set_var t free x) (free + 1) row.value
          (λ y b e. omega (arith, b, e))
          (leaves_set NoVariable (IsOther k) free no_turns s t free x (λ y b e. omega (arith, b, e)) g.0);
    }))))

-- as many keys as rows
keys_many : (rows : List Entry) → length (column 0 rows) ≡ length rows
keys_many rows = length-map rows (λ (e : Entry). slice_index e.coords 0)

pub tells_waiting : (k : TouchedSink) (at : ℕ) → TellsWaiting k at (wait_test k at)
tells_waiting k at = record {
  none = λ a size taken s h place.
      let many = keys_many (taken ++ []) in
      let long = length-append taken [] in
      less_no (Var at) (Len (Key k.list 0)) (length taken) (length (column 0 (taken ++ []))) s place (ap length_of h.keys_are)
      (omega (arith, many, long));
  some = λ a size taken row waiting s h place.
      let many = keys_many (taken ++ row ∷ waiting) in
      let long = length-append taken (row ∷ waiting) in
      less_yes (Var at) (Len (Key k.list 0)) (length taken) (length (column 0 (taken ++ row ∷ waiting))) s place (ap length_of h.keys_are)
      (omega (arith, many, long));
}
