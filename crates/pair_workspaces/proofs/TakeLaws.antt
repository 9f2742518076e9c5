-- A row is taken from a workspace of pairs, and whether one waits.
use Rattle.std.specs.Prelude.{◌≡◌, ℕ, zero, suc, ◌+◌, ◌≤◌, ◌<◌, List, [], ◌∷◌, ◌++◌, length, Some, slice_get, slice_index, refl}
use Rattle.std.specs.List.{range_with_len}
use Rattle.std.proofs.Common.{◌∙◌, sym, ap, subst, arith, inl, inr}
use Rattle.std.proofs.lemmas.Bool.Decides.{eqb_tells}
use Rattle.std.proofs.lemmas.List.{append_assoc, length-append, length-map}
use Rattle.limits.specs.Limits.{greatest_workspace_pairs}
use Rattle.kernel_code.specs.declared.syntax.Arr.TheVariants.{Key, Sums}
use Rattle.kernel_code.specs.declared.syntax.KExpr.{Var, At, Len}
use Rattle.kernel_code.specs.declared.syntax.KStmt.{Set}
use Rattle.kernel_code.specs.Does.{Does, Never}
use Rattle.kernel_code.specs.Keeps.{Leaves, NoVariable, EveryArray, no_turns}
use Rattle.kernel_code.specs.Meaning.{Setting, State, set_var, length_of}
use Rattle.kernel_code.proofs.Does.{does_nothing, does_append, does_set}
use Rattle.kernel_code.proofs.Keeps.{this_var, other_var, leaves_none, leaves_set}
use Rattle.kernel_code.proofs.Words.{word_is, less_yes, less_no}
use Rattle.tensor_map.specs.Entries.{Entry}
use Rattle.result_targets.specs.Sinks.{VarsAre}
use Rattle.term_code.specs.WorkspaceSinks.{column, values}
use Rattle.drained_workspaces.specs.Draining as drained
use Rattle.pair_workspaces.specs.Codes.{read_code, take_code, wait_test}
use Rattle.pair_workspaces.specs.Drained.{IsDraining, pair_draining}
use Rattle.pair_workspaces.specs.Sinks.{PairSink, pair_sink}

-- the row behind those that were taken
column_there : (n : ℕ) (taken : List Entry) (row : Entry) (waiting : List Entry)
    → slice_get (column n (taken ++ row ∷ waiting)) (length taken) ≡ Some (slice_index row.coords n)
column_there n [] row waiting = refl
column_there n (first ∷ taken) row waiting = column_there n taken row waiting

value_there : (taken : List Entry) (row : Entry) (waiting : List Entry)
    → slice_get (values (taken ++ row ∷ waiting)) (length taken) ≡ Some row.value
value_there [] row waiting = refl
value_there (first ∷ taken) row waiting = value_there taken row waiting

-- variables from one on have these numbers
vars_range : (free n : ℕ) (xs : List ℕ) (t : State) → length xs ≡ n
    → ((i : ℕ) → i < n → t.vars (free + i) ≡ Some (slice_index xs i)) → VarsAre (range_with_len free n) xs t
vars_range free zero [] t many h = tt
vars_range free zero (x ∷ xs) t many h = absurd (omega (arith, many))
vars_range free (suc n) [] t many h = absurd (omega (arith, many))
vars_range free (suc n) (x ∷ xs) t many h = (
  subst (λ y. t.vars y ≡ Some x) first (h 0 (omega arith)),
  vars_range (free + 1) n xs t (omega (arith, many))
      (λ i l. subst (λ y. t.vars y ≡ Some (slice_index xs i)) (next i) (h (suc i) (omega (arith, l)))),
)
  where
    first : free + 0 ≡ free
    first = omega arith

    next : (i : ℕ) → free + suc i ≡ free + 1 + i
    next i = omega arith

module _ (k : PairSink) (at free : ℕ) (low : at < free) (c : Setting) (ranges : List ℕ) (taken : List Entry) (row : Entry)
    (waiting : List Entry) (s : State) (d : IsDraining k taken (row ∷ waiting) s) (place : s.vars at ≡ Some (length taken)) where
  -- the first n coordinates are left
  record AreRead (n : ℕ) (t : State) : Type 0 where
    vars : (i : ℕ) → i < n → t.vars (free + i) ≡ Some (slice_index row.coords i)
    leaves : Leaves NoVariable EveryArray free no_turns s t

  one_more : (n : ℕ) (t : State) → AreRead n t → AreRead (suc n) (set_var t (free + n) (slice_index row.coords n))
  one_more n t r = record {
    vars = λ i l. elim (eqb_tells i n) [
      | inl equal ↦ subst (λ m. (set_var t (free + n) (slice_index row.coords n)).vars (free + m) ≡ Some (slice_index row.coords m))
          (sym equal.1) (this_var t (free + n) (slice_index row.coords n))
      | inr apart ↦ let other = apart.1 in
          other_var t (free + n) (free + i) (slice_index row.coords n) (λ e. other (omega (arith, e))) ∙ r.vars i (omega (arith, l, other))
    ];
    leaves = leaves_set NoVariable EveryArray free no_turns s t (free + n) (slice_index row.coords n) (λ y b e. omega (arith, b, e))
        r.leaves;
  }

  reads : (n : ℕ) → n ≤ k.keys → Does c (read_code k.number at free n) s (AreRead n) Never
  reads zero h =
      does_nothing c s (AreRead 0) Never
      (record { vars = λ i l. absurd (omega (arith, l)); leaves = leaves_none NoVariable EveryArray free no_turns s })
  reads (suc n) h =
      does_append c (read_code k.number at free n) (Set (free + n) (At (Key k.number n) (Var at)) ∷ []) s (AreRead n)
      (AreRead (suc n)) Never (reads n (omega (arith, h)))
      (λ t r. does_set c (free + n) (At (Key k.number n) (Var at)) [] t (slice_index row.coords n) (AreRead (suc n)) Never
      (word_is (Key k.number n) (Var at) (column n (taken ++ row ∷ waiting)) (length taken) (slice_index row.coords n) t
      (r.leaves.arrays (Key k.number n) tt ∙ d.held.key n (omega (arith, h))) (r.leaves.below at low (λ none. none) ∙ place)
      (column_there n taken row waiting))
      (does_nothing c (set_var t (free + n) (slice_index row.coords n)) (AreRead (suc n)) Never (one_more n t r)))

  is_taken : (t : State) → AreRead k.keys t
      → drained.IsTaken pair_sink pair_draining k c.arithmetic ranges free taken row waiting s (set_var t (free + k.keys) row.value)
  is_taken t r =
      let u = set_var t (free + k.keys) row.value in
      let front : taken ++ row ∷ waiting ≡ (taken ++ row ∷ []) ++ waiting = sym (append_assoc taken (row ∷ []) waiting) in
      record {
        coordinates = vars_range free k.keys row.coords u d.each.0.many
            (λ i l. other_var t (free + k.keys) (free + i) row.value (λ e. omega (arith, l, e)) ∙ r.vars i l);
        value_is = this_var t (free + k.keys) row.value;
        draining = record {
          held = record {
            key = λ j l. r.leaves.arrays (Key k.number j) tt ∙ d.held.key j l ∙ ap (λ (es : List Entry). Some (column j es)) front;
            sums = r.leaves.arrays (Sums k.number) tt ∙ d.held.sums ∙ ap (λ (es : List Entry). Some (values es)) front;
            few = subst (λ (es : List Entry). length es ≤ greatest_workspace_pairs) front d.held.few;
          };
          each = d.each.1;
        };
        leaves = record {
          below = λ y l other. other_var t (free + k.keys) y row.value (λ e. omega (arith, l, e)) ∙ r.leaves.below y l other;
          arrays = λ b other. r.leaves.arrays b tt;
          turns = r.leaves.turns;
        };
      }

  takes : Does c (take_code k.number k.keys at free) s
      (drained.IsTaken pair_sink pair_draining k c.arithmetic ranges free taken row waiting s) Never
  takes =
      does_append c (read_code k.number at free k.keys) (Set (free + k.keys) (At (Sums k.number) (Var at)) ∷ []) s (AreRead k.keys) _ Never
      (reads k.keys (omega arith))
      (λ t r. does_set c (free + k.keys) (At (Sums k.number) (Var at)) [] t row.value _ Never
      (word_is (Sums k.number) (Var at) (values (taken ++ row ∷ waiting)) (length taken) row.value t
      (r.leaves.arrays (Sums k.number) tt ∙ d.held.sums) (r.leaves.below at low (λ none. none) ∙ place) (value_there taken row waiting))
      (does_nothing c (set_var t (free + k.keys) row.value) _ Never (is_taken t r)))

pub takes_row : (k : PairSink) (at free : ℕ) → at < free
    → drained.TakesRow pair_sink pair_draining k at free (take_code k.number k.keys at free)
takes_row k at free low c laws ranges taken row waiting s d place = takes k at free low c ranges taken row waiting s d place

-- as many values as rows
values_many : (rows : List Entry) → length (values rows) ≡ length rows
values_many rows = length-map rows (λ (e : Entry). e.value)

pub tells_waiting : (k : PairSink) (at : ℕ) → drained.TellsWaiting pair_draining k at (wait_test k.number at)
tells_waiting k at = record {
  none = λ a ranges taken s d place.
      let many = values_many (taken ++ []) in
      let long = length-append taken [] in
      less_no (Var at) (Len (Sums k.number)) (length taken) (length (values (taken ++ []))) s place (ap length_of d.held.sums)
      (omega (arith, many, long));
  some = λ a ranges taken row waiting s d place.
      let many = values_many (taken ++ row ∷ waiting) in
      let long = length-append taken (row ∷ waiting) in
      less_yes (Var at) (Len (Sums k.number)) (length taken) (length (values (taken ++ row ∷ waiting))) s place (ap length_of d.held.sums)
      (omega (arith, many, long));
}
