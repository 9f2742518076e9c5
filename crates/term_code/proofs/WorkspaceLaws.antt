-- What pushing a row on a workspace does.
use Rattle.std.specs.Prelude.{◌≡◌, ◌≢◌, ℕ, suc, ◌+◌, ◌≤◌, ◌<◌, nat_le, Bool, true, false, List, [], ◌∷◌, ◌++◌, length, map, Some}
use Rattle.std.specs.Prelude.{slice_index, refl}
use Rattle.std.proofs.Common.{◌∙◌, sym, ap, subst, arith, inl, inr}
use Rattle.std.proofs.lemmas.Bool.Decides.{nat_tests, eqb_tells}
use Rattle.std.proofs.lemmas.List.{append_assoc, map-append, length-append}
use Rattle.limits.specs.Limits.{greatest_workspace_pairs}
use Rattle.kernel_code.specs.declared.syntax.Arr.{Arr}
use Rattle.kernel_code.specs.declared.syntax.Arr.TheVariants.{Key, Sums}
use Rattle.kernel_code.specs.declared.syntax.LoopKind.{LoopKind}
use Rattle.kernel_code.specs.declared.syntax.KExpr.{Var}
use Rattle.kernel_code.specs.Arrays.{same_arr}
use Rattle.kernel_code.proofs.ArrayNames.{same_arr_self, same_arr_is}
use Rattle.kernel_code.specs.Meaning.{Setting, State, set_array}
use Rattle.kernel_code.specs.Does.{Does}
use Rattle.kernel_code.proofs.Does.{does_nothing, does_push, does_weaker}
use Rattle.kernel_code.specs.Keeps.{Leaves, NoVariable, no_turns}
use Rattle.kernel_code.proofs.Keeps.{this_array, other_array}
use Rattle.level_core.specs.Fragments.{RefusedWithin}
use Rattle.tensor_map.specs.Entries.{Entry}
use Rattle.result_targets.specs.Sinks.{AddsTo, VarsAre}
use Rattle.term_code.specs.WorkspaceSinks.{WorkspaceSink, column, values, IsOfWorkspace, HoldsRows, PassesPairs, workspace_sink, push_code}

length_append : {X : Type 0} (xs ys : List X) → length (xs ++ ys) ≡ length xs + length ys
length_append xs ys = length-append xs ys

map_append : {X Y : Type 0} (f : X → Y) (xs ys : List X) → map f (xs ++ ys) ≡ map f xs ++ map f ys
map_append f xs ys = map-append f xs ys

length_map : {X Y : Type 0} (f : X → Y) (xs : List X) → length (map f xs) ≡ length xs
length_map f [] = refl
length_map f (x ∷ xs) = ap suc (length_map f xs)

-- the first k keys of a row are pushed
record Half (w keys k : ℕ) (rows : List Entry) (r : Entry) (s0 s : State) : Type 0 where
  done : (j : ℕ) → j < k → s.arrays (Key w j) ≡ Some (column j (rows ++ r ∷ []))
  due : (j : ℕ) → k ≤ j → j < keys → s.arrays (Key w j) ≡ Some (column j rows)
  sums : s.arrays (Sums w) ≡ Some (values rows)
  vars : (y : ℕ) → s.vars y ≡ s0.vars y
  kept : (a : Arr) → (IsOfWorkspace w a → ⊥) → s.arrays a ≡ s0.arrays a
  turns : (j : LoopKind) → s.turns j ≤ s0.turns j

vars_kept : (ys xs : List ℕ) (s t : State) → ((y : ℕ) → t.vars y ≡ s.vars y) → VarsAre ys xs s → VarsAre ys xs t
vars_kept [] [] s t f h = tt
vars_kept [] (x ∷ xs) s t f h = h
vars_kept (y ∷ ys) [] s t f h = h
vars_kept (y ∷ ys) (x ∷ xs) s t f h = (f y ∙ h.0, vars_kept ys xs s t f h.1)

within_pairs : (n : ℕ) → nat_le n greatest_workspace_pairs ≡ true → n ≤ greatest_workspace_pairs
within_pairs n h = grind (arith, nat_tests, h)

past_pairs : (n : ℕ) → nat_le n greatest_workspace_pairs ≡ false → greatest_workspace_pairs < n
past_pairs n h = grind (arith, nat_tests, h)

refused_row : (w : ℕ) (rows : List Entry) (r : Entry) (a : Arr) (n : ℕ) → IsOfWorkspace w a → n ≡ length rows + 1
    → nat_le n greatest_workspace_pairs ≡ false → PassesPairs w (rows ++ r ∷ []) a n
refused_row w rows r a n is long over = record {
  array = is;
  above = past_pairs n over;
  within = let l = length_append rows (r ∷ []) in omega (arith, l, long);
}

other_key : (w j k : ℕ) → k ≢ j → same_arr (Key w k) (Key w j) ≡ false
other_key w j k h = grind (arith, nat_tests, h)

not_of_workspace : (w : ℕ) (a b : Arr) → IsOfWorkspace w a → (IsOfWorkspace w b → ⊥) → same_arr a b ≡ false
not_of_workspace w a b of out = by_test (same_arr a b) refl
  where
    by_test : (t : Bool) → same_arr a b ≡ t → t ≡ false
    by_test true is = absurd (out (subst (IsOfWorkspace w) (same_arr_is a b is) of))
    by_test false is = refl

index_at : (before after : List ℕ) (x : ℕ) → slice_index (before ++ x ∷ after) (length before) ≡ x
index_at [] after x = refl
index_at (y ∷ before) after x = index_at before after x

push_does : (c : Setting) (w keys : ℕ) (rows : List Entry) (r : Entry) (free v : ℕ) (s0 : State) → s0.vars v ≡ Some r.value
    → (ys xs before : List ℕ) (k : ℕ) (s : State) → r.coords ≡ before ++ xs → length before ≡ k → k + length xs ≡ keys → VarsAre ys xs s
    → Half w keys k rows r s0 s
    → Does c (push_code w k ys v) s (λ t. Leaves NoVariable (λ a. IsOfWorkspace w a → ⊥) free no_turns s0 t
    × HoldsRows w keys (rows ++ r ∷ []) t.arrays) (RefusedWithin no_turns s0 (PassesPairs w (rows ++ r ∷ [])))
push_does c w keys rows r free v s0 has [] [] before k s is long count vars h =
    does_push c (Sums w) (Var v) [] s r.value (values rows) _ _ (h.vars v ∙ has) refl h.sums
    (λ may. let t = set_array s (Sums w) (values rows ++ r.value ∷ []) in does_nothing c t _ _ (
      record {
        below = λ y b z. h.vars y;
        arrays = λ a out. other_array s (Sums w) a (values rows ++ r.value ∷ []) (not_of_workspace w (Sums w) a refl out) ∙ h.kept a out;
        turns = λ j. let old = h.turns j in omega (arith, old);
      },
      record {
        key = λ j l. h.done j (omega (arith, l, count));
        sums = this_array s (Sums w) (Sums w) (values rows ++ r.value ∷ []) (same_arr_self (Sums w))
            ∙ ap Some (sym (map_append (λ (e : Entry). e.value) rows (r ∷ [])));
        few =
            let l = length_append rows (r ∷ []) in
            let m = within_pairs (length (values rows) + 1) may in
            let long = length_map (λ (e : Entry). e.value) rows in
            omega (arith, l, m, long);
      },
    ))
    (λ over. (
      λ j. let old = h.turns j in omega (arith, old),
      refused_row w rows r (Sums w) (length (values rows) + 1) refl (ap (λ n. n + 1) (length_map (λ (e : Entry). e.value) rows)) over,
    ))
push_does c w keys rows r free v s0 has [] (x ∷ xs) before k s is long count vars h = absurd vars
push_does c w keys rows r free v s0 has (y ∷ ys) [] before k s is long count vars h = absurd vars
push_does c w keys rows r free v s0 has (y ∷ ys) (x ∷ xs) before k s is long count vars h =
    let t = set_array s (Key w k) (column k rows ++ x ∷ []) in
    let here : slice_index r.coords k ≡ x = ap (λ cs. slice_index cs k) is ∙ ap (slice_index (before ++ x ∷ xs)) (sym long)
    ∙ index_at before xs x in
    does_push c (Key w k) (Var y) (push_code w (k + 1) ys v) s x (column k rows) _ _ vars.0 refl
    (h.due k (omega arith) (omega (arith, count)))
    (λ may. push_does c w keys rows r free v s0 has ys xs (before ++ x ∷ []) (k + 1) t (is ∙ sym (append_assoc before (x ∷ []) xs))
    (let l = length_append before (x ∷ []) in omega (arith, l, long)) (omega (arith, count)) (vars_kept ys xs s t (λ y. refl) vars.1)
    (record {
      done = λ j l. elim (eqb_tells k j) [
        | inl equal ↦ subst (λ i. t.arrays (Key w i) ≡ Some (column i (rows ++ r ∷ []))) equal.1
            (this_array s (Key w k) (Key w k) (column k rows ++ x ∷ []) (same_arr_self (Key w k))
            ∙ ap Some (ap (λ n. column k rows ++ n ∷ []) (sym here)
            ∙ sym (map_append (λ (e : Entry). slice_index e.coords k) rows (r ∷ []))))
        | inr apart ↦ other_array s (Key w k) (Key w j) (column k rows ++ x ∷ []) (other_key w j k apart.1)
            ∙ h.done j (omega (arith, l, apart.1))
      ];
      due = λ j l b. other_array s (Key w k) (Key w j) (column k rows ++ x ∷ []) (other_key w j k (λ z. omega (arith, l, z)))
          ∙ h.due j (omega (arith, l)) b;
      sums = h.sums;
      vars = h.vars;
      kept = λ a out. other_array s (Key w k) a (column k rows ++ x ∷ []) (not_of_workspace w (Key w k) a refl out) ∙ h.kept a out;
      turns = h.turns;
    }))
    (λ over. (
      λ j. let old = h.turns j in omega (arith, old),
      refused_row w rows r (Key w k) (length (column k rows) + 1) refl
          (ap (λ n. n + 1) (length_map (λ (e : Entry). slice_index e.coords k) rows)) over,
    ))

-- a row pushed on a workspace
pub push_row : (c : Setting) (w : ℕ) (rows : List Entry) (r : Entry) (free v : ℕ) (ys : List ℕ) (s : State) → s.vars v ≡ Some r.value
    → VarsAre ys r.coords s → HoldsRows w (length r.coords) rows s.arrays
    → Does c (push_code w 0 ys v) s (λ t. Leaves NoVariable (λ a. IsOfWorkspace w a → ⊥) free no_turns s t
    × HoldsRows w (length r.coords) (rows ++ r ∷ []) t.arrays) (RefusedWithin no_turns s (PassesPairs w (rows ++ r ∷ [])))
push_row c w rows r free v ys s has vars h = push_does c w (length r.coords) rows r free v s has ys r.coords [] 0 s refl refl
    (omega arith) vars (record {
      done = λ j l. absurd (omega (arith, l));
      due = λ j l b. h.key j b;
      sums = h.sums;
      vars = λ y. refl;
      kept = λ a out. refl;
      turns = λ j. omega arith;
    })

-- the code of a row of a workspace
pub pushes : (k : WorkspaceSink) (ys : List ℕ) (v free : ℕ) → AddsTo workspace_sink k ys v free (push_code k.number 0 ys v)
pushes k ys v free = λ c laws apart ranges rows row long s vars at holds.
    does_weaker c (push_code k.number 0 ys v) s _ _ _ _
    (push_row c k.number rows row free v ys s at vars (subst (λ n. HoldsRows k.number n rows s.arrays) (sym long) holds))
    (λ t q. (q.0, subst (λ n. HoldsRows k.number n (rows ++ row ∷ []) t.arrays) long q.1)) (λ t b n z. z)
