-- Every run keeps the arrays that a kernel mayn't write, and loses none.
use Rattle.std.specs.Prelude.{◌≡◌, ℕ, zero, suc, ◌+◌, ◌==◌, nat_lt, nat_le, Bool, true, false, if◌then◌else◌, List, [], ◌∷◌, length}
use Rattle.std.specs.Prelude.{Option, Some, None, slice_get, refl}
use Rattle.std.proofs.Common.{◌∙◌, sym, ap, subst}
use Rattle.numbers.specs.Arithmetic.{Arithmetic}
use Rattle.kernel_code.specs.declared.syntax.Arr.{Arr}
use Rattle.kernel_code.specs.declared.syntax.Arr.TheVariants.{Key, Sums, ListCoordinates, ListPositions}
use Rattle.kernel_code.specs.declared.syntax.LoopKind.{LoopKind}
use Rattle.kernel_code.specs.declared.syntax.KStmt.{KStmt, Set, Combine, Put, AddTo, Push, Extend, Cut, Sort, SortSum, If', While'}
use Rattle.kernel_code.specs.declared.syntax.KStmt.{Row_of-KStmt, end_of-KStmt, more_of-KStmt}
use Rattle.kernel_code.specs.Arrays.{same_arr, may_write, may_cut, may_have, sum_in}
use Rattle.kernel_code.specs.Rows.{Row}
use Rattle.kernel_code.specs.Meaning.{Setting, State, Outcome, Ended, Stuck, Over, More, value, apply_each, combined, one_turn, then_run}
use Rattle.kernel_code.specs.Meaning.{set_array, with_value, if_written, with_array, changed, grown, sort_outcome, sort_sum_outcome, summed}
use Rattle.kernel_code.specs.Meaning.{key_columns, set_columns, choice, run_turns, run, run_row, run_list, behind}
use Rattle.kernel_code.specs.Meaning.{statements_in, statements_in_row}
use Rattle.kernel_code.specs.Kernels.{all_turns, within}
use Rattle.kernel_code.proofs.ArrayNames.{same_arr_is}
use Rattle.kernel_code.proofs.Does.{cut_is_written}
use Rattle.kernel_machine.specs.Kept.{Keeps}

-- where a run ends, it has kept them
abbrev pub KeepsTo : State → Outcome → Type 0
KeepsTo s (Ended t) = Keeps s.arrays t.arrays
KeepsTo s (Stuck t statement) = Unit {0}
KeepsTo s (Over t a count) = Unit {0}
KeepsTo s More = Unit {0}

pub keeps_same : (a : Arr → Option (List ℕ)) → Keeps a a
keeps_same a = record { unwritten = λ x h. refl; there = λ x xs h. (xs, h) }

pub keeps_both : (a b c : Arr → Option (List ℕ)) → Keeps a b → Keeps b c → Keeps a c
keeps_both a b c k l = record {
  unwritten = λ x h. l.unwritten x h ∙ k.unwritten x h;
  there = λ x xs h. let y = k.there x xs h in l.there x y.0 y.1;
}

never : true ≡ false → ⊥
never e = cc

-- an array that may be written is set
keeps_set : (s : State) (a : Arr) (xs : List ℕ) → may_write a ≡ true → Keeps s.arrays (set_array s a xs).arrays
keeps_set s a xs may = record { unwritten = λ x h. other x h (same_arr a x) refl; there = λ x ys h. still x ys h (same_arr a x) }
  where
    other : (x : Arr) → may_write x ≡ false → (b : Bool) → same_arr a x ≡ b → (if b then Some xs else s.arrays x) ≡ s.arrays x
    other x h true e = absurd (never (sym may ∙ ap may_write (same_arr_is a x e) ∙ h))
    other x h false e = refl

    still : (x : Arr) (ys : List ℕ) → s.arrays x ≡ Some ys → (b : Bool)
        → (zs : List ℕ) × ((if b then Some xs else s.arrays x) ≡ Some zs)
    still x ys h true = (xs, refl)
    still x ys h false = (ys, h)

keeps_choice : (s : State) (b : Bool) (x y : Outcome) → KeepsTo s x → KeepsTo s y → KeepsTo s (if b then x else y)
keeps_choice s true x y h g = h
keeps_choice s false x y h g = g

keeps_value : (s : State) (v : Option ℕ) (next : ℕ → Outcome) → ((v : ℕ) → KeepsTo s (next v)) → KeepsTo s (with_value s v next)
keeps_value s None next h = tt
keeps_value s (Some v) next h = h v

keeps_written : (s : State) (b : Bool) (xs : Option (List ℕ)) (next : List ℕ → Outcome) → (b ≡ true → (xs : List ℕ) → KeepsTo s (next xs))
    → KeepsTo s (if_written s b xs next)
keeps_written s false xs next h = tt
keeps_written s true None next h = tt
keeps_written s true (Some xs) next h = h refl xs

keeps_array : (s : State) (a : Arr) (next : List ℕ → Outcome) → (may_write a ≡ true → (xs : List ℕ) → KeepsTo s (next xs))
    → KeepsTo s (with_array s a next)
keeps_array s a next h = keeps_written s (may_write a) (s.arrays a) next h

keeps_changed : (s : State) (a : Arr) (i : ℕ) (f : ℕ → ℕ) → may_write a ≡ true → (xs : List ℕ) → KeepsTo s (changed s a i f xs)
keeps_changed s a i f may xs = keeps_choice s (nat_lt i (length xs)) _ _ (keeps_set s a _ may) tt

keeps_grown : (s : State) (a : Arr) (count : ℕ) (more : List ℕ) → may_write a ≡ true → (xs : List ℕ) → KeepsTo s (grown s a count xs more)
keeps_grown s a count more may xs = keeps_choice s (may_have a count) _ _ (keeps_set s a _ may) tt

keeps_sort : (s : State) (g : ℕ) (cs ps : Option (List ℕ)) → KeepsTo s (sort_outcome s g cs ps)
keeps_sort s g None ps = tt
keeps_sort s g (Some cs) None = tt
keeps_sort s g (Some cs) (Some ps) = keeps_choice s (length cs == length ps) _ _
    (keeps_both s.arrays _ _ (keeps_set s (ListCoordinates g) _ refl)
    (keeps_set (set_array s (ListCoordinates g) _) (ListPositions g) _ refl))
    tt

keeps_columns : (s : State) (w : ℕ) (rows : List Row) (n : ℕ) → Keeps s.arrays (set_columns s w rows n).arrays
keeps_columns s w rows zero = keeps_same s.arrays
keeps_columns s w rows (suc n) =
    keeps_both s.arrays (set_columns s w rows n).arrays _ (keeps_columns s w rows n) (keeps_set (set_columns s w rows n) (Key w n) _ refl)

keeps_summed : (a : Arithmetic) (s : State) (w keys : ℕ) (vs : List ℕ) (columns : Option (List (List ℕ)))
    → KeepsTo s (summed a s w keys vs columns)
keeps_summed a s w keys vs None = tt
keeps_summed a s w keys vs (Some columns) =
    keeps_both s.arrays _ _ (keeps_columns s w _ keys) (keeps_set (set_columns s w _ keys) (Sums w) _ refl)

keeps_sort_sum : (a : Arithmetic) (s : State) (w : ℕ) (keys : Option ℕ) (vs : Option (List ℕ))
    → KeepsTo s (sort_sum_outcome a s w keys vs)
keeps_sort_sum a s w None vs = tt
keeps_sort_sum a s w (Some keys) None = tt
keeps_sort_sum a s w (Some keys) (Some vs) = keeps_summed a s w keys vs (key_columns s w (length vs) keys)

keeps_after : (s t : State) (o : Outcome) → Keeps s.arrays t.arrays → KeepsTo t o → KeepsTo s o
keeps_after s t (Ended u) k h = keeps_both s.arrays t.arrays u.arrays k h
keeps_after s t (Stuck u statement) k h = tt
keeps_after s t (Over u a count) k h = tt
keeps_after s t More k h = tt

keeps_then : (s : State) (o : Outcome) (next : State → Outcome) → KeepsTo s o → ((t : State) → KeepsTo t (next t))
    → KeepsTo s (then_run o next)
keeps_then s (Ended t) next h g = keeps_after s t (next t) h (g t)
keeps_then s (Stuck t statement) next h g = tt
keeps_then s (Over t a count) next h g = tt
keeps_then s More next h g = tt

keeps_behind : (s : State) (k : ℕ) (o : Outcome) → KeepsTo s o → KeepsTo s (behind k o)
keeps_behind s k (Ended t) h = h
keeps_behind s k (Stuck t statement) h = tt
keeps_behind s k (Over t a count) h = tt
keeps_behind s k More h = tt

keeps_chosen : (s : State) (v : Option ℕ) (first second : Outcome) → KeepsTo s first → KeepsTo s second
    → KeepsTo s (choice s v first second)
keeps_chosen s None first second h g = tt
keeps_chosen s (Some zero) first second h g = g
keeps_chosen s (Some (suc v)) first second h g = h

keeps_turns : (n : ℕ) (k : LoopKind) (test : State → Option ℕ) (body : State → Outcome) → ((s : State) → KeepsTo s (body s))
    → (s : State) → KeepsTo s (run_turns n k test body s)
keeps_turns zero k test body h s = keeps_chosen s (test s) More (Ended s) tt (keeps_same s.arrays)
keeps_turns (suc n) k test body h s =
    keeps_chosen s (test s) (then_run (body (one_turn s k)) (run_turns n k test body)) (Ended s)
    (keeps_after s (one_turn s k) (then_run (body (one_turn s k)) (run_turns n k test body)) (keeps_same s.arrays)
    (keeps_then (one_turn s k) (body (one_turn s k)) (run_turns n k test body) (h (one_turn s k)) (keeps_turns n k test body h)))
    (keeps_same s.arrays)

mutual
  keeps_run : (c : Setting) (n : ℕ) (s : KStmt) (st : State) → KeepsTo st (run c n s st)
  keeps_run c n (Set x e) st = keeps_value st (value e st) _ (λ v. keeps_same st.arrays)
  keeps_run c n (Combine x o e f) st =
      keeps_value st (apply_each (combined c.arithmetic o) (value e st) (value f st)) _ (λ v. keeps_same st.arrays)
  keeps_run c n (Put a i e) st =
      keeps_value st (value i st) _ (λ i. keeps_value st (value e st) _ (λ v. keeps_array st a _ (keeps_changed st a i (λ old. v))))
  keeps_run c n (AddTo a i e) st =
      keeps_value st (value i st) _
      (λ i. keeps_value st (value e st) _ (λ v. keeps_array st a _ (keeps_changed st a i (λ old. sum_in c.arithmetic a old v))))
  keeps_run c n (Push a e) st =
      keeps_value st (value e st) _ (λ v. keeps_array st a _ (λ may xs. keeps_grown st a _ _ may xs))
  keeps_run c n (Extend a count e) st =
      keeps_value st (value count st) _
      (λ m. keeps_value st (value e st) _ (λ v. keeps_array st a _ (λ may xs. keeps_grown st a _ _ may xs)))
  keeps_run c n (Cut a e) st =
      keeps_value st (value e st) _
      (λ m. keeps_written st (may_cut c.cuts_results a) (st.arrays a) _ (λ may xs. keeps_set st a _ (cut_is_written c.cuts_results a may)))
  keeps_run c n (Sort g) st = keeps_sort st g (st.arrays (ListCoordinates g)) (st.arrays (ListPositions g))
  keeps_run c n (SortSum w) st = keeps_sort_sum c.arithmetic st w (slice_get c.workspaces w) (st.arrays (Sums w))
  keeps_run c n (If' e p first q second) st =
      keeps_chosen st (value e st) (behind 1 (run_row c n first st)) (behind (1 + statements_in_row first) (run_row c n second st))
      (keeps_behind st 1 (run_row c n first st) (keeps_row c n first st))
      (keeps_behind st (1 + statements_in_row first) (run_row c n second st) (keeps_row c n second st))
  keeps_run c n (While' k e p body) st =
      keeps_turns n k (value e) (λ s'. behind 1 (run_row c n body s'))
      (λ s'. keeps_behind s' 1 (run_row c n body s') (keeps_row c n body s')) st

  keeps_row : {m : _} (c : Setting) (n : ℕ) (row : Row_of-KStmt m) (st : State) → KeepsTo st (run_row c n row st)
  keeps_row c n end_of-KStmt st = keeps_same st.arrays
  keeps_row c n (more_of-KStmt s rest) st =
      keeps_then st (run c n s st) (λ st'. behind (statements_in s) (run_row c n rest st')) (keeps_run c n s st)
      (λ st'. keeps_behind st' (statements_in s) (run_row c n rest st') (keeps_row c n rest st'))

keeps_list : (c : Setting) (n : ℕ) (code : List KStmt) (st : State) → KeepsTo st (run_list c n code st)
keeps_list c n [] st = keeps_same st.arrays
keeps_list c n (s ∷ rest) st =
    keeps_then st (run c n s st) (λ st'. behind (statements_in s) (run_list c n rest st')) (keeps_run c n s st)
    (λ st'. keeps_behind st' (statements_in s) (run_list c n rest st') (keeps_list c n rest st'))

keeps_within : (n : ℕ) (s : State) (o : Outcome) → KeepsTo s o → KeepsTo s (within n o)
keeps_within n s (Ended t) h = keeps_choice s (nat_le (all_turns t.turns) n) (Ended t) More h tt
keeps_within n s (Stuck t statement) h = keeps_choice s (nat_le (all_turns t) n) (Stuck t statement) More tt tt
keeps_within n s (Over t a count) h = keeps_choice s (nat_le (all_turns t) n) (Over t a count) More tt tt
keeps_within n s More h = tt

-- code that ends within so many turns
pub kept_within : (c : Setting) (n : ℕ) (code : List KStmt) (s t : State) → within n (run_list c n code s) ≡ Ended t
    → Keeps s.arrays t.arrays
kept_within c n code s t ends = subst (KeepsTo s) ends (keeps_within n s (run_list c n code s) (keeps_list c n code s))
