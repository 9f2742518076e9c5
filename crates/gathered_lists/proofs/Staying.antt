-- Lemmas about what specs/Staying.antt defines.
use Rattle.std.specs.Prelude.{◌≡◌, ℕ, zero, suc, ◌+◌, ◌==◌, Bool, true, false, nat_lt, if◌then◌else◌, List, [], ◌∷◌, length, map}
use Rattle.std.specs.Prelude.{Option, Some, None, slice_get, refl}
use Rattle.std.proofs.Common.{sym, subst, arith}
use Rattle.numbers.specs.Arithmetic.{Arithmetic}
use Rattle.kernel_code.specs.declared.syntax.Arr.{Arr}
use Rattle.kernel_code.specs.declared.syntax.Arr.TheVariants.{Key, Sums, ListCoordinates, ListPositions}
use Rattle.kernel_code.specs.declared.syntax.LoopKind.{LoopKind}
use Rattle.kernel_code.specs.declared.syntax.KStmt.{KStmt, Set, Combine, Put, AddTo, Push, Extend, Cut, Sort, SortSum, If', While'}
use Rattle.kernel_code.specs.declared.syntax.KStmt.{Row_of-KStmt, end_of-KStmt, more_of-KStmt}
use Rattle.kernel_code.specs.Arrays.{same_arr, may_write, may_cut, may_have, sum_in}
use Rattle.kernel_code.specs.Rows.{Row, column_of, list_rows, rows_from, sorted_rows, summed_rows}
use Rattle.kernel_code.specs.Meaning.{Setting, State, Outcome, Ended, Stuck, Over, More, value, apply_each, combined, one_turn, then_run}
use Rattle.kernel_code.specs.Meaning.{with_value, if_written, with_array, changed, grown, sort_outcome, sort_sum_outcome, summed}
use Rattle.kernel_code.specs.Meaning.{key_columns, set_array, set_columns, choice, run_turns, run, run_row, run_list, behind}
use Rattle.kernel_code.specs.Meaning.{statements_in, statements_in_row}
use Rattle.kernel_code.specs.Does.{Refusal, OnOutcome, Does}
use Rattle.gathered_lists.specs.Rows.{HasList}
use Rattle.gathered_lists.specs.Staying.{StillThere, EndsThere}
use Rattle.result_targets.specs.Scratch.{IsThere}
use Rattle.result_targets.proofs.Scratch.{list_stays}

still_self : (s : State) → StillThere s s
still_self s a h = h

still_set : (s : State) (a : Arr) (xs : List ℕ) → StillThere s (set_array s a xs)
still_set s a xs b h = elim (same_arr a b) as (λ t. IsThere (if t then Some xs else s.arrays b)) [ true ↦ tt | false ↦ h ]

still_then : (s t u : State) → StillThere s t → StillThere t u → StillThere s u
still_then s t u f g a h = g a (f a h)

ends_both : (s : State) (b : Bool) (x y : Outcome) → EndsThere s x → EndsThere s y → EndsThere s (if b then x else y)
ends_both s true x y h g = h
ends_both s false x y h g = g

ends_value : (s : State) (v : Option ℕ) (next : ℕ → Outcome) → ((v : ℕ) → EndsThere s (next v)) → EndsThere s (with_value s v next)
ends_value s None next h = tt
ends_value s (Some v) next h = h v

ends_written : (s : State) (b : Bool) (xs : Option (List ℕ)) (next : List ℕ → Outcome) → ((xs : List ℕ) → EndsThere s (next xs))
    → EndsThere s (if_written s b xs next)
ends_written s false xs next h = tt
ends_written s true None next h = tt
ends_written s true (Some xs) next h = h xs

ends_array : (s : State) (a : Arr) (next : List ℕ → Outcome) → ((xs : List ℕ) → EndsThere s (next xs)) → EndsThere s (with_array s a next)
ends_array s a next h = ends_written s (may_write a) (s.arrays a) next h

ends_changed : (s : State) (a : Arr) (i : ℕ) (f : ℕ → ℕ) (xs : List ℕ) → EndsThere s (changed s a i f xs)
ends_changed s a i f xs = ends_both s (nat_lt i (length xs)) _ _ (still_set s a _) tt

ends_grown : (s : State) (a : Arr) (count : ℕ) (xs more : List ℕ) → EndsThere s (grown s a count xs more)
ends_grown s a count xs more = ends_both s (may_have a count) _ _ (still_set s a _) tt

ends_sort : (s : State) (g : ℕ) (cs ps : Option (List ℕ)) → EndsThere s (sort_outcome s g cs ps)
ends_sort s g None ps = tt
ends_sort s g (Some cs) None = tt
ends_sort s g (Some cs) (Some ps) =
    let rows = sorted_rows (list_rows cs ps) in
    let xs = map (λ r. r.coordinate) rows in
    let ys = map (λ r. r.position) rows in
    let t = set_array s (ListCoordinates g) xs in
    ends_both s (length cs == length ps) (Ended (set_array t (ListPositions g) ys)) (Stuck s.turns 1)
    (still_then s t (set_array t (ListPositions g) ys) (still_set s (ListCoordinates g) xs) (still_set t (ListPositions g) ys)) tt

still_columns : (s : State) (w : ℕ) (rows : List Row) (n : ℕ) → StillThere s (set_columns s w rows n)
still_columns s w rows zero = still_self s
still_columns s w rows (suc n) =
    still_then s (set_columns s w rows n) (set_array (set_columns s w rows n) (Key w n) (column_of n rows)) (still_columns s w rows n)
    (still_set (set_columns s w rows n) (Key w n) (column_of n rows))

ends_summed : (arithmetic : Arithmetic) (s : State) (w keys : ℕ) (vs : List ℕ) (columns : Option (List (List ℕ)))
    → EndsThere s (summed arithmetic s w keys vs columns)
ends_summed arithmetic s w keys vs None = tt
ends_summed arithmetic s w keys vs (Some columns) =
    let rows = summed_rows arithmetic (rows_from columns 0 vs) in
    let t = set_columns s w rows keys in
    let values = map (λ r. r.value) rows in
    still_then s t (set_array t (Sums w) values) (still_columns s w rows keys) (still_set t (Sums w) values)

ends_sort_sum : (arithmetic : Arithmetic) (s : State) (w : ℕ) (keys : Option ℕ) (vs : Option (List ℕ))
    → EndsThere s (sort_sum_outcome arithmetic s w keys vs)
ends_sort_sum arithmetic s w None vs = tt
ends_sort_sum arithmetic s w (Some keys) None = tt
ends_sort_sum arithmetic s w (Some keys) (Some vs) = ends_summed arithmetic s w keys vs (key_columns s w (length vs) keys)

ends_from : (s t : State) (o : Outcome) → StillThere s t → EndsThere t o → EndsThere s o
ends_from s t (Ended u) h g = still_then s t u h g
ends_from s t (Stuck turns statement) h g = tt
ends_from s t (Over turns a count) h g = tt
ends_from s t More h g = tt

ends_then : (s : State) (o : Outcome) (next : State → Outcome) → EndsThere s o → ((t : State) → EndsThere t (next t))
    → EndsThere s (then_run o next)
ends_then s (Ended t) next h g = ends_from s t (next t) h (g t)
ends_then s (Stuck turns statement) next h g = tt
ends_then s (Over turns a count) next h g = tt
ends_then s More next h g = tt

ends_behind : (s : State) (n : ℕ) (o : Outcome) → EndsThere s o → EndsThere s (behind n o)
ends_behind s n (Ended t) h = h
ends_behind s n (Stuck turns statement) h = tt
ends_behind s n (Over turns a count) h = tt
ends_behind s n More h = tt

ends_choice : (s t : State) (v : Option ℕ) (first second : Outcome) → EndsThere s first → EndsThere s second
    → EndsThere s (choice t v first second)
ends_choice s t None first second f g = tt
ends_choice s t (Some zero) first second f g = g
ends_choice s t (Some (suc v)) first second f g = f

ends_turns : (n : ℕ) (k : LoopKind) (test : State → Option ℕ) (body : State → Outcome) → ((s : State) → EndsThere s (body s)) → (s : State)
    → EndsThere s (run_turns n k test body s)
ends_turns zero k test body h s = ends_choice s s (test s) More (Ended s) tt (still_self s)
ends_turns (suc n) k test body h s =
    ends_choice s s (test s) (then_run (body (one_turn s k)) (run_turns n k test body)) (Ended s)
    (ends_from s (one_turn s k) (then_run (body (one_turn s k)) (run_turns n k test body)) (still_self s)
    (ends_then (one_turn s k) (body (one_turn s k)) (run_turns n k test body) (h (one_turn s k)) (ends_turns n k test body h)))
    (still_self s)

mutual
  ends_run : (c : Setting) (n : ℕ) (s : KStmt) (st : State) → EndsThere st (run c n s st)
  ends_run c n (Set x e) st = ends_value st (value e st) _ (λ v. still_self st)
  ends_run c n (Combine x o e f) st =
      ends_value st (apply_each (combined c.arithmetic o) (value e st) (value f st)) _ (λ v. still_self st)
  ends_run c n (Put a i e) st =
      ends_value st (value i st) _ (λ i. ends_value st (value e st) _ (λ v. ends_array st a _ (ends_changed st a i (λ old. v))))
  ends_run c n (AddTo a i e) st =
      ends_value st (value i st) _
      (λ i. ends_value st (value e st) _ (λ v. ends_array st a _ (ends_changed st a i (λ old. sum_in c.arithmetic a old v))))
  ends_run c n (Push a e) st = ends_value st (value e st) _ (λ v. ends_array st a _ (λ xs. ends_grown st a _ xs _))
  ends_run c n (Extend a count e) st =
      ends_value st (value count st) _ (λ m. ends_value st (value e st) _ (λ v. ends_array st a _ (λ xs. ends_grown st a _ xs _)))
  ends_run c n (Cut a e) st =
      ends_value st (value e st) _ (λ m. ends_written st (may_cut c.cuts_results a) (st.arrays a) _ (λ xs. still_set st a _))
  ends_run c n (Sort g) st = ends_sort st g (st.arrays (ListCoordinates g)) (st.arrays (ListPositions g))
  ends_run c n (SortSum w) st = ends_sort_sum c.arithmetic st w (slice_get c.workspaces w) (st.arrays (Sums w))
  ends_run c n (If' e p first q second) st =
      ends_choice st st (value e st) (behind 1 (run_row c n first st)) (behind (1 + statements_in_row first) (run_row c n second st))
      (ends_behind st 1 (run_row c n first st) (ends_row c n first st))
      (ends_behind st (1 + statements_in_row first) (run_row c n second st) (ends_row c n second st))
  ends_run c n (While' k e p body) st =
      ends_turns n k (value e) (λ s'. behind 1 (run_row c n body s'))
      (λ s'. ends_behind s' 1 (run_row c n body s') (ends_row c n body s')) st

  ends_row : {m : _} (c : Setting) (n : ℕ) (row : Row_of-KStmt m) (st : State) → EndsThere st (run_row c n row st)
  ends_row c n end_of-KStmt st = still_self st
  ends_row c n (more_of-KStmt s rest) st =
      ends_then st (run c n s st) (λ st'. behind (statements_in s) (run_row c n rest st')) (ends_run c n s st)
      (λ st'. ends_behind st' (statements_in s) (run_row c n rest st') (ends_row c n rest st'))

pub ends_list : (c : Setting) (n : ℕ) (code : List KStmt) (st : State) → EndsThere st (run_list c n code st)
ends_list c n [] st = still_self st
ends_list c n (s ∷ rest) st =
    ends_then st (run c n s st) (λ st'. behind (statements_in s) (run_list c n rest st')) (ends_run c n s st)
    (λ st'. ends_behind st' (statements_in s) (run_list c n rest st') (ends_list c n rest st'))

with_still : (P : State → Type 0) (R : Refusal) (s : State) (o : Outcome) → OnOutcome P R o → EndsThere s o
    → OnOutcome (λ t. P t × StillThere s t) R o
with_still P R s (Ended t) h g = (h, g)
with_still P R s (Stuck turns statement) h g = h
with_still P R s (Over turns a count) h g = h
with_still P R s More h g = h

-- whatever code does, each array that was there is there
pub does_still : (c : Setting) (code : List KStmt) (s : State) (P : State → Type 0) (R : Refusal) → Does c code s P R
    → Does c code s (λ t. P t × StillThere s t) R
does_still c code s P R d = record {
  enough = d.enough;
  outcome = d.outcome;
  reached = d.reached;
  kept = with_still P R s d.outcome d.kept
      (subst (EndsThere s) (d.reached d.enough (omega arith)) (ends_list c d.enough code s));
}

-- a scratch list that is there stays there
pub has_still : (list : ℕ) (s t : State) → HasList list s → StillThere s t → HasList list t
has_still list s t h g = list_stays list s t (λ b is there. g b there) h
