-- Lemmas about what specs/Turns.antt defines.
use Rattle.std.specs.Prelude.{◌≡◌, ℕ, zero, suc, ◌+◌, ◌≤◌, ◌<◌, ◌==◌, Bool, true, false, nat_lt, nat_le, if◌then◌else◌, List, [], ◌∷◌}
use Rattle.std.specs.Prelude.{length, Option, Some, None, slice_get, refl}
use Rattle.std.proofs.Common.{◌∙◌, sym, ap, arith}
use Rattle.std.proofs.lemmas.Bool.Decides.{nat_tests}
use Rattle.numbers.specs.Arithmetic.{Arithmetic}
use Rattle.kernel_code.specs.declared.syntax.Arr.{Arr}
use Rattle.kernel_code.specs.declared.syntax.Arr.TheVariants.{Sums, ListCoordinates, ListPositions}
use Rattle.kernel_code.specs.declared.syntax.LoopKind.{LoopKind}
use Rattle.kernel_code.specs.declared.syntax.LoopKind.TheVariants.{Merge, Skip, Gather, Drain, Probe}
use Rattle.kernel_code.specs.declared.syntax.KStmt.{KStmt, Set, Combine, Put, AddTo, Push, Extend, Cut, Sort, SortSum, If', While'}
use Rattle.kernel_code.specs.declared.syntax.KStmt.{Row_of-KStmt, end_of-KStmt, more_of-KStmt}
use Rattle.kernel_code.specs.Arrays.{may_write, may_cut, may_have, sum_in}
use Rattle.kernel_code.specs.Rows.{Row}
use Rattle.kernel_code.specs.Meaning.{Setting, State, Outcome, Ended, Stuck, Over, More, value, apply_each, combined, one_turn, then_run}
use Rattle.kernel_code.specs.Meaning.{with_value, if_written, with_array, changed, grown, sort_outcome, sort_sum_outcome, summed}
use Rattle.kernel_code.specs.Meaning.{key_columns, set_columns, choice, run_turns, run, run_row, run_list, behind}
use Rattle.kernel_code.specs.Meaning.{statements_in, statements_in_row}
use Rattle.kernel_code.specs.Kernels.{all_turns, within}
use Rattle.kernel_code.specs.Turns.{AtLeast}
use Rattle.lists.proofs.Tests.{test_within, test_beyond}

le_self : (n : ℕ) → n ≤ n
le_self n = omega arith

le_next : (m n k : ℕ) → m ≤ n → n ≡ k → m ≤ k
le_next m n k h e = omega arith

at_least_both : (b : Bool) (n : ℕ) (x y : Outcome) → AtLeast n x → AtLeast n y → AtLeast n (if b then x else y)
at_least_both true n x y h g = h
at_least_both false n x y h g = g

at_least_value : (s : State) (v : Option ℕ) (next : ℕ → Outcome) → ((v : ℕ) → AtLeast (all_turns s.turns) (next v))
    → AtLeast (all_turns s.turns) (with_value s v next)
at_least_value s None next h = le_self (all_turns s.turns)
at_least_value s (Some v) next h = h v

at_least_written : (s : State) (b : Bool) (xs : Option (List ℕ)) (next : List ℕ → Outcome)
    → ((xs : List ℕ) → AtLeast (all_turns s.turns) (next xs)) → AtLeast (all_turns s.turns) (if_written s b xs next)
at_least_written s false xs next h = le_self (all_turns s.turns)
at_least_written s true None next h = le_self (all_turns s.turns)
at_least_written s true (Some xs) next h = h xs

at_least_array : (s : State) (a : Arr) (next : List ℕ → Outcome) → ((xs : List ℕ) → AtLeast (all_turns s.turns) (next xs))
    → AtLeast (all_turns s.turns) (with_array s a next)
at_least_array s a next h = at_least_written s (may_write a) (s.arrays a) next h

at_least_changed : (s : State) (a : Arr) (i : ℕ) (f : ℕ → ℕ) (xs : List ℕ) → AtLeast (all_turns s.turns) (changed s a i f xs)
at_least_changed s a i f xs =
    at_least_both (nat_lt i (length xs)) (all_turns s.turns) _ _ (le_self (all_turns s.turns)) (le_self (all_turns s.turns))

at_least_grown : (s : State) (a : Arr) (count : ℕ) (xs more : List ℕ) → AtLeast (all_turns s.turns) (grown s a count xs more)
at_least_grown s a count xs more =
    at_least_both (may_have a count) (all_turns s.turns) _ _ (le_self (all_turns s.turns)) (le_self (all_turns s.turns))

at_least_sort : (s : State) (g : ℕ) (cs ps : Option (List ℕ)) → AtLeast (all_turns s.turns) (sort_outcome s g cs ps)
at_least_sort s g None ps = le_self (all_turns s.turns)
at_least_sort s g (Some cs) None = le_self (all_turns s.turns)
at_least_sort s g (Some cs) (Some ps) =
    at_least_both (length cs == length ps) (all_turns s.turns) _ _ (le_self (all_turns s.turns)) (le_self (all_turns s.turns))

set_columns_turns : (s : State) (w : ℕ) (rows : List Row) (n : ℕ) → (set_columns s w rows n).turns ≡ s.turns
set_columns_turns s w rows zero = refl
set_columns_turns s w rows (suc n) = set_columns_turns s w rows n

at_least_summed : (arithmetic : Arithmetic) (s : State) (w keys : ℕ) (vs : List ℕ) (columns : Option (List (List ℕ)))
    → AtLeast (all_turns s.turns) (summed arithmetic s w keys vs columns)
at_least_summed arithmetic s w keys vs None = le_self (all_turns s.turns)
at_least_summed arithmetic s w keys vs (Some columns) =
    le_next _ _ _ (le_self (all_turns s.turns)) (ap all_turns (sym (set_columns_turns s w _ keys)))

at_least_sort_sum : (arithmetic : Arithmetic) (s : State) (w : ℕ) (keys : Option ℕ) (vs : Option (List ℕ))
    → AtLeast (all_turns s.turns) (sort_sum_outcome arithmetic s w keys vs)
at_least_sort_sum arithmetic s w None vs = le_self (all_turns s.turns)
at_least_sort_sum arithmetic s w (Some keys) None = le_self (all_turns s.turns)
at_least_sort_sum arithmetic s w (Some keys) (Some vs) = at_least_summed arithmetic s w keys vs (key_columns s w (length vs) keys)

at_least_less : (m n : ℕ) (o : Outcome) → m ≤ n → AtLeast n o → AtLeast m o
at_least_less m n (Ended s) h g = omega arith
at_least_less m n (Stuck t statement) h g = omega arith
at_least_less m n (Over t a count) h g = omega arith
at_least_less m n More h g = tt

at_least_then : (n : ℕ) (o : Outcome) (next : State → Outcome) → AtLeast n o → ((s : State) → AtLeast (all_turns s.turns) (next s))
    → AtLeast n (then_run o next)
at_least_then n (Ended s) next h g = at_least_less n (all_turns s.turns) (next s) h (g s)
at_least_then n (Stuck t statement) next h g = h
at_least_then n (Over t a count) next h g = h
at_least_then n More next h g = tt

at_least_behind : (n k : ℕ) (o : Outcome) → AtLeast n o → AtLeast n (behind k o)
at_least_behind n k (Ended s) h = h
at_least_behind n k (Stuck t statement) h = h
at_least_behind n k (Over t a count) h = h
at_least_behind n k More h = h

at_least_choice : (n : ℕ) (s : State) (v : Option ℕ) (first second : Outcome) → n ≤ all_turns s.turns → AtLeast n first → AtLeast n second
    → AtLeast n (choice s v first second)
at_least_choice n s None first second h f g = h
at_least_choice n s (Some zero) first second h f g = g
at_least_choice n s (Some (suc v)) first second h f g = f

-- a turn is one more
pub one_turn_more : (s : State) (k : LoopKind) → all_turns (one_turn s k).turns ≡ all_turns s.turns + 1
one_turn_more s Merge = omega arith
one_turn_more s Skip = omega arith
one_turn_more s Gather = omega arith
one_turn_more s Drain = omega arith
one_turn_more s Probe = omega arith

at_least_turn : (s : State) (k : LoopKind) (o : Outcome) → AtLeast (all_turns (one_turn s k).turns) o → AtLeast (all_turns s.turns) o
at_least_turn s k o h = at_least_less (all_turns s.turns) (all_turns (one_turn s k).turns) o (omega (arith, one_turn_more s k)) h

pub at_least_turns : (n : ℕ) (k : LoopKind) (test : State → Option ℕ) (body : State → Outcome)
    → ((s : State) → AtLeast (all_turns s.turns) (body s)) → (s : State) → AtLeast (all_turns s.turns) (run_turns n k test body s)
at_least_turns zero k test body h s =
    at_least_choice (all_turns s.turns) s (test s) More (Ended s) (le_self (all_turns s.turns)) tt (le_self (all_turns s.turns))
at_least_turns (suc n) k test body h s =
    at_least_choice (all_turns s.turns) s (test s) (then_run (body (one_turn s k)) (run_turns n k test body)) (Ended s)
    (le_self (all_turns s.turns))
    (at_least_turn s k (then_run (body (one_turn s k)) (run_turns n k test body))
    (at_least_then (all_turns (one_turn s k).turns) (body (one_turn s k)) (run_turns n k test body) (h (one_turn s k))
    (at_least_turns n k test body h)))
    (le_self (all_turns s.turns))

pub at_least_after_turn : (n : ℕ) (k : LoopKind) (test : State → Option ℕ) (body : State → Outcome)
    → ((s : State) → AtLeast (all_turns s.turns) (body s)) → (s : State)
    → AtLeast (all_turns (one_turn s k).turns) (then_run (body (one_turn s k)) (run_turns n k test body))
at_least_after_turn n k test body h s =
    at_least_then (all_turns (one_turn s k).turns) (body (one_turn s k)) (run_turns n k test body) (h (one_turn s k))
    (at_least_turns n k test body h)

mutual
  -- a statement leaves at least the turns that it starts with
  pub at_least_run : (c : Setting) (n : ℕ) (s : KStmt) (st : State) → AtLeast (all_turns st.turns) (run c n s st)
  at_least_run c n (Set x e) st = at_least_value st (value e st) _ (λ v. le_self (all_turns st.turns))
  at_least_run c n (Combine x o e f) st =
      at_least_value st (apply_each (combined c.arithmetic o) (value e st) (value f st)) _ (λ v. le_self (all_turns st.turns))
  at_least_run c n (Put a i e) st =
      at_least_value st (value i st) _
      (λ i. at_least_value st (value e st) _ (λ v. at_least_array st a _ (at_least_changed st a i (λ old. v))))
  at_least_run c n (AddTo a i e) st =
      at_least_value st (value i st) _
      (λ i. at_least_value st (value e st) _
      (λ v. at_least_array st a _ (at_least_changed st a i (λ old. sum_in c.arithmetic a old v))))
  at_least_run c n (Push a e) st = at_least_value st (value e st) _ (λ v. at_least_array st a _ (λ xs. at_least_grown st a _ xs _))
  at_least_run c n (Extend a count e) st =
      at_least_value st (value count st) _
      (λ m. at_least_value st (value e st) _ (λ v. at_least_array st a _ (λ xs. at_least_grown st a _ xs _)))
  at_least_run c n (Cut a e) st =
      at_least_value st (value e st) _
      (λ m. at_least_written st (may_cut c.cuts_results a) (st.arrays a) _ (λ xs. le_self (all_turns st.turns)))
  at_least_run c n (Sort g) st = at_least_sort st g (st.arrays (ListCoordinates g)) (st.arrays (ListPositions g))
  at_least_run c n (SortSum w) st = at_least_sort_sum c.arithmetic st w (slice_get c.workspaces w) (st.arrays (Sums w))
  at_least_run c n (If' e p first q second) st =
      at_least_choice (all_turns st.turns) st (value e st) (behind 1 (run_row c n first st))
      (behind (1 + statements_in_row first) (run_row c n second st)) (le_self (all_turns st.turns))
      (at_least_behind (all_turns st.turns) 1 (run_row c n first st) (at_least_row c n first st))
      (at_least_behind (all_turns st.turns) (1 + statements_in_row first) (run_row c n second st) (at_least_row c n second st))
  at_least_run c n (While' k e p body) st =
      at_least_turns n k (value e) (λ s'. behind 1 (run_row c n body s'))
      (λ s'. at_least_behind (all_turns s'.turns) 1 (run_row c n body s') (at_least_row c n body s')) st

  pub at_least_row : {m : _} (c : Setting) (n : ℕ) (row : Row_of-KStmt m) (st : State) → AtLeast (all_turns st.turns) (run_row c n row st)
  at_least_row c n end_of-KStmt st = le_self (all_turns st.turns)
  at_least_row c n (more_of-KStmt s rest) st =
      at_least_then (all_turns st.turns) (run c n s st) (λ st'. behind (statements_in s) (run_row c n rest st')) (at_least_run c n s st)
      (λ st'. at_least_behind (all_turns st'.turns) (statements_in s) (run_row c n rest st') (at_least_row c n rest st'))

-- what goes on behind a statement
pub at_least_rest : (c : Setting) (n : ℕ) (s : KStmt) (rest : List KStmt)
    → ((st : State) → AtLeast (all_turns st.turns) (run_list c n rest st))
    → (st : State) → AtLeast (all_turns st.turns) (behind (statements_in s) (run_list c n rest st))
at_least_rest c n s rest h st = at_least_behind (all_turns st.turns) (statements_in s) (run_list c n rest st) (h st)

pub at_least_list : (c : Setting) (n : ℕ) (code : List KStmt) (st : State) → AtLeast (all_turns st.turns) (run_list c n code st)
at_least_list c n [] st = le_self (all_turns st.turns)
at_least_list c n (s ∷ rest) st =
    at_least_then (all_turns st.turns) (run c n s st) (λ st'. behind (statements_in s) (run_list c n rest st')) (at_least_run c n s st)
    (at_least_rest c n s rest (at_least_list c n rest))

-- more than n turns aren't told of
pub within_beyond : (n m : ℕ) (o : Outcome) → n < m → AtLeast m o → within n o ≡ More
within_beyond n m (Ended s) h g = ap (λ b. if b then Ended s else More) (test_beyond (all_turns s.turns) n (omega arith))
within_beyond n m (Stuck t statement) h g = ap (λ b. if b then Stuck t statement else More) (test_beyond (all_turns t) n (omega arith))
within_beyond n m (Over t a count) h g = ap (λ b. if b then Over t a count else More) (test_beyond (all_turns t) n (omega arith))
within_beyond n m More h g = refl

-- piece by piece
pub within_then : (n : ℕ) (o : Outcome) (next : State → Outcome) → ((s : State) → AtLeast (all_turns s.turns) (next s))
    → within n (then_run o next) ≡ then_run (within n o) (λ s. within n (next s))
within_then n (Ended s) next h = ended (nat_le (all_turns s.turns) n) refl
  where
    ended : (b : Bool) → nat_le (all_turns s.turns) n ≡ b
        → within n (next s) ≡ then_run (if nat_le (all_turns s.turns) n then Ended s else More) (λ s. within n (next s))
    ended true e = sym (ap (λ b. then_run (if b then Ended s else More) (λ s. within n (next s))) e)
    ended false e = within_beyond n (all_turns s.turns) (next s) (grind (arith, nat_tests, e)) (h s)
        ∙ sym (ap (λ b. then_run (if b then Ended s else More) (λ s. within n (next s))) e)
within_then n (Stuck t statement) next h = stuck (nat_le (all_turns t) n)
  where
    stuck : (b : Bool) → (if b then Stuck t statement else More) ≡ then_run (if b then Stuck t statement else More) (λ s. within n (next s))
    stuck true = refl
    stuck false = refl
within_then n (Over t a count) next h = over (nat_le (all_turns t) n)
  where
    over : (b : Bool) → (if b then Over t a count else More) ≡ then_run (if b then Over t a count else More) (λ s. within n (next s))
    over true = refl
    over false = refl
within_then n More next h = refl

pub within_ended : (n : ℕ) (s : State) → all_turns s.turns ≤ n → within n (Ended s) ≡ Ended s
within_ended n s h = ap (λ b. if b then Ended s else More) (test_within (all_turns s.turns) n h)

pub within_stuck : (n : ℕ) (t : LoopKind → ℕ) (statement : ℕ) → all_turns t ≤ n → within n (Stuck t statement) ≡ Stuck t statement
within_stuck n t statement h = ap (λ b. if b then Stuck t statement else More) (test_within (all_turns t) n h)

pub within_over : (n : ℕ) (t : LoopKind → ℕ) (a : Arr) (count : ℕ) → all_turns t ≤ n → within n (Over t a count) ≡ Over t a count
within_over n t a count h = ap (λ b. if b then Over t a count else More) (test_within (all_turns t) n h)
