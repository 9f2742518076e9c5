-- Code that appends nothing is refused no growth, whatever it runs on.
use Rattle.std.specs.Prelude.{◌≡◌, ℕ, zero, suc, ◌+◌, Bool, true, false, nat_lt, nat_le, if◌then◌else◌, List, [], ◌∷◌, length, Option}
use Rattle.std.specs.Prelude.{Some, None}
use Rattle.numbers.specs.Arithmetic.{Arithmetic}
use Rattle.kernel_code.specs.declared.syntax.Arr.{Arr}
use Rattle.kernel_code.specs.declared.syntax.Kernel.{Kernel}
use Rattle.kernel_code.specs.declared.syntax.LoopKind.{LoopKind}
use Rattle.kernel_code.specs.declared.syntax.Place.{Place}
use Rattle.kernel_code.specs.declared.syntax.KStmt.{KStmt, Set, Combine, Put, AddTo, Push, Extend, Cut, Sort, SortSum, If', While'}
use Rattle.kernel_code.specs.declared.syntax.KStmt.{Row_of-KStmt, end_of-KStmt, more_of-KStmt}
use Rattle.kernel_code.specs.Arrays.{may_write, may_cut, sum_in}
use Rattle.kernel_code.specs.Meaning.{Setting, State, Outcome, Ended, Stuck, Over, More, value, apply_each, combined, one_turn, then_run}
use Rattle.kernel_code.specs.Meaning.{with_value, if_written, with_array, changed, choice, run_turns, run, run_row, run_list, behind}
use Rattle.kernel_code.specs.Meaning.{statements_in, statements_in_row}
use Rattle.kernel_code.specs.Kernels.{TooLong, all_turns, within, told, go, setting_of, start_state}
use Rattle.kernel_interpreter.specs.Memory.{IsInPlace, Throughout, Throughout_row, Through}

-- no growth was refused
abbrev Grants : Outcome → Type 0
Grants (Ended s) = Unit {0}
Grants (Stuck t statement) = Unit {0}
Grants (Over t a count) = ⊥
Grants More = Unit {0}

grants_value : (s : State) (v : Option ℕ) (next : ℕ → Outcome) → ((v : ℕ) → Grants (next v)) → Grants (with_value s v next)
grants_value s None next h = tt
grants_value s (Some v) next h = h v

grants_written : (s : State) (b : Bool) (xs : Option (List ℕ)) (next : List ℕ → Outcome) → ((xs : List ℕ) → Grants (next xs))
    → Grants (if_written s b xs next)
grants_written s false xs next h = tt
grants_written s true None next h = tt
grants_written s true (Some xs) next h = h xs

grants_array : (s : State) (a : Arr) (next : List ℕ → Outcome) → ((xs : List ℕ) → Grants (next xs)) → Grants (with_array s a next)
grants_array s a next h = grants_written s (may_write a) (s.arrays a) next h

grants_either : (b : Bool) (x y : Outcome) → Grants x → Grants y → Grants (if b then x else y)
grants_either true x y h g = h
grants_either false x y h g = g

grants_changed : (s : State) (a : Arr) (i : ℕ) (f : ℕ → ℕ) (xs : List ℕ) → Grants (changed s a i f xs)
grants_changed s a i f xs = grants_either (nat_lt i (length xs)) _ _ tt tt

grants_then : (o : Outcome) (next : State → Outcome) → Grants o → ((s : State) → Grants (next s)) → Grants (then_run o next)
grants_then (Ended s) next h g = g s
grants_then (Stuck t statement) next h g = tt
grants_then (Over t a count) next h g = h
grants_then More next h g = tt

grants_behind : (n : ℕ) (o : Outcome) → Grants o → Grants (behind n o)
grants_behind n (Ended s) h = tt
grants_behind n (Stuck t statement) h = tt
grants_behind n (Over t a count) h = h
grants_behind n More h = tt

grants_choice : (s : State) (v : Option ℕ) (first second : Outcome) → Grants first → Grants second → Grants (choice s v first second)
grants_choice s None first second h g = tt
grants_choice s (Some zero) first second h g = g
grants_choice s (Some (suc v)) first second h g = h

grants_turns : (n : ℕ) (k : LoopKind) (test : State → Option ℕ) (body : State → Outcome) → ((s : State) → Grants (body s)) → (s : State)
    → Grants (run_turns n k test body s)
grants_turns zero k test body h s = grants_choice s (test s) More (Ended s) tt tt
grants_turns (suc n) k test body h s =
    grants_choice s (test s) (then_run (body (one_turn s k)) (run_turns n k test body)) (Ended s)
    (grants_then (body (one_turn s k)) (run_turns n k test body) (h (one_turn s k)) (grants_turns n k test body h)) tt

mutual
  grants_run : (c : Setting) (n : ℕ) (s : KStmt) → Throughout IsInPlace s → (st : State) → Grants (run c n s st)
  grants_run c n (Set x e) h st = grants_value st (value e st) _ (λ v. tt)
  grants_run c n (Combine x o e f) h st = grants_value st (apply_each (combined c.arithmetic o) (value e st) (value f st)) _ (λ v. tt)
  grants_run c n (Put a i e) h st =
      grants_value st (value i st) _
      (λ i. grants_value st (value e st) _ (λ v. grants_array st a _ (grants_changed st a i (λ old. v))))
  grants_run c n (AddTo a i e) h st =
      grants_value st (value i st) _
      (λ i. grants_value st (value e st) _ (λ v. grants_array st a _ (grants_changed st a i (λ old. sum_in c.arithmetic a old v))))
  grants_run c n (Push a e) h st = absurd h
  grants_run c n (Extend a count e) h st = absurd h
  grants_run c n (Cut a e) h st =
      grants_value st (value e st) _ (λ m. grants_written st (may_cut c.cuts_results a) (st.arrays a) _ (λ xs. tt))
  grants_run c n (Sort g) h st = absurd h
  grants_run c n (SortSum w) h st = absurd h
  grants_run c n (If' e p first q second) h st =
      let k = 1 + statements_in_row first in
      grants_choice st (value e st) (behind 1 (run_row c n first st)) (behind k (run_row c n second st))
      (grants_behind 1 (run_row c n first st) (grants_row c n first h.0 st))
      (grants_behind k (run_row c n second st) (grants_row c n second h.1 st))
  grants_run c n (While' k e p body) h st =
      grants_turns n k (value e) (λ s'. behind 1 (run_row c n body s'))
      (λ s'. grants_behind 1 (run_row c n body s') (grants_row c n body h s')) st

  grants_row : {m : _} (c : Setting) (n : ℕ) (row : Row_of-KStmt m) → Throughout_row IsInPlace row → (st : State)
      → Grants (run_row c n row st)
  grants_row c n end_of-KStmt h st = tt
  grants_row c n (more_of-KStmt s rest) h st =
      grants_then (run c n s st) (λ st'. behind (statements_in s) (run_row c n rest st')) (grants_run c n s h.0 st)
      (λ st'. grants_behind (statements_in s) (run_row c n rest st') (grants_row c n rest h.1 st'))

grants_list : (c : Setting) (n : ℕ) (code : List KStmt) → Through IsInPlace code → (st : State) → Grants (run_list c n code st)
grants_list c n [] h st = tt
grants_list c n (s ∷ rest) h st =
    grants_then (run c n s st) (λ st'. behind (statements_in s) (run_list c n rest st')) (grants_run c n s h.0 st)
    (λ st'. grants_behind (statements_in s) (run_list c n rest st') (grants_list c n rest h.1 st'))

told_either : (order : ℕ) (b : Bool) (o : Outcome) (place : Place) (count : ℕ) → (told order o ≡ TooLong place count → ⊥)
    → told order (if b then o else More) ≡ TooLong place count → ⊥
told_either order true o place count h e = h e
told_either order false o place count h e = cc

told_granted : (order n : ℕ) (o : Outcome) (place : Place) (count : ℕ) → Grants o → told order (within n o) ≡ TooLong place count → ⊥
told_granted order n (Ended s) place count h e = told_either order (nat_le (all_turns s.turns) n) (Ended s) place count (λ f. cc) e
told_granted order n (Stuck t statement) place count h e = told_either order (nat_le (all_turns t) n) (Stuck t statement) place
    count (λ f. cc) e
told_granted order n (Over t a c) place count h e = absurd h
told_granted order n More place count h e = cc

-- a kernel of such code is never too long for an array
pub never_too_long : (a : Arithmetic) (order : ℕ) (kernel : Kernel) (given : Arr → Option (List ℕ)) (n : ℕ) (place : Place) (count : ℕ)
    → Through IsInPlace kernel.body → go a order kernel given n ≡ TooLong place count → ⊥
never_too_long a order kernel given n place count h e =
    told_granted order n
    (run_list (setting_of true a kernel) n kernel.body (start_state kernel given)) place count
    (grants_list (setting_of true a kernel) n kernel.body h (start_state kernel given)) e
