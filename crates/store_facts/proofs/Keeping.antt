-- Facts that hold where a run starts hold where it ends, since no kernel writes the arrays that they speak of.
use Rattle.std.specs.Prelude.{◌≡◌, ℕ, zero, suc, ◌+◌, Bool, true, false, nat_lt, ◌==◌, if◌then◌else◌, List, [], ◌∷◌, ◌++◌}
use Rattle.std.specs.Prelude.{length, slice_get, slice_set, replicate, Option, Some, None, refl}
use Rattle.std.proofs.Common.{ap}
use Rattle.numbers.specs.Arithmetic.{Arithmetic}
use Rattle.kernel_code.specs.declared.syntax.Arr.{Arr}
use Rattle.kernel_code.specs.declared.syntax.Arr.TheVariants.{Key, Sums, ListCoordinates, ListPositions}
use Rattle.kernel_code.specs.declared.syntax.LoopKind.{LoopKind}
use Rattle.kernel_code.specs.declared.syntax.KStmt.{KStmt, Set, Combine, Put, AddTo, Push, Extend, Cut, Sort, SortSum, If', While'}
use Rattle.kernel_code.specs.declared.syntax.KStmt.{Row_of-KStmt, end_of-KStmt, more_of-KStmt}
use Rattle.kernel_code.specs.Arrays.{same_arr, may_write, may_cut, may_have, told_count}
use Rattle.kernel_code.specs.Rows.{Row}
use Rattle.kernel_code.specs.Meaning.{Setting, State, Outcome, Ended, Stuck, Over, More, value, apply_each, combined, one_turn, then_run}
use Rattle.kernel_code.specs.Meaning.{behind, statements_in, statements_in_row, choice, run_turns, run, run_row, run_list, add_outcome}
use Rattle.kernel_code.specs.Meaning.{push_outcome, extend_outcome, cut_outcome, sort_outcome, sort_sum_outcome, summed, set_columns}
use Rattle.kernel_code.specs.Meaning.{key_columns, with_value, with_array, if_written, changed, set_var, set_array}
use Rattle.kernel_code.proofs.ArrayNames.{same_arr_is}
use Rattle.kernel_code.proofs.Does.{cut_is_written}
use Rattle.kernel_code.proofs.Keeps.{other_array}
use Rattle.simplifier.specs.Refines.{plain}
use Rattle.simplifier.specs.Same.{unnumbered}
use Rattle.store_facts.specs.declared.facts.StoreFact.{StoreFact}
use Rattle.store_facts.specs.Facts.{KeepsFacts}
use Rattle.store_facts.proofs.FactLemmas.{facts_kept}

-- the facts hold where a run ends
abbrev pub KeptAfter : List StoreFact → Outcome → Type 0
KeptAfter F (Ended s) = KeepsFacts F s
KeptAfter F (Stuck t statement) = Unit {0}
KeptAfter F (Over t a count) = Unit {0}
KeptAfter F More = Unit {0}

apart : (b : Bool) (a d : Arr) → may_write a ≡ true → may_write d ≡ false → same_arr a d ≡ b → b ≡ false
apart true a d w r h = let is = same_arr_is a d h in let both : may_write a ≡ may_write d = ap may_write is in cc
apart false a d w r h = refl

pub variable_kept : (F : List StoreFact) (s : State) (x v : ℕ) → KeepsFacts F s → KeepsFacts F (set_var s x v)
variable_kept F s x v k = facts_kept F s (set_var s x v) (λ a fixed. refl) k

pub turn_kept : (F : List StoreFact) (s : State) (k : LoopKind) → KeepsFacts F s → KeepsFacts F (one_turn s k)
turn_kept F s k h = facts_kept F s (one_turn s k) (λ a fixed. refl) h

written_kept : (F : List StoreFact) (s : State) (a : Arr) (xs : List ℕ) → may_write a ≡ true → KeepsFacts F s
    → KeepsFacts F (set_array s a xs)
written_kept F s a xs w k =
    facts_kept F s (set_array s a xs) (λ d fixed. other_array s a d xs (apart (same_arr a d) a d w fixed refl)) k

pub then_kept : (F : List StoreFact) (o : Outcome) (f : State → Outcome) → KeptAfter F o
    → ((s : State) → KeepsFacts F s → KeptAfter F (f s)) → KeptAfter F (then_run o f)
then_kept F (Ended s) f k h = h s k
then_kept F (Stuck t statement) f k h = tt
then_kept F (Over t a count) f k h = tt
then_kept F More f k h = tt

behind_kept : (F : List StoreFact) (n : ℕ) (o : Outcome) → KeptAfter F o → KeptAfter F (behind n o)
behind_kept F n (Ended s) h = h
behind_kept F n (Stuck t statement) h = h
behind_kept F n (Over t a count) h = h
behind_kept F n More h = h

with_kept : (F : List StoreFact) (s : State) (p : Option ℕ) (f : ℕ → Outcome) → ((v : ℕ) → KeptAfter F (f v))
    → KeptAfter F (with_value s p f)
with_kept F s None f h = tt
with_kept F s (Some v) f h = h v

array_kept : (F : List StoreFact) (s : State) (b : Bool) (xs : Option (List ℕ)) (next : List ℕ → Outcome)
    → (b ≡ true → (ys : List ℕ) → KeptAfter F (next ys)) → KeptAfter F (if_written s b xs next)
array_kept F s false xs next h = tt
array_kept F s true None next h = tt
array_kept F s true (Some xs) next h = h refl xs

changed_kept : (F : List StoreFact) (s : State) (b : Bool) (o : State) → KeepsFacts F o
    → KeptAfter F (if b then Ended o else Stuck s.turns 1)
changed_kept F s true o k = k
changed_kept F s false o k = tt

grown_kept : (F : List StoreFact) (b : Bool) (o : State) (t : LoopKind → ℕ) (a : Arr) (count : ℕ) → KeepsFacts F o
    → KeptAfter F (if b then Ended o else Over t a count)
grown_kept F true o t a count k = k
grown_kept F false o t a count k = tt

sorted_kept : (F : List StoreFact) (s : State) (g : ℕ) (cs ps : Option (List ℕ)) → KeepsFacts F s → KeptAfter F (sort_outcome s g cs ps)
sorted_kept F s g None ps k = tt
sorted_kept F s g (Some cs) None k = tt
sorted_kept F s g (Some cs) (Some ps) k =
    changed_kept F s (length cs == length ps) _
    (written_kept F _ (ListPositions g) _ refl (written_kept F s (ListCoordinates g) _ refl k))

columns_kept : (F : List StoreFact) (s : State) (w : ℕ) (rows : List Row) (n : ℕ) → KeepsFacts F s → KeepsFacts F (set_columns s w rows n)
columns_kept F s w rows zero k = k
columns_kept F s w rows (suc n) k = written_kept F (set_columns s w rows n) (Key w n) _ refl (columns_kept F s w rows n k)

summed_kept : (F : List StoreFact) (a : Arithmetic) (s : State) (w keys : ℕ) (vs : List ℕ) (columns : Option (List (List ℕ)))
    → KeepsFacts F s → KeptAfter F (summed a s w keys vs columns)
summed_kept F a s w keys vs None k = tt
summed_kept F a s w keys vs (Some columns) k = written_kept F _ (Sums w) _ refl (columns_kept F s w _ keys k)

sort_sum_kept : (F : List StoreFact) (a : Arithmetic) (s : State) (w : ℕ) (keys : Option ℕ) (vs : Option (List ℕ)) → KeepsFacts F s
    → KeptAfter F (sort_sum_outcome a s w keys vs)
sort_sum_kept F a s w None vs k = tt
sort_sum_kept F a s w (Some keys) None k = tt
sort_sum_kept F a s w (Some keys) (Some vs) k = summed_kept F a s w keys vs (key_columns s w (length vs) keys) k

choice_kept : (F : List StoreFact) (s : State) (p : Option ℕ) (first second : Outcome) → KeptAfter F first → KeptAfter F second
    → KeptAfter F (choice s p first second)
choice_kept F s None first second there elsewhere = tt
choice_kept F s (Some zero) first second there elsewhere = elsewhere
choice_kept F s (Some (suc v)) first second there elsewhere = there

turns_kept : (F : List StoreFact) (n : ℕ) (k : LoopKind) (test : State → Option ℕ) (body : State → Outcome)
    → ((s : State) → KeepsFacts F s → KeptAfter F (body s)) → (s : State) → KeepsFacts F s → KeptAfter F (run_turns n k test body s)
turns_kept F zero k test body h s kept = choice_kept F s (test s) More (Ended s) tt kept
turns_kept F (suc n) k test body h s kept =
    choice_kept F s (test s) (then_run (body (one_turn s k)) (run_turns n k test body)) (Ended s)
    (then_kept F (body (one_turn s k)) (run_turns n k test body) (h (one_turn s k) (turn_kept F s k kept))
    (turns_kept F n k test body h)) kept

mutual
  run_kept : (F : List StoreFact) (c : Setting) (n : ℕ) (k : KStmt) (s : State) → KeepsFacts F s → KeptAfter F (run c n k s)
  run_kept F c n (Set x e) s h = with_kept F s (value e s) (λ v. Ended (set_var s x v)) (λ v. variable_kept F s x v h)
  run_kept F c n (Combine x o e f) s h =
      with_kept F s (apply_each (combined c.arithmetic o) (value e s) (value f s)) (λ v. Ended (set_var s x v))
      (λ v. variable_kept F s x v h)
  run_kept F c n (Put a i e) s h =
      with_kept F s (value i s) (λ i. with_value s (value e s) (λ v. with_array s a (changed s a i (λ old. v))))
      (λ m. with_kept F s (value e s) (λ v. with_array s a (changed s a m (λ old. v)))
      (λ v. array_kept F s (may_write a) (s.arrays a) (changed s a m (λ old. v))
      (λ w ys. changed_kept F s (nat_lt m (length ys)) (set_array s a (slice_set ys m v)) (written_kept F s a (slice_set ys m v) w h))))
  run_kept F c n (AddTo a i e) s h =
      with_kept F s (value i s) (λ i. add_outcome c.arithmetic s a (Some i) (value e s))
      (λ m. with_kept F s (value e s) (λ v. add_outcome c.arithmetic s a (Some m) (Some v))
      (λ v. array_kept F s (may_write a) (s.arrays a) _
      (λ w ys. changed_kept F s (nat_lt m (length ys)) _ (written_kept F s a _ w h))))
  run_kept F c n (Push a e) s h =
      with_kept F s (value e s) (λ v. push_outcome s a (Some v))
      (λ v. array_kept F s (may_write a) (s.arrays a) _
      (λ w ys. grown_kept F (may_have a (length ys + 1)) _ s.turns a (told_count a (length ys + 1))
      (written_kept F s a (ys ++ v ∷ []) w h)))
  run_kept F c n (Extend a i e) s h =
      with_kept F s (value i s) (λ i. extend_outcome s a (Some i) (value e s))
      (λ m. with_kept F s (value e s) (λ v. extend_outcome s a (Some m) (Some v))
      (λ v. array_kept F s (may_write a) (s.arrays a) _
      (λ w ys. grown_kept F (may_have a (length ys + m)) _ s.turns a (told_count a (length ys + m))
      (written_kept F s a (ys ++ replicate m v) w h))))
  run_kept F c n (Cut a e) s h =
      with_kept F s (value e s) (λ v. cut_outcome c.cuts_results s a (Some v))
      (λ v. array_kept F s (may_cut c.cuts_results a) (s.arrays a) _
      (λ w ys. written_kept F s a _ (cut_is_written c.cuts_results a w) h))
  run_kept F c n (Sort g) s h = sorted_kept F s g (s.arrays (ListCoordinates g)) (s.arrays (ListPositions g)) h
  run_kept F c n (SortSum w) s h = sort_sum_kept F c.arithmetic s w (slice_get c.workspaces w) (s.arrays (Sums w)) h
  run_kept F c n (If' e p first q second) s h =
      choice_kept F s (value e s) (behind 1 (run_row c n first s)) (behind (1 + statements_in_row first) (run_row c n second s))
      (behind_kept F 1 (run_row c n first s) (row_kept F c n first s h))
      (behind_kept F (1 + statements_in_row first) (run_row c n second s) (row_kept F c n second s h))
  run_kept F c n (While' k e p body) s h =
      turns_kept F n k (value e) (λ s'. behind 1 (run_row c n body s'))
      (λ s' h'. behind_kept F 1 (run_row c n body s') (row_kept F c n body s' h')) s h

  row_kept : {m : _} (F : List StoreFact) (c : Setting) (n : ℕ) (row : Row_of-KStmt m) (s : State) → KeepsFacts F s
      → KeptAfter F (run_row c n row s)
  row_kept F c n end_of-KStmt s h = h
  row_kept F c n (more_of-KStmt k rest) s h =
      then_kept F (run c n k s) (λ s'. behind (statements_in k) (run_row c n rest s')) (run_kept F c n k s h)
      (λ s' h'. behind_kept F (statements_in k) (run_row c n rest s') (row_kept F c n rest s' h'))

list_kept : (F : List StoreFact) (c : Setting) (n : ℕ) (code : List KStmt) (s : State) → KeepsFacts F s → KeptAfter F (run_list c n code s)
list_kept F c n [] s h = h
list_kept F c n (k ∷ rest) s h =
    then_kept F (run c n k s) (λ s'. behind (statements_in k) (run_list c n rest s')) (run_kept F c n k s h)
    (λ s' h'. behind_kept F (statements_in k) (run_list c n rest s') (list_kept F c n rest s' h'))

unnumbered_kept : (F : List StoreFact) (o : Outcome) → KeptAfter F o → KeptAfter F (unnumbered o)
unnumbered_kept F (Ended s) h = h
unnumbered_kept F (Stuck t statement) h = h
unnumbered_kept F (Over t a count) h = h
unnumbered_kept F More h = h

-- a run of code keeps facts
pub code_keeps : (F : List StoreFact) (c : Setting) (n : ℕ) (code : List KStmt) (s : State) → KeepsFacts F s
    → KeptAfter F (plain c n code s)
code_keeps F c n code s h = unnumbered_kept F (run_list c n code s) (list_kept F c n code s h)
