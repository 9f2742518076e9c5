-- Where arrays of the result may not be cut, none of them gets shorter; and what isn't stuck there does the same where they may.
use Rattle.std.specs.Prelude.{◌≡◌, ℕ, zero, suc, ◌+◌, ◌≤◌, Bool, true, false, nat_lt, if◌then◌else◌, List, [], ◌∷◌, ◌++◌, length, map}
use Rattle.std.specs.Prelude.{take, replicate, Option, Some, None, slice_get, slice_index, slice_set, ◌==◌, refl}
use Rattle.std.proofs.Common.{◌∙◌, sym, ap, subst, arith, length-append}
use Rattle.kernel_code.specs.declared.syntax.Arr.{Arr}
use Rattle.kernel_code.specs.declared.syntax.Arr.TheVariants.{Key, Sums, ListCoordinates, ListPositions}
use Rattle.kernel_code.specs.declared.syntax.LoopKind.{LoopKind}
use Rattle.kernel_code.specs.declared.syntax.KStmt.{KStmt, Set, Combine, Put, AddTo, Push, Extend, Cut, Sort, SortSum, If', While'}
use Rattle.kernel_code.specs.declared.syntax.KStmt.{Row_of-KStmt, end_of-KStmt, more_of-KStmt}
use Rattle.numbers.specs.Arithmetic.{Arithmetic}
use Rattle.kernel_code.specs.Arrays.{same_arr, is_scratch, may_write, may_cut, may_have, sum_in}
use Rattle.kernel_code.specs.Rows.{Row, list_rows, sorted_rows, rows_from, summed_rows}
use Rattle.kernel_code.specs.Meaning.{Setting, State, Outcome, Ended, Stuck, Over, More, value, apply_each, combined, set_array, one_turn}
use Rattle.kernel_code.specs.Meaning.{then_run, with_value, if_written, changed, grown, cut_outcome, sort_outcome, sort_sum_outcome}
use Rattle.kernel_code.specs.Meaning.{summed}
use Rattle.kernel_code.specs.Meaning.{key_columns, set_columns, choice, run_turns, run, run_row, run_list, behind}
use Rattle.kernel_code.specs.Meaning.{statements_in, statements_in_row}
use Rattle.kernel_code.specs.Laws.{NothingIsTakenBack}
use Rattle.kernel_code.specs.More.{IsGood, appending, AppendsAlike}
use Rattle.kernel_code.proofs.ArrayNames.{same_arr_is}
use Rattle.kernel_code.proofs.Does.{scratch_may_be_cut}

-- an array has this many words at least
abbrev IsLonger : Arr → ℕ → State → Type 0
IsLonger a many s = (xs : List ℕ) × (s.arrays a ≡ Some xs) × (many ≤ length xs)

-- so it has where a run ends
abbrev EndsLonger : Arr → ℕ → Outcome → Type 0
EndsLonger a many (Ended s) = IsLonger a many s
EndsLonger a many (Stuck t statement) = Unit {0}
EndsLonger a many (Over t b count) = Unit {0}
EndsLonger a many More = Unit {0}

either : (a : Arr) (many : ℕ) (b : Bool) (x y : Outcome) → EndsLonger a many x → EndsLonger a many y
    → EndsLonger a many (if b then x else y)
either a many true x y h g = h
either a many false x y h g = g

valued : (a : Arr) (many : ℕ) (s : State) (v : Option ℕ) (next : ℕ → Outcome) → ((v : ℕ) → EndsLonger a many (next v))
    → EndsLonger a many (with_value s v next)
valued a many s None next h = tt
valued a many s (Some v) next h = h v

written : (a : Arr) (many : ℕ) (s : State) (b : Bool) (ys : Option (List ℕ)) (next : List ℕ → Outcome)
    → ((xs : List ℕ) → b ≡ true → ys ≡ Some xs → EndsLonger a many (next xs)) → EndsLonger a many (if_written s b ys next)
written a many s false ys next h = tt
written a many s true None next h = tt
written a many s true (Some xs) next h = h xs refl refl

set_longer : (a b : Arr) (many : ℕ) (s : State) (zs : List ℕ) → (same_arr b a ≡ true → many ≤ length zs) → IsLonger a many s
    → IsLonger a many (set_array s b zs)
set_longer a b many s zs more (xs, is, l) = by_name (same_arr b a) refl
  where
    by_name : (same : Bool) → same_arr b a ≡ same → IsLonger a many (set_array s b zs)
    by_name true h = (zs, ap (λ t. if t then Some zs else s.arrays a) h, more h)
    by_name false h = (xs, ap (λ t. if t then Some zs else s.arrays a) h ∙ is, l)

-- an array that is written in place of words that are apart more
written_longer : (a b : Arr) (many : ℕ) (s : State) (ys zs : List ℕ) → s.arrays b ≡ Some ys → length ys ≤ length zs → IsLonger a many s
    → IsLonger a many (set_array s b zs)
written_longer a b many s ys zs there more (xs, is, l) = set_longer a b many s zs same (xs, is, l)
  where
    words : (xs ys : List ℕ) → Some xs ≡ Some ys → length xs ≡ length ys
    words xs ys h = let e : xs ≡ ys = cc h in ap length e

    same : same_arr b a ≡ true → many ≤ length zs
    same h =
        let one = words xs ys (sym is ∙ sym (ap s.arrays (same_arr_is b a h)) ∙ there) in
        omega (arith, one, more, l)

-- an array of a workspace or a scratch list is another one
scratch_longer : (a b : Arr) (many : ℕ) (s : State) (zs : List ℕ) → is_scratch a ≡ false → is_scratch b ≡ true → IsLonger a many s
    → IsLonger a many (set_array s b zs)
scratch_longer a b many s zs apart scratch l =
    set_longer a b many s zs (λ h. let e = ap is_scratch (same_arr_is b a h) in absurd (differ (sym apart ∙ sym e ∙ scratch))) l
  where
    differ : false ≡ true → ⊥
    differ h = cc h

length_set : (xs : List ℕ) (i v : ℕ) → length (slice_set xs i v) ≡ length xs
length_set [] i v = refl
length_set (x ∷ xs) zero v = refl
length_set (x ∷ xs) (suc i) v = ap suc (length_set xs i v)

columns_longer : (a : Arr) (many : ℕ) (s : State) (w : ℕ) (rows : List Row) (n : ℕ) → is_scratch a ≡ false → IsLonger a many s
    → IsLonger a many (set_columns s w rows n)
columns_longer a many s w rows zero apart l = l
columns_longer a many s w rows (suc n) apart l =
    scratch_longer a (Key w n) many (set_columns s w rows n) _ apart refl (columns_longer a many s w rows n apart l)

summed_longer : (a : Arr) (many : ℕ) (arithmetic : Arithmetic) (s : State) (w keys : ℕ) (vs : List ℕ) (columns : Option (List (List ℕ)))
    → is_scratch a ≡ false → IsLonger a many s → EndsLonger a many (summed arithmetic s w keys vs columns)
summed_longer a many arithmetic s w keys vs None apart l = tt
summed_longer a many arithmetic s w keys vs (Some columns) apart l =
    let rows = summed_rows arithmetic (rows_from columns 0 vs) in
    scratch_longer a (Sums w) many (set_columns s w rows keys) (map (λ r. r.value) rows) apart refl
    (columns_longer a many s w rows keys apart l)

sort_sum_longer : (a : Arr) (many : ℕ) (arithmetic : Arithmetic) (s : State) (w : ℕ) (keys : Option ℕ) (vs : Option (List ℕ))
    → is_scratch a ≡ false → IsLonger a many s → EndsLonger a many (sort_sum_outcome arithmetic s w keys vs)
sort_sum_longer a many arithmetic s w None vs apart l = tt
sort_sum_longer a many arithmetic s w (Some keys) None apart l = tt
sort_sum_longer a many arithmetic s w (Some keys) (Some vs) apart l =
    summed_longer a many arithmetic s w keys vs (key_columns s w (length vs) keys) apart l

sort_longer : (a : Arr) (many : ℕ) (s : State) (g : ℕ) (cs ps : Option (List ℕ)) → is_scratch a ≡ false → IsLonger a many s
    → EndsLonger a many (sort_outcome s g cs ps)
sort_longer a many s g None ps apart l = tt
sort_longer a many s g (Some cs) None apart l = tt
sort_longer a many s g (Some cs) (Some ps) apart l =
    let rows = sorted_rows (list_rows cs ps) in
    let first = set_array s (ListCoordinates g) (map (λ r. r.coordinate) rows) in
    let both = set_array first (ListPositions g) (map (λ r. r.position) rows) in
    either a many (length cs == length ps) (Ended both) (Stuck s.turns 1)
    (scratch_longer a (ListPositions g) many first (map (λ r. r.position) rows) apart refl
    (scratch_longer a (ListCoordinates g) many s (map (λ r. r.coordinate) rows) apart refl l)) tt

changed_longer : (a b : Arr) (many : ℕ) (s : State) (i : ℕ) (f : ℕ → ℕ) (ys : List ℕ) → s.arrays b ≡ Some ys → IsLonger a many s
    → EndsLonger a many (changed s b i f ys)
changed_longer a b many s i f ys there l =
    either a many (nat_lt i (length ys)) _ _
    (written_longer a b many s ys _ there (let e = length_set ys i (f (slice_index ys i)) in omega (arith, e)) l) tt

grown_longer : (a b : Arr) (many : ℕ) (s : State) (count : ℕ) (ys more : List ℕ) → s.arrays b ≡ Some ys → IsLonger a many s
    → EndsLonger a many (grown s b count ys more)
grown_longer a b many s count ys more there l =
    either a many (may_have b count) _ _
    (written_longer a b many s ys _ there (let e = length-append ys more in omega (arith, e)) l) tt

then_longer : (a : Arr) (many : ℕ) (o : Outcome) (next : State → Outcome) → EndsLonger a many o
    → ((s : State) → IsLonger a many s → EndsLonger a many (next s)) → EndsLonger a many (then_run o next)
then_longer a many (Ended s) next h g = g s h
then_longer a many (Stuck t statement) next h g = tt
then_longer a many (Over t b count) next h g = tt
then_longer a many More next h g = tt

behind_longer : (a : Arr) (many k : ℕ) (o : Outcome) → EndsLonger a many o → EndsLonger a many (behind k o)
behind_longer a many k (Ended s) h = h
behind_longer a many k (Stuck t statement) h = tt
behind_longer a many k (Over t b count) h = tt
behind_longer a many k More h = tt

choice_longer : (a : Arr) (many : ℕ) (s : State) (v : Option ℕ) (first second : Outcome) → EndsLonger a many first
    → EndsLonger a many second → EndsLonger a many (choice s v first second)
choice_longer a many s None first second f g = tt
choice_longer a many s (Some zero) first second f g = g
choice_longer a many s (Some (suc v)) first second f g = f

turns_longer : (a : Arr) (many n : ℕ) (k : LoopKind) (test : State → Option ℕ) (body : State → Outcome)
    → ((s : State) → IsLonger a many s → EndsLonger a many (body s)) → (s : State) → IsLonger a many s
    → EndsLonger a many (run_turns n k test body s)
turns_longer a many zero k test body h s l = choice_longer a many s (test s) More (Ended s) tt l
turns_longer a many (suc n) k test body h s l =
    choice_longer a many s (test s) (then_run (body (one_turn s k)) (run_turns n k test body)) (Ended s)
    (then_longer a many (body (one_turn s k)) (run_turns n k test body) (h (one_turn s k) l) (turns_longer a many n k test body h)) l

module _ (a : Arr) (apart : is_scratch a ≡ false) (many : ℕ) (c : Setting) (kept : c.cuts_results ≡ false) (n : ℕ) where
  cut_longer : (b : Arr) (s : State) (m : ℕ) (ys : List ℕ) → may_cut c.cuts_results b ≡ true → IsLonger a many s
      → IsLonger a many (set_array s b (take m ys))
  cut_longer b s m ys may l = scratch_longer a b many s (take m ys) apart (sym (ap (λ cuts. may_cut cuts b) kept) ∙ may) l

  mutual
    run_longer : (s : KStmt) (st : State) → IsLonger a many st → EndsLonger a many (run c n s st)
    run_longer (Set x e) st l = valued a many st (value e st) _ (λ v. l)
    run_longer (Combine x o e f) st l = valued a many st (apply_each (combined c.arithmetic o) (value e st) (value f st)) _ (λ v. l)
    run_longer (Put b i e) st l =
        valued a many st (value i st) _
        (λ i. valued a many st (value e st) _
        (λ v. written a many st (may_write b) (st.arrays b) _ (λ ys may there. changed_longer a b many st i (λ old. v) ys there l)))
    run_longer (AddTo b i e) st l =
        valued a many st (value i st) _
        (λ i. valued a many st (value e st) _
        (λ v. written a many st (may_write b) (st.arrays b) _
        (λ ys may there. changed_longer a b many st i (λ old. sum_in c.arithmetic b old v) ys there l)))
    run_longer (Push b e) st l =
        valued a many st (value e st) _
        (λ v. written a many st (may_write b) (st.arrays b) _ (λ ys may there. grown_longer a b many st _ ys _ there l))
    run_longer (Extend b count e) st l =
        valued a many st (value count st) _
        (λ m. valued a many st (value e st) _
        (λ v. written a many st (may_write b) (st.arrays b) _ (λ ys may there. grown_longer a b many st _ ys _ there l)))
    run_longer (Cut b e) st l =
        valued a many st (value e st) _
        (λ m. written a many st (may_cut c.cuts_results b) (st.arrays b) _ (λ ys may there. cut_longer b st m ys may l))
    run_longer (Sort g) st l = sort_longer a many st g (st.arrays (ListCoordinates g)) (st.arrays (ListPositions g)) apart l
    run_longer (SortSum w) st l =
        sort_sum_longer a many c.arithmetic st w (slice_get c.workspaces w) (st.arrays (Sums w)) apart l
    run_longer (If' e p first q second) st l =
        choice_longer a many st (value e st) (behind 1 (run_row c n first st))
        (behind (1 + statements_in_row first) (run_row c n second st))
        (behind_longer a many 1 (run_row c n first st) (row_longer first st l))
        (behind_longer a many (1 + statements_in_row first) (run_row c n second st) (row_longer second st l))
    run_longer (While' k e p body) st l =
        turns_longer a many n k (value e) (λ s'. behind 1 (run_row c n body s'))
        (λ s' l. behind_longer a many 1 (run_row c n body s') (row_longer body s' l)) st l

    row_longer : {m : _} (row : Row_of-KStmt m) (st : State) → IsLonger a many st → EndsLonger a many (run_row c n row st)
    row_longer end_of-KStmt st l = l
    row_longer (more_of-KStmt s rest) st l =
        then_longer a many (run c n s st) (λ st'. behind (statements_in s) (run_row c n rest st')) (run_longer s st l)
        (λ st' l. behind_longer a many (statements_in s) (run_row c n rest st') (row_longer rest st' l))

  list_longer : (code : List KStmt) (st : State) → IsLonger a many st → EndsLonger a many (run_list c n code st)
  list_longer [] st l = l
  list_longer (s ∷ rest) st l =
      then_longer a many (run c n s st) (λ st'. behind (statements_in s) (run_list c n rest st')) (run_longer s st l)
      (λ st' l. behind_longer a many (statements_in s) (run_list c n rest st') (list_longer rest st' l))

pub nothing_is_taken_back : NothingIsTakenBack
nothing_is_taken_back c kept n code s s' ends a apart xs there =
    subst (EndsLonger a (length xs)) ends (list_longer a apart (length xs) c kept n code s (xs, there, omega arith))

cut_alike : (cuts : Bool) (s : State) (b : Arr) (v : Option ℕ) → IsGood (cut_outcome false s b v)
    → cut_outcome cuts s b v ≡ cut_outcome false s b v
cut_alike cuts s b None good = refl
cut_alike cuts s b (Some m) good = from (is_scratch b) refl good
  where
    next : List ℕ → Outcome
    next = λ ys. Ended (set_array s b (take m ys))

    from : (may : Bool) → is_scratch b ≡ may → IsGood (if_written s may (s.arrays b) next)
        → if_written s (may_cut cuts b) (s.arrays b) next ≡ if_written s (is_scratch b) (s.arrays b) next
    from true is good = ap (λ may. if_written s may (s.arrays b) next) (scratch_may_be_cut cuts b is ∙ sym is)
    from false is good = absurd good

then_alike : (o p : Outcome) (next next' : State → Outcome) → (IsGood o → p ≡ o) → ((s : State) → IsGood (next s) → next' s ≡ next s)
    → IsGood (then_run o next) → then_run p next' ≡ then_run o next
then_alike (Ended s) p next next' h g good = ap (λ o. then_run o next') (h tt) ∙ g s good
then_alike (Stuck t statement) p next next' h g good = absurd good
then_alike (Over t a count) p next next' h g good = ap (λ o. then_run o next') (h tt)
then_alike More p next next' h g good = ap (λ o. then_run o next') (h tt)

behind_alike : (k : ℕ) (o p : Outcome) → (IsGood o → p ≡ o) → IsGood (behind k o) → behind k p ≡ behind k o
behind_alike k (Ended s) p h good = ap (behind k) (h tt)
behind_alike k (Stuck t statement) p h good = absurd good
behind_alike k (Over t a count) p h good = ap (behind k) (h tt)
behind_alike k More p h good = ap (behind k) (h tt)

choice_alike : (s : State) (v : Option ℕ) (f f' g g' : Outcome) → (IsGood f → f' ≡ f) → (IsGood g → g' ≡ g) → IsGood (choice s v f g)
    → choice s v f' g' ≡ choice s v f g
choice_alike s None f f' g g' a b good = refl
choice_alike s (Some zero) f f' g g' a b good = b good
choice_alike s (Some (suc v)) f f' g g' a b good = a good

turns_alike : (n : ℕ) (k : LoopKind) (test : State → Option ℕ) (body body' : State → Outcome)
    → ((s : State) → IsGood (body s) → body' s ≡ body s) → (s : State) → IsGood (run_turns n k test body s)
    → run_turns n k test body' s ≡ run_turns n k test body s
turns_alike zero k test body body' h s good = refl
turns_alike (suc n) k test body body' h s good =
    choice_alike s (test s) (then_run (body (one_turn s k)) (run_turns n k test body))
    (then_run (body' (one_turn s k)) (run_turns n k test body')) (Ended s) (Ended s)
    (then_alike (body (one_turn s k)) (body' (one_turn s k)) (run_turns n k test body) (run_turns n k test body') (h (one_turn s k))
    (turns_alike n k test body body' h)) (λ e. refl) good

module _ (c : Setting) (n : ℕ) where
  abbrev d : Setting
  d = appending c

  mutual
    run_alike : (s : KStmt) (st : State) → IsGood (run d n s st) → run c n s st ≡ run d n s st
    run_alike (Set x e) st good = refl
    run_alike (Combine x o e f) st good = refl
    run_alike (Put b i e) st good = refl
    run_alike (AddTo b i e) st good = refl
    run_alike (Push b e) st good = refl
    run_alike (Extend b count e) st good = refl
    run_alike (Cut b e) st good = cut_alike c.cuts_results st b (value e st) good
    run_alike (Sort g) st good = refl
    run_alike (SortSum w) st good = refl
    run_alike (If' e p first q second) st good =
        let k = 1 + statements_in_row first in
        choice_alike st (value e st) (behind 1 (run_row d n first st)) (behind 1 (run_row c n first st)) (behind k (run_row d n second st))
        (behind k (run_row c n second st)) (behind_alike 1 (run_row d n first st) (run_row c n first st) (row_alike first st))
        (behind_alike k (run_row d n second st) (run_row c n second st) (row_alike second st)) good
    run_alike (While' k e p body) st good =
        turns_alike n k (value e) (λ s'. behind 1 (run_row d n body s')) (λ s'. behind 1 (run_row c n body s'))
        (λ s'. behind_alike 1 (run_row d n body s') (run_row c n body s') (row_alike body s')) st good

    row_alike : {m : _} (row : Row_of-KStmt m) (st : State) → IsGood (run_row d n row st) → run_row c n row st ≡ run_row d n row st
    row_alike end_of-KStmt st good = refl
    row_alike (more_of-KStmt s rest) st good =
        let k = statements_in s in
        then_alike (run d n s st) (run c n s st) (λ st'. behind k (run_row d n rest st')) (λ st'. behind k (run_row c n rest st'))
        (run_alike s st) (λ st'. behind_alike k (run_row d n rest st') (run_row c n rest st') (row_alike rest st')) good

  list_alike : (code : List KStmt) (st : State) → IsGood (run_list d n code st) → run_list c n code st ≡ run_list d n code st
  list_alike [] st good = refl
  list_alike (s ∷ rest) st good =
      let k = statements_in s in
      then_alike (run d n s st) (run c n s st) (λ st'. behind k (run_list d n rest st')) (λ st'. behind k (run_list c n rest st'))
      (run_alike s st) (λ st'. behind_alike k (run_list d n rest st') (run_list c n rest st') (list_alike rest st')) good

pub appends_alike : AppendsAlike
appends_alike c n code s good = list_alike c n code s good
