-- Runs of a column: where they begin, and their numbers.
use Rattle.std.specs.Prelude.{◌≡◌, ◌≢◌, ℕ, zero, suc, ◌+◌, ◌-◌, ◌≤◌, ◌<◌, ◌==◌, not, Bool, true, false, if◌then◌else◌, List, length}
use Rattle.std.specs.Prelude.{take, drop, slice_index, refl}
use Rattle.std.proofs.Common.{◌∙◌, sym, ap, subst, arith}
use Rattle.std.proofs.lemmas.Bool.Decides.{nat_tests}
use Rattle.std.proofs.lemmas.List.{ext_get_or, length-take-le, length-drop, get_or-take, get_or-drop}
use Rattle.std.proofs.lemmas.List.FromFn.{length-map-range_with_len, get_or-map-range_with_len}
use Rattle.level_rows.specs.Rows.{Keys, begun, place}
use Rattle.level_rows.specs.Runs.{begins_run, run_numbers, told_by, AreRuns}
use Rattle.level_rows.proofs.RowLaws.{begun_few}

away : (a b : ℕ) → a ≢ b → (a == b) ≡ false
away a b h = grind (arith, nat_tests, h)

here : (a b : ℕ) → a ≡ b → (a == b) ≡ true
here a b h = grind (arith, nat_tests, h)

-- a row that differs from the row before begins a run, and one that doesn't goes on with that row's
pub run_begins : (column : List ℕ) (i : ℕ) → slice_index column i ≢ slice_index column (suc i) → begins_run column (suc i) ≡ true
run_begins column i other = ap not (away (slice_index column i) (slice_index column (suc i)) other)

pub run_goes_on : (column : List ℕ) (i : ℕ) → slice_index column i ≡ slice_index column (suc i) → begins_run column (suc i) ≡ false
run_goes_on column i same = ap not (here (slice_index column i) (slice_index column (suc i)) same)

-- the same of the row that follows one, by the two coordinates
pub begins_next : (column : List ℕ) (k before word : ℕ) → before ≡ slice_index column k → word ≡ slice_index column (k + 1)
    → word ≢ before → begins_run column (k + 1) ≡ true
begins_next column k before word last at other =
    let next : suc k ≡ k + 1 = omega arith in
    subst (λ n. begins_run column n ≡ true) next
    (run_begins column k (λ equal. other (at ∙ sym (ap (slice_index column) next) ∙ sym equal ∙ sym last)))

pub goes_on_next : (column : List ℕ) (k before word : ℕ) → before ≡ slice_index column k → word ≡ slice_index column (k + 1)
    → word ≡ before → begins_run column (k + 1) ≡ false
goes_on_next column k before word last at same =
    let next : suc k ≡ k + 1 = omega arith in
    subst (λ n. begins_run column n ≡ false) next (run_goes_on column k (sym last ∙ sym same ∙ at ∙ sym (ap (slice_index column) next)))

pub one_begun : (first : ℕ → Bool) (n : ℕ) → first n ≡ true → begun first (suc n) ≡ begun first n + 1
one_begun first n h = ap (λ b. if b then begun first n + 1 else begun first n) h

pub none_begun : (first : ℕ → Bool) (n : ℕ) → first n ≡ false → begun first (suc n) ≡ begun first n
none_begun first n h = ap (λ b. if b then begun first n + 1 else begun first n) h

-- no more runs begin than there are rows
pub few_begun : (first : ℕ → Bool) (n : ℕ) → begun first n ≤ n
few_begun first n = begun_few (record { count = n; parent = λ i. 0; coord = λ i. 0; first = first }) n

pub begun_same : (f g : ℕ → Bool) (n : ℕ) → ((i : ℕ) → i < n → f i ≡ g i) → begun f n ≡ begun g n
begun_same f g zero same = refl
begun_same f g (suc n) same =
    ap (λ b. if b then begun f n + 1 else begun f n) (same n (omega arith))
    ∙ ap (λ m. if g n then m + 1 else m) (begun_same f g n (λ i h. same i (omega (arith, h))))

-- the rows from one to before another have its coordinate
abbrev pub IsRunOf : List ℕ → ℕ → ℕ → Type 0
IsRunOf column first end = (i : ℕ) → first ≤ i → i < end → slice_index column i ≡ slice_index column first

module _ (column : List ℕ) (first end : ℕ) (same : IsRunOf column first end) where
  -- none of them but the first begins a run
  inside : (i : ℕ) → first ≤ i → suc i < end → begins_run column (suc i) ≡ false
  inside i from h = run_goes_on column i (same i from (omega (arith, h)) ∙ sym (same (suc i) (omega (arith, from)) h))

  begun_within : (k : ℕ) → first + suc k ≤ end → begun (begins_run column) (first + suc k) ≡ begun (begins_run column) (suc first)
  begun_within zero h = ap (begun (begins_run column)) (let is : first + 1 ≡ suc first = omega arith in is)
  begun_within (suc k) h =
      let is : first + suc (suc k) ≡ suc (suc (first + k)) = omega arith in
      let back : suc (first + k) ≡ first + suc k = omega arith in
      ap (begun (begins_run column)) is
      ∙ none_begun (begins_run column) (suc (first + k)) (inside (first + k) (omega arith) (omega (arith, h)))
      ∙ ap (begun (begins_run column)) back ∙ begun_within k (omega (arith, h))

  pub begun_run : (i : ℕ) → first < i → i ≤ end → begun (begins_run column) i ≡ begun (begins_run column) (suc first)
  begun_run i more h =
      let is : i ≡ first + suc (i - suc first) = omega (arith, more) in
      ap (begun (begins_run column)) is ∙ begun_within (i - suc first) (omega (arith, more, h))

  -- another coordinate behind them begins one
  pub next_begins : first < end → slice_index column end ≢ slice_index column first → begins_run column end ≡ true
  next_begins some other =
      let before : suc (end - 1) ≡ end = omega (arith, some) in
      subst (λ n. begins_run column n ≡ true) before
      (run_begins column (end - 1) (λ equal. other (sym (ap (slice_index column) before) ∙ sym equal
      ∙ same (end - 1) (omega (arith, some)) (omega (arith, some)))))

-- of the rows before this one, which is the first of a run if it is one, so many begin runs
pub record RunsTo (column : List ℕ) (done run : ℕ) : Type 0 where
  pub count : run ≡ begun (begins_run column) done
  pub start : done < length column → begins_run column done ≡ true

pub no_runs : (column : List ℕ) → RunsTo column 0 0
no_runs column = record { count = refl; start = λ h. refl }

pub runs_few : (column : List ℕ) (done run : ℕ) → RunsTo column done run → run ≤ done
runs_few column done run r = let few = few_begun (begins_run column) done in let is = r.count in omega (arith, few, is)

pub run_more : (column : List ℕ) (done run end : ℕ) → RunsTo column done run → done < length column → done < end
    → IsRunOf column done end → (end < length column → slice_index column end ≢ slice_index column done) → RunsTo column end (run + 1)
run_more column done run end r within some same next = record {
  count =
      let all = begun_run column done end same end some (omega arith) in
      let one = one_begun (begins_run column) done (r.start within) in
      let is = r.count in
      omega (arith, all, one, is);
  start = λ h. next_begins column done end same some (next h);
}

pub number_at : (column : List ℕ) (i : ℕ) → i < length column → slice_index (run_numbers column) i ≡ place (begins_run column) i
number_at column i h = get_or-map-range_with_len (place (begins_run column)) 0 (length column) i i 0 h (omega arith)

pub numbers_long : (column : List ℕ) → length (run_numbers column) ≡ length column
numbers_long column = length-map-range_with_len (place (begins_run column)) 0 (length column)

pub told_long : (counted : Bool) (column : List ℕ) → length (told_by counted column) ≡ length column
told_long true column = numbers_long column
told_long false column = refl

-- what a column tells of a run's first row
pub told_here : (counted : Bool) (column : List ℕ) (done run : ℕ) → RunsTo column done run → done < length column
    → (if counted then run else slice_index column done) ≡ slice_index (told_by counted column) done
told_here true column done run r h =
    let one = one_begun (begins_run column) done (r.start h) in
    let is = r.count in
    let place_is : run ≡ place (begins_run column) done = omega (arith, one, is) in
    place_is ∙ sym (number_at column done h)
told_here false column done run r h = refl

-- it tells the same of its others
pub told_same : (counted : Bool) (column : List ℕ) (first end : ℕ) → first < end → end ≤ length column → IsRunOf column first end
    → IsRunOf (told_by counted column) first end
told_same true column first end some within same i from h =
    number_at column i (omega (arith, h, within))
    ∙ ap (λ n. n - 1) (begun_run column first end same (suc i) (omega (arith, from)) (omega (arith, h)))
    ∙ sym (number_at column first (omega (arith, some, within)))
told_same false column first end some within same i from h = same i from h

-- as many positions are begun as there are runs
pub runs_begun : (keys : Keys) (column : List ℕ) (count : ℕ) → AreRuns keys column → length column ≡ keys.count
    → count ≡ begun (begins_run column) (length column) → count ≡ begun keys.first keys.count
runs_begun keys column count runs long is = is ∙ ap (begun (begins_run column)) long
    ∙ sym (begun_same keys.first (begins_run column) keys.count runs)

-- a list that has each row's position where rows begin positions by runs
pub numbers_are : (keys : Keys) (column places : List ℕ) → AreRuns keys column → length column ≡ keys.count → length places ≡ keys.count
    → ((i : ℕ) → i < keys.count → slice_index places i ≡ place keys.first i) → places ≡ run_numbers column
numbers_are keys column places runs long many at = ext_get_or 0 places (run_numbers column) (many ∙ sym long ∙ sym (numbers_long column))
    (λ i h.
    let inside : i < keys.count = omega (arith, h, many) in
    at i inside
    ∙ ap (λ n. n - 1) (begun_same keys.first (begins_run column) (suc i) (λ j l. runs j (omega (arith, l, inside))))
    ∙ sym (number_at column i (omega (arith, inside, long))))

-- one row more
pub counted_more : (column : List ℕ) (k runs before word : ℕ) → runs ≡ begun (begins_run column) (suc k) → before ≡ slice_index column k
    → word ≡ slice_index column (k + 1) → word ≢ before → runs + 1 ≡ begun (begins_run column) (suc (k + 1))
counted_more column k runs before word is last at other =
    let next : suc k ≡ k + 1 = omega arith in
    let one = one_begun (begins_run column) (k + 1) (begins_next column k before word last at other) in
    let all : runs ≡ begun (begins_run column) (k + 1) = is ∙ ap (begun (begins_run column)) next in
    omega (arith, one, all)

pub counted_same : (column : List ℕ) (k runs before word : ℕ) → runs ≡ begun (begins_run column) (suc k) → before ≡ slice_index column k
    → word ≡ slice_index column (k + 1) → word ≡ before → runs ≡ begun (begins_run column) (suc (k + 1))
counted_same column k runs before word is last at same =
    let next : suc k ≡ k + 1 = omega arith in
    is ∙ ap (begun (begins_run column)) next
    ∙ sym (none_begun (begins_run column) (k + 1) (goes_on_next column k before word last at same))

-- the rows behind the first
pub behind_long : (column : List ℕ) → length (take (length column - 1) (drop 1 column)) ≡ length column - 1
behind_long column = length-take-le (length column - 1) (drop 1 column) (let k = length-drop 1 column in omega (arith, k))

pub behind_at : (column : List ℕ) (k : ℕ) → k < length (take (length column - 1) (drop 1 column))
    → slice_index (take (length column - 1) (drop 1 column)) k ≡ slice_index column (k + 1)
behind_at column k h =
    let next : 1 + k ≡ k + 1 = omega arith in
    get_or-take (length column - 1) (drop 1 column) k 0 (let long = behind_long column in omega (arith, h, long))
    ∙ get_or-drop 1 column k 0 ∙ ap (slice_index column) next
