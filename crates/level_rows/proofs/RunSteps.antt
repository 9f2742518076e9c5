-- The rows of one parent are appended at once, each of which begins a position: what is appended then.
use Rattle.std.specs.Prelude.{◌≡◌, ℕ, suc, ◌+◌, ◌-◌, ◌≤◌, ◌<◌, true, if◌then◌else◌, List, [], ◌∷◌, ◌++◌, length, take}
use Rattle.std.specs.Prelude.{◌⊎◌, drop, slice_index, slice_set, refl}
use Rattle.std.proofs.Common.{◌∙◌, sym, ap, subst, arith, inl, inr}
use Rattle.std.proofs.lemmas.Bool.{cases_lt}
use Rattle.std.proofs.lemmas.List.{append-nil, append_assoc, drop-append-le, length-append, get_or-set_same, get_or-set_other, length-set}
use Rattle.std.proofs.lemmas.List.{length-take-le, length-drop, get_or-take, get_or-drop}
use Rattle.level_core.specs.declared.letter.Letter.{Letter}
use Rattle.level_core.specs.GroupLaws.{CoordsBelow}
use Rattle.level_core.specs.Kinds.{properties}
use Rattle.level_core.specs.Logs.{Log, Rises, IsLog, MayAppendAll, with_coord, with_coords}
use Rattle.level_rows.specs.Rows.{Rows, MayAppendRows}
use Rattle.level_rows.specs.Appending.{AreNumbered, added_log}
use Rattle.level_rows.proofs.Progress.{Progress, Placing}
use Rattle.level_rows.proofs.AppendSteps.{adds}

-- a list has the coordinates of rows in a row, which have this parent and each of which begins a position
pub record IsRun (rows : Rows) (done parent : ℕ) (xs : List ℕ) : Type 0 where
  pub within : done + length xs ≤ rows.count
  pub coord : (j : ℕ) → j < length xs → slice_index xs j ≡ rows.coord (done + j)
  pub parents : (j : ℕ) → j < length xs → rows.parent (done + j) ≡ parent
  pub begin : (j : ℕ) → j < length xs → rows.first (done + j) ≡ true

-- the run without its first row
run_behind : (rows : Rows) (done parent x : ℕ) (xs : List ℕ) → IsRun rows done parent (x ∷ xs) → IsRun rows (suc done) parent xs
run_behind rows done parent x xs r = record {
  within = let w = r.within in omega (arith, w);
  coord = λ j h. r.coord (suc j) (omega (arith, h)) ∙ ap rows.coord (at j);
  parents = λ j h. sym (ap rows.parent (at j)) ∙ r.parents (suc j) (omega (arith, h));
  begin = λ j h. sym (ap rows.first (at j)) ∙ r.begin (suc j) (omega (arith, h));
}
  where
    at : (j : ℕ) → done + suc j ≡ suc done + j
    at j = omega arith

-- the run's first row
run_first : (rows : Rows) (done parent x : ℕ) (xs : List ℕ) → IsRun rows done parent (x ∷ xs)
    → (done < rows.count) × (x ≡ rows.coord done) × (rows.parent done ≡ parent) × (rows.first done ≡ true)
run_first rows done parent x xs r = (
  (let w = r.within in omega (arith, w)),
  r.coord 0 (omega arith) ∙ ap rows.coord at,
  sym (ap rows.parent at) ∙ r.parents 0 (omega arith),
  sym (ap rows.first at) ∙ r.begin 0 (omega arith),
)
  where
    at : done + 0 ≡ done
    at = omega arith

-- coordinates more leave a log one
pub logs_more : (xs : List ℕ) (log : Log) → IsLog log → IsLog (with_coords xs log)
logs_more xs log is = record {
  ahead = is.ahead;
  given = let g = is.given in let long = length-append log.coords xs in omega (arith, g, long);
}

-- the rows of a run are appended
pub runs : (letter : Letter) (size parents done parent begin : ℕ) (rows : Rows) (xs : List ℕ) (log : Log)
    → MayAppendRows letter size parents rows → IsRun rows done parent xs → Progress letter parents done parent begin rows log
    → Progress letter parents (done + length xs) parent begin rows (with_coords xs log)
runs letter size parents done parent begin rows [] log o r p =
    let none : done ≡ done + 0 = omega arith in
    subst (λ n. Progress letter parents n parent begin rows (with_coords [] log)) none
    (subst (λ cs. Progress letter parents done parent begin rows (record log { coords = cs })) (sym (append-nil log.coords)) p)
runs letter size parents done parent begin rows (x ∷ xs) log o r p =
    let first = run_first rows done parent x xs r in
    let log_is : added_log (rows.first done) (rows.coord done) log ≡ with_coord x log =
    ap (λ b. if b then with_coord (rows.coord done) log else log) first.3 ∙ ap (λ y. with_coord y log) (sym first.1) in
    let one : Progress letter parents (suc done) parent begin rows (with_coord x log) =
    subst (Progress letter parents (suc done) parent begin rows) log_is
    (subst (λ q. Progress letter parents (suc done) q begin rows (added_log (rows.first done) (rows.coord done) log)) first.2
    (adds letter size parents done begin rows log o first.0
    (subst (λ q. Progress letter parents done q begin rows log) (sym first.2) p)
    (λ b. subst IsLog (sym log_is) (logs_more (x ∷ []) log (p.given b).is)))) in
    let rest = runs letter size parents (suc done) parent begin rows xs (with_coord x log) o (run_behind rows done parent x xs r) one in
    let same : suc done + length xs ≡ done + suc (length xs) = omega arith in
    subst (λ n. Progress letter parents n parent begin rows (with_coords (x ∷ xs) log)) same
    (subst (λ cs. Progress letter parents (suc done + length xs) parent begin rows (record log { coords = cs }))
    (append_assoc log.coords (x ∷ []) xs) rest)

pub coords_below : (n : ℕ) (xs : List ℕ) → ((j : ℕ) → j < length xs → slice_index xs j < n) → CoordsBelow n xs
coords_below n [] h = tt
coords_below n (x ∷ xs) h = (h 0 (omega arith), coords_below n xs (λ j l. h (suc j) (omega (arith, l))))

-- the coordinates of a run may come
pub may_run : (letter : Letter) (size parents done parent begin : ℕ) (rows : Rows) (xs : List ℕ) (log : Log)
    → MayAppendRows letter size parents rows → IsRun rows done parent xs → Progress letter parents done parent begin rows log
    → MayAppendAll letter size xs log
may_run letter size parents done parent begin rows xs log o r p = record {
  unfinished = p.stage;
  below = coords_below size xs (λ j h.
      let w = r.within in
      let below = o.order.below (done + j) (omega (arith, h, w)) in
      let is = r.coord j h in
      omega (arith, below, is));
  rises = λ b.
      let q = runs letter size parents done parent begin rows xs log o r p in
      let g = p.given b in
      let ends = g.ends in
      let few = g.is.given in
      subst (λ n. Rises (properties letter).unique 0 (drop n log.coords ++ xs)) ends
      (subst (Rises (properties letter).unique 0) (drop-append-le begin log.coords xs (omega (arith, ends, few))) (q.given b).rise);
}

-- rows that have a parent and begin positions, whose coordinates stand in a list, are a run
pub is_run : (rows : Rows) (done end parent : ℕ) (column : List ℕ) → length column ≡ rows.count
    → ((i : ℕ) → i < rows.count → slice_index column i ≡ rows.coord i) → ((i : ℕ) → i < rows.count → rows.first i ≡ true)
    → done ≤ end → end ≤ rows.count → ((i : ℕ) → done ≤ i → i < end → rows.parent i ≡ parent)
    → IsRun rows done parent (take (end - done) (drop done column))
is_run rows done end parent column long at all order within same = record {
  within = omega (arith, many, order, within);
  coord = λ j h. get_or-take (end - done) (drop done column) j 0 (omega (arith, many, h)) ∙ get_or-drop done column j 0
      ∙ at (done + j) (omega (arith, many, h, order, within));
  parents = λ j h. same (done + j) (omega arith) (omega (arith, many, h, order));
  begin = λ j h. all (done + j) (omega (arith, many, h, order, within));
}
  where
    many : length (take (end - done) (drop done column)) ≡ end - done
    many = length-take-le (end - done) (drop done column) (let k = length-drop done column in omega (arith, k, long, within))

-- the rows from one to before another that have its parent are a run
pub run_at : (rows : Rows) (place : ℕ → ℕ) (done end : ℕ) (column positions : List ℕ) → length column ≡ rows.count
    → ((i : ℕ) → i < rows.count → slice_index column i ≡ rows.coord i) → ((i : ℕ) → i < rows.count → rows.first i ≡ true)
    → Placing done rows place positions → done < end → end ≤ length positions
    → ((i : ℕ) → done ≤ i → i < end → slice_index positions i ≡ slice_index positions done)
    → IsRun rows done (rows.parent done) (take (end - done) (drop done column))
run_at rows place done end column positions long at all p some within same =
    is_run rows done end (rows.parent done) column long at all (omega (arith, some)) (omega (arith, within, many))
    (λ i from h. sym (p.ahead i from (omega (arith, h, within, many))) ∙ same i from h
    ∙ p.ahead done (omega arith) (omega (arith, some, within, many)))
  where
    many : length positions ≡ rows.count
    many = p.many

-- how many rows a run has
pub run_length : (done end : ℕ) (column : List ℕ) → done ≤ end → end ≤ length column
    → length (take (end - done) (drop done column)) ≡ end - done
run_length done end column order within =
    length-take-le (end - done) (drop done column) (let k = length-drop done column in omega (arith, k, within))

-- no row is numbered yet
pub none_numbered : (from : ℕ) (old : List ℕ) → AreNumbered from from old old
none_numbered from old = record {
  long = refl;
  own = λ i more less. absurd (omega (arith, more, less));
  before = λ i h. refl;
  behind = λ i h. refl;
}

-- one more row is numbered
pub one_numbered : (from to : ℕ) (old new : List ℕ) → from ≤ to → to < length new → AreNumbered from to old new
    → AreNumbered from (to + 1) old (slice_set new to to)
one_numbered from to old new order within n = record {
  long = length-set new to to ∙ n.long;
  own = λ i more less. by_order i more less (cases_lt i to);
  before = λ i h. get_or-set_other new to i to 0 (λ same. omega (arith, same, h, order)) ∙ n.before i h;
  behind = λ i h. get_or-set_other new to i to 0 (λ same. omega (arith, same, h)) ∙ n.behind i (omega (arith, h));
}
  where
    by_order : (i : ℕ) → from ≤ i → i < to + 1 → (i < to) ⊎ (to ≤ i) → slice_index (slice_set new to to) i ≡ i
    by_order i more less (inl earlier) = get_or-set_other new to i to 0 (λ same. omega (arith, same, earlier)) ∙ n.own i more earlier
    by_order i more less (inr later) =
        let here : i ≡ to = omega (arith, less, later) in
        ap (slice_index (slice_set new to to)) here ∙ get_or-set_same new to to 0 within ∙ sym here

-- the rows from one to before another have its parent, and were given their own numbers
pub record RunNumbered (from to : ℕ) (old new : List ℕ) : Type 0 where
  pub numbered : AreNumbered from to old new
  pub same : (i : ℕ) → from ≤ i → i < to → slice_index old i ≡ slice_index old from

pub run_begun : (from : ℕ) (old : List ℕ) → from < length old → RunNumbered from (from + 1) old (slice_set old from from)
run_begun from old within = record {
  numbered = one_numbered from from old old (omega arith) within (none_numbered from old);
  same = λ i more less. ap (slice_index old) (let here : i ≡ from = omega (arith, more, less) in here);
}
