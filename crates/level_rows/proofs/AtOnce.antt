-- Rows that are appended all at once, each of which begins a position: what holds of the level then.
use Rattle.std.specs.Prelude.{◌≡◌, ◌⊎◌, ℕ, zero, suc, ◌+◌, ◌-◌, ◌<◌, Bool, true, false, List, [], ◌++◌, length, replicate}
use Rattle.std.specs.Prelude.{slice_index, refl}
use Rattle.std.specs.List.{range_with_len}
use Rattle.std.proofs.Common.{◌∙◌, sym, ap, subst, arith, inl, inr}
use Rattle.std.proofs.lemmas.List.FromFn.{length-range_with_len, get_or-range_with_len}
use Rattle.level_core.specs.Kinds.{properties}
use Rattle.level_core.specs.Logs.{MayAppendAll, with_parents, with_coords, nothing_reserved}
use Rattle.level_core.specs.Meaning.{Meaning, ChangesLog}
use Rattle.level_core.specs.Laws.{Laws}
use Rattle.level_rows.specs.Rows.{Rows, place, MayAppendRows}
use Rattle.level_rows.specs.Filling.{places_once}
use Rattle.level_rows.specs.Appending.{Cursor}
use Rattle.level_rows.proofs.Progress.{Progress}
use Rattle.level_rows.proofs.RowLaws.{begun_all}
use Rattle.level_rows.proofs.AppendLoop.{Filling}
use Rattle.level_rows.proofs.AppendSteps.{none_done}
use Rattle.level_rows.proofs.OwnNumbers.{apart}
use Rattle.level_rows.proofs.RunLoop.{place_here}
use Rattle.level_rows.proofs.RunSteps.{IsRun, coords_below, runs, may_run}

-- the position of a row in the list where rows have their own numbers
own_at : (n i : ℕ) → i < n → slice_index (range_with_len 0 n) i ≡ i
own_at n i h = let is = get_or-range_with_len 0 n i 0 h in omega (arith, is)

-- the level is branchless, or all rows are below the first parent
pub kinds : (each branchless : Bool) (n : ℕ) → (each ≡ true → branchless ≡ true)
    → (branchless ≡ true) ⊎ ((i : ℕ) → slice_index (places_once each n) i ≡ 0)
kinds true branchless n is = inl (is refl)
kinds false branchless n is = inr (zeros n)
  where
    zeros : (m i : ℕ) → slice_index (replicate m 0) i ≡ 0
    zeros zero i = refl
    zeros (suc m) zero = refl
    zeros (suc m) (suc i) = zeros m i

module _ {L : Type 0} (means : Meaning L) (laws : Laws means) (parents : ℕ) (rows : Rows) (old : L)
    (may : MayAppendRows (means.kind old) (means.size old) parents rows) (all : (i : ℕ) → i < rows.count → rows.first i ≡ true)
    (column : List ℕ) (long : length column ≡ rows.count) (at : (i : ℕ) → i < rows.count → slice_index column i ≡ rows.coord i)
    (kind_is : ((properties (means.kind old)).branchless ≡ true) ⊎ ((i : ℕ) → rows.parent i ≡ 0)) (l : L)
    (changes : ChangesLog means (with_parents (means.kind old) parents (means.log old)) old l) (fresh : means.log old ≡ nothing_reserved)
    (keeps : means.keeps l) where
  log_is : means.log l ≡ with_parents (means.kind old) parents nothing_reserved
  log_is = changes.log ∙ ap (with_parents (means.kind old) parents) fresh

  before : Progress (means.kind old) parents 0 0 0 rows (means.log l)
  before = none_done (means.kind old) parents rows (means.log l) log_is
      (λ b. laws.logs l keeps (ap (λ k. (properties k).branchless) changes.kind ∙ b))

  pub none : (means.log l).coords ≡ []
  none = ap (λ g. g.coords) log_is

  -- all rows are those of the first parent
  whole : ((i : ℕ) → rows.parent i ≡ 0) → IsRun rows 0 0 column
  whole first = record {
    within = omega (arith, long);
    coord = λ j h. at j (omega (arith, h, long)) ∙ ap rows.coord (same j);
    parents = λ j h. first (0 + j);
    begin = λ j h. sym (ap rows.first (same j)) ∙ all j (omega (arith, h, long));
  }
    where
      same : (j : ℕ) → j ≡ 0 + j
      same j = omega arith

  pub may_once : MayAppendAll (means.kind l) (means.size l) column (means.log l)
  may_once = subst (λ k. MayAppendAll k (means.size l) column (means.log l)) (sym changes.kind)
      (subst (λ n. MayAppendAll (means.kind old) n column (means.log l)) (sym changes.size) (by_kind kind_is))
    where
      by_kind : ((properties (means.kind old)).branchless ≡ true) ⊎ ((i : ℕ) → rows.parent i ≡ 0)
          → MayAppendAll (means.kind old) (means.size old) column (means.log l)
      by_kind (inl is) = record {
        unfinished = before.stage;
        below = coords_below (means.size old) column (λ j h.
            let below = may.order.below j (omega (arith, h, long)) in
            let here = at j (omega (arith, h, long)) in
            omega (arith, below, here));
        rises = λ no. apart (sym is ∙ no);
      }
      by_kind (inr first) = may_run (means.kind old) (means.size old) parents 0 0 0 rows column (means.log l) may (whole first) before

  progress_then : (last : ℕ) → last ≡ rows.parent (rows.count - 1)
      → Progress (means.kind old) parents rows.count last 0 rows (with_coords column (means.log l))
  progress_then last last_is = by_kind kind_is
    where
      by_kind : ((properties (means.kind old)).branchless ≡ true) ⊎ ((i : ℕ) → rows.parent i ≡ 0)
          → Progress (means.kind old) parents rows.count last 0 rows (with_coords column (means.log l))
      by_kind (inl is) = record {
        stage = before.stage;
        reserved = before.reserved;
        appended = record {
          many = ap (λ cs. length (cs ++ column)) none ∙ long ∙ sym (begun_all rows.first rows.count all);
          at = λ i h. ap (λ cs. slice_index (cs ++ column) (place rows.first i)) none
              ∙ ap (slice_index column) (place_here rows all i h) ∙ at i h;
        };
        given = λ no. apart (sym is ∙ no);
        ones = before.ones;
      }
      by_kind (inr first) =
          let many : 0 + length column ≡ rows.count = omega (arith, long) in
          subst (λ p. Progress (means.kind old) parents rows.count p 0 rows (with_coords column (means.log l)))
          (sym (last_is ∙ first (rows.count - 1)))
          (subst (λ n. Progress (means.kind old) parents n 0 0 rows (with_coords column (means.log l))) many
          (runs (means.kind old) (means.size old) parents 0 0 0 rows column (means.log l) may (whole first) before))

  pub once_filled : (spare : ℕ) (start then_at : Cursor) (k : L) → start.last ≡ rows.parent (rows.count - 1) → start.begin ≡ 0
      → start.count ≡ 0 → then_at ≡ record start { count = start.count + length column }
      → ChangesLog means (with_coords column (means.log l)) l k → means.keeps k
      → Filling means parents rows.count spare then_at rows (range_with_len 0 rows.count) old k
  once_filled spare start then_at k last begin count at_is more kept = record {
    keeps = kept;
    kind = more.kind ∙ changes.kind;
    size = more.size ∙ changes.size;
    progress = subst (λ p. Progress (means.kind old) parents rows.count p then_at.begin rows (means.log k)) (sym same_last)
        (subst (λ q. Progress (means.kind old) parents rows.count start.last q rows (means.log k))
        (sym (ap (λ t. t.begin) at_is ∙ begin))
        (subst (Progress (means.kind old) parents rows.count start.last 0 rows) (sym more.log) (progress_then start.last last)));
    stands = record {
      behind = λ h. absurd (omega (arith, h));
      at = λ i h. same_last ∙ last ∙ ap rows.parent (let here : rows.count - 1 ≡ i = omega (arith, h) in here);
    };
    count = ap (λ t. t.count) at_is
        ∙ (let added : start.count + length column ≡ length ([] ++ column) = omega (arith, count) in added)
        ∙ sym (ap (λ cs. length (cs ++ column)) none) ∙ sym (ap (λ g. length g.coords) more.log);
    enough = omega arith;
    placing = record {
      many = length-range_with_len 0 rows.count;
      behind = λ i h. own_at rows.count i h ∙ sym (place_here rows all i h);
      ahead = λ i from h. absurd (omega (arith, from, h));
    };
    upto = omega arith;
  }
    where
      same_last : then_at.last ≡ start.last
      same_last = ap (λ t. t.last) at_is

-- the last row's parent
pub last_own : (count : ℕ) → count - 1 ≡ slice_index (range_with_len 0 count) (count - 1)
last_own zero = refl
last_own (suc n) = sym (own_at (suc n) (suc n - 1) (omega arith))

pub last_first : (count : ℕ) → 0 ≡ slice_index (replicate count 0) (count - 1)
last_first zero = refl
last_first (suc n) = zeros n (suc n - 1)
  where
    zeros : (m i : ℕ) → 0 ≡ slice_index (replicate (suc m) 0) i
    zeros m zero = refl
    zeros zero (suc i) = refl
    zeros (suc m) (suc i) = zeros m i
