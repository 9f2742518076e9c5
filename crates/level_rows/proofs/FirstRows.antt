-- Rows that are appended below the first parent: what holds of the level after each, whether or not it begins a position.
use Rattle.std.specs.Prelude.{◌≡◌, ◌≢◌, ℕ, zero, suc, ◌+◌, ◌-◌, ◌≤◌, ◌<◌, nat_lt, true, false, List, length, take, drop, replicate}
use Rattle.std.specs.Prelude.{slice_index, slice_set, Ok, refl}
use Rattle.std.proofs.Common.{◌∙◌, sym, subst, arith}
use Rattle.std.proofs.lemmas.Bool.Decides.{nat_tests}
use Rattle.limits.specs.Limits.{greatest_position_count}
use Rattle.level_core.specs.Kinds.{capabilities}
use Rattle.level_core.specs.Meaning.{Meaning, ChangesLog}
use Rattle.level_core.specs.Laws.{Laws}
use Rattle.level_core.proofs.KindLaws.{appended_stored}
use Rattle.level_rows.specs.Rows.{Rows, Keys, rows_at, begun, MayAppendRows}
use Rattle.level_rows.specs.Runs.{AreRuns}
use Rattle.level_rows.specs.Taken.{AppendsRows}
use Rattle.level_rows.specs.Filling.{AreNeeded, FillAnswer}
use Rattle.level_rows.specs.Appending.{Cursor, added, added_log}
use Rattle.level_rows.proofs.Progress.{Progress}
use Rattle.level_rows.proofs.AppendLoop.{Filling, Turned, filled_more}
use Rattle.level_rows.proofs.OwnNumbers.{apart}
use Rattle.level_rows.proofs.RunNumbers.{begins_next, goes_on_next, behind_long, behind_at}

-- rows all of which are below the first parent
abbrev pub firsts : Keys → Rows
firsts keys = rows_at keys (replicate keys.count 0)

pub first_parent : (keys : Keys) (i : ℕ) → (firsts keys).parent i ≡ 0
first_parent keys i = zeros keys.count i
  where
    zeros : (m j : ℕ) → slice_index (replicate m 0) j ≡ 0
    zeros zero j = refl
    zeros (suc m) zero = refl
    zeros (suc m) (suc j) = zeros m j

pub some_are : (n : ℕ) → 0 < n → true ≡ nat_lt 0 n
some_are n more = let k : nat_lt 0 n ≡ true = grind (arith, nat_tests, more) in sym k

-- the row behind one of the column's is there, and begins a position exactly where the coordinates of the two differ
module _ (keys : Keys) (column : List ℕ) (long : length column ≡ keys.count)
    (at : (i : ℕ) → i < keys.count → slice_index column i ≡ keys.coord i) (runs : AreRuns keys column) (k before : ℕ)
    (h : k < length (take (length column - 1) (drop 1 column))) (last : before ≡ slice_index column k) where
  pub next_there : k + 1 < keys.count
  next_there = let behind = behind_long column in omega (arith, h, behind, long)

  pub next_coord : slice_index (take (length column - 1) (drop 1 column)) k ≡ keys.coord (k + 1)
  next_coord = behind_at column k h ∙ at (k + 1) next_there

  pub next_first : slice_index (take (length column - 1) (drop 1 column)) k ≢ before → keys.first (k + 1) ≡ true
  next_first other = runs (k + 1) next_there ∙ begins_next column k before _ last (behind_at column k h) other

  pub next_again : slice_index (take (length column - 1) (drop 1 column)) k ≡ before → keys.first (k + 1) ≡ false
  next_again same = runs (k + 1) next_there ∙ goes_on_next column k before _ last (behind_at column k h) same

-- no row is behind the last
pub all_there : (column : List ℕ) (count k : ℕ) → length column ≡ count → length (take (length column - 1) (drop 1 column)) ≤ k
    → k + 1 ≤ count → k + 1 ≡ count
all_there column count k long over upto = let behind = behind_long column in omega (arith, over, behind, long, upto)

module _ {L : Type 0} (means : Meaning L) (laws : Laws means) (parents : ℕ) (rows : Rows) (old : L)
    (may : MayAppendRows (means.kind old) (means.size old) parents rows) (first : (i : ℕ) → rows.parent i ≡ 0) (done spare : ℕ)
    (at : Cursor) (positions : List ℕ) (l : L) (f : Filling means parents done spare at rows positions old l) (h : done < rows.count) where
  -- the next row's parent is the last one's
  pub stays : Turned means parents done spare at rows old l
  stays = record {
    keeps = f.keeps;
    kind = f.kind;
    size = f.size;
    progress = subst (λ p. Progress (means.kind old) parents done p at.begin rows (means.log l)) last f.progress;
    last = last;
    count = f.count;
    enough = f.enough;
  }
    where
      last : at.last ≡ rows.parent done
      last = let behind = f.stands.behind h in let none = first done in omega (arith, behind, none)

  -- a row that begins a position
  pub first_more : (x spare_then : ℕ) (then_at : Cursor) (k : L) → rows.first done ≡ true → x ≡ rows.coord done → then_at ≡ added at true
      → ChangesLog means (added_log true x (means.log l)) l k → means.keeps k → spare_then + 1 ≡ spare
      → (ps : List ℕ) × Filling means parents (done + 1) spare_then then_at rows ps old k
  first_more x spare_then then_at k is coord at_is changes keeps left = (
    slice_set positions done (then_at.count - 1),
    filled_more means laws parents rows old may done spare at l stays true x spare_then then_at positions k h (sym is) coord at_is changes
        keeps left f.placing,
  )

  -- a row that begins none leaves the level as it is
  pub again_more : rows.first done ≡ false → (ps : List ℕ) × Filling means parents (done + 1) spare at rows ps old l
  again_more is = (
    slice_set positions done (at.count - 1),
    filled_more means laws parents rows old may done spare at l stays false (rows.coord done) spare at positions l h (sym is) refl refl
        (record { kind = refl; size = refl; log = refl }) f.keeps (omega arith) f.placing,
  )

module _ {L : Type 0} (means : Meaning L) (parents count : ℕ) (rows : Rows) (old : L) (is : count ≡ begun rows.first rows.count)
    (able : (capabilities (means.kind old)).append ≡ true) where
  -- as many positions are needed as rows begin
  pub needed_begun : AreNeeded (means.kind old) (means.size old) parents rows count count
  needed_begun = record {
    appended = λ _. (is, refl);
    inserted = λ none. apart (sym able ∙ none);
    greatest = λ none stored. apart (sym able ∙ none);
    full = λ full. apart (sym full ∙ appended_stored (means.kind old) able);
  }

  pub filled_begun : (places before : List ℕ) (new : L) → count ≤ greatest_position_count → AppendsRows means parents rows places old new
      → FillAnswer means parents rows count count before places old new (Ok count)
  filled_begun places before new few a = (few, refl, record { appended = λ _. a; inserted = λ none. apart (sym able ∙ none) })
