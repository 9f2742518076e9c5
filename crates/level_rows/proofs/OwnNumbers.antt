-- The loop that appends rows whose positions aren't told: the list that has them after each step, and what the call answers.
use Rattle.std.specs.Prelude.{◌≡◌, ℕ, ◌+◌, ◌-◌, ◌≤◌, ◌<◌, true, false, List, ◌++◌, length, drop, slice_index, Ok, refl}
use Rattle.std.specs.List.{range_with_len}
use Rattle.std.proofs.Common.{◌∙◌, sym, ap, arith}
use Rattle.std.proofs.lemmas.List.{get_or_append_left, get_or-append-add, get_or-drop, length-append, length-drop}
use Rattle.std.proofs.lemmas.List.FromFn.{length-range_with_len, get_or-range_with_len}
use Rattle.limits.specs.Limits.{greatest_position_count}
use Rattle.level_core.specs.Kinds.{capabilities}
use Rattle.level_core.specs.Meaning.{Meaning}
use Rattle.level_core.proofs.KindLaws.{appended_stored}
use Rattle.level_rows.specs.Rows.{Rows, begun}
use Rattle.level_rows.specs.Taken.{AppendsRows}
use Rattle.level_rows.specs.Filling.{AreNeeded, FillAnswer}
use Rattle.level_rows.specs.Appending.{AreNumbered}
use Rattle.level_rows.proofs.RowLaws.{begun_all}

-- the first rows stand for their own numbers, and the others as before
abbrev pub numbers_to : ℕ → List ℕ → List ℕ
numbers_to done positions = range_with_len 0 done ++ drop done positions

pub numbers_long : (done : ℕ) (positions : List ℕ) → done ≤ length positions → length (numbers_to done positions) ≡ length positions
numbers_long done positions within =
    let long = length-append (range_with_len 0 done) (drop done positions) in
    let first = length-range_with_len 0 done in
    let rest = length-drop done positions in
    omega (arith, long, first, rest, within)

pub number_own : (done i : ℕ) (positions : List ℕ) → i < done → slice_index (numbers_to done positions) i ≡ i
number_own done i positions h =
    let long = length-range_with_len 0 done in
    let is = get_or-range_with_len 0 done i 0 h in
    get_or_append_left (range_with_len 0 done) (drop done positions) 0 i (omega (arith, h, long)) ∙ omega (arith, is)

pub number_behind : (done i : ℕ) (positions : List ℕ) → done ≤ i → slice_index (numbers_to done positions) i ≡ slice_index positions i
number_behind done i positions h =
    let long = length-range_with_len 0 done in
    let there : i ≡ length (range_with_len 0 done) + (i - done) = omega (arith, h, long) in
    let back : done + (i - done) ≡ i = omega (arith, h) in
    ap (slice_index (numbers_to done positions)) there ∙ get_or-append-add (range_with_len 0 done) (drop done positions) (i - done) 0
    ∙ get_or-drop done positions (i - done) 0 ∙ ap (slice_index positions) back

pub numbered_to : (done end : ℕ) (positions : List ℕ) → done ≤ end → end ≤ length positions
    → AreNumbered done end (numbers_to done positions) (numbers_to end positions)
numbered_to done end positions order within = record {
  long = numbers_long end positions within ∙ sym (numbers_long done positions (omega (arith, order, within)));
  own = λ i from h. number_own end i positions h;
  before = λ i h. number_own end i positions (omega (arith, h, order)) ∙ sym (number_own done i positions h);
  behind = λ i h. number_behind end i positions h ∙ sym (number_behind done i positions (omega (arith, h, order)));
}

pub apart : {A : Type 0} → true ≡ false → A
apart e = absurd (no e)
  where
    no : true ≡ false → ⊥
    no e = cc

module _ {L : Type 0} (means : Meaning L) (parents count : ℕ) (rows : Rows) (old : L) (long : count ≡ rows.count)
    (all : (i : ℕ) → i < rows.count → rows.first i ≡ true) (able : (capabilities (means.kind old)).append ≡ true) where
  -- as many positions are begun as there are rows
  pub begun_there : count ≡ begun rows.first rows.count
  begun_there = long ∙ sym (begun_all rows.first rows.count all)

  pub needed_there : AreNeeded (means.kind old) (means.size old) parents rows count count
  needed_there = record {
    appended = λ is. (begun_there, refl);
    inserted = λ none. apart (sym able ∙ none);
    greatest = λ none stored. apart (sym able ∙ none);
    full = λ is. apart (sym is ∙ appended_stored (means.kind old) able);
  }

  pub filled_there : (places before : List ℕ) (new : L) → count ≤ greatest_position_count → AppendsRows means parents rows places old new
      → FillAnswer means parents rows count count before places old new (Ok count)
  filled_there places before new few a = (few, refl, record { appended = λ is. a; inserted = λ none. apart (sym able ∙ none) })
