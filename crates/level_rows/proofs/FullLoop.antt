-- The loop that counts the positions of rows at a full level.
use Rattle.std.specs.Prelude.{◌≡◌, ◌⊎◌, ℕ, zero, suc, ◌+◌, ◌-◌, ◌*◌, ◌≤◌, ◌<◌, ◌^◌, true, false, List, length}
use Rattle.std.specs.Prelude.{replicate, slice_index, slice_set, Some, refl}
use Rattle.std.proofs.Common.{◌∙◌, sym, ap, subst, arith, inl, inr}
use Rattle.std.proofs.Math.Nat.{mul-le-mul_right}
use Rattle.std.proofs.lemmas.Bool.{cases_lt}
use Rattle.std.proofs.lemmas.List.{get_or-set_same, get_or-set_other, get_or_past, length-set}
use Rattle.limits.specs.Limits.{greatest_position_count}
use Rattle.limits.proofs.Limits.{positions_are_small}
use Rattle.level_core.specs.Kinds.{properties, capabilities, positions_for, MayPrepare}
use Rattle.level_core.specs.Meaning.{Meaning}
use Rattle.level_core.specs.Laws.{Laws}
use Rattle.level_core.proofs.KindLaws.{are_of_a_kind, full_positions}
use Rattle.level_rows.specs.Rows.{Rows, Keys, rows_at, HasCoords, MayInsertRows}
use Rattle.level_rows.specs.Taken.{InsertsRows}
use Rattle.level_rows.specs.Filling.{AreNeeded, MayFill, FillsRows}
use Rattle.level_rows.proofs.InsertLoop.{inserts}
use Rattle.level_rows.proofs.FullLaws.{full_position}

apart : true ≡ false → ⊥
apart e = cc

zeros : (n i : ℕ) → slice_index (replicate n 0) i ≡ 0
zeros zero i = refl
zeros (suc n) zero = refl
zeros (suc n) (suc i) = zeros n i

-- the first rows have their positions at a full level of this range, and the others those of their parents
pub record Counted (size done : ℕ) (rows : Rows) (positions : List ℕ) : Type 0 where
  pub many : length positions ≡ rows.count
  pub behind : (i : ℕ) → i < done → slice_index positions i ≡ rows.parent i * size + rows.coord i
  pub ahead : (i : ℕ) → done ≤ i → slice_index positions i ≡ rows.parent i

pub none_counted : (size : ℕ) (rows : Rows) (positions : List ℕ) → length positions ≡ rows.count
    → ((i : ℕ) → slice_index positions i ≡ rows.parent i) → Counted size 0 rows positions
none_counted size rows positions many is = record { many = many; behind = λ i h. absurd (omega (arith, h)); ahead = λ i h. is i }

pub one_counted : (size done p : ℕ) (rows : Rows) (positions : List ℕ) → done < rows.count → p ≡ rows.parent done * size + rows.coord done
    → Counted size done rows positions → Counted size (done + 1) rows (slice_set positions done p)
one_counted size done p rows positions h is c = record {
  many = length-set positions done p ∙ c.many;
  behind = λ i l. by_order i l (cases_lt i done);
  ahead = λ i from. get_or-set_other positions done i p 0 (λ same. omega (arith, same, from)) ∙ c.ahead i (omega (arith, from));
}
  where
    by_order : (i : ℕ) → i < done + 1 → (i < done) ⊎ (done ≤ i)
        → slice_index (slice_set positions done p) i ≡ rows.parent i * size + rows.coord i
    by_order i l (inl before) = get_or-set_other positions done i p 0 (λ same. omega (arith, same, before)) ∙ c.behind i before
    by_order i l (inr from) =
        let here : i ≡ done = omega (arith, l, from) in
        let many = c.many in
        ap (slice_index (slice_set positions done p)) here ∙ get_or-set_same positions done p 0 (omega (arith, many, h)) ∙ is
        ∙ ap (λ j. rows.parent j * size + rows.coord j) (sym here)

-- a position at a full level is a word
pub small_place : (size parents parent x : ℕ) → parent < parents → x < size → parents * size ≤ greatest_position_count
    → (parent * size + x < 2 ^ 62) × (parent * size < 2 ^ 62)
small_place size parents parent x h below within =
    let next : (parent + 1) * size ≤ parents * size = mul-le-mul_right size (omega (arith, h)) in
    let more : (parent + 1) * size ≡ parent * size + size = omega arith in
    (omega (arith, next, more, below, within, positions_are_small), omega (arith, next, more, below, within, positions_are_small))

module _ {L : Type 0} (means : Meaning L) (laws : Laws means) (parents most : ℕ) (rows : Rows) (old : L)
    (may : MayInsertRows (means.size old) parents rows) (full : (properties (means.kind old)).full ≡ true) where
  -- so many positions are within the limit
  pub few_places : (size : ℕ) → size ≡ means.size old
      → positions_for (means.kind old) (means.size old) parents most ≤ greatest_position_count → parents * size ≤ greatest_position_count
  few_places size is within =
      subst (λ n. parents * n ≤ greatest_position_count) (sym is)
      (subst (λ n. n ≤ greatest_position_count) (full_positions (means.kind old) (means.size old) parents most full) within)

  pub counts : (size : ℕ) (positions : List ℕ) (l : L) → means.keeps old → MayPrepare (means.kind old) (means.width old) most
      → positions_for (means.kind old) (means.size old) parents most ≤ greatest_position_count → means.prepared old parents most l
      → size ≡ means.size old → Counted size rows.count rows positions → InsertsRows means parents most rows positions old l
  counts size positions l keeps can within prepared is c =
      let p = laws.prepares old l parents most keeps can within prepared in
      inserts means laws parents most rows old may (λ none. absurd (apart (sym full ∙ none))) (slice_index positions (rows.count - 1))
      positions l
      (record {
        keeps = p.keeps;
        kind = p.kind;
        size = p.size;
        has_parents = p.has_parents;
        able = can.able;
        ends = p.positions;
        width = p.width;
        room = p.room;
        inserted = record {
          has = λ i h. full_position means laws l size parents (ap (λ k. (properties k).full) p.kind ∙ full) (p.size ∙ sym is)
              p.has_parents (rows.parent i) (rows.coord i) (may.within i h) (subst (λ n. rows.coord i < n) (sym is) (may.below i h))
              ∙ ap Some (sym (c.behind i h));
          only = λ none. absurd (apart (sym full ∙ none));
          few = λ none. absurd (apart (sym full ∙ none));
        };
        order = λ none. absurd (apart (sym ((are_of_a_kind (means.kind old)).full_ordered full) ∙ none));
        last = λ i h. ap (slice_index positions) (let k : rows.count - 1 ≡ i = omega (arith, h) in k);
        many = c.many;
        ahead = λ i from h. absurd (omega (arith, from, h));
        upto = omega arith;
      })

-- where all rows are below the first parent their coordinates are their positions
first_counted : (size : ℕ) (keys : Keys) (column : List ℕ) → HasCoords keys column
    → Counted size keys.count (rows_at keys (replicate keys.count 0)) column
first_counted size keys column has = record {
  many = has.long;
  behind = λ i h.
      let own : keys.coord i ≡ 0 * size + keys.coord i = omega arith in
      has.at i h ∙ own ∙ ap (λ p. p * size + keys.coord i) (sym (zeros keys.count i));
  ahead = λ i from. let long = has.long in get_or_past column i 0 (omega (arith, long, from)) ∙ sym (zeros keys.count i);
}

-- a new full level is given rows that are all below the first parent
module _ {L : Type 0} (means : Meaning L) (laws : Laws means) (parents size : ℕ) (keys : Keys) (old : L)
    (full : (properties (means.kind old)).full ≡ true) (is : size ≡ means.size old)
    (may : MayFill means parents (rows_at keys (replicate keys.count 0)) old) where
  not_appended : (capabilities (means.kind old)).append ≡ false
  not_appended = (are_of_a_kind (means.kind old)).not_both ((are_of_a_kind (means.kind old)).full_inserted full)

  pub first_needed : AreNeeded (means.kind old) (means.size old) parents (rows_at keys (replicate keys.count 0)) (parents * size) 0
  first_needed = record {
    appended = λ able. absurd (apart (sym able ∙ not_appended));
    inserted = λ _. ap (λ n. parents * n) is ∙ sym (full_positions (means.kind old) (means.size old) parents 0 full);
    greatest = λ _ none. absurd (apart (sym full ∙ none));
    full = λ _. refl;
  }

  pub first_may : MayPrepare (means.kind old) (means.width old) 0
  first_may = record {
    able = (are_of_a_kind (means.kind old)).full_inserted full;
    unprepared = (may.inserts not_appended).2;
    coordinates = omega arith;
  }

  pub first_within : parents * size ≤ greatest_position_count
      → positions_for (means.kind old) (means.size old) parents 0 ≤ greatest_position_count
  first_within few = subst (λ n. n ≤ greatest_position_count) (first_needed.inserted not_appended) few

  pub first_filled : (column : List ℕ) (new : L) → HasCoords keys column → means.keeps old → parents * size ≤ greatest_position_count
      → means.prepared old parents 0 new → FillsRows means parents 0 (rows_at keys (replicate keys.count 0)) column old new
  first_filled column new has keeps few prepared = record {
    appended = λ able. absurd (apart (sym able ∙ not_appended));
    inserted = λ _. counts means laws parents 0 (rows_at keys (replicate keys.count 0)) old (may.inserts not_appended).0 full size
        column new
        keeps first_may (first_within few) prepared is (first_counted size keys column has);
  }
