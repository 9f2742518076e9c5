-- Which rows of a table begin positions.
use Rattle.std.specs.Prelude.{◌≡◌, ◌≢◌, ◌⊎◌, ℕ, zero, suc, ◌-◌, ◌≤◌, ◌<◌, ◌==◌, ◌&&◌, not, Bool, true}
use Rattle.std.specs.Prelude.{false, List, length, refl, slice_index}
use Rattle.std.specs.List.{range_with_len}
use Rattle.std.proofs.Common.{◌∙◌, sym, ap, subst, arith, inl, inr}
use Rattle.std.proofs.lemmas.Bool.{cases_lt}
use Rattle.std.proofs.lemmas.Bool.Decides.{nat_tests}
use Rattle.std.proofs.lemmas.List.{length-map, get_or-map}
use Rattle.std.proofs.lemmas.List.FromFn.{length-range_with_len, get_or-range_with_len}
use Rattle.level_rows.specs.Rows.{rows_at}
use Rattle.level_rows.specs.Tables.{Agree, Begins, Increase, AreRowsOf}
use Rattle.tensor_storage.specs.Tables.{Table, AllApart, agree, begins_at, keys_of, level_column, row_values}

pub apart : {A : Type 0} → true ≡ false → A
apart {A} e = absurd (no_way e)
  where
    no_way : true ≡ false → ⊥
    no_way e = cc

pub both : (a b : Bool) → (a && b) ≡ true → (a ≡ true) × (b ≡ true)
both true true h = (refl, refl)
both true false h = apart (sym h)
both false b h = apart (sym h)

pub joined : (a b : Bool) → a ≡ true → b ≡ true → (a && b) ≡ true
joined true b h k = k
joined false b h k = apart (sym h)

pub agree_tells : (coords : ℕ → ℕ → ℕ) (n i j : ℕ) → agree coords n i j ≡ true → Agree coords n i j
agree_tells coords zero i j h d less = absurd (omega (arith, less))
agree_tells coords (suc n) i j h d less = by_order (agree_tells coords n i j) (both (agree coords n i j) (coords n i == coords n j) h)
    (cases_lt d n)
  where
    by_order : (agree coords n i j ≡ true → Agree coords n i j) → (agree coords n i j ≡ true) × ((coords n i == coords n j) ≡ true)
        → (d < n) ⊎ (n ≤ d) → coords d i ≡ coords d j
    by_order again k (inl before) = again k.0 d before
    by_order again k (inr from) =
        let is : n ≡ d = omega (arith, less, from) in
        let eq = k.1 in
        let same : coords n i ≡ coords n j = grind (arith, nat_tests, eq) in
        subst (λ m. coords m i ≡ coords m j) is same

pub agree_from : (coords : ℕ → ℕ → ℕ) (n i j : ℕ) → Agree coords n i j → agree coords n i j ≡ true
agree_from coords zero i j a = refl
agree_from coords (suc n) i j a =
    let last = a n (omega arith) in
    joined (agree coords n i j) (coords n i == coords n j) (agree_from coords n i j (λ d less. a d (omega (arith, less))))
    (grind (arith, nat_tests, last))

pub begins : (coords : ℕ → ℕ → ℕ) (n count : ℕ) → Begins coords n count (begins_at coords n)
begins coords n count = record {
  start = λ h. refl;
  differs = λ i h first a. apart (sym first ∙ ap not (agree_from coords n i (suc i) a));
  agrees = λ i h first. agree_tells coords n i (suc i) (by_test (agree coords n i (suc i)) first);
}
  where
    by_test : (b : Bool) → not b ≡ false → b ≡ true
    by_test true h = refl
    by_test false h = apart h

-- the rows for a level are those of the table
pub rows_are : (table : Table) (d n size : ℕ) (ps : List ℕ) → ((i : ℕ) → i < table.count → table.coords d i < size)
    → AreRowsOf table.coords d n size (rows_at (keys_of table d n) ps)
rows_are table d n size ps below = record { coord = λ i h. refl; below = below; begins = begins table.coords n table.count }

-- a column has a coordinate for each row
pub column_long : (table : Table) (d : ℕ) → length (level_column table d) ≡ table.count
column_long table d = length-map (range_with_len 0 table.count) (table.coords d) ∙ length-range_with_len 0 table.count

pub column_at : (table : Table) (d i : ℕ) → i < table.count → slice_index (level_column table d) i ≡ table.coords d i
column_at table d i h =
    let long = length-range_with_len 0 table.count in
    let within : i < length (range_with_len 0 table.count) = omega (arith, long, h) in
    let at : slice_index (range_with_len 0 table.count) i ≡ i =
    (let is = get_or-range_with_len 0 table.count i 0 h in omega (arith, is)) in
    get_or-map (table.coords d) (range_with_len 0 table.count) i 0 0 within ∙ ap (table.coords d) at

-- so has the list of values a value
pub values_long : (table : Table) → length (row_values table) ≡ table.count
values_long table = length-map (range_with_len 0 table.count) table.values ∙ length-range_with_len 0 table.count

pub value_at : (table : Table) (i : ℕ) → i < table.count → slice_index (row_values table) i ≡ table.values i
value_at table i h =
    let long = length-range_with_len 0 table.count in
    let within : i < length (range_with_len 0 table.count) = omega (arith, long, h) in
    let at : slice_index (range_with_len 0 table.count) i ≡ i =
    (let is = get_or-range_with_len 0 table.count i 0 h in omega (arith, is)) in
    get_or-map table.values (range_with_len 0 table.count) i 0 0 within ∙ ap table.values at

by_truth : (b : Bool) → (b ≡ true → ⊥) → b ≡ false
by_truth true never = absurd (never refl)
by_truth false never = refl

-- rows that increase differ at some level
pub all_apart : (table : Table) (order n : ℕ) → Increase table.coords order table.count → order ≤ n → AllApart table n
all_apart table order n up within i h = by_truth (agree table.coords n i (suc i)) (λ same.
    let before = up i h in
    let less = before.3 in
    let d_in = before.1 in
    let equal = agree_tells table.coords n i (suc i) same before.0 (omega (arith, d_in, within)) in
    omega (arith, less, equal))

-- a row that isn't the first begins a position exactly where it doesn't agree with the row before
pub begins_behind : (coords : ℕ → ℕ → ℕ) (n row : ℕ) → row ≢ 0 → begins_at coords n row ≡ not (agree coords n (row - 1) row)
begins_behind coords n zero some = absurd (some refl)
begins_behind coords n (suc i) some = let before : i ≡ suc i - 1 = omega arith in ap (λ k. not (agree coords n k (suc i))) before

-- so it does where it differs from that at one of the levels
pub begins_apart : (coords : ℕ → ℕ → ℕ) (n d row : ℕ) → row ≢ 0 → d < n → coords d (row - 1) ≢ coords d row
    → begins_at coords n row ≡ true
begins_apart coords n d row some within apart_here = begins_behind coords n row some
    ∙ ap not (by_truth (agree coords n (row - 1) row) (λ same. apart_here (agree_tells coords n (row - 1) row same d within)))

-- rows that have the same coordinate at the last of the levels agree where they do at the others
pub agree_above : (coords : ℕ → ℕ → ℕ) (n d i j : ℕ) → n ≡ suc d → coords d i ≡ coords d j → agree coords n i j ≡ agree coords d i j
agree_above coords n d i j is same = by_others (agree coords d i j) refl
  where
    eq : (coords d i == coords d j) ≡ true
    eq = grind (arith, nat_tests, same)

    by_others : (b : Bool) → agree coords d i j ≡ b → agree coords n i j ≡ agree coords d i j
    by_others true h = ap (λ m. agree coords m i j) is ∙ joined _ _ h eq ∙ sym h
    by_others false h = ap (λ m. agree coords m i j) is ∙ ap (λ b. b && (coords d i == coords d j)) h ∙ sym h

-- where each row differs from the next, each begins a position
pub all_begin_apart : (table : Table) (n : ℕ) → AllApart table n → (i : ℕ) → i < table.count → begins_at table.coords n i ≡ true
all_begin_apart table n apart zero h = refl
all_begin_apart table n apart (suc i) h = ap not (apart i h)
