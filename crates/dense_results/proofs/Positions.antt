-- The positions that pass a test, in increasing order, as rows of a table of dense levels.
use Rattle.std.specs.Prelude.{◌≡◌, ◌⊎◌, ℕ, zero, suc, ◌+◌, ◌<◌, ◌≤◌, Bool, true, false, if◌then◌else◌}
use Rattle.std.specs.Prelude.{List, [], ◌∷◌, length, slice_index, refl}
use Rattle.std.proofs.Common.{◌∙◌, sym, ap, arith, inl, inr}
use Rattle.std.proofs.lemmas.Bool.{cases_order}
use Rattle.level_core.specs.declared.letter.Letter.{Letter}
use Rattle.level_rows.specs.Tables.{Increase}
use Rattle.tensor_map.specs.Order.{IsBefore}
use Rattle.tensor_storage.specs.Stands.{row_from}
use Rattle.tensor_storage.specs.Tables.{Table}
use Rattle.tns_io.specs.Positions.{product, IsBelow, coords_at}
use Rattle.tns_io.proofs.PositionLaws.{below_long, coords_below, coords_increase}

-- those of so many positions, from p on, that pass
abbrev pub passing : (ℕ → Bool) → ℕ → ℕ → List ℕ
passing test p zero = []
passing test p (suc count) = if test p then p ∷ passing test (p + 1) count else passing test (p + 1) count

pub record Passes (test : ℕ → Bool) (p count x : ℕ) : Type 0 where
  pub least : p ≤ x
  pub below : x < p + count
  pub is : test x ≡ true

pub all_pass : (test : ℕ → Bool) (p count k : ℕ) → k < length (passing test p count)
    → Passes test p count (slice_index (passing test p count) k)
all_pass test p zero k h = absurd (omega (arith, h))
all_pass test p (suc count) k h = by (test p) refl (passing test (p + 1) count) (all_pass test (p + 1) count) k h
  where
    later : (x : ℕ) → Passes test (p + 1) count x → Passes test p (suc count) x
    later x m = record {
      least = let l = m.least in omega (arith, l);
      below = let l = m.below in omega (arith, l);
      is = m.is;
    }

    by : (b : Bool) → test p ≡ b → (rest : List ℕ) → ((j : ℕ) → j < length rest → Passes test (p + 1) count (slice_index rest j))
        → (j : ℕ) → j < length (if b then p ∷ rest else rest) → Passes test p (suc count) (slice_index (if b then p ∷ rest else rest) j)
    by true is rest more zero l = record { least = omega arith; below = omega arith; is = is }
    by true is rest more (suc j) l = later (slice_index rest j) (more j (omega (arith, l)))
    by false is rest more j l = later (slice_index rest j) (more j l)

pub passing_increase : (test : ℕ → Bool) (p count k : ℕ) → suc k < length (passing test p count)
    → slice_index (passing test p count) k < slice_index (passing test p count) (suc k)
passing_increase test p zero k h = absurd (omega (arith, h))
passing_increase test p (suc count) k h =
    by (test p) (passing test (p + 1) count) (all_pass test (p + 1) count) (passing_increase test (p + 1) count) k h
  where
    by : (b : Bool) (rest : List ℕ) → ((j : ℕ) → j < length rest → Passes test (p + 1) count (slice_index rest j))
        → ((j : ℕ) → suc j < length rest → slice_index rest j < slice_index rest (suc j))
        → (j : ℕ) → suc j < length (if b then p ∷ rest else rest)
        → slice_index (if b then p ∷ rest else rest) j < slice_index (if b then p ∷ rest else rest) (suc j)
    by true rest are up zero l = let m = are 0 (omega (arith, l)) in let least = m.least in omega (arith, least)
    by true rest are up (suc j) l = up j (omega (arith, l))
    by false rest are up j l = up j l

-- where a position stands among those that pass
pub record StandsIn (xs : List ℕ) (x : ℕ) : Type 0 where
  pub at : ℕ
  pub inside : at < length xs
  pub is : slice_index xs at ≡ x

pub passing_found : (test : ℕ → Bool) (p count x : ℕ) → Passes test p count x → StandsIn (passing test p count) x
passing_found test p zero x m = let l = m.least in let b = m.below in absurd (omega (arith, l, b))
passing_found test p (suc count) x m =
    by (test p) refl (passing test (p + 1) count) (passing_found test (p + 1) count x)
  where
    next : p < x → Passes test (p + 1) count x
    next l = record { least = omega (arith, l); below = let b = m.below in omega (arith, b); is = m.is }

    by_order : (rest : List ℕ) → (Passes test (p + 1) count x → StandsIn rest x) → (p ≡ x) ⊎ ((p < x) ⊎ (x < p))
        → StandsIn (p ∷ rest) x
    by_order rest more (inl e) = record { at = 0; inside = omega arith; is = e }
    by_order rest more (inr (inl l)) =
        let s = more (next l) in let b = s.inside in record { at = suc s.at; inside = omega (arith, b); is = s.is }
    by_order rest more (inr (inr l)) = let g = m.least in absurd (omega (arith, l, g))

    by : (b : Bool) → test p ≡ b → (rest : List ℕ) → (Passes test (p + 1) count x → StandsIn rest x)
        → StandsIn (if b then p ∷ rest else rest) x
    by true is rest more = by_order rest more (cases_order p x)
    by false is rest more = elim (cases_order p x) [
      | inl e ↦ absurd (clash (test p) (ap test e ∙ m.is) is)
      | inr apart ↦ elim apart [
        | inl l ↦ more (next l)
        | inr l ↦ let g = m.least in absurd (omega (arith, l, g))
      ]
    ]
      where
        clash : (b : Bool) → b ≡ true → b ≡ false → ⊥
        clash b h g = cc

-- the table of these positions of dense levels, with the values there
abbrev pub table_at : List ℕ → List ℕ → List ℕ → Table
table_at sizes words numbers = record {
  count = length numbers;
  coords = λ d i. slice_index (coords_at sizes (slice_index numbers i)) d;
  values = λ i. slice_index words (slice_index numbers i);
}

pub coords_long : (sizes : List ℕ) (p : ℕ) → p < product sizes → length (coords_at sizes p) ≡ length sizes
coords_long sizes p h = below_long sizes (coords_at sizes p) (coords_below sizes p h)

-- a row's coordinates from the level numbered d on
pub row_is : (coords : ℕ → ℕ → ℕ) (i d : ℕ) (letters : List Letter) (xs : List ℕ) → length xs ≡ length letters
    → ((k : ℕ) → k < length xs → coords (d + k) i ≡ slice_index xs k) → row_from coords i d letters ≡ xs
row_is coords i d [] [] long same = refl
row_is coords i d [] (x ∷ xs) long same = absurd (omega (arith, long))
row_is coords i d (l ∷ letters) [] long same = absurd (omega (arith, long))
row_is coords i d (l ∷ letters) (x ∷ xs) long same =
    let here : d + 0 ≡ d = omega arith in
    let first : coords d i ≡ x = ap (λ e. coords e i) (sym here) ∙ same 0 (omega arith) in
    let rest : row_from coords i (suc d) letters ≡ xs = row_is coords i (suc d) letters xs (omega (arith, long))
    (λ k h. let next : suc d + k ≡ d + suc k = omega arith in ap (λ e. coords e i) next ∙ same (suc k) (omega (arith, h))) in
    λ j. first j ∷ rest j

-- the first place where coordinate lists differ
pub record Differ (xs ys : List ℕ) : Type 0 where
  pub at : ℕ
  pub inside : at < length xs
  pub before : (k : ℕ) → k < at → slice_index xs k ≡ slice_index ys k
  pub less : slice_index xs at < slice_index ys at

pub differ : (xs ys : List ℕ) → length xs ≡ length ys → IsBefore xs ys → Differ xs ys
differ [] [] long h = absurd h
differ [] (y ∷ ys) long h = absurd (omega (arith, long))
differ (x ∷ xs) [] long h = absurd h
differ (x ∷ xs) (y ∷ ys) long (inl less) =
    record { at = 0; inside = omega arith; before = λ k l. absurd (omega (arith, l)); less = less }
differ (x ∷ xs) (y ∷ ys) long (inr more) =
    let d = differ xs ys (omega (arith, long)) more.1 in
    let b = d.inside in
    record { at = suc d.at; inside = omega (arith, b); before = before d; less = d.less }
  where
    before : (d : Differ xs ys) (k : ℕ) → k < suc d.at → slice_index (x ∷ xs) k ≡ slice_index (y ∷ ys) k
    before d zero l = more.0
    before d (suc k) l = d.before k (omega (arith, l))

module _ (sizes words numbers : List ℕ)
    (inside : (k : ℕ) → k < length numbers → slice_index numbers k < product sizes) where
  pub row_at : (letters : List Letter) → length sizes ≡ length letters → (i : ℕ) → i < length numbers
      → row_from (table_at sizes words numbers).coords i 0 letters ≡ coords_at sizes (slice_index numbers i)
  row_at letters long i h =
      row_is (table_at sizes words numbers).coords i 0 letters (coords_at sizes (slice_index numbers i))
      (coords_long sizes (slice_index numbers i) (inside i h) ∙ long)
      (λ k l. ap (slice_index (coords_at sizes (slice_index numbers i))) (omega arith))

  pub rows_increase : ((k : ℕ) → suc k < length numbers → slice_index numbers k < slice_index numbers (suc k))
      → (order : ℕ) → length sizes ≡ order → Increase (table_at sizes words numbers).coords order (length numbers)
  rows_increase up order long i h =
      let p : ℕ = slice_index numbers i in
      let q : ℕ = slice_index numbers (suc i) in
      let small : p < product sizes = inside i (omega (arith, h)) in
      let also : q < product sizes = inside (suc i) h in
      let d = differ (coords_at sizes p) (coords_at sizes q) (coords_long sizes p small ∙ sym (coords_long sizes q also))
      (coords_increase sizes p q (up i h) also) in
      let b = d.inside in
      let many = coords_long sizes p small in
      (d.at, omega (arith, b, many, long), d.before, d.less)

-- each coordinate is below its size
pub below_at : (ns xs : List ℕ) (m : ℕ) → IsBelow ns xs → m < length ns → slice_index xs m < slice_index ns m
below_at [] [] m b l = absurd (omega (arith, l))
below_at [] (x ∷ xs) m b l = absurd b
below_at (n ∷ ns) [] m b l = absurd b
below_at (n ∷ ns) (x ∷ xs) zero b l = b.0
below_at (n ∷ ns) (x ∷ xs) (suc m) b l = below_at ns xs m b.1 (omega (arith, l))

pub below_from : (ns xs : List ℕ) → length xs ≡ length ns → ((m : ℕ) → m < length ns → slice_index xs m < slice_index ns m)
    → IsBelow ns xs
below_from [] [] long h = tt
below_from [] (x ∷ xs) long h = absurd (omega (arith, long))
below_from (n ∷ ns) [] long h = absurd (omega (arith, long))
below_from (n ∷ ns) (x ∷ xs) long h =
    (h 0 (omega arith), below_from ns xs (omega (arith, long)) (λ m l. h (suc m) (omega (arith, l))))
