-- The greatest number of positions that rows begin below one parent: there is one, and it is within the range of inserted rows.
use Rattle.std.specs.Prelude.{◌≡◌, ◌⊎◌, ℕ, zero, suc, ◌+◌, ◌≤◌, ◌<◌, ◌==◌, ◌&&◌, Bool, true, false, if◌then◌else◌, refl}
use Rattle.std.proofs.Common.{◌∙◌, sym, ap, arith, inl, inr}
use Rattle.std.proofs.lemmas.Bool.{cases_lt}
use Rattle.std.proofs.lemmas.Bool.Decides.{nat_tests}
use Rattle.level_core.specs.declared.letter.Letter.{Letter}
use Rattle.level_core.specs.Kinds.{properties, capabilities, positions_for}
use Rattle.level_core.proofs.KindLaws.{appended_stored}
use Rattle.level_rows.specs.Rows.{Rows, begun, begun_below, IsGreatestBelow, MayInsertRows}
use Rattle.level_rows.specs.Filling.{AreNeeded}
use Rattle.tensor_storage.proofs.Steps.{apart}

module _ (rows : Rows) where
  -- the next row begins a position below the parent, or it doesn't
  next_below : (P : ℕ → Type 0) (p n : ℕ) → (rows.first n ≡ true → rows.parent n ≡ p → P (begun_below rows p n + 1))
      → P (begun_below rows p n) → P (begun_below rows p (suc n))
  next_below P p n more none = by_first (rows.first n) refl (rows.parent n == p) refl
    where
      by_first : (a : Bool) → rows.first n ≡ a → (b : Bool) → (rows.parent n == p) ≡ b
          → P (if a && b then begun_below rows p n + 1 else begun_below rows p n)
      by_first true is true same = more is (let k : rows.parent n ≡ p = grind (arith, nat_tests, same) in k)
      by_first true is false same = none
      by_first false is b same = none

  -- no more than the range
  pub few_below_size : (size parents p : ℕ) → MayInsertRows size parents rows → begun_below rows p rows.count ≤ size
  few_below_size size parents p may =
      upto rows.count size (omega arith) (λ i h same. let k = may.below i h in omega (arith, k))
    where
      upto : (n most : ℕ) → n ≤ rows.count → ((i : ℕ) → i < n → rows.parent i ≡ p → rows.coord i + 1 ≤ most)
          → begun_below rows p n ≤ most
      upto zero most h all = omega arith
      upto (suc n) most h all = next_below (λ k. k ≤ most) p n
          (λ first same.
          let before = upto n (rows.coord n) (omega (arith, h))
          (λ i less at. let k = may.above i n less (omega (arith, h)) first (at ∙ sym same) in omega (arith, k)) in
          let here = all n (omega arith) same in
          omega (arith, before, here))
          (upto n most (omega (arith, h)) (λ i less at. all i (omega (arith, less)) at))

  -- below a parent without rows no position is begun
  some_row : (p n : ℕ) → (begun_below rows p n ≡ 0) ⊎ ((i : ℕ) × (i < n) × (rows.parent i ≡ p))
  some_row p zero = inl refl
  some_row p (suc n) = next_below (λ k. (k ≡ 0) ⊎ ((i : ℕ) × (i < suc n) × (rows.parent i ≡ p))) p n
      (λ first same. inr (n, omega arith, same)) (by_before (some_row p n))
    where
      by_before : (begun_below rows p n ≡ 0) ⊎ ((i : ℕ) × (i < n) × (rows.parent i ≡ p))
          → (begun_below rows p n ≡ 0) ⊎ ((i : ℕ) × (i < suc n) × (rows.parent i ≡ p))
      by_before (inl none) = inl none
      by_before (inr some) = let h = some.1 in inr (some.0, omega (arith, h), some.2)

  -- of the first rows
  record Upto (n : ℕ) : Type 0 where
    most : ℕ
    all : (i : ℕ) → i < n → begun_below rows (rows.parent i) rows.count ≤ most
    reached : (most ≡ 0) ⊎ ((i : ℕ) × (i < n) × (begun_below rows (rows.parent i) rows.count ≡ most))

  later : (n most : ℕ) → (most ≡ 0) ⊎ ((i : ℕ) × (i < n) × (begun_below rows (rows.parent i) rows.count ≡ most))
      → (most ≡ 0) ⊎ ((i : ℕ) × (i < suc n) × (begun_below rows (rows.parent i) rows.count ≡ most))
  later n most (inl none) = inl none
  later n most (inr some) = let h = some.1 in inr (some.0, omega (arith, h), some.2)

  one_more : (n : ℕ) → Upto n → Upto (suc n)
  one_more n u = by_order (cases_lt u.most (begun_below rows (rows.parent n) rows.count))
    where
      by_order : (u.most < begun_below rows (rows.parent n) rows.count) ⊎ (begun_below rows (rows.parent n) rows.count ≤ u.most)
          → Upto (suc n)
      by_order (inl more) = record {
        most = begun_below rows (rows.parent n) rows.count;
        all = λ i h. here i h (cases_lt i n);
        reached = inr (n, omega arith, refl);
      }
        where
          here : (i : ℕ) → i < suc n → (i < n) ⊎ (n ≤ i)
              → begun_below rows (rows.parent i) rows.count ≤ begun_below rows (rows.parent n) rows.count
          here i h (inl less) = let k = u.all i less in omega (arith, k, more)
          here i h (inr from) =
              let is : i ≡ n = omega (arith, h, from) in
              let same = ap (λ j. begun_below rows (rows.parent j) rows.count) is in
              omega (arith, same)
      by_order (inr fewer) = record {
        most = u.most;
        all = λ i h. here i h (cases_lt i n);
        reached = later n u.most u.reached;
      }
        where
          here : (i : ℕ) → i < suc n → (i < n) ⊎ (n ≤ i) → begun_below rows (rows.parent i) rows.count ≤ u.most
          here i h (inl less) = u.all i less
          here i h (inr from) =
              let is : i ≡ n = omega (arith, h, from) in
              let same = ap (λ j. begun_below rows (rows.parent j) rows.count) is in
              omega (arith, same, fewer)

  upto_all : (n : ℕ) → Upto n
  upto_all zero = record { most = 0; all = λ i h. absurd (omega (arith, h)); reached = inl refl }
  upto_all (suc n) = one_more n (upto_all n)

  pub greatest : (most : ℕ) × IsGreatestBelow rows most
  greatest = let u = upto_all rows.count in
      (u.most, record { upto = λ p. by_row u p (some_row p rows.count); reached = u.reached })
    where
      by_row : (u : Upto rows.count) (p : ℕ) → (begun_below rows p rows.count ≡ 0) ⊎ ((i : ℕ) × (i < rows.count) × (rows.parent i ≡ p))
          → begun_below rows p rows.count ≤ u.most
      by_row u p (inl none) = omega (arith, none)
      by_row u p (inr some) =
          let k = u.all some.0 some.1 in
          let same = ap (λ q. begun_below rows q rows.count) some.2 in
          omega (arith, k, same)

  -- how many positions a level needs for the rows
  pub needs : (letter : Letter) (size parents : ℕ) → (needed : ℕ) × (most : ℕ) × AreNeeded letter size parents rows needed most
  needs letter size parents = by_append (capabilities letter).append refl
    where
      by_full : (capabilities letter).append ≡ false → (full : Bool) → (properties letter).full ≡ full
          → (needed : ℕ) × (most : ℕ) × AreNeeded letter size parents rows needed most
      by_full never true full = (
        positions_for letter size parents 0,
        0,
        record {
          appended = λ appends. apart (sym appends ∙ never);
          inserted = λ _. refl;
          greatest = λ _ stored. apart (sym full ∙ stored);
          full = λ _. refl;
        },
      )
      by_full never false stored = (
        positions_for letter size parents greatest.0,
        greatest.0,
        record {
          appended = λ appends. apart (sym appends ∙ never);
          inserted = λ _. refl;
          greatest = λ _ _. greatest.1;
          full = λ full. apart (sym full ∙ stored);
        },
      )

      by_append : (append : Bool) → (capabilities letter).append ≡ append
          → (needed : ℕ) × (most : ℕ) × AreNeeded letter size parents rows needed most
      by_append true appends = (
        begun rows.first rows.count,
        begun rows.first rows.count,
        record {
          appended = λ _. (refl, refl);
          inserted = λ never. apart (sym appends ∙ never);
          greatest = λ never. apart (sym appends ∙ never);
          full = λ full. apart (sym full ∙ appended_stored letter appends);
        },
      )
      by_append false never = by_full never (properties letter).full refl
