-- The number of positions that rows in order begin is that of their different coordinates.
use Rattle.std.specs.Prelude.{◌≡◌, ◌⊎◌, ℕ, zero, suc, ◌+◌, ◌≤◌, ◌<◌, ◌==◌, ◌&&◌, ◌||◌, not, Bool, true, false, if◌then◌else◌, List}
use Rattle.std.specs.Prelude.{slice_index, refl}
use Rattle.std.proofs.Common.{◌∙◌, sym, ap, subst, arith, inl, inr}
use Rattle.std.proofs.lemmas.Bool.{cases_lt, cases_order}
use Rattle.std.proofs.lemmas.Bool.Decides.{nat_tests}
use Rattle.level_rows.specs.Rows.{rows_at, begun, begun_below, IsGreatestBelow}
use Rattle.level_rows.specs.Tables.{Agree, Increase, ShareBy}
use Rattle.level_rows.proofs.TableLaws.{agree_sym, after}
use Rattle.tensor_storage.specs.Counts.{is_met, different, different_below, greatest_below}
use Rattle.tensor_storage.specs.Tables.{Table, agree, begins_at, keys_of}
use Rattle.tensor_storage.proofs.Tables.{apart, agree_tells, agree_from}

or_right : (a b : Bool) → b ≡ true → (a || b) ≡ true
or_right true b h = refl
or_right false b h = h

or_neither : (a b : Bool) → a ≡ false → b ≡ false → (a || b) ≡ false
or_neither true b h k = apart h
or_neither false b h k = k

not_false : (a : Bool) → (a ≡ true → ⊥) → a ≡ false
not_false true h = absurd (h refl)
not_false false h = refl

same_bool : (a b : Bool) → (a ≡ true → b ≡ true) → (b ≡ true → a ≡ true) → a ≡ b
same_bool true b f g = sym (f refl)
same_bool false true f g = g refl
same_bool false false f g = refl

-- no row below j agrees
met_none : (coords : ℕ → ℕ → ℕ) (n i j : ℕ) → ((k : ℕ) → k < j → Agree coords n k i → ⊥) → is_met coords n i j ≡ false
met_none coords n i zero none = refl
met_none coords n i (suc j) none =
    or_neither (is_met coords n i j) (agree coords n j i) (met_none coords n i j (λ k h. none k (omega (arith, h))))
    (not_false (agree coords n j i) (λ h. none j (omega arith) (agree_tells coords n j i h)))

-- a row is met again exactly where it has the coordinates of the row before
first_is : (coords : ℕ → ℕ → ℕ) (order count n i : ℕ) → Increase coords order count → i < count
    → begins_at coords n i ≡ not (is_met coords n i i)
first_is coords order count n zero up h = refl
first_is coords order count n (suc i) up h = ap not (by_test (agree coords n i (suc i)) refl)
  where
    by_test : (b : Bool) → agree coords n i (suc i) ≡ b → b ≡ (is_met coords n (suc i) i || b)
    by_test true is = sym (or_right (is_met coords n (suc i) i) true refl)
    by_test false is = sym (or_neither (is_met coords n (suc i) i) false (met_none coords n (suc i) i (λ k less a.
        apart (sym (agree_from coords n i (suc i) (after coords order count n k i (suc i) up less (omega arith) h a)) ∙ is))) refl)

-- how many positions the first rows begin
pub begun_is : (coords : ℕ → ℕ → ℕ) (order count n m : ℕ) → Increase coords order count → m ≤ count
    → begun (begins_at coords n) m ≡ different coords n m
begun_is coords order count n zero up h = refl
begun_is coords order count n (suc m) up h = by_met (begun_is coords order count n m up (omega (arith, h))) (is_met coords n m m)
    (first_is coords order count n m up (omega (arith, h)))
  where
    by_met : begun (begins_at coords n) m ≡ different coords n m → (b : Bool) → begins_at coords n m ≡ not b
        → (if begins_at coords n m then begun (begins_at coords n) m + 1 else begun (begins_at coords n) m)
        ≡ (if b then different coords n m else different coords n m + 1)
    by_met rest true is = ap (λ t. if t then begun (begins_at coords n) m + 1 else begun (begins_at coords n) m) is ∙ rest
    by_met rest false is = ap (λ t. if t then begun (begins_at coords n) m + 1 else begun (begins_at coords n) m) is ∙ ap (λ k. k + 1) rest

module _ (table : Table) (order d parents : ℕ) (ps : List ℕ) (up : Increase table.coords order table.count)
    (share : ShareBy table.coords d table.count parents (slice_index ps)) where
  -- two rows have one parent exactly where they agree above the level
  parent_same : (i j : ℕ) → i < table.count → j < table.count → (slice_index ps j == slice_index ps i) ≡ agree table.coords d j i
  parent_same i j h k = same_bool (slice_index ps j == slice_index ps i) (agree table.coords d j i)
      (λ is. let same : slice_index ps j ≡ slice_index ps i = grind (arith, nat_tests, is) in
      agree_from table.coords d j i (down same (cases_order j i)))
      (λ is. let same = over (agree_tells table.coords d j i is) (cases_order j i) in grind (arith, nat_tests, same))
    where
      down : slice_index ps j ≡ slice_index ps i → (j ≡ i) ⊎ ((j < i) ⊎ (i < j)) → Agree table.coords d j i
      down same (inl is) = subst (λ m. Agree table.coords d j m) is (λ e l. refl)
      down same (inr (inl less)) = share.agree j i less h same
      down same (inr (inr less)) = agree_sym table.coords d i j (share.agree i j less k (sym same))

      over : Agree table.coords d j i → (j ≡ i) ⊎ ((j < i) ⊎ (i < j)) → slice_index ps j ≡ slice_index ps i
      over a (inl is) = ap (slice_index ps) is
      over a (inr (inl less)) = share.share j i less h a
      over a (inr (inr less)) = sym (share.share i j less k (agree_sym table.coords d j i a))

  -- how many positions rows begin below a row's parent
  below_is : (i m : ℕ) → i < table.count → m ≤ table.count
      → begun_below (rows_at (keys_of table d (suc d)) ps) (slice_index ps i) m ≡ different_below table.coords d i m
  below_is i zero h k = refl
  below_is i (suc m) h k =
      ap (λ t. if t && (slice_index ps m == slice_index ps i) then begun_below (rows_at (keys_of table d (suc d)) ps) (slice_index ps i) m
      + 1 else begun_below (rows_at (keys_of table d (suc d)) ps) (slice_index ps i) m)
      (first_is table.coords order table.count (suc d) m up (omega (arith, k)))
      ∙ ap (λ t. if not (is_met table.coords (suc d) m m) && t then begun_below (rows_at (keys_of table d (suc d)) ps) (slice_index ps i) m
      + 1 else begun_below (rows_at (keys_of table d (suc d)) ps) (slice_index ps i) m)
      (parent_same i m h (omega (arith, k)))
      ∙ ap (λ r. if not (is_met table.coords (suc d) m m) && agree table.coords d m i then r + 1 else r) (below_is i m h (omega (arith, k)))
      ∙ ap (λ t. if t then different_below table.coords d i m + 1 else different_below table.coords d i m)
      (turned (not (is_met table.coords (suc d) m m)) (agree table.coords d m i))
    where
      turned : (a b : Bool) → (a && b) ≡ (b && a)
      turned true true = refl
      turned true false = refl
      turned false true = refl
      turned false false = refl

  greatest_upto : (most m : ℕ) → m ≤ table.count → ((i : ℕ) → i < table.count → different_below table.coords d i table.count ≤ most)
      → greatest_below table.coords d table.count m ≤ most
  greatest_upto most zero h all = omega arith
  greatest_upto most (suc m) h all = let before = greatest_upto most m (omega (arith, h)) all in let here = all m (omega (arith, h)) in
      omega (arith, before, here)

  greatest_reaches : (i m : ℕ) → i < m → different_below table.coords d i table.count ≤ greatest_below table.coords d table.count m
  greatest_reaches i zero h = absurd (omega (arith, h))
  greatest_reaches i (suc m) h = by_order (greatest_reaches i m) (cases_lt i m)
    where
      by_order : (i < m → different_below table.coords d i table.count ≤ greatest_below table.coords d table.count m) → (i < m) ⊎ (m ≤ i)
          → different_below table.coords d i table.count ≤ greatest_below table.coords d table.count (suc m)
      by_order again (inl less) = let k = again less in omega (arith, k)
      by_order again (inr from) =
          let is : m ≡ i = omega (arith, h, from) in
          let same = ap (λ j. different_below table.coords d j table.count) is in
          omega (arith, same)

  -- the greatest number of positions that rows begin below one parent
  pub most_is : (most : ℕ) → IsGreatestBelow (rows_at (keys_of table d (suc d)) ps) most
      → most ≡ greatest_below table.coords d table.count table.count
  most_is most g = by_reached g.reached
    where
      upto : greatest_below table.coords d table.count table.count ≤ most
      upto = greatest_upto most table.count (omega arith)
          (λ i h. let k = g.upto (slice_index ps i) in let same = below_is i table.count h (omega arith) in omega (arith, k, same))

      by_reached : (most ≡ 0) ⊎ ((i : ℕ) × (i < table.count)
          × (begun_below (rows_at (keys_of table d (suc d)) ps) (slice_index ps i) table.count ≡ most))
          → most ≡ greatest_below table.coords d table.count table.count
      by_reached (inl none) = omega (arith, none, upto)
      by_reached (inr some) =
          let same = below_is some.0 table.count some.1 (omega arith) in
          let reached = greatest_reaches some.0 table.count some.1 in
          let is = some.2 in
          omega (arith, same, reached, is, upto)
