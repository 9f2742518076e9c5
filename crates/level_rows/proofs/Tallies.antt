-- The greatest number of positions that rows begin below one parent.
use Rattle.std.specs.Prelude.{◌≡◌, ◌≢◌, ◌⊎◌, ℕ, zero, suc, ◌+◌, ◌-◌, ◌≤◌, ◌<◌, ◌==◌, ◌&&◌, max, Bool, true, false, if◌then◌else◌, refl}
use Rattle.std.proofs.Common.{◌∙◌, sym, ap, subst, arith, inl, inr}
use Rattle.std.proofs.lemmas.Bool.{cases_lt}
use Rattle.std.proofs.lemmas.Bool.Decides.{nat_tests, eqb_tells}
use Rattle.level_rows.specs.Rows.{Rows, begun_below, AreTogether, IsGreatestBelow}

below_step_is : (rows : Rows) (p n : ℕ) (a b : Bool) → rows.first n ≡ a → (rows.parent n == p) ≡ b
    → begun_below rows p (suc n) ≡ (if a && b then begun_below rows p n + 1 else begun_below rows p n)
below_step_is rows p n a b first same =
    ap (λ t. if t && (rows.parent n == p) then begun_below rows p n + 1 else begun_below rows p n) first
    ∙ ap (λ t. if a && t then begun_below rows p n + 1 else begun_below rows p n) same

-- the next row begins none below another parent
below_other : (rows : Rows) (p n : ℕ) → rows.parent n ≢ p → begun_below rows p (suc n) ≡ begun_below rows p n
below_other rows p n other = let is : (rows.parent n == p) ≡ false = grind (arith, nat_tests, other) in by_first (rows.first n) refl is
  where
    by_first : (a : Bool) → rows.first n ≡ a → (rows.parent n == p) ≡ false → begun_below rows p (suc n) ≡ begun_below rows p n
    by_first true first is = below_step_is rows p n true false first is
    by_first false first is = below_step_is rows p n false false first is

below_here : (rows : Rows) (n : ℕ) → begun_below rows (rows.parent n) (suc n)
    ≡ begun_below rows (rows.parent n) n + (if rows.first n then 1 else 0)
below_here rows n = by_first (rows.first n) refl
  where
    same : (rows.parent n == rows.parent n) ≡ true
    same = grind (arith, nat_tests)

    by_first : (a : Bool) → rows.first n ≡ a → begun_below rows (rows.parent n) (suc n)
        ≡ begun_below rows (rows.parent n) n + (if a then 1 else 0)
    by_first true first = below_step_is rows (rows.parent n) n true true first same
    by_first false first = let k = below_step_is rows (rows.parent n) n false true first same in omega (arith, k)

-- rows begin none below a parent that none of them has
none_below : (rows : Rows) (p n : ℕ) → ((i : ℕ) → i < n → rows.parent i ≢ p) → begun_below rows p n ≡ 0
none_below rows p zero h = refl
none_below rows p (suc n) h = below_other rows p n (h n (omega arith)) ∙ none_below rows p n (λ i l. h i (omega (arith, l)))

-- after n rows
pub record Tallying (rows : Rows) (n last here most : ℕ) : Type 0 where
  pub here_is : here ≡ begun_below rows last n
  pub few : here ≤ n
  pub upto : (p : ℕ) → begun_below rows p n ≤ most
  pub reached : (most ≡ 0) ⊎ ((i : ℕ) × (i < n) × (begun_below rows (rows.parent i) n ≡ most))
  pub last_is : (i : ℕ) → n ≡ suc i → last ≡ rows.parent i

pub none_tallied : (rows : Rows) → Tallying rows 0 0 0 0
none_tallied rows = record {
  here_is = refl;
  few = omega arith;
  upto = λ p. omega arith;
  reached = inl refl;
  last_is = λ i h. absurd (omega (arith, h));
}

max_below : (a b : ℕ) → (a ≤ max a b) × (b ≤ max a b) × ((max a b ≡ a) ⊎ ((max a b ≡ b) × (a < b)))
max_below a b = (omega arith, omega arith, by_order (cases_lt a b))
  where
    by_order : (a < b) ⊎ (b ≤ a) → (max a b ≡ a) ⊎ ((max a b ≡ b) × (a < b))
    by_order (inl l) = inr (omega (arith, l), l)
    by_order (inr l) = inl (omega (arith, l))

pub tallied_more : (rows : Rows) (n last here most then_here then_most : ℕ) → AreTogether rows → n < rows.count
    → Tallying rows n last here most
    → then_here ≡ (if last == rows.parent n then here else 0) + (if rows.first n then 1 else 0) → then_most ≡ max most then_here
    → Tallying rows (n + 1) (rows.parent n) then_here then_most
tallied_more rows n last here most then_here then_most together h t here_is most_is =
    subst (λ m. Tallying rows m (rows.parent n) then_here then_most) next (record {
      here_is = now;
      few = let f = t.few in let b = before_is in let k = below_few (rows.first n) in omega (arith, here_is, f, k, start_few);
      upto = λ p. elim (eqb_tells (rows.parent n) p) [
        | inl k ↦ let m = max_below most then_here in let same = ap (λ q. begun_below rows q (suc n)) k.1 in let b = m.1 in
            omega (arith, same, now, b, most_is)
        | inr k ↦ let m = max_below most then_here in let a = m.0 in let u = t.upto p in let o = below_other rows p n k.1 in
            omega (arith, a, u, o, most_is)
      ];
      reached = by_most (max_below most then_here).2 t.reached;
      last_is = λ i is. let same : n ≡ i = omega (arith, is) in ap rows.parent same;
    })
  where
    next : suc n ≡ n + 1
    next = omega arith

    nothing : last ≢ rows.parent n → (i : ℕ) → i < n → rows.parent i ≢ rows.parent n
    nothing other i l same = by_next (cases_lt (i + 1) n)
      where
        at : n ≡ suc (n - 1)
        at = omega (arith, l)

        by_next : (i + 1 < n) ⊎ (n ≤ i + 1) → ⊥
        by_next (inl before) = other (t.last_is (n - 1) at ∙ together i (n - 1) n (omega (arith, before)) (omega (arith, before)) h same)
        by_next (inr from) = let here : i ≡ n - 1 = omega (arith, from, l) in
            other (t.last_is (n - 1) at ∙ ap rows.parent (sym here) ∙ same)

    start : (if last == rows.parent n then here else 0) ≡ begun_below rows (rows.parent n) n
    start = elim (eqb_tells last (rows.parent n)) [
      | inl k ↦ ap (λ b. if b then here else 0) (let e : (last == rows.parent n) ≡ true = let s = k.1 in grind (arith, nat_tests, s) in e)
          ∙ t.here_is ∙ ap (λ p. begun_below rows p n) k.1
      | inr k ↦ ap (λ b. if b then here else 0) (let e : (last == rows.parent n) ≡ false = let s = k.1 in grind (arith, nat_tests, s) in e)
          ∙ sym (none_below rows (rows.parent n) n (nothing k.1))
    ]

    before_is : then_here ≡ begun_below rows (rows.parent n) n + (if rows.first n then 1 else 0)
    before_is = here_is ∙ ap (λ k. k + (if rows.first n then 1 else 0)) start

    start_few : (if last == rows.parent n then here else 0) ≤ n
    start_few = by_test (last == rows.parent n)
      where
        by_test : (b : Bool) → (if b then here else 0) ≤ n
        by_test true = t.few
        by_test false = omega arith

    below_few : (b : Bool) → (if b then 1 else 0) ≤ 1
    below_few true = omega arith
    below_few false = omega arith

    now : then_here ≡ begun_below rows (rows.parent n) (suc n)
    now = before_is ∙ sym (below_here rows n)

    by_most : (max most then_here ≡ most) ⊎ ((max most then_here ≡ then_here) × (most < then_here))
        → (most ≡ 0) ⊎ ((i : ℕ) × (i < n) × (begun_below rows (rows.parent i) n ≡ most))
        → (then_most ≡ 0) ⊎ ((i : ℕ) × (i < suc n) × (begun_below rows (rows.parent i) (suc n) ≡ then_most))
    by_most (inr more) r = inr (n, omega arith, sym now ∙ sym more.0 ∙ sym most_is)
    by_most (inl same) (inl none) = inl (most_is ∙ same ∙ none)
    by_most (inl same) (inr some) = elim (eqb_tells (rows.parent n) (rows.parent some.0)) [
      | inl k ↦
          let rise = step_up (rows.parent some.0) in
          let at = some.2 in
          let top = ap (λ q. begun_below rows q (suc n)) k.1 in
          let m = (max_below most then_here).1 in
          inr (n, omega arith, omega (arith, rise, at, top, now, m, same, most_is))
      | inr k ↦ inr (
        some.0,
        (let l = some.1 in omega (arith, l)),
        below_other rows (rows.parent some.0) n k.1 ∙ some.2 ∙ sym same
            ∙ sym most_is,
      )
    ]
      where
        step_up : (p : ℕ) → begun_below rows p n ≤ begun_below rows p (suc n)
        step_up p = by_both (rows.first n && (rows.parent n == p))
          where
            by_both : (b : Bool) → begun_below rows p n ≤ (if b then begun_below rows p n + 1 else begun_below rows p n)
            by_both true = omega arith
            by_both false = omega arith

pub tallied_all : (rows : Rows) (n last here most : ℕ) → n ≡ rows.count → Tallying rows n last here most → IsGreatestBelow rows most
tallied_all rows n last here most all t = along (subst (λ m. Tallying rows m last here most) all t)
  where
    along : Tallying rows rows.count last here most → IsGreatestBelow rows most
    along k = record { upto = k.upto; reached = k.reached }

-- n rows begin at most n positions below a parent
below_few : (rows : Rows) (p n : ℕ) → begun_below rows p n ≤ n
below_few rows p zero = omega arith
below_few rows p (suc n) = by_test (below_few rows p n) (rows.first n && (rows.parent n == p))
  where
    by_test : begun_below rows p n ≤ n → (b : Bool) → (if b then begun_below rows p n + 1 else begun_below rows p n) ≤ suc n
    by_test k true = omega (arith, k)
    by_test k false = omega (arith, k)

pub greatest_few : (rows : Rows) (most : ℕ) → IsGreatestBelow rows most → most ≤ rows.count
greatest_few rows most g = by_reached g.reached
  where
    by_reached : (most ≡ 0) ⊎ ((i : ℕ) × (i < rows.count) × (begun_below rows (rows.parent i) rows.count ≡ most)) → most ≤ rows.count
    by_reached (inl none) = omega (arith, none)
    by_reached (inr some) = let k = below_few rows (rows.parent some.0) rows.count in let at = some.2 in omega (arith, k, at)
