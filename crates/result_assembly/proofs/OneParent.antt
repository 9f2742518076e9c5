-- Rows that have one parent, below which each begins a position.
use Rattle.std.specs.Prelude.{◌≡◌, ◌⊎◌, ℕ, zero, suc, ◌+◌, ◌≤◌, ◌<◌, ◌==◌, ◌&&◌, Bool, true, if◌then◌else◌, refl}
use Rattle.std.proofs.Common.{◌∙◌, ap, arith, inl, inr}
use Rattle.level_rows.specs.Rows.{Rows, begun_below, IsGreatestBelow}
use Rattle.result_assembly.proofs.Inserted.{below_few}

module _ (rows : Rows) (first : (i : ℕ) → i < rows.count → rows.first i ≡ true) (alike : (i : ℕ) → i < rows.count → rows.parent i ≡ 0) where
  begins_here : (n : ℕ) → n < rows.count → (rows.first n && (rows.parent n == 0)) ≡ true
  begins_here n less = ap (λ b. b && (rows.parent n == 0)) (first n less) ∙ ap (λ p. true && (p == 0)) (alike n less)

  all_begun : (n : ℕ) → n ≤ rows.count → begun_below rows 0 n ≡ n
  all_begun zero within = refl
  all_begun (suc n) within =
      let before = all_begun n (omega (arith, within)) in
      let next : begun_below rows 0 n + 1 ≡ suc n = omega (arith, before) in
      ap (λ (b : Bool). if b then begun_below rows 0 n + 1 else begun_below rows 0 n) (begins_here n (omega (arith, within))) ∙ next

  -- as many as there are rows
  pub greatest_of_one : IsGreatestBelow rows rows.count
  greatest_of_one = record { upto = λ p. below_few rows p rows.count; reached = by_count rows.count refl }
    where
      by_count : (n : ℕ) → rows.count ≡ n
          → (rows.count ≡ 0) ⊎ ((i : ℕ) × (i < rows.count) × (begun_below rows (rows.parent i) rows.count ≡ rows.count))
      by_count zero none = inl none
      by_count (suc n) some =
          let less : 0 < rows.count = omega (arith, some) in
          inr (
            0,
            less,
            ap (λ p. begun_below rows p rows.count) (alike 0 less) ∙ all_begun rows.count (omega arith),
          )
