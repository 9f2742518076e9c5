-- The product that code computes of a number of parents and a factor is a word that stands for their product.
use Rattle.std.specs.Prelude.{◌≡◌, ◌⊎◌, ℕ, ◌+◌, ◌-◌, ◌*◌, ◌^◌, ◌≤◌, ◌<◌, min, Some, refl}
use Rattle.std.proofs.Common.{◌∙◌, sym, ap, subst, arith, inl, inr, lit<, lit≤}
use Rattle.std.proofs.Math.Nat.{mul-le-mul, mul-le-mul_left, mul-le-mul_right}
use Rattle.std.proofs.lemmas.Bool.{cases_lt}
use Rattle.std.proofs.lemmas.Bool.Decides.{nat_tests}
use Rattle.limits.specs.Limits.{greatest_position_count}
use Rattle.kernel_code.specs.Meaning.{State, value, apply_each}
use Rattle.kernel_code.proofs.Equations.{value_min}
use Rattle.kernel_code.specs.Widths.{slot_width}
use Rattle.kernel_code.proofs.Widths.{slot_width_small}
use Rattle.kernel_code.proofs.Words.{product_is, difference_is, less_yes, less_no}
use Rattle.kernel_code.specs.declared.syntax.KExpr.{KExpr, Num, Bin, Min}
use Rattle.kernel_code.specs.declared.syntax.Op.TheVariants.{Mul}
use Rattle.level_core.specs.GuardedProducts.{greatest_narrow_factor, parents_of_wide, is_wide, most_parents}
use Rattle.level_core.specs.GuardedProducts.{guarded_product, StandsForProduct}

-- ---- the numbers
positions_are_few : greatest_position_count ≤ 2 ^ 40
unfolding greatest_position_count
positions_are_few = lit≤ tt

pub wide_parents_are_positions : parents_of_wide ≤ greatest_position_count
unfolding parents_of_wide greatest_position_count
wide_parents_are_positions = lit≤ tt

wide_is : parents_of_wide ≡ 2 ^ 18
unfolding parents_of_wide
wide_is = refl

narrow_is : greatest_narrow_factor ≡ 2 ^ 22
unfolding greatest_narrow_factor
narrow_is = refl

-- a width and a range may be factors
pub widths_are_factors : (most : ℕ) → most ≤ greatest_position_count → slot_width most ≤ 2 ^ 42
widths_are_factors most few =
    let limit = positions_are_few in let wide = slot_width_small most 40 (omega (arith, few, limit)) in omega (arith, wide)

pub sizes_are_factors : (size : ℕ) → size ≤ greatest_position_count → size ≤ 2 ^ 42
sizes_are_factors size few = let limit = positions_are_few in omega (arith, few, limit)

-- ---- products of fewer parents
-- so many parents are enough for a factor: their product is a word, and passes the limit
record AreEnough (factor most : ℕ) : Type 0 where
  word : most * factor < 2 ^ 64
  beyond : 0 < factor → greatest_position_count < most * factor

fewer_or_most : (n most : ℕ) → (min n most ≡ n) ⊎ ((min n most ≡ most) × (most ≤ n))
fewer_or_most n most = grind (arith, nat_tests)

nothing_times : (k factor : ℕ) → factor ≤ 0 → k * factor ≡ 0
nothing_times k factor none = let zero_factor : factor ≡ 0 = omega (arith, none) in ap (λ f. k * f) zero_factor ∙ omega arith

some_factor : (k factor : ℕ) → greatest_position_count < k * factor → 0 < factor
some_factor k factor beyond = elim (cases_lt 0 factor) [
  | inl some ↦ some
  | inr none ↦ let product = nothing_times k factor none in absurd (omega (arith, beyond, product))
]

same_product : (parents factor most : ℕ) → AreEnough factor most → parents * factor ≤ greatest_position_count
    → min parents most * factor ≡ parents * factor
same_product parents factor most enough fits = elim (fewer_or_most parents most) [
  | inl all ↦ ap (λ k. k * factor) all
  | inr more ↦ elim (cases_lt 0 factor) [
    | inl some ↦ let many : most * factor ≤ parents * factor = mul-le-mul_right factor more.1 in
        let beyond = enough.beyond some in absurd (omega (arith, fits, many, beyond))
    | inr none ↦ nothing_times (min parents most) factor none ∙ sym (nothing_times parents factor none)
  ]
]

above_product : (parents factor most : ℕ) → AreEnough factor most → greatest_position_count < parents * factor
    → greatest_position_count < min parents most * factor
above_product parents factor most enough beyond = elim (fewer_or_most parents most) [
  | inl all ↦ subst (λ k. greatest_position_count < k * factor) (sym all) beyond
  | inr more ↦ subst (λ k. greatest_position_count < k * factor) (sym more.0) (enough.beyond (some_factor parents factor beyond))
]

stands : (parents factor most : ℕ) → AreEnough factor most → StandsForProduct parents factor (min parents most * factor)
stands parents factor most enough =
    let few : min parents most * factor ≤ most * factor = mul-le-mul_right factor (omega arith) in
    let word = enough.word in
    record {
      word = omega (arith, few, word);
      within = mul-le-mul_right factor (omega arith);
      same = same_product parents factor most enough;
      above = above_product parents factor most enough;
    }

narrow_enough : (factor : ℕ) → factor ≤ greatest_narrow_factor → AreEnough factor (greatest_position_count + 1)
narrow_enough factor narrow =
    let few = positions_are_few in
    let is = narrow_is in
    let parents : greatest_position_count + 1 ≤ 2 ^ 40 + 1 = omega (arith, few) in
    let small : factor ≤ 2 ^ 22 = omega (arith, narrow, is) in
    let product = mul-le-mul parents small in
    record {
      word = omega (arith, product);
      beyond = λ some. let least : (greatest_position_count + 1) * 1 ≤ (greatest_position_count + 1) * factor =
          mul-le-mul_left (greatest_position_count + 1) (omega (arith, some)) in
          omega (arith, least);
    }

wide_enough : (factor : ℕ) → greatest_narrow_factor < factor → factor ≤ 2 ^ 42 → AreEnough factor (parents_of_wide + 1)
wide_enough factor wide small =
    let few = positions_are_few in
    let is = narrow_is in
    let many = wide_is in
    let parents : parents_of_wide + 1 ≤ 2 ^ 18 + 1 = omega (arith, many) in
    let as_many : 2 ^ 18 + 1 ≤ parents_of_wide + 1 = omega (arith, many) in
    let wider : 2 ^ 22 + 1 ≤ factor = omega (arith, wide, is) in
    let product = mul-le-mul parents small in
    let least = mul-le-mul as_many wider in
    record { word = omega (arith, product); beyond = λ some. omega (arith, least, few) }

-- ---- what the code computes
-- so many parents at most are asked for, where they are told
asked : (parents factor : KExpr) (p f most : ℕ) (s : State) → value parents s ≡ Some p → value factor s ≡ Some f
    → value (most_parents factor) s ≡ Some most → most * f < 2 ^ 64
    → value (guarded_product parents factor) s ≡ Some (min p most * f)
asked parents factor p f most s first second told word =
    let few : min p most * f ≤ most * f = mul-le-mul_right f (omega arith) in
    let fewer : value (Min parents (most_parents factor)) s ≡ Some (min p most) =
    value_min parents (most_parents factor) s ∙ ap (λ o. apply_each min o (value (most_parents factor) s)) first
    ∙ ap (apply_each min (Some p)) told in
    product_is (Min parents (most_parents factor)) factor (min p most) f s fewer second (omega (arith, few, word))

-- where the comparison is 0 or 1
most_told : (factor : KExpr) (x : ℕ) (s : State) → x ≤ 1 → value (is_wide factor) s ≡ Some x
    → value (most_parents factor) s ≡ Some (greatest_position_count + 1 - x * (greatest_position_count - parents_of_wide))
most_told factor x s bit told =
    let few = positions_are_few in
    let less : x * (greatest_position_count - parents_of_wide) ≤ 1 * (greatest_position_count - parents_of_wide) =
    mul-le-mul_right (greatest_position_count - parents_of_wide) bit in
    difference_is (Num (greatest_position_count + 1)) (Bin Mul (is_wide factor) (Num (greatest_position_count - parents_of_wide)))
    (greatest_position_count + 1) (x * (greatest_position_count - parents_of_wide)) s refl
    (product_is (is_wide factor) (Num (greatest_position_count - parents_of_wide)) x (greatest_position_count - parents_of_wide) s told refl
    (omega (arith, few, less)))
    (omega (arith, few)) (omega (arith, less))

-- the product that code computes is a word that stands for the product of all parents
pub guarded_told : (parents factor : KExpr) (p f : ℕ) (s : State) → value parents s ≡ Some p → value factor s ≡ Some f → f ≤ 2 ^ 42
    → (n : ℕ) × (value (guarded_product parents factor) s ≡ Some n) × StandsForProduct p f n
guarded_told parents factor p f s first second small = elim (cases_lt greatest_narrow_factor f) [
  | inl wide ↦ let enough = wide_enough f wide small in
      let within = wide_parents_are_positions in
      let many : greatest_position_count + 1 - 1 * (greatest_position_count - parents_of_wide) ≡ parents_of_wide + 1 = omega
      (arith, within) in (
        min p (parents_of_wide + 1) * f,
        asked parents factor p f (parents_of_wide + 1) s first second
            (most_told factor 1 s (omega arith) (less_yes (Num greatest_narrow_factor) factor greatest_narrow_factor f s refl second wide)
            ∙ ap Some many) enough.word,
        stands p f (parents_of_wide + 1) enough,
      )
  | inr narrow ↦ let enough = narrow_enough f narrow in
      let many : greatest_position_count + 1 - 0 * (greatest_position_count - parents_of_wide) ≡ greatest_position_count + 1 = omega
      arith in (
        min p (greatest_position_count + 1) * f,
        asked parents factor p f (greatest_position_count + 1) s first second
            (most_told factor 0 s (omega arith) (less_no (Num greatest_narrow_factor) factor greatest_narrow_factor f s refl second narrow)
            ∙ ap Some many) enough.word,
        stands p f (greatest_position_count + 1) enough,
      )
]

-- where the word is within the limit it is the product
pub all_parents : (parents factor n : ℕ) → StandsForProduct parents factor n → n ≤ greatest_position_count → n ≡ parents * factor
all_parents parents factor n word fits = elim (cases_lt greatest_position_count (parents * factor)) [
  | inl beyond ↦ let above = word.above beyond in absurd (omega (arith, above, fits))
  | inr within ↦ word.same within
]
