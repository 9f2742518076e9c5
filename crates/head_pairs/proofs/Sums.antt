-- Sums and counts over variables' coordinates.
use Rattle.std.specs.Prelude.{◌≡◌, ℕ, zero, suc, ◌+◌, ◌≤◌, List, [], ◌∷◌, map, refl}
use Rattle.std.specs.List.{sum_by}
use Rattle.std.proofs.Common.{◌∙◌, sym, ap, arith}
use Rattle.std.proofs.lemmas.List.Sums.{sum_by-cons}
use Rattle.expr_terms.specs.Points.{with_coordinate}
use Rattle.loop_code.specs.Turns.{count_below}
use Rattle.loop_code.proofs.Turns.{count_none, count_plus}
use Rattle.lowering.specs.Right.{count_over}
use Rattle.lowering.proofs.Counts.{count_same}

pub sum_mapped : {X Y : Type 0} (f : Y → ℕ) (g : X → Y) (xs : List X) → sum_by f (map g xs) ≡ sum_by (λ x. f (g x)) xs
sum_mapped f g [] = refl
sum_mapped f g (x ∷ xs) =
    sum_by-cons f (g x) (map g xs) ∙ ap (λ k. f (g x) + k) (sum_mapped f g xs) ∙ sym (sum_by-cons (λ y. f (g y)) x xs)

count_more : (n : ℕ) (f g : ℕ → ℕ) → ((x : ℕ) → f x ≤ g x) → count_below n f ≤ count_below n g
count_more zero f g h = omega arith
count_more (suc n) f g h = let rest = count_more n f g h in let last = h n in omega (arith, rest, last)

pub count_sums : {X : Type 0} (n : ℕ) (g : ℕ → X → ℕ) (xs : List X)
    → count_below n (λ i. sum_by (g i) xs) ≡ sum_by (λ x. count_below n (λ i. g i x)) xs
count_sums n g [] = count_none n
count_sums n g (x ∷ xs) =
    count_same n (λ i. sum_by (g i) (x ∷ xs)) (λ i. g i x + sum_by (g i) xs) (λ i. sum_by-cons (g i) x xs)
    ∙ count_plus n (λ i. g i x) (λ i. sum_by (g i) xs) ∙ ap (λ k. count_below n (λ i. g i x) + k) (count_sums n g xs)
    ∙ sym (sum_by-cons (λ y. count_below n (λ i. g i y)) x xs)

pub count_over_more : (ranges : ℕ → ℕ) (vs : List ℕ) (f g : (ℕ → ℕ) → ℕ) → ((p : ℕ → ℕ) → f p ≤ g p) → (point : ℕ → ℕ)
    → count_over ranges vs f point ≤ count_over ranges vs g point
count_over_more ranges [] f g h point = h point
count_over_more ranges (v ∷ vs) f g h point =
    count_more (ranges v) (λ x. count_over ranges vs f (with_coordinate point v x))
    (λ x. count_over ranges vs g (with_coordinate point v x))
    (λ x. count_over_more ranges vs f g h (with_coordinate point v x))
