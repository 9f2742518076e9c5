-- The modes of a dense result, and their ranges.
use Rattle.std.specs.Prelude.{◌≡◌, ℕ, zero, suc, ◌+◌, ◌<◌, nat_eq, Bool, true, false, ◌||◌, List, [], ◌∷◌, length, map, All}
use Rattle.std.specs.Prelude.{slice_index}
use Rattle.std.specs.Prelude.{refl}
use Rattle.std.proofs.Common.{◌∙◌, sym, ap, arith}
use Rattle.std.proofs.lemmas.Bool.Decides.{nat_tests}
use Rattle.std.proofs.lemmas.List.{length-map}
use Rattle.format_spec.specs.declared.format.FormatLevel.{FormatLevel}
use Rattle.format_spec.specs.Formats.{modes_of, IsFormat}
use Rattle.format_spec.proofs.Pigeonholes.{each_mode_stands}
use Rattle.index_notation.specs.Statement.{numbers_from}
use Rattle.index_notation.specs.declared.syntax.Statement.{Statement}
use Rattle.expr_terms.specs.Terms.{contains}
use Rattle.iteration_graph.specs.Edges.{format_of}
use Rattle.tensor_storage.specs.Storages.{in_level_order}
use Rattle.term_code.specs.DenseSinks.{by_level, AreModes}
use Rattle.kernel_correctness.specs.Stores.{Store}
use Rattle.dense_results.specs.Results.{left_ranges, IsDenseStore, HasModes, ResultsHaveModes}

-- a list has the numbers that stand in it
pub contains_at : (xs : List ℕ) (k m : ℕ) → k < length xs → slice_index xs k ≡ m → contains xs m ≡ true
contains_at [] k m h is = absurd (omega (arith, h))
contains_at (x ∷ xs) zero m h is = first (nat_eq x m) (grind (arith, nat_tests, is))
  where
    first : (b : Bool) → b ≡ true → (b || contains xs m) ≡ true
    first true e = refl
    first false e = cc
contains_at (x ∷ xs) (suc k) m h is = later (nat_eq x m) (contains_at xs k m (omega (arith, h)) is)
  where
    later : (b : Bool) → contains xs m ≡ true → (b || contains xs m) ≡ true
    later true e = refl
    later false e = e

-- the levels of a format store each mode once
pub are_modes : (format : List FormatLevel) → IsFormat format → AreModes (modes_of format)
are_modes format is = record {
  below = λ k d h. let b = is.order.below k d h in let many = is.order.count in omega (arith, b, many);
  each = λ m h.
      let many = is.order.count in
      let stands = each_mode_stands (length format) (modes_of format) m is.order (omega (arith, h, many)) in
      contains_at (modes_of format) stands.0 m (let b = stands.1 in omega (arith, b, many)) stands.2;
}

-- numbers in the order of the levels
pub level_numbers : (format : List FormatLevel) (xs : List ℕ) → by_level (modes_of format) xs ≡ in_level_order format xs
level_numbers [] xs = refl
level_numbers (l ∷ ls) xs = ap (λ rest. slice_index xs l.mode ∷ rest) (level_numbers ls xs)

-- a function of numbers one after another
pub number_at : (f : ℕ → ℕ) (from count k : ℕ) → k < count → slice_index (map f (numbers_from from count)) k ≡ f (from + k)
number_at f from zero k h = absurd (omega (arith, h))
number_at f from (suc count) zero h = ap f (omega arith)
number_at f from (suc count) (suc k) h = number_at f (from + 1) count k (omega (arith, h)) ∙ ap f (omega arith)

-- lists that agree below n, in the order of levels whose modes are below n
same_levels : (n : ℕ) (format : List FormatLevel) (xs ys : List ℕ) → All (λ m. m < n) (modes_of format)
    → ((m : ℕ) → m < n → slice_index xs m ≡ slice_index ys m) → in_level_order format xs ≡ in_level_order format ys
same_levels n [] xs ys below same = refl
same_levels n (l ∷ ls) xs ys below same =
    let first : slice_index xs l.mode ≡ slice_index ys l.mode = same l.mode (below 0 0 (omega arith)) in
    let rest = same_levels n ls xs ys (λ k d h. below (suc k) d (omega (arith, h))) same in
    λ i. first i ∷ rest i

module _ (s : Statement) (formats : List (List FormatLevel)) (store : Store) (d : IsDenseStore s formats store) where
  pub left_many : length s.left.vars ≡ length store.format
  left_many = sym d.left.order ∙ ap (λ t. length (format_of formats t)) d.named.result ∙ ap length (sym d.is.format_is)

  pub ranges_many : length (left_ranges s store) ≡ length store.format
  ranges_many = length-map s.left.vars (slice_index store.ranges) ∙ left_many

  -- the left side's variables are the first ones
  range_at : (m : ℕ) → m < length store.format → slice_index (left_ranges s store) m ≡ slice_index store.ranges m
  range_at m h =
      ap (λ vs. slice_index (map (slice_index store.ranges) vs) m) d.named.standing
      ∙ number_at (slice_index store.ranges) 0 (length s.left.vars) m (omega (arith, h, left_many))
      ∙ ap (slice_index store.ranges) (omega arith)

  pub ranges_same : in_level_order store.format (left_ranges s store) ≡ in_level_order store.format store.ranges
  ranges_same = same_levels (length store.format) store.format (left_ranges s store) store.ranges d.is.format.order.below range_at

  modes_many : length (modes_of store.format) ≡ length store.format
  modes_many = d.is.format.order.count

  pub has_modes : HasModes s store
  has_modes = record {
    modes = are_modes store.format d.is.format;
    ranges = ranges_many ∙ sym modes_many;
    order = left_many ∙ sym modes_many;
  }

pub results_have_modes : ResultsHaveModes
results_have_modes s formats store d = has_modes s formats store d
