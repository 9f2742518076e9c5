-- The compressed level that has some words, and what such words are.
use Rattle.std.specs.Prelude.{◌≡◌, ℕ, ◌+◌, ◌≤◌, ◌<◌, Bool, List, [], ◌∷◌, length, take, drop, slice_index, refl}
use Rattle.std.proofs.Common.{◌∙◌, sym, ap, subst, arith}
use Rattle.limits.specs.Limits.{greatest_position_count}
use Rattle.level_core.specs.declared.stage.Stage.TheVariants.{Unfinished, Finished}
use Rattle.level_core.specs.GroupLaws.{CoordsBelow}
use Rattle.level_core.specs.Logs.{NoneFrom, Rises, running, total}
use Rattle.compressed_level.specs.Compressed.{CompressedLevel, PartsRise, differences, ends_of}
use Rattle.compressed_level.specs.Handed.{HasWords}
use Rattle.compressed_level.proofs.PartLaws.{differences_of_sums}
use Rattle.level_checks.proofs.Loops.{Same, same_is, left_is}

-- the sum of what is left
pub total_next : (ns : List ℕ) (i : ℕ) → i < length ns → total (drop i ns) ≡ slice_index ns i + total (drop (i + 1) ns)
total_next ns i h = ap total (left_is ns i h)

-- what is left rises where the next parent's coordinates do, and those of the parents behind it
pub parts_next : (unique : Bool) (ns : List ℕ) (i : ℕ) (xs : List ℕ) → i < length ns
    → Same (PartsRise unique (drop i ns) xs)
    (Rises unique 0 (take (slice_index ns i) xs) × PartsRise unique (drop (i + 1) ns) (drop (slice_index ns i) xs))
parts_next unique ns i xs h = same_is (λ ms. PartsRise unique ms xs) _ _ (left_is ns i h)

none_from_end : (ns : List ℕ) → NoneFrom (length ns) ns
none_from_end [] = tt
none_from_end (n ∷ ns) = none_from_end ns

module _ (size : ℕ) (unique : Bool) (parents : ℕ) (numbers coords : List ℕ) where
  abbrev Made : Type 0
  Made = (l : CompressedLevel) × HasWords size unique parents numbers coords l

  -- such words are a zero and the numbers of positions of the level's parents
  pub numbers_are : (l : CompressedLevel) → HasWords size unique parents numbers coords l → numbers ≡ 0 ∷ l.log.counts
  numbers_are l h =
      sym (differences_of_sums numbers)
      ∙ ap (λ ns. differences (0 ∷ ns)) (sym h.ends ∙ ap (λ stage. ends_of stage l.log.counts) h.has_parents.finished)
      ∙ differences_of_sums (0 ∷ l.log.counts)

  -- what is so of them, where there is a level
  pub record AreGood : Type 0 where
    pub many : length numbers ≡ parents + 1
    pub first : slice_index numbers 0 ≡ 0
    pub few : length coords ≤ greatest_position_count
    pub sum : total (drop 1 numbers) ≡ length coords
    pub below : CoordsBelow size coords
    pub rise : PartsRise unique (drop 1 numbers) coords

  pub good_words : Made → AreGood
  good_words (l, h) =
      let is = numbers_are l h in
      let keeps = h.has_parents.keeps in
      let counts : drop 1 numbers ≡ l.log.counts = ap (drop 1) is in
      let long = ap length is in
      let count = h.has_parents.count in
      record {
        many = omega (arith, long, count);
        first = ap (λ ns. slice_index ns 0) is;
        few = subst (λ xs. length xs ≤ greatest_position_count) h.coords_are keeps.few;
        sum = ap total counts ∙ keeps.all_given (λ e. not_both (sym h.has_parents.finished ∙ e)) ∙ ap length h.coords_are;
        below = subst (λ n. CoordsBelow n coords) h.size_is (subst (CoordsBelow l.size) h.coords_are keeps.below);
        rise = subst (λ b. PartsRise b (drop 1 numbers) coords) h.unique_is
            (subst (λ ns. PartsRise l.unique ns coords) (sym counts) (subst (PartsRise l.unique l.log.counts) h.coords_are keeps.rise));
      }
    where
      not_both : Finished ≡ Unfinished → ⊥
      not_both e = cc

  abbrev level : List ℕ → CompressedLevel
  level counts = record {
    size = size;
    unique = unique;
    log = record { stage = Finished; coords = coords; counts = counts; next = length counts };
    spare = 0;
  }

  of_counts : (n : ℕ) (counts : List ℕ) → n ∷ counts ≡ numbers → size ≤ greatest_position_count → parents ≤ greatest_position_count
      → AreGood → Made
  of_counts n counts is small few good =
      let long = ap length is in
      let many = good.many in
      let tail : drop 1 numbers ≡ counts = ap (drop 1) (sym is) in
      let first : n ≡ 0 = ap (λ ns. slice_index ns 0) is ∙ good.first in
      let sum : total counts ≡ length coords = ap total (sym tail) ∙ good.sum in
      let count : length counts ≡ parents = omega (arith, long, many) in (
        level counts,
        record {
          size_is = refl;
          unique_is = refl;
          has_parents = record {
            keeps = record {
              small = small;
              few = good.few;
              parents = omega (arith, count, few);
              below = good.below;
              rise = subst (λ ns. PartsRise unique ns coords) tail good.rise;
              given = omega (arith, sum);
              ahead = none_from_end counts;
              all_given = λ _. sum;
            };
            finished = refl;
            count = count;
          };
          ends = ap (λ m. running 0 (m ∷ counts)) (sym first) ∙ ap (running 0) is;
          coords_are = refl;
        },
      )

  pub made_of : size ≤ greatest_position_count → parents ≤ greatest_position_count → AreGood → Made
  made_of small few good = by numbers refl
    where
      by : (ns : List ℕ) → ns ≡ numbers → Made
      by [] is = let long = ap length is in let many = good.many in absurd (omega (arith, long, many))
      by (n ∷ counts) is = of_counts n counts is small few good
