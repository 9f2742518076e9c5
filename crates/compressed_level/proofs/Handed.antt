-- The level of the words that a kernel leaves keeps the rules, and is the level that has them.
use Rattle.std.specs.Prelude.{◌≡◌, ◌≢◌, ℕ, ◌+◌, ◌-◌, ◌≤◌, ◌<◌, Bool, List, [], ◌∷◌, ◌++◌, length, take, slice_index, Some, refl}
use Rattle.std.proofs.Common.{◌∙◌, sym, ap, subst, arith}
use Rattle.std.proofs.lemmas.List.{take_more}
use Rattle.limits.specs.Limits.{greatest_position_count}
use Rattle.level_core.specs.declared.arrays.LevelArray.{LevelArray}
use Rattle.level_core.specs.declared.arrays.LevelArray.TheVariants.{Dimension as OfSize, Ends as OfEnds}
use Rattle.level_core.specs.declared.arrays.LevelArray.TheVariants.{Coordinates as OfCoordinates, Width as OfWidth}
use Rattle.level_core.specs.Arrays.{array_of}
use Rattle.level_core.specs.GroupLaws.{CoordsBelow}
use Rattle.level_core.specs.declared.stage.Stage.TheVariants.{Finished, Unfinished}
use Rattle.level_core.specs.Logs.{NoneFrom, running, total}
use Rattle.level_core.specs.Meaning.{Arrays}
use Rattle.compressed_level.specs.Compressed.{CompressedLevel, Holds, IsStored, KeepsRules, counts_in, ends_of, words_of}
use Rattle.compressed_level.specs.Handed.{HasWords, summed}
use Rattle.compressed_level.specs.PartLaws.{totals_within}
use Rattle.compressed_level.proofs.PartLaws.{differences_of_sums}

-- sums of numbers
running_push : (before : ℕ) (xs : List ℕ) (x : ℕ) → running before (xs ++ x ∷ []) ≡ running before xs ++ (before + total xs + x) ∷ []
running_push before [] x = let same : before + x ≡ before + 0 + x = omega arith in ap (λ n. n ∷ []) same
running_push before (y ∷ xs) x =
    let same : before + y + total xs + x ≡ before + (y + total xs) + x = omega arith in
    ap (λ rest. (before + y) ∷ rest) (running_push (before + y) xs x ∙ ap (λ n. running (before + y) xs ++ n ∷ []) same)

total_push : (xs : List ℕ) (x : ℕ) → total (xs ++ x ∷ []) ≡ total xs + x
total_push [] x = omega arith
total_push (y ∷ xs) x = let k = total_push xs x in omega (arith, k)

-- one number more is summed up
pub sums_more : (xs : List ℕ) (i : ℕ) → i < length xs
    → running 0 (take (i + 1) xs) ≡ running 0 (take i xs) ++ (total (take i xs) + slice_index xs i) ∷ []
sums_more xs i h =
    let same : 0 + total (take i xs) + slice_index xs i ≡ total (take i xs) + slice_index xs i = omega arith in
    ap (running 0) (take_more xs i 0 h) ∙ running_push 0 (take i xs) (slice_index xs i)
    ∙ ap (λ n. running 0 (take i xs) ++ n ∷ []) same

pub sum_more : (xs : List ℕ) (i : ℕ) → i < length xs → total (take (i + 1) xs) ≡ total (take i xs) + slice_index xs i
sum_more xs i h = ap total (take_more xs i 0 h) ∙ total_push (take i xs) (slice_index xs i)

pub sum_within : (xs : List ℕ) (i : ℕ) → i < length xs → total (take i xs) + slice_index xs i ≤ total xs
sum_within xs i h = let k = sum_more xs i h in let w = totals_within (i + 1) xs in omega (arith, k, w)

-- running sums tell the numbers
running_tells : (before : ℕ) (xs ys : List ℕ) → running before xs ≡ running before ys → xs ≡ ys
running_tells before [] [] h = refl
running_tells before [] (y ∷ ys) h = absurd (cc)
running_tells before (x ∷ xs) [] h = absurd (cc)
running_tells before (x ∷ xs) (y ∷ ys) h =
    let first : before + x ≡ before + y = cc in
    let rest : running (before + x) xs ≡ running (before + y) ys = cc in
    let same : x ≡ y = omega (arith, first) in
    let others : xs ≡ ys = running_tells (before + x) xs ys (rest ∙ ap (λ n. running n ys) (sym first)) in
    ap (λ n. n ∷ xs) same ∙ ap (λ ns. y ∷ ns) others

numbers_tell : (xs counts : List ℕ) → running 0 xs ≡ 0 ∷ running 0 counts → xs ≡ 0 ∷ counts
numbers_tell [] counts h = absurd (cc)
numbers_tell (x ∷ xs) counts h =
    let first : 0 + x ≡ 0 = cc in
    let rest : running (0 + x) xs ≡ running 0 counts = cc in
    let none : x ≡ 0 = omega (arith, first) in
    ap (λ n. n ∷ xs) none ∙ ap (λ ns. 0 ∷ ns) (running_tells 0 xs counts (ap (λ n. running n xs) (sym first) ∙ rest))

none_from_end : (ns : List ℕ) → NoneFrom (length ns) ns
none_from_end [] = tt
none_from_end (n ∷ ns) = none_from_end ns

finished_not : Finished ≢ Unfinished
finished_not e = cc

module _ (n : ℕ) (unique : Bool) (parents : ℕ) (numbers coords : List ℕ) (l : CompressedLevel)
    (h : HasWords n unique parents numbers coords l) where
  numbers_are : numbers ≡ 0 ∷ l.log.counts
  numbers_are = numbers_tell numbers l.log.counts (sym h.ends ∙ ap (λ stage. ends_of stage l.log.counts) h.has_parents.finished)

  -- the numbers of positions of the level that is made
  pub counts_same : counts_in Finished (running 0 numbers) ≡ l.log.counts
  counts_same = ap (λ ns. counts_in Finished (running 0 ns)) numbers_are ∙ differences_of_sums l.log.counts

  next_is : length numbers - 1 ≡ length l.log.counts
  next_is = let k = ap length numbers_are in omega (arith, k)

  abbrev of_log : ℕ → Bool → List ℕ → List ℕ → ℕ → ℕ → CompressedLevel
  of_log size one counts xs next spare =
      record {
        size = size;
        unique = one;
        log = record { stage = Finished; coords = xs; counts = counts; next = next };
        spare = spare;
      }

  made_is : (spare : ℕ) → summed n unique numbers coords spare
      ≡ of_log l.size l.unique l.log.counts l.log.coords (length l.log.counts) spare
  made_is spare =
      λ i. of_log (sym h.size_is i) (sym h.unique_is i) (counts_same i) (sym h.coords_are i) (next_is i) spare

  keeps : KeepsRules l
  keeps = h.has_parents.keeps

  all_given : total l.log.counts ≡ length l.log.coords
  all_given = keeps.all_given (λ is. finished_not (sym h.has_parents.finished ∙ is))

  -- it keeps the rules
  pub made_keeps : (spare : ℕ) → KeepsRules (summed n unique numbers coords spare)
  made_keeps spare = subst KeepsRules (sym (made_is spare)) (record {
    small = keeps.small;
    few = keeps.few;
    parents = keeps.parents;
    below = keeps.below;
    rise = keeps.rise;
    given = keeps.given;
    ahead = none_from_end l.log.counts;
    all_given = λ _. all_given;
  })

  pub made_stored : IsStored Finished (running 0 numbers)
  made_stored = ap (running 0) numbers_are ∙ ap (λ ns. 0 ∷ running 0 ns) (sym counts_same)

  -- its words are within the limit
  pub numbers_few : total numbers ≤ greatest_position_count
  numbers_few =
      let sum : total numbers ≡ 0 + total l.log.counts = ap total numbers_are in
      let few = keeps.few in
      omega (arith, few, all_given, sum)

  -- its coordinates are below its range
  pub coords_below : CoordsBelow n coords
  coords_below = subst (CoordsBelow n) h.coords_are (subst (λ m. CoordsBelow m l.log.coords) h.size_is keeps.below)

-- arrays that hold a level have its words
pub held_words : (l : CompressedLevel) (tensor level : ℕ) (arrays : Arrays) → Holds l tensor level arrays
    → (array : LevelArray) (words : List ℕ) → words_of l array ≡ Some words → arrays (array_of array tensor level) ≡ Some words
held_words l tensor level arrays held OfSize words is = absurd (cc)
held_words l tensor level arrays held OfEnds words is = held.ends ∙ is
held_words l tensor level arrays held OfWidth words is = absurd (cc)
held_words l tensor level arrays held OfCoordinates words is = held.coords ∙ is
