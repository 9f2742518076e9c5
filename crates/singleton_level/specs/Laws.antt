-- Laws of singleton levels.
use Rattle.std.specs.Prelude.{◌≡◌, ℕ, zero, suc, ◌+◌, ◌-◌, ◌≤◌, ◌<◌, max}
use Rattle.std.specs.Prelude.{Bool, true, false, List, [], ◌∷◌, ◌++◌, length, take}
use Rattle.std.specs.Prelude.{replicate, Some, None, refl}
use Rattle.std.proofs.Common.{◌∙◌, sym, ap, subst, arith}
use Rattle.limits.specs.Limits.{greatest_position_count}
use Rattle.kernel_code.specs.declared.syntax.Arr.{Arr}
use Rattle.kernel_code.specs.declared.syntax.Arr.TheVariants.{Coordinates}
use Rattle.level_core.specs.declared.span.Span.{Span}
use Rattle.level_core.specs.declared.stage.Stage.TheVariants.{Fresh, Unfinished, Finished}
use Rattle.level_core.specs.declared.letter.Letter.TheVariants.{Singleton, SingletonGroups}
use Rattle.level_core.specs.declared.arrays.LevelArray.TheVariants.{Coordinates as OfCoordinates}
use Rattle.level_core.specs.Entries.{one, span, AreInRow, coord_at}
use Rattle.level_core.specs.Kinds.{properties, AreEntries}
use Rattle.level_core.specs.Logs.{Log, total, ungiven, with_parents, segment_in, Rises, slice, IsLog, MayFinish}
use Rattle.level_core.specs.Fragments.{IsOf}
use Rattle.level_core.specs.Meaning.{Arrays, Finishes, AgreeBelow}
use Rattle.level_core.specs.Laws.{AreAtStart, HoldsStart, Laws}
use Rattle.coordinate_lists.specs.Spans.{Within}
use Rattle.coordinate_lists.proofs.Spans.{one_rises, entries_are, entries_coord}
use Rattle.coordinate_lists.proofs.Letters.{unique_is}
use Rattle.coordinate_lists.proofs.SameLists.{same_words}
use Rattle.singleton_level.specs.Singleton.{SingletonLevel, letter_of, log_of, fresh, KeepsRules, HasParents, IsAllowed, segment_of}
use Rattle.singleton_level.specs.Singleton.{entries_of, Holds, meaning}

pub never_full : (unique : Bool) → (properties (letter_of unique)).full ≡ false
never_full true = refl
never_full false = refl

pub branchless : (unique : Bool) → (properties (letter_of unique)).branchless ≡ true
branchless true = refl
branchless false = refl

pub logs_are : (l : SingletonLevel) → KeepsRules l → (properties (letter_of l.unique)).branchless ≡ false → IsLog (log_of l)
logs_are l k h = absurd (not_both (properties (letter_of l.unique)).branchless (branchless l.unique) h)
  where
    not_both : (b : Bool) → b ≡ true → b ≡ false → ⊥
    not_both b h g = cc

abbrev pub reserved : ℕ → SingletonLevel → SingletonLevel
reserved parents l = record l { stage = Unfinished; parents = max l.parents parents }

replicate_more : (m n x : ℕ) → replicate m x ++ replicate n x ≡ replicate (m + n) x
replicate_more zero n x = let same : n ≡ 0 + n = omega arith in ap (λ k. replicate k x) same
replicate_more (suc m) n x = let same : suc (m + n) ≡ suc m + n = omega arith in ap (λ xs. x ∷ xs) (replicate_more m n x)
    ∙ ap (λ k. replicate k x) same

pub long : (n x : ℕ) → length (replicate n x) ≡ n
long zero x = refl
long (suc n) x = let k = long n x in omega (arith, k)

one_each : (unique : Bool) → ungiven (letter_of unique) ≡ 1
one_each true = refl
one_each false = refl

more_is_max : (m n : ℕ) → m + (n - m) ≡ max m n
more_is_max m n = grind arith

more_parents : (unique : Bool) (known parents : ℕ) → replicate known 1 ++ replicate (parents - length {A = ℕ} (replicate known 1))
    (ungiven (letter_of unique)) ≡ replicate (max known parents) 1
more_parents unique known parents =
    ap (λ n. replicate known 1 ++ replicate (parents - length {A = ℕ} (replicate known 1)) n) (one_each unique)
    ∙ ap (λ n. replicate known 1 ++ replicate (parents - n) 1) (long known 1)
    ∙ replicate_more known (parents - known) 1
    ∙ ap (λ n. replicate n 1) (more_is_max known parents)

-- a level with more parents
pub reserved_keeps : (l : SingletonLevel) (parents spare : ℕ) → KeepsRules l → KeepsRules (record (reserved parents l) { spare = spare })
reserved_keeps l parents spare k = record { small = k.small; few = k.few; below = k.below; given = λ h. absurd (apart h) }
  where
    apart : Unfinished ≡ Finished → ⊥
    apart h = cc

pub reserved_logs : (l : SingletonLevel) (parents : ℕ) → log_of (reserved parents l) ≡ with_parents (letter_of l.unique) parents (log_of l)
reserved_logs l parents = ap (λ ns. let log : Log = record { stage = Unfinished; coords = l.coords; counts = ns; next = 0 } in log)
    (sym (more_parents l.unique l.parents parents))

ones : (n : ℕ) → total (replicate n 1) ≡ n
ones zero = refl
ones (suc n) = let k = ones n in omega (arith, k)

-- a finished level has a coordinate for each parent
pub all_given : (l : SingletonLevel) (parents : ℕ) → MayFinish parents (log_of l) → (l.parents ≡ parents) × (length l.coords ≡ parents)
all_given l parents may =
    let counts = long l.parents 1 in
    let sum = ones l.parents in
    let reserved = may.reserved in
    let given = may.given in
    (omega (arith, counts, reserved), omega (arith, counts, reserved, sum, given))

pub finished_keeps : (l : SingletonLevel) (parents : ℕ) → KeepsRules l → MayFinish parents (log_of l)
    → KeepsRules (record l { stage = Finished })
finished_keeps l parents k may = let all = all_given l parents may in
    record { small = k.small; few = k.few; below = k.below; given = λ h. all.1 ∙ sym all.0 }

ones_before : (k n : ℕ) → k ≤ n → total (take k (replicate n 1)) ≡ k
ones_before zero n h = refl
ones_before (suc k) zero h = absurd (omega (arith, h))
ones_before (suc k) (suc n) h = let rest = ones_before k n (omega (arith, h)) in omega (arith, rest)

-- the positions below parents are the parents
pub segments_are : (l : SingletonLevel) (parents : ℕ) (parent : Span) → MayFinish parents (log_of l) → Within l.coords parent
    → parent ≡ segment_in (log_of l).counts parent
segments_are l parents parent may w =
    let all = all_given l parents may in
    let lo = ones_before parent.lo l.parents (omega (arith, w.order, w.inside, all.0, all.1)) in
    let hi = ones_before parent.hi l.parents (omega (arith, w.inside, all.0, all.1)) in
    ap (λ n. span n parent.hi) (sym lo) ∙ ap (λ n. span (total (take parent.lo (replicate l.parents 1))) n) (sym hi)

pub holds_there : (l : SingletonLevel) (tensor level : ℕ) (a b : Arrays) → ((x : Arr) → IsOf tensor level x → b x ≡ a x)
    → Holds l tensor level a → Holds l tensor level b
holds_there l tensor level a b f h = f (Coordinates tensor level) (refl, refl) ∙ h

pub are_entries : (l : SingletonLevel) (parent : Span) → IsAllowed l parent
    → AreEntries (properties (letter_of l.unique)) l.size parent parent (entries_of l parent)
are_entries l parent ok =
    entries_are (properties (letter_of l.unique)) l.size l.coords parent parent (never_full l.unique)
    (λ _. refl) ok.keeps.small ok.keeps.few
    ok.within ok.keeps.below
    (subst (λ b. Rises b 0 (slice l.coords parent)) (sym (unique_is Singleton SingletonGroups l.unique refl refl)) ok.rise)

-- a parent's positions are the parent itself
pub in_row : (l : SingletonLevel) → AreInRow (IsAllowed l) (segment_of l)
in_row l = record { first = λ p ok zero. zero; next = λ p q ok more meet. meet }

groups_by : (unique : Bool) (xs : List ℕ) → Rises (properties (letter_of unique)).unique 0 xs → Rises unique 0 xs
groups_by unique xs r = subst (λ u. Rises u 0 xs) (unique_is Singleton SingletonGroups unique refl refl) r

finished_apart : {A : Type 0} → Finished ≡ Unfinished → A
finished_apart h = absurd (apart h)
  where
    apart : Finished ≡ Unfinished → ⊥
    apart e = cc

-- the finished level
pub finished_level : (l : SingletonLevel) (parents : ℕ) → KeepsRules l → MayFinish parents (log_of l)
    → Finishes meaning parents l (record l { stage = Finished })
finished_level l parents k may =
    let all = all_given l parents may in
    record {
      keeps = finished_keeps l parents k may;
      kind = refl;
      size = refl;
      log = refl;
      has_parents = record { keeps = finished_keeps l parents k may; finished = refl; count = all.0 };
      groups = λ _ parent order inside rises. record {
        keeps = finished_keeps l parents k may;
        readable = λ e. finished_apart e;
        within = record { order = order; inside = omega (arith, inside, all.1) };
        rise = groups_by l.unique (slice l.coords parent) rises;
      };
      segments = λ parent ok. segments_are l parents parent may ok.within;
      entries = λ parent ok. refl;
    }

-- each parent may be asked
parent_allowed : (l : SingletonLevel) (parents p : ℕ) → HasParents l parents → p < parents → IsAllowed l (one p)
parent_allowed l parents p has h =
    let long = has.keeps.given has.finished in
    let count = has.count in
    record {
      keeps = has.keeps;
      readable = λ e. finished_apart (sym has.finished ∙ e);
      within = record { order = omega arith; inside = omega (arith, h, long, count) };
      rise = one_rises l.unique l.coords (one p) refl;
    }

fresh_keeps : (n : ℕ) (unique : Bool) → n ≤ greatest_position_count → KeepsRules (fresh n unique)
fresh_keeps n unique small = record { small = small; few = omega arith; below = tt; given = λ h. absurd (apart h) }
  where
    apart : Fresh ≡ Finished → ⊥
    apart e = cc

starts_empty : (unique : Bool) (n parents tensor level : ℕ) (arrays : Arrays)
    → AreAtStart (letter_of unique) n parents tensor level arrays → arrays (Coordinates tensor level) ≡ Some []
starts_empty true n parents tensor level arrays at = at.zeros OfCoordinates 0 refl
starts_empty false n parents tensor level arrays at = at.zeros OfCoordinates 0 refl

starts : (l : SingletonLevel) (n parents tensor level : ℕ) (arrays : Arrays) → n ≤ greatest_position_count
    → AreAtStart (letter_of l.unique) n parents tensor level arrays → HoldsStart meaning (letter_of l.unique) n parents tensor level arrays
starts l n parents tensor level arrays small at = record {
  start = reserved parents (fresh n l.unique);
  keeps = reserved_keeps (fresh n l.unique) parents 0 (fresh_keeps n l.unique small);
  kind = refl;
  size = refl;
  width = refl;
  log = λ _. reserved_logs (fresh n l.unique) parents;
  held = starts_empty l.unique n parents tensor level arrays at;
}

-- levels that have the same below each parent have the same coordinates
coords_same : (l m : SingletonLevel) (parents : ℕ) → HasParents l parents → HasParents m parents → AgreeBelow meaning parents l m
    → m.coords ≡ l.coords
coords_same l m parents has also agree =
    let long = also.keeps.given also.finished in
    let count = also.count in
    let as_long = has.keeps.given has.finished in
    let as_many = has.count in
    same_words m.coords l.coords (omega (arith, long, count, as_long, as_many)) (λ q h.
    let inside : q < parents = omega (arith, h, long, count) in
    sym (entries_coord m.coords (one q) q (omega (arith, h)) (omega arith, omega arith))
    ∙ ap (λ es. coord_at es q) (agree.entries q inside)
    ∙ entries_coord l.coords (one q) q (omega (arith, inside, as_long, as_many)) (omega arith, omega arith))

none_some : {A : Type 0} (w : ℕ) → None ≡ Some w → A
none_some w h = absurd (apart h)
  where
    apart : None ≡ Some w → ⊥
    apart e = cc

many_or_one : (b : Bool) → b ≡ true → b ≡ false → ⊥
many_or_one b h g = cc

pub laws : Laws meaning
laws = record {
  held_there = holds_there;
  words_hold = λ l tensor level arrays has. has OfCoordinates l.coords refl;
  entries = are_entries;
  in_row = in_row;
  one_parent = λ l parent ok many. absurd (many_or_one (properties (letter_of l.unique)).branchless (branchless l.unique) many);
  parents = parent_allowed;
  last_end = λ l parents p has last. last ∙ sym has.count ∙ sym (has.keeps.given has.finished);
  none_without = λ l has. has.keeps.given has.finished ∙ has.count;
  wide = λ l w parent has ok. none_some w has;
  logs = logs_are;
  prepares = λ l m parents most keeps may within is. absurd is;
  inserts = λ l m parent x slot ok may is. absurd is;
  starts = λ l n parents tensor level arrays small few at. starts l n parents tensor level arrays small at;
  finishes = λ l parents tensor level before after keeps may held sums. record {
    done = record l { stage = Finished };
    finishes = finished_level l parents keeps may;
    held = sums.others (Coordinates tensor level) refl ∙ held;
  };
  same_arrays = λ l m parents tensor level arrays has also agree held. held ∙ ap Some (sym (coords_same l m parents has also agree));
}
