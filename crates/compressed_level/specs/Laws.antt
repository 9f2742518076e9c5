-- Laws of compressed levels.
use Rattle.std.specs.Prelude.{◌≡◌, ◌≢◌, ℕ, suc, ◌+◌, ◌-◌, ◌≤◌, ◌<◌, Bool}
use Rattle.std.specs.Prelude.{true, false, List, [], ◌∷◌, ◌++◌, length, take, replicate}
use Rattle.std.specs.Prelude.{slice_get, Some, None, refl}
use Rattle.std.proofs.Common.{◌∙◌, sym, ap, subst, arith}
use Rattle.std.proofs.lemmas.List.{length-append, length-replicate, take_all}
use Rattle.limits.specs.Limits.{greatest_position_count}
use Rattle.kernel_code.specs.declared.syntax.Arr.{Arr}
use Rattle.kernel_code.specs.declared.syntax.Arr.TheVariants.{Ends, Coordinates}
use Rattle.level_core.specs.declared.span.Span.{Span}
use Rattle.level_core.specs.declared.stage.Stage.{Stage}
use Rattle.level_core.specs.declared.stage.Stage.TheVariants.{Fresh, Unfinished, Finished}
use Rattle.level_core.specs.declared.letter.Letter.TheVariants.{Compressed, CompressedGroups}
use Rattle.level_core.specs.declared.arrays.LevelArray.TheVariants.{Ends as OfEnds, Coordinates as OfCoordinates}
use Rattle.level_core.specs.Entries.{one, span, IsIn, coord_at}
use Rattle.level_core.specs.Kinds.{properties, AreEntries}
use Rattle.level_core.specs.Logs.{Log, total, NoneFrom, Rises, slice, IsLog, ungiven, with_parents, finished, MayReserve, MayFinish}
use Rattle.level_core.specs.Fragments.{IsOf}
use Rattle.level_core.specs.Meaning.{Arrays, Finishes, AgreeBelow}
use Rattle.level_core.specs.Laws.{AreAtStart, SumsUp, HoldsStart, HoldsFinished, Laws}
use Rattle.level_core.proofs.ParentLaws.{segments_in_row}
use Rattle.coordinate_lists.specs.Spans.{Within}
use Rattle.coordinate_lists.proofs.Spans.{entries_are, entries_coord}
use Rattle.coordinate_lists.proofs.Letters.{unique_is}
use Rattle.coordinate_lists.proofs.SameLists.{same_words, same_counts, below_some}
use Rattle.compressed_level.specs.Compressed.{CompressedLevel, letter_of, ends_of, PartsRise, fresh, KeepsRules, HasParents, IsAllowed}
use Rattle.compressed_level.specs.Compressed.{segment_of, entries_of, Holds, meaning}
use Rattle.compressed_level.specs.PartLaws.{part_rises, totals_rise, totals_within, parts_wait, total_wait, zero_wait}

-- the level with another log
abbrev pub logged : CompressedLevel → Log → CompressedLevel
logged l log = record l { log = log }

pub logs_are : (l : CompressedLevel) → KeepsRules l → (properties (letter_of l.unique)).branchless ≡ false → IsLog l.log
logs_are l k many = record { ahead = k.ahead; given = k.given }

pub never_branchless : (unique : Bool) → (properties (letter_of unique)).branchless ≡ false
never_branchless true = refl
never_branchless false = refl

pub ungiven_is : (unique : Bool) → ungiven (letter_of unique) ≡ 0
ungiven_is true = refl
ungiven_is false = refl

fresh_is : Fresh ≢ Unfinished
fresh_is h = cc

finished_is : Finished ≢ Unfinished
finished_is h = cc

pub keeps_fresh : (n : ℕ) (unique : Bool) → n ≤ greatest_position_count → KeepsRules (fresh n unique)
keeps_fresh n unique h =
    record {
      small = h;
      few = omega arith;
      parents = omega arith;
      below = tt;
      rise = tt;
      given = omega arith;
      ahead = tt;
      all_given = λ _. refl;
    }

waiting : (unique : Bool) (parents : ℕ) (log : Log) → log.counts ++ replicate (parents - length log.counts)
    (ungiven (letter_of unique)) ≡ log.counts ++ replicate (parents - length log.counts) 0
waiting unique parents log = ap (λ n. log.counts ++ replicate (parents - length log.counts) n) (ungiven_is unique)

pub keeps_parents : (l : CompressedLevel) (parents : ℕ) → KeepsRules l → MayReserve parents l.log
    → KeepsRules (logged l (with_parents (letter_of l.unique) parents l.log))
keeps_parents l parents k m =
    let zeros : List ℕ = replicate (parents - length l.log.counts) 0 in
    let same = waiting l.unique parents l.log in
    let long : length (l.log.counts ++ zeros) ≡ length l.log.counts + (parents - length l.log.counts) = length-append l.log.counts zeros
    ∙ ap (λ n. length l.log.counts + n) (length-replicate (parents - length l.log.counts) 0) in
    let within = m.within in
    let parents_before = k.parents in
    record {
      small = k.small;
      few = k.few;
      parents = subst (λ ns. length ns ≤ greatest_position_count) (sym same) (omega (arith, long, within, parents_before));
      below = k.below;
      rise = subst (λ ns. PartsRise l.unique ns l.log.coords) (sym same)
          (parts_wait l.unique (parents - length l.log.counts) l.log.counts l.log.coords k.rise);
      given = subst (λ ns. total ns ≤ length l.log.coords) (sym same)
          (subst (λ n. n ≤ length l.log.coords) (sym (total_wait (parents - length l.log.counts) l.log.counts)) k.given);
      ahead = subst (NoneFrom l.log.next) (sym same) (zero_wait l.log.next (parents - length l.log.counts) l.log.counts k.ahead);
      all_given = λ h. absurd (h refl);
    }

pub keeps_finished : (l : CompressedLevel) (parents : ℕ) → KeepsRules l → MayFinish parents l.log → KeepsRules (logged l (finished l.log))
keeps_finished l parents k m = record {
  small = k.small;
  few = k.few;
  parents = k.parents;
  below = k.below;
  rise = k.rise;
  given = k.given;
  ahead = k.ahead;
  all_given = λ _. m.given;
}

-- the segment ends of a level that isn't finished are its numbers of positions behind a zero
pub ends_are : (stage : Stage) (counts : List ℕ) → stage ≢ Finished → ends_of stage counts ≡ 0 ∷ counts
ends_are Fresh counts h = refl
ends_are Unfinished counts h = refl
ends_are Finished counts h = absurd (h refl)

pub unfinished_ends : (stage : Stage) → stage ≡ Unfinished → stage ≢ Finished
unfinished_ends Fresh h = absurd (fresh_is h)
unfinished_ends Unfinished h = λ e. finished_is (sym e)
unfinished_ends Finished h = absurd (finished_is h)

pub holds_there : (l : CompressedLevel) (tensor level : ℕ) (a b : Arrays) → ((x : Arr) → IsOf tensor level x → b x ≡ a x)
    → Holds l tensor level a → Holds l tensor level b
holds_there l tensor level a b f h =
    record { ends = f (Ends tensor level) (refl, refl) ∙ h.ends; coords = f (Coordinates tensor level) (refl, refl) ∙ h.coords }

never_full : (unique : Bool) → (properties (letter_of unique)).full ≡ false
never_full true = refl
never_full false = refl

not_branchless : (unique : Bool) → (properties (letter_of unique)).branchless ≡ true → ⊥
not_branchless true h = cc
not_branchless false h = cc

-- a parent's positions are those of coordinates
pub within_coords : (l : CompressedLevel) (parent : Span) → IsAllowed l parent → Within l.log.coords (segment_of l parent)
within_coords l parent ok =
    let rise = totals_rise parent.lo l.log.counts in
    let next : suc parent.lo ≡ parent.hi = omega (arith, ok.single) in
    let sum = totals_within parent.hi l.log.counts in
    let given = ok.keeps.given in
    record {
      order = subst (λ hi. total (take parent.lo l.log.counts) ≤ total (take hi l.log.counts)) next rise;
      inside = omega (arith, sum, given);
    }

pub rises_below : (l : CompressedLevel) (parent : Span) → IsAllowed l parent → Rises l.unique 0 (slice l.log.coords (segment_of l parent))
rises_below l parent ok =
    let next : suc parent.lo ≡ parent.hi = omega (arith, ok.single) in
    subst (λ hi. Rises l.unique 0 (slice l.log.coords (span (total (take parent.lo l.log.counts)) (total (take hi l.log.counts))))) next
    (part_rises l.unique parent.lo l.log.counts l.log.coords ok.inside ok.keeps.rise)

pub are_entries : (l : CompressedLevel) (parent : Span) → IsAllowed l parent
    → AreEntries (properties (letter_of l.unique)) l.size parent (segment_of l parent) (entries_of l parent)
are_entries l parent ok =
    entries_are (properties (letter_of l.unique)) l.size l.log.coords parent (segment_of l parent) (never_full l.unique)
    (λ yes. absurd (not_branchless l.unique yes)) ok.keeps.small ok.keeps.few
    (within_coords l parent ok) ok.keeps.below
    (subst (λ b. Rises b 0 (slice l.log.coords (segment_of l parent)))
    (sym (unique_is Compressed CompressedGroups l.unique refl refl)) (rises_below l parent ok))

pub coord_is : (l : CompressedLevel) (parent : Span) (pos : ℕ) → IsAllowed l parent → IsIn pos (segment_of l parent)
    → coord_at (entries_of l parent) pos ≡ slice_get l.log.coords pos
coord_is l parent pos ok i = entries_coord l.log.coords (segment_of l parent) pos (within_coords l parent ok).inside i

-- each parent of a finished level is allowed
pub allowed_finished : (l : CompressedLevel) (p : ℕ) → KeepsRules l → l.log.stage ≡ Finished → p < length l.log.counts → IsAllowed l (one p)
allowed_finished l p k f h = record { keeps = k; finished = f; single = refl; inside = h }

true_is_false : {A : Type 0} (b : Bool) → b ≡ true → b ≡ false → A
true_is_false b h g = absurd (apart (sym h ∙ g))
  where
    apart : true ≡ false → ⊥
    apart e = cc

none_some : {A : Type 0} (w : ℕ) → None ≡ Some w → A
none_some w h = absurd (apart h)
  where
    apart : None ≡ Some w → ⊥
    apart e = cc

-- the finished level
pub finished_level : (l : CompressedLevel) (parents : ℕ) → KeepsRules l → MayFinish parents l.log
    → Finishes meaning parents l (logged l (finished l.log))
finished_level l parents k may = record {
  keeps = keeps_finished l parents k may;
  kind = refl;
  size = refl;
  log = refl;
  has_parents = record { keeps = keeps_finished l parents k may; finished = refl; count = may.reserved };
  groups = λ one_each. true_is_false (properties (letter_of l.unique)).branchless one_each (never_branchless l.unique);
  segments = λ parent ok. refl;
  entries = λ parent ok. refl;
}

-- the arrays of an unfinished level hold the finished one once the numbers of positions are summed up
finishes : (l : CompressedLevel) (parents tensor level : ℕ) (before after : Arrays) → KeepsRules l → MayFinish parents l.log
    → Holds l tensor level before → SumsUp tensor level before after → HoldsFinished meaning l parents tensor level after
finishes l parents tensor level before after k may held sums = record {
  done = logged l (finished l.log);
  finishes = finished_level l parents k may;
  held = record {
    ends = sums.ends (0 ∷ l.log.counts)
        (held.ends ∙ ap Some (ends_are l.log.stage l.log.counts (unfinished_ends l.log.stage may.unfinished)));
    coords = sums.others (Coordinates tensor level) refl ∙ held.coords;
  };
}

starts_empty : (unique : Bool) (n parents tensor level : ℕ) (arrays : Arrays)
    → AreAtStart (letter_of unique) n parents tensor level arrays → (arrays (Ends tensor level) ≡ Some (0 ∷ replicate parents 0))
    × (arrays (Coordinates tensor level) ≡ Some [])
starts_empty true n parents tensor level arrays at = (at.zeros OfEnds (suc parents) refl, at.zeros OfCoordinates 0 refl)
starts_empty false n parents tensor level arrays at = (at.zeros OfEnds (suc parents) refl, at.zeros OfCoordinates 0 refl)

-- a level as a kernel begins it
starts : (l : CompressedLevel) (n parents tensor level : ℕ) (arrays : Arrays) → n ≤ greatest_position_count
    → parents ≤ greatest_position_count → AreAtStart (letter_of l.unique) n parents tensor level arrays
    → HoldsStart meaning (letter_of l.unique) n parents tensor level arrays
starts l n parents tensor level arrays small few at =
    let level_now = fresh n l.unique in
    let words = starts_empty l.unique n parents tensor level arrays at in
    let many : parents - 0 ≡ parents = omega arith in
    let counts : replicate (parents - 0) (ungiven (letter_of l.unique)) ≡ replicate parents 0 =
    ap (λ k. replicate (parents - 0) k) (ungiven_is l.unique) ∙ ap (λ k. replicate k 0) many in
    record {
      start = logged level_now (with_parents (letter_of l.unique) parents level_now.log);
      keeps = keeps_parents level_now parents (keeps_fresh n l.unique small) (record { within = few; reservable = λ e. fresh_finished e });
      kind = refl;
      size = refl;
      width = refl;
      log = λ _. refl;
      held = record { ends = words.0 ∙ ap (λ ns. Some (0 ∷ ns)) (sym counts); coords = words.1 };
    }
  where
    fresh_finished : Fresh ≡ Finished → ⊥
    fresh_finished e = cc

-- levels that have the same below each parent have the same numbers of positions and coordinates
counts_same : (l m : CompressedLevel) (parents : ℕ) → HasParents l parents → HasParents m parents → AgreeBelow meaning parents l m
    → m.log.counts ≡ l.log.counts
counts_same l m parents has also agree =
    let count = also.count in
    same_counts m.log.counts l.log.counts (also.count ∙ sym has.count) (λ p h. agree.segments p (omega (arith, h, count)))

finished_stage : (stage : Stage) → stage ≡ Finished → stage ≢ Unfinished
finished_stage stage h g = finished_is (sym h ∙ g)

coords_same : (l m : CompressedLevel) (parents : ℕ) → HasParents l parents → HasParents m parents → AgreeBelow meaning parents l m
    → m.log.coords ≡ l.log.coords
coords_same l m parents has also agree =
    let all = has.keeps.all_given (finished_stage l.log.stage has.finished) in
    let too = also.keeps.all_given (finished_stage m.log.stage also.finished) in
    let counts = counts_same l m parents has also agree in
    let long : length m.log.coords ≡ length l.log.coords = sym too ∙ ap total counts ∙ all in
    same_words m.log.coords l.log.coords long (λ q h.
    let b = below_some l.log.counts q (omega (arith, h, long, all)) in
    let known : b.parent < parents = subst (λ n. b.parent < n) has.count b.known in
    let here = allowed_finished l b.parent has.keeps has.finished b.known in
    let there = allowed_finished m b.parent also.keeps also.finished (subst (λ n. b.parent < n) (sym also.count) known) in
    let i : IsIn q (segment_of m (one b.parent)) = subst (IsIn q) (sym (agree.segments b.parent known)) (b.inside.0, b.inside.1) in
    sym (coord_is m (one b.parent) q there i) ∙ ap (λ es. coord_at es q) (agree.entries b.parent known)
    ∙ coord_is l (one b.parent) q here (b.inside.0, b.inside.1))

same_arrays : (l m : CompressedLevel) (parents tensor level : ℕ) (arrays : Arrays) → HasParents l parents → HasParents m parents
    → AgreeBelow meaning parents l m → Holds l tensor level arrays → Holds m tensor level arrays
same_arrays l m parents tensor level arrays has also agree held = record {
  ends = held.ends ∙ ap (λ stage. Some (ends_of stage l.log.counts)) (has.finished ∙ sym also.finished)
      ∙ ap (λ ns. Some (ends_of m.log.stage ns)) (sym (counts_same l m parents has also agree));
  coords = held.coords ∙ ap Some (sym (coords_same l m parents has also agree));
}

no_total : (ns : List ℕ) → length ns ≡ 0 → total ns ≡ 0
no_total [] h = refl
no_total (n ∷ ns) h = absurd (omega (arith, h))

not_unfinished : (stage : Stage) → stage ≡ Finished → stage ≢ Unfinished
not_unfinished stage is not = absurd (never (sym is ∙ not))
  where
    never : Finished ≡ Unfinished → ⊥
    never e = cc

-- the last parent's positions end with the coordinates
last_end : (l : CompressedLevel) (parents p : ℕ) → HasParents l parents → p + 1 ≡ parents
    → (segment_of l (one p)).hi ≡ length l.log.coords
last_end l parents p has last =
    let long = has.count in
    ap total (take_all (p + 1) l.log.counts (omega (arith, long, last)))
    ∙ has.keeps.all_given (not_unfinished l.log.stage has.finished)

pub laws : Laws meaning
laws = record {
  held_there = holds_there;
  words_hold = λ l tensor level arrays has. record { ends = has OfEnds _ refl; coords = has OfCoordinates _ refl };
  entries = are_entries;
  in_row = λ l. segments_in_row l.log.counts (IsAllowed l);
  one_parent = λ l parent ok _. ok.single;
  parents = λ l parents p has h. allowed_finished l p has.keeps has.finished (subst (λ n. p < n) (sym has.count) h);
  last_end = last_end;
  none_without = λ l has. sym (has.keeps.all_given (not_unfinished l.log.stage has.finished)) ∙ no_total l.log.counts has.count;
  wide = λ l w parent has ok. none_some w has;
  logs = logs_are;
  prepares = λ l m parents most keeps may within is. absurd is;
  inserts = λ l m parent x slot ok may is. absurd is;
  starts = starts;
  finishes = finishes;
  same_arrays = same_arrays;
}
