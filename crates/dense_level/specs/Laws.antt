-- Laws of dense levels.
use Rattle.std.specs.Prelude.{◌≡◌, ◌≢◌, ℕ, zero, suc, ◌+◌, ◌-◌, ◌*◌, ◌≤◌, ◌<◌}
use Rattle.std.specs.Prelude.{◌==◌, Bool, true, false, if◌then◌else◌, [], ◌∷◌, Some}
use Rattle.std.specs.Prelude.{None, refl}
use Rattle.std.proofs.Common.{◌∙◌, sym, ap, subst, arith}
use Rattle.std.proofs.Math.Nat.{zero-mul, mul-le-mul_right}
use Rattle.std.proofs.lemmas.Bool.Decides.{nat_tests}
use Rattle.limits.specs.Limits.{greatest_position_count}
use Rattle.kernel_code.specs.declared.syntax.Arr.{Arr}
use Rattle.kernel_code.specs.declared.syntax.Arr.TheVariants.{Dimension}
use Rattle.level_core.specs.Fragments.{IsOf}
use Rattle.level_core.specs.declared.span.Span.{Span}
use Rattle.level_core.specs.declared.letter.Letter.TheVariants.{Dense}
use Rattle.level_core.specs.declared.stage.Stage.TheVariants.{Unfinished, Finished}
use Rattle.level_core.specs.declared.arrays.LevelArray.TheVariants.{Dimension as OfSize}
use Rattle.level_core.specs.Entries.{one, AreInRow, Tiles, Rising, AllBelow, Single, position_of}
use Rattle.level_core.proofs.EntryLaws.{tiles_placed, rising_distinct}
use Rattle.level_core.specs.Meaning.{Arrays, Prepares, Inserts}
use Rattle.level_core.specs.Laws.{Laws}
use Rattle.level_core.specs.Kinds.{properties, positions_for, AreEntries, MayPrepare, MayInsert}
use Rattle.dense_level.specs.Dense.{KeepsRules, Holds, HasParents, IsAllowed, segment_of, entries_from, entries_of, Prepared, Inserted}
use Rattle.dense_level.specs.Dense.{meaning}

pub holds_there : (n tensor level : ℕ) (a b : Arrays) → ((x : Arr) → IsOf tensor level x → b x ≡ a x) → Holds n tensor level a
    → Holds n tensor level b
holds_there n tensor level a b same h = same (Dimension tensor level) (refl, refl) ∙ h

from_tiles : (count x pos : ℕ) → Tiles pos (pos + count) (entries_from count x pos)
from_tiles zero x pos = omega arith
from_tiles (suc count) x pos = let same : pos + 1 + count ≡ pos + suc count = omega arith in
    (refl, omega arith, subst (λ hi. Tiles (pos + 1) hi (entries_from count (x + 1) (pos + 1))) same (from_tiles count (x + 1) (pos + 1)))

from_rising : (count x pos : ℕ) → Rising x (entries_from count x pos)
from_rising zero x pos = tt
from_rising (suc count) x pos = (omega arith, from_rising count (x + 1) (pos + 1))

from_single : (count x pos : ℕ) → Single (entries_from count x pos)
from_single zero x pos = tt
from_single (suc count) x pos = (refl, from_single count (x + 1) (pos + 1))

from_below : (count x pos n : ℕ) → x + count ≤ n → AllBelow n (entries_from count x pos)
from_below zero x pos n h = tt
from_below (suc count) x pos n h = (omega (arith, h), from_below count (x + 1) (pos + 1) n (omega (arith, h)))

from_position : (count x pos y : ℕ) → x ≤ y → y < x + count → position_of (entries_from count x pos) y ≡ Some (pos + (y - x))
from_position zero x pos y h g = absurd (omega (arith, h, g))
from_position (suc count) x pos y h g = by_test (from_position count (x + 1) (pos + 1) y) (x == y) refl
  where
    by_test : (x + 1 ≤ y → y < x + 1 + count → position_of (entries_from count (x + 1) (pos + 1)) y ≡ Some (pos + 1 + (y - (x + 1))))
        → (b : Bool) → (x == y) ≡ b → (if b then Some pos else position_of (entries_from count (x + 1) (pos + 1)) y) ≡ Some (pos + (y - x))
    by_test again true is = let same : x ≡ y = grind (arith, nat_tests, is) in ap Some (omega (arith, same))
    by_test again false is = let apart : x ≢ y = grind (arith, nat_tests, is) in again (omega (arith, h, apart)) (omega (arith, g))
        ∙ ap Some (omega (arith, h, apart))

pub segment_end : (n p hi : ℕ) → hi ≡ p + 1 → hi * n ≡ p * n + n
segment_end n p hi h = ap (λ k. k * n) h ∙ grind arith

-- the position of a coordinate below an allowed parent
pub position_is : (n x : ℕ) (parent : Span) → x < n → position_of (entries_of n parent) x ≡ Some (parent.lo * n + x)
position_is n x parent h = from_position n 0 (parent.lo * n) x (omega arith) (omega (arith, h)) ∙ ap Some (omega arith)

pub are_entries : (n : ℕ) (parent : Span) → IsAllowed n parent
    → AreEntries (properties Dense) n parent (segment_of n parent) (entries_of n parent)
are_entries n parent ok =
    let end = segment_end n parent.lo parent.hi ok.one_parent in
    let tiles : Tiles (parent.lo * n) (parent.hi * n) (entries_of n parent) =
    subst (λ hi. Tiles (parent.lo * n) hi (entries_of n parent)) (sym end) (from_tiles n 0 (parent.lo * n)) in
    record {
      within = ok.size;
      positions = ok.positions;
      below = from_below n 0 (parent.lo * n) n (omega arith);
      distinct = rising_distinct 0 (entries_of n parent) (from_rising n 0 (parent.lo * n));
      placed = tiles_placed (parent.lo * n) (parent.hi * n) (entries_of n parent) tiles;
      properties = record {
        full = λ _ x h. (parent.lo * n + x, position_is n x parent h);
        ordered = λ _. from_rising n 0 (parent.lo * n);
        unique = λ _. from_single n 0 (parent.lo * n);
        branchless = λ no. absurd (false_is_true no);
        compact = λ _. tiles;
      };
    }
  where
    false_is_true : false ≡ true → ⊥
    false_is_true h = cc

-- where a parent's positions end the next one's begin
pub in_row : (n : ℕ) → AreInRow (IsAllowed n) (segment_of n)
in_row n = record { first = λ p ok zero. ap (λ k. k * n) zero ∙ zero-mul n; next = λ p q ok more meet. ap (λ k. k * n) meet }

-- so many parents may each be asked
pub parent_allowed : (n parents p : ℕ) → HasParents n parents → p < parents → IsAllowed n (one p)
parent_allowed n parents p has h =
    let more : (p + 1) * n ≤ parents * n = mul-le-mul_right n (omega (arith, h)) in
    let within = has.positions in
    record { size = has.size; one_parent = refl; positions = omega (arith, more, within) }

true_is_false : {A : Type 0} → true ≡ false → A
true_is_false h = absurd (apart h)
  where
    apart : true ≡ false → ⊥
    apart e = cc

pub prepares : (n m parents most : ℕ) → KeepsRules n → MayPrepare Dense None most
    → positions_for Dense n parents most ≤ greatest_position_count → Prepared n parents most m → Prepares meaning parents most n m
prepares n m parents most keeps may within is = record {
  keeps = subst KeepsRules (sym is) keeps;
  kind = refl;
  size = is;
  has_parents = subst (λ k. HasParents k parents) (sym is) (record { size = keeps; positions = within });
  positions = λ p last. ap (λ k. (p + 1) * k) is ∙ ap (λ k. k * n) last;
  width = λ no. true_is_false no;
  empty = λ no. true_is_false no;
  room = λ no. true_is_false no;
}

-- what is inserted is there already
pub inserts : (n m parent x slot : ℕ) → IsAllowed n (one parent)
    → MayInsert Dense n (segment_of n (one parent)) (entries_of n (one parent)) x → Inserted n parent x slot m
    → Inserts meaning parent x slot n m
inserts n m parent x slot ok may is =
    let below = may.below in
    let end = segment_end n parent (parent + 1) refl in
    let at = is.1 in
    record {
      keeps = subst KeepsRules (sym is.0) ok.size;
      kind = refl;
      size = is.0;
      width = refl;
      inside = (omega (arith, at), omega (arith, at, below, end));
      gains = record {
        has = ap (λ k. position_of (entries_of k (one parent)) x) is.0 ∙ position_is n x (one parent) below ∙ ap Some (sym at);
        others = λ y _. ap (λ k. position_of (entries_of k (one parent)) y) is.0;
      };
      first = λ no. true_is_false no;
      has_parents = λ parents has. subst (λ k. HasParents k parents) (sym is.0) has;
      allowed = λ p allowed. subst (λ k. IsAllowed k (one p)) (sym is.0) allowed;
      segments = λ p allowed. ap (λ k. segment_of k (one p)) is.0;
      others = λ p allowed _. ap (λ k. entries_of k (one p)) is.0;
    }

finished_apart : {A : Type 0} → Finished ≡ Unfinished → A
finished_apart h = absurd (apart h)
  where
    apart : Finished ≡ Unfinished → ⊥
    apart e = cc

none_some : {A : Type 0} (w : ℕ) → None ≡ Some w → A
none_some w h = absurd (apart h)
  where
    apart : None ≡ Some w → ⊥
    apart e = cc

pub laws : Laws meaning
laws = record {
  held_there = holds_there;
  words_hold = λ n tensor level arrays has. has OfSize (n ∷ []) refl;
  entries = are_entries;
  in_row = in_row;
  one_parent = λ n parent ok _. ok.one_parent;
  parents = parent_allowed;
  last_end = λ n parents p has last. ap (λ k. k * n) last;
  none_without = λ n has. zero-mul n;
  wide = λ n w parent has. none_some w has;
  logs = λ n keeps branches. record { ahead = tt; given = omega arith };
  prepares = prepares;
  inserts = inserts;
  starts = λ n size parents tensor level arrays small few at. record {
    start = size;
    keeps = small;
    kind = refl;
    size = refl;
    width = refl;
    log = λ no. true_is_false (sym no);
    held = at.size refl;
  };
  finishes = λ n parents tensor level before after keeps may. finished_apart may.unfinished;
  same_arrays = λ n m parents tensor level arrays has also agree held. held ∙ ap (λ k. Some (k ∷ [])) (sym agree.size);
}
