-- Laws of hashed levels.
use Rattle.std.specs.Prelude.{◌≡◌, ◌≢◌, ◌⊎◌, ℕ, ◌+◌, ◌-◌, ◌*◌, ◌/◌}
use Rattle.std.specs.Prelude.{◌%◌, ◌≤◌, ◌<◌, true, false, List, [], Some, None, length}
use Rattle.std.specs.Prelude.{replicate, slice_index, slice_set, refl}
use Rattle.std.proofs.Common.{◌∙◌, sym, ap, subst, arith, inl, inr}
use Rattle.std.proofs.Math.Nat.{zero-mul, mul-le-mul_right}
use Rattle.std.proofs.lemmas.Nat.{div_below}
use Rattle.std.proofs.lemmas.List.{ext_get_or, get_or-set_same, get_or-set_other, get_or-replicate, length-set, length-replicate}
use Rattle.std.proofs.lemmas.Bool.Decides.{eqb_tells}
use Rattle.limits.specs.Limits.{greatest_position_count}
use Rattle.limits.proofs.Limits.{positions_are_small}
use Rattle.kernel_code.specs.declared.syntax.Arr.{Arr}
use Rattle.kernel_code.specs.declared.syntax.Arr.TheVariants.{Coordinates, Width}
use Rattle.level_core.specs.declared.span.Span.{Span}
use Rattle.level_core.specs.declared.letter.Letter.TheVariants.{Hashed as HashedLetter}
use Rattle.level_core.specs.declared.arrays.LevelArray.TheVariants.{Coordinates as OfCoordinates, Width as OfWidth}
use Rattle.level_core.specs.Fragments.{IsOf}
use Rattle.level_core.specs.declared.stage.Stage.TheVariants.{Unfinished, Finished}
use Rattle.level_core.specs.Entries.{AreInRow, FirstFree, Gains, coord_at, one}
use Rattle.level_core.specs.Kinds.{properties, positions_for, AreEntries, MayPrepare, MayInsert}
use Rattle.level_core.specs.Meaning.{Arrays, Prepares, Inserts, AgreeBelow}
use Rattle.level_core.specs.Laws.{Laws}
use Rattle.hashed_level.specs.Slots.{empty_slot, positions_below_empty, KeepsBlock, FirstEmpty}
use Rattle.hashed_level.specs.SlotLaws.{coord_none, none_is_empty, same_words, Puts, filled_below, filled_coord, filled_distinct}
use Rattle.hashed_level.specs.SlotLaws.{filled_nothing, filled_placed, filled_same, filled_single, filled_without}
use Rattle.hashed_level.specs.SearchLaws.{place_inside, block_once, put_keeps, put_gains, block_same, block_empty}
use Rattle.kernel_code.specs.Widths.{slot_width}
use Rattle.kernel_code.proofs.Widths.{slot_width_power, slot_width_wide, slot_width_enough}
use Rattle.hashed_level.specs.Hashed.{Hashed, hashed, width_or_two, block_width, width_words, base_of, KeepsRules, Holds, HasParents}
use Rattle.hashed_level.specs.Hashed.{IsAllowed, segment_of, entries_of, Prepared, with_blocks, with_coordinate, Inserted, meaning}

pub holds_there : (l : Hashed) (tensor level : ℕ) (a b : Arrays) → ((x : Arr) → IsOf tensor level x → b x ≡ a x) → Holds l tensor level a
    → Holds l tensor level b
holds_there l tensor level a b same h =
    record { width = same (Width tensor level) (refl, refl) ∙ h.width; slots = same (Coordinates tensor level) (refl, refl) ∙ h.slots }

-- a block of a parent ends where the next one's begins
block_end : (w p : ℕ) → (p + 1) * w ≡ p * w + w
block_end w p = grind arith

pub in_row : (l : Hashed) → AreInRow (IsAllowed l) (segment_of l)
in_row l =
    let w = block_width l in
    record {
      first = λ p ok zero. ap (λ k. k * w) zero ∙ zero-mul w;
      next = λ p q ok more meet. sym (block_end w p.lo) ∙ ap (λ k. k * w) (sym ok.one_parent ∙ meet);
    }

-- the block of a prepared parent is within the slots
pub block_within : (l : Hashed) (p : ℕ) → KeepsRules l → p < l.parents → base_of l p + block_width l ≤ length l.slots
block_within l p rules h =
    let more : (p + 1) * block_width l ≤ l.parents * block_width l = mul-le-mul_right (block_width l) (omega (arith, h)) in
    let end = block_end (block_width l) p in
    let count = rules.count in
    omega (arith, more, end, count)

pub block_small : (l : Hashed) (p : ℕ) → KeepsRules l → p < l.parents → base_of l p + block_width l ≤ greatest_position_count
block_small l p rules h = let inside = block_within l p rules h in let within = rules.within in omega (arith, inside, within)

pub are_entries : (l : Hashed) (parent : Span) → IsAllowed l parent
    → AreEntries (properties HashedLetter) l.size parent (segment_of l parent) (entries_of l parent)
are_entries l parent ok =
    let b = ok.rules.blocks parent.lo ok.prepared in
    let f = slice_index l.slots in
    let w = block_width l in
    let base = base_of l parent.lo in
    record {
      within = ok.rules.size;
      positions = block_small l parent.lo ok.rules ok.prepared;
      below = filled_below f l.size w base
          (λ q h g e. let at : base + (q - base) ≡ q = omega (arith, h) in
          subst (λ k. f k < l.size) at (b.below (q - base) (omega (arith, h, g)) (λ z. e (ap f (sym at) ∙ z))));
      distinct = filled_distinct f w base (block_once f l.size w base b);
      placed = filled_placed f base w base (omega arith);
      properties = record {
        full = λ h. absurd (false_is_true h);
        ordered = λ h. absurd (false_is_true h);
        unique = λ _. filled_single f w base;
        branchless = λ h. absurd (false_is_true h);
        compact = λ h. absurd (false_is_true h);
      };
    }
  where
    false_is_true : false ≡ true → ⊥
    false_is_true h = cc

pub all_empty : (n q : ℕ) → q < n → slice_index (replicate n empty_slot) q ≡ empty_slot
all_empty n q h = get_or-replicate n q empty_slot 0 h

-- a slot of a block of prepared parents is a slot
pub prepared_slot : (parents w p q : ℕ) → p < parents → q < p * w + w → q < parents * w
prepared_slot parents w p q h g =
    let more : (p + 1) * w ≤ parents * w = mul-le-mul_right w (omega (arith, h)) in
    let end = block_end w p in
    omega (arith, more, end, g)

pub prepared_keeps : (l : Hashed) (parents most : ℕ) → KeepsRules l
    → positions_for HashedLetter l.size parents most ≤ greatest_position_count → KeepsRules (with_blocks l parents most)
prepared_keeps l parents most rules few =
    let w = slot_width most in
    let many : length (replicate (parents * w) empty_slot) ≡ parents * w = length-replicate (parents * w) empty_slot in
    record {
      size = rules.size;
      count = many;
      within = omega (arith, many, few);
      power = slot_width_power most;
      wide = slot_width_wide most;
      fresh = λ h. absurd (some_is_none w h);
      blocks = λ p h. block_empty (slice_index (replicate (parents * w) empty_slot)) l.size w (p * w)
          (λ j g. all_empty (parents * w) (p * w + j) (prepared_slot parents w p (p * w + j) h (omega (arith, g))));
    }
  where
    some_is_none : (w : ℕ) → Some w ≡ None → ⊥
    some_is_none w h = cc

some_is_none : {A : Type 0} (w : ℕ) → Some w ≡ None → A
some_is_none w h = absurd (apart h)
  where
    apart : Some w ≡ None → ⊥
    apart e = cc

pub prepares : (l m : Hashed) (parents most : ℕ) → KeepsRules l → MayPrepare HashedLetter l.width most
    → positions_for HashedLetter l.size parents most ≤ greatest_position_count → Prepared l parents most m
    → Prepares meaning parents most l m
prepares l m parents most rules may within same = subst (Prepares meaning parents most l) (sym same) (record {
  keeps = prepared_keeps l parents most rules within;
  kind = refl;
  size = refl;
  has_parents = record {
    rules = prepared_keeps l parents most rules within;
    prepared = λ none. some_is_none (slot_width most) none;
    count = refl;
  };
  positions = λ p last. sym (block_end (slot_width most) p) ∙ ap (λ k. k * slot_width most) last;
  width = λ _. refl;
  empty = λ _ p h. filled_nothing (slice_index (replicate (parents * slot_width most) empty_slot)) (slot_width most)
      (p * slot_width most) (λ q g i. all_empty (parents * slot_width most) q (prepared_slot parents (slot_width most) p q h i));
  room = λ _ p h. let small = positions_are_small in let few = may.coordinates in let enough =
      slot_width_enough most (omega (arith, small, few)) in omega (arith, enough);
})

-- a coordinate is below the word of empty slots
pub coordinate_filled : (l : Hashed) (x : ℕ) → KeepsRules l → x < l.size → x ≢ empty_slot
coordinate_filled l x rules h is = let size = rules.size in let large = positions_below_empty in omega (arith, size, large, h, is)

-- no slot of the block has it
pub insert_absent : (l : Hashed) (p x : ℕ) → MayInsert HashedLetter l.size (segment_of l (one p)) (entries_of l (one p)) x → (q : ℕ)
    → base_of l p ≤ q → q < base_of l p + block_width l → slice_index l.slots q ≢ empty_slot → slice_index l.slots q ≢ x
insert_absent l p x may = filled_without (slice_index l.slots) x (block_width l) (base_of l p) (may.free refl).0

-- slots of other blocks are other slots
pub other_block : (w p r q slot : ℕ) → r ≢ p → r * w ≤ q → q < r * w + w → p * w ≤ slot → slot < p * w + w → q ≢ slot
other_block w p r q slot apart from below first last same = by_order (less_or_more r p apart)
  where
    less_or_more : (a b : ℕ) → a ≢ b → (a + 1 ≤ b) ⊎ (b + 1 ≤ a)
    less_or_more a b h = grind arith

    by_order : (r + 1 ≤ p) ⊎ (p + 1 ≤ r) → ⊥
    by_order (inl le) = let more : (r + 1) * w ≤ p * w = mul-le-mul_right w le in let end = block_end w r in
        omega (arith, more, end, from, below, first, last, same)
    by_order (inr le) = let more : (p + 1) * w ≤ r * w = mul-le-mul_right w le in let end = block_end w p in
        omega (arith, more, end, from, below, first, last, same)

pub set_puts : (xs : List ℕ) (slot x : ℕ) → slot < length xs → Puts (slice_index xs) (slice_index (slice_set xs slot x)) slot x
set_puts xs slot x h = record { at = get_or-set_same xs slot x 0 h; others = λ q apart. get_or-set_other xs slot q x 0 apart }

pub first_inside : (f : ℕ → ℕ) (w base x slot : ℕ) → FirstEmpty f w base x slot → (base ≤ slot) × (slot < base + w)
first_inside f w base x slot first =
    let few = first.few in
    let inside = place_inside w base x first.steps (omega (arith, few)) in
    let at = first.at in
    (omega (arith, at, inside.0), omega (arith, at, inside.1))

-- what insertion leaves
module _ (l : Hashed) (p x slot : ℕ) (ok : IsAllowed l (one p))
    (may : MayInsert HashedLetter l.size (segment_of l (one p)) (entries_of l (one p)) x)
    (first : FirstEmpty (slice_index l.slots) (block_width l) (base_of l p) x slot) where
  slot_inside : (base_of l p ≤ slot) × (slot < base_of l p + block_width l)
  slot_inside = first_inside (slice_index l.slots) (block_width l) (base_of l p) x slot first

  puts : Puts (slice_index l.slots) (slice_index (slice_set l.slots slot x)) slot x
  puts = let inside = block_within l p ok.rules ok.prepared in set_puts l.slots slot x (omega (arith, inside, slot_inside.1))

  other_slots : (r : ℕ) → r ≢ p → (q : ℕ) → base_of l r ≤ q → q < base_of l r + block_width l
      → slice_index (slice_set l.slots slot x) q ≡ slice_index l.slots q
  other_slots r apart q from below = puts.others q (other_block (block_width l) p r q slot apart from below slot_inside.0 slot_inside.1)

  inserted_block : (r : ℕ) → r < l.parents → KeepsBlock (slice_index (slice_set l.slots slot x)) l.size (block_width l) (base_of l r)
  inserted_block r h = elim (eqb_tells r p) [
    | inl k ↦ subst (λ a. KeepsBlock (slice_index (slice_set l.slots slot x)) l.size (block_width l) (base_of l a)) (sym k.1)
        (put_keeps (slice_index l.slots) (slice_index (slice_set l.slots slot x)) l.size (block_width l) (base_of l p) x slot
        (ok.rules.blocks p ok.prepared) first puts (coordinate_filled l x ok.rules may.below) may.below (insert_absent l p x may))
    | inr k ↦ let wide = ok.rules.wide in block_same (slice_index l.slots) (slice_index (slice_set l.slots slot x)) l.size
        (block_width l) (base_of l r) (omega (arith, wide)) (other_slots r k.1) (ok.rules.blocks r h)
  ]

  pub inserted_keeps : KeepsRules (with_coordinate l x slot)
  inserted_keeps =
      let many : length (slice_set l.slots slot x) ≡ length l.slots = length-set l.slots slot x in
      let count = ok.rules.count in
      let within = ok.rules.within in
      record {
        size = ok.rules.size;
        count = many ∙ count;
        within = omega (arith, many, within);
        power = ok.rules.power;
        wide = ok.rules.wide;
        fresh = ok.rules.fresh;
        blocks = inserted_block;
      }

  inserted_gains : Gains x slot (entries_of l (one p)) (entries_of (with_coordinate l x slot) (one p))
  inserted_gains = put_gains (slice_index l.slots) (slice_index (slice_set l.slots slot x)) l.size (block_width l) (base_of l p) x slot
      (ok.rules.blocks p ok.prepared) first puts (coordinate_filled l x ok.rules may.below) may.below (insert_absent l p x may)

-- an inserted coordinate stands in the first free slot from where it is sought on
first_free : (l : Hashed) (p x slot : ℕ) → IsAllowed l (one p) → FirstEmpty (slice_index l.slots) (block_width l) (base_of l p) x slot
    → FirstFree (segment_of l (one p)) (entries_of l (one p)) x slot
first_free l p x slot ok first =
    let inside = first_inside (slice_index l.slots) (block_width l) (base_of l p) x slot first in
    let w = block_width l in
    let base = base_of l p in
    let wide = ok.rules.wide in
    let width : base + w - base ≡ w = omega arith in
    record {
      steps = first.steps;
      few = (let few = first.few in omega (arith, few));
      at = first.at ∙ ap (λ n. base + (x + first.steps) % n) (sym width);
      free = filled_coord (slice_index l.slots) w base slot inside.0 inside.1 ∙ coord_none (slice_index l.slots slot) first.empty;
      taken = λ k h none.
          let same : base + (x + k) % (base + w - base) ≡ base + (x + k) % w = ap (λ n. base + (x + k) % n) width in
          let i = place_inside w base x k (omega (arith, wide)) in
          first.filled k h
          (none_is_empty (slice_index l.slots (base + (x + k) % w))
          (sym (filled_coord (slice_index l.slots) w base (base + (x + k) % w) i.0 i.1)
          ∙ ap (coord_at (entries_of l (one p))) (sym same) ∙ none));
    }

pub inserts : (l m : Hashed) (p x slot : ℕ) → IsAllowed l (one p)
    → MayInsert HashedLetter l.size (segment_of l (one p)) (entries_of l (one p)) x → Inserted l p x slot m → Inserts meaning p x slot l m
inserts l m p x slot ok may is = subst (Inserts meaning p x slot l) (sym is.level) (record {
  keeps = inserted_keeps l p x slot ok may is.first;
  kind = refl;
  size = refl;
  width = refl;
  inside = slot_inside l p x slot ok may is.first;
  gains = inserted_gains l p x slot ok may is.first;
  first = λ _. first_free l p x slot ok is.first;
  has_parents = λ n has. record { rules = inserted_keeps l p x slot ok may is.first; prepared = has.prepared; count = has.count };
  allowed = λ r allowed. record { rules = inserted_keeps l p x slot ok may is.first; one_parent = refl; prepared = allowed.prepared };
  segments = λ r allowed. refl;
  others = λ r allowed apart. filled_same (slice_index l.slots) (slice_index (slice_set l.slots slot x)) (block_width l) (base_of l r)
      (other_slots l p x slot ok may is.first r apart);
})

-- a level without parents, as a kernel begins it
start_keeps : (n : ℕ) → n ≤ greatest_position_count → KeepsRules (hashed n [] None 0)
start_keeps n small = record {
  size = small;
  count = omega arith;
  within = omega arith;
  power = (1, refl);
  wide = omega arith;
  fresh = λ _. refl;
  blocks = λ p h. absurd (omega (arith, h));
}

-- the blocks of so many parents have the same words where they have the same entries
slots_same : (l m : Hashed) (parents : ℕ) → HasParents l parents → HasParents m parents → AgreeBelow meaning parents l m → m.slots ≡ l.slots
slots_same l m parents has also agree = ext_get_or 0 m.slots l.slots (long ∙ sym count) (λ q inside. each q (omega (arith, inside, long)))
  where
    w : ℕ
    w = block_width l

    same_width : block_width m ≡ w
    same_width = ap width_or_two agree.width

    count : length l.slots ≡ parents * w
    count = has.rules.count ∙ ap (λ k. k * w) has.count

    long : length m.slots ≡ parents * w
    long = also.rules.count ∙ ap (λ k. k * block_width m) also.count ∙ ap (λ k. parents * k) same_width

    each : (q : ℕ) → q < parents * w → slice_index m.slots q ≡ slice_index l.slots q
    each q inside =
        let wide : 2 ≤ w = has.rules.wide in
        let some : 0 < w = omega (arith, wide) in
        let below : q / w < parents = div_below q w parents some inside in
        let parts : q ≡ q / w * w + q % w = omega (arith, some) in
        let few : q % w < w = omega (arith, some) in
        let from : q / w * w ≤ q = omega (arith, parts) in
        let to : q < q / w * w + w = omega (arith, parts, few) in
        let begins : base_of m (q / w) ≡ q / w * w = ap (λ k. q / w * k) same_width in
        let here = filled_coord (slice_index l.slots) w (base_of l (q / w)) q from to in
        let there = filled_coord (slice_index m.slots) (block_width m) (base_of m (q / w)) q (omega (arith, from, begins))
        (omega (arith, to, begins, same_width)) in
        same_words (slice_index m.slots q) (slice_index l.slots q)
        (sym there ∙ ap (λ es. coord_at es q) (agree.entries (q / w) below) ∙ here)

never_appended : {A : Type 0} → false ≡ true → A
never_appended h = absurd (apart h)
  where
    apart : false ≡ true → ⊥
    apart e = cc

finished_apart : {A : Type 0} → Finished ≡ Unfinished → A
finished_apart h = absurd (apart h)
  where
    apart : Finished ≡ Unfinished → ⊥
    apart e = cc

pub laws : Laws meaning
laws = record {
  held_there = holds_there;
  words_hold = λ l tensor level arrays has. record { width = has OfWidth _ refl; slots = has OfCoordinates _ refl };
  entries = are_entries;
  in_row = in_row;
  one_parent = λ l parent ok _. ok.one_parent;
  parents = λ l parents p has h. record { rules = has.rules; one_parent = refl; prepared = subst (λ n. p < n) (sym has.count) h };
  last_end = λ l parents p has last.
      sym (block_end (block_width l) p) ∙ ap (λ k. k * block_width l) (last ∙ sym has.count) ∙ sym has.rules.count;
  none_without = λ l has. has.rules.count ∙ ap (λ k. k * block_width l) has.count ∙ zero-mul (block_width l);
  wide = λ l w parent has ok. ap (λ o. base_of l parent.lo + width_or_two o) has;
  logs = λ l keeps branches. record { ahead = tt; given = omega arith };
  prepares = prepares;
  inserts = inserts;
  starts = λ l n parents tensor level arrays small few at. record {
    start = hashed n [] None 0;
    keeps = start_keeps n small;
    kind = refl;
    size = refl;
    width = refl;
    log = λ no. never_appended no;
    held = record { width = at.zeros OfWidth 0 refl; slots = at.zeros OfCoordinates 0 refl };
  };
  finishes = λ l parents tensor level before after keeps may. finished_apart may.unfinished;
  same_arrays = λ l m parents tensor level arrays has also agree held. record {
    width = held.width ∙ ap (λ o. Some (width_words o)) (sym agree.width);
    slots = held.slots ∙ ap Some (sym (slots_same l m parents has also agree));
  };
}
