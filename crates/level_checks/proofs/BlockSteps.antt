-- Blocks whose slots are looked at one after another.
use Rattle.std.specs.Prelude.{◌≡◌, ◌≢◌, ◌⊎◌, ℕ, suc, ◌+◌, ◌-◌, ◌%◌, ◌<◌, ◌≤◌, ◌==◌, if◌then◌else◌, Bool, true, false, List, ◌∷◌, length}
use Rattle.std.specs.Prelude.{Some, None, refl}
use Rattle.std.proofs.Common.{◌∙◌, sym, ap, subst, arith, inl, inr}
use Rattle.std.proofs.lemmas.Bool.Decides.{eqb_tells}
use Rattle.std.proofs.lemmas.Nat.{mod_below}
use Rattle.level_core.specs.declared.span.Entry.{Entry}
use Rattle.level_core.specs.Entries.{one}
use Rattle.hashed_level.specs.Slots.{empty_slot, coord_of, filled, place, KeepsBlock}
use Rattle.level_checks.specs.Found.{IsFoundAt, KeepsSlot}
use Rattle.level_checks.specs.Widths.{coordinates_in}

none_some : (x : ℕ) → Some x ≡ None → ⊥
none_some x e = cc

if_empty : (w : ℕ) (b : Bool) → (w == empty_slot) ≡ b → (if b then None else Some w) ≡ None → w ≡ empty_slot
if_empty w true is e = elim (eqb_tells w empty_slot) [ inl h ↦ h.1 | inr h ↦ absurd (cc) ]
if_empty w false is e = absurd (none_some w e)

-- a slot without a coordinate is empty
pub empty_is : (w : ℕ) → None ≡ coord_of w → w ≡ empty_slot
empty_is w e = if_empty w (w == empty_slot) refl (sym e)

same_word : (x w : ℕ) → Some x ≡ Some w → x ≡ w
same_word x w e = cc

if_filled : (w x : ℕ) (b : Bool) → (w == empty_slot) ≡ b → (if b then None else Some w) ≡ Some x → (w ≡ x) × (w ≢ empty_slot)
if_filled w x true is e = absurd (none_some x (sym e))
if_filled w x false is e = (
  same_word w x e,
  elim (eqb_tells w empty_slot) [ inl h ↦ absurd (cc) | inr h ↦ h.1 ],
)

-- and one with a coordinate holds it
pub filled_is : (w x : ℕ) → Some x ≡ coord_of w → (w ≡ x) × (w ≢ empty_slot)
filled_is w x e = if_filled w x (w == empty_slot) refl (sym e)

three_ways : (a b : ℕ) → (a < b) ⊎ ((a ≡ b) ⊎ (b < a))
three_ways a b = grind arith

module _ (f : ℕ → ℕ) (w base x at : ℕ) where
  -- the first steps meet neither the slot, nor an empty one, nor another that holds the coordinate
  pub record Passed (steps : ℕ) : Type 0 where
    pub filled : (k : ℕ) → k < steps → f (place w base x k) ≢ empty_slot
    pub apart : (k : ℕ) → k < steps → f (place w base x k) ≢ x
    pub elsewhere : (k : ℕ) → k < steps → (x + k) % w ≢ at

  pub passed_none : Passed 0
  passed_none = record {
    filled = λ k h. absurd (omega (arith, h));
    apart = λ k h. absurd (omega (arith, h));
    elsewhere = λ k h. absurd (omega (arith, h));
  }

  below_or_last : (k steps : ℕ) → k < steps + 1 → (k < steps) ⊎ (k ≡ steps)
  below_or_last k steps h = grind (arith, h)

  pub passed_more : (steps : ℕ) → Passed steps → f (place w base x steps) ≢ empty_slot → f (place w base x steps) ≢ x
      → (x + steps) % w ≢ at → Passed (steps + 1)
  passed_more steps p some other away = record {
    filled = λ k h. elim (below_or_last k steps h) [
      | inl l ↦ p.filled k l
      | inr e ↦ subst (λ n. f (place w base x n) ≢ empty_slot) (sym e) some
    ];
    apart = λ k h. elim (below_or_last k steps h) [
      | inl l ↦ p.apart k l
      | inr e ↦ subst (λ n. f (place w base x n) ≢ x) (sym e) other
    ];
    elsewhere = λ k h. elim (below_or_last k steps h) [
      | inl l ↦ p.elsewhere k l
      | inr e ↦ subst (λ n. (x + n) % w ≢ at) (sym e) away
    ];
  }

  -- the slot is met
  pub found_now : (steps : ℕ) → Passed steps → steps < w → (x + steps) % w ≡ at → IsFoundAt f w base x at
  found_now steps p few here = record {
    steps = steps;
    few = few;
    at = here;
    filled = p.filled;
    alone = λ k h same. absurd (p.apart k h same);
  }

  -- an empty slot is met before it
  pub lost_at_empty : (steps : ℕ) → Passed steps → (x + steps) % w ≢ at → f (place w base x steps) ≡ empty_slot
      → IsFoundAt f w base x at → ⊥
  lost_at_empty steps p away empty found = elim (three_ways steps found.steps) [
    | inl before ↦ found.filled steps before empty
    | inr later ↦ elim later [
      | inl same ↦ away (ap (λ k. (x + k) % w) same ∙ found.at)
      | inr less ↦ p.elsewhere found.steps less found.at
    ]
  ]

  -- another that holds the coordinate is met before it
  pub lost_at_other : (steps : ℕ) → Passed steps → (x + steps) % w ≢ at → f (place w base x steps) ≡ x → IsFoundAt f w base x at → ⊥
  lost_at_other steps p away other found = elim (three_ways steps found.steps) [
    | inl before ↦ away (found.alone steps before other)
    | inr later ↦ elim later [
      | inl same ↦ away (ap (λ k. (x + k) % w) same ∙ found.at)
      | inr less ↦ p.elsewhere found.steps less found.at
    ]
  ]

  -- it isn't met at all
  pub lost_at_end : (steps : ℕ) → Passed steps → w ≤ steps → IsFoundAt f w base x at → ⊥
  lost_at_end steps p all found = let few = found.few in p.elsewhere found.steps (omega (arith, all, few)) found.at

-- each slot of a block that keeps the rules keeps them
pub block_slot : (f : ℕ → ℕ) (n w base j : ℕ) → KeepsBlock f n w base → j < w → KeepsSlot f n w base j
block_slot f n w base j b inside some =
    let r = b.reached j inside some in
    let x = f (base + j) in (
      b.below j inside some,
      record {
        steps = r.steps;
        few = r.few;
        at = r.at;
        filled = r.filled;
        alone = λ k h same.
            b.once ((x + k) % w) j (mod_below (x + k) w (omega (arith, inside))) inside (λ z. some (sym same ∙ z)) same;
      },
    )

-- and a block whose slots all keep them does
pub slots_block : (f : ℕ → ℕ) (n w base : ℕ) → ((j : ℕ) → j < w → KeepsSlot f n w base j) → KeepsBlock f n w base
slots_block f n w base each = record {
  below = λ j l some. (each j l some).0;
  once = λ i j l m some same.
      let first = (each i l some).1 in
      let second = subst (λ y. IsFoundAt f w base y j) (sym same) (each j m (λ z. some (same ∙ z))).1 in
      let x = f (base + i) in
      elim (three_ways first.steps second.steps) [
        | inl before ↦ sym first.at ∙ second.alone first.steps before (ap (λ k. f (base + k)) first.at)
        | inr later ↦ elim later [
          | inl equal ↦ sym first.at ∙ ap (λ k. (x + k) % w) equal ∙ second.at
          | inr less ↦ sym (sym second.at
              ∙ first.alone second.steps less (ap (λ k. f (base + k)) second.at ∙ sym same))
        ]
      ];
  reached = λ j l some. let r = (each j l some).1 in record { steps = r.steps; few = r.few; at = r.at; filled = r.filled };
}

slot_counts : (b : Bool) (e : Entry) (es : List Entry) → length (if b then es else e ∷ es) ≡ (if b then 0 else 1) + length es
slot_counts true e es = omega arith
slot_counts false e es = omega arith

one_slot : (f : ℕ → ℕ) (count pos : ℕ) → length (filled f (suc count) pos) ≡ coordinates_in (f pos) + length (filled f count (pos + 1))
one_slot f count pos = slot_counts (f pos == empty_slot) (record { coord = f pos; child = one pos }) (filled f count (pos + 1))

-- one slot more of a block
pub filled_next : (f : ℕ → ℕ) (w base at : ℕ) → at < w
    → length (filled f (w - at) (base + at)) ≡ coordinates_in (f (base + at)) + length (filled f (w - (at + 1)) (base + (at + 1)))
filled_next f w base at less =
    let more : w - at ≡ suc (w - (at + 1)) = omega (arith, less) in
    let next : base + at + 1 ≡ base + (at + 1) = omega arith in
    ap (λ n. length (filled f n (base + at))) more ∙ one_slot f (w - (at + 1)) (base + at)
    ∙ ap (λ n. coordinates_in (f (base + at)) + length (filled f (w - (at + 1)) n)) next

pub one_at_most : (word : ℕ) → coordinates_in word ≤ 1
one_at_most word = by (word == empty_slot)
  where
    by : (b : Bool) → (if b then 0 else 1) ≤ 1
    by true = omega arith
    by false = omega arith
