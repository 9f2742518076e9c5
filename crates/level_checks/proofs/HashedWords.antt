-- The hashed level that has some words, and what such words are.
use Rattle.std.specs.Prelude.{◌≡◌, ◌⊎◌, ℕ, ◌+◌, ◌*◌, ◌≤◌, ◌<◌, List, [], ◌∷◌, length, slice_index, Option, Some, None, refl}
use Rattle.std.proofs.Common.{◌∙◌, sym, ap, subst, arith, inl, inr}
use Rattle.limits.specs.Limits.{greatest_position_count}
use Rattle.kernel_code.specs.Widths.{slot_width}
use Rattle.kernel_code.proofs.Widths.{slot_width_power, slot_width_wide}
use Rattle.hashed_level.specs.Hashed.{Hashed, hashed, width_words, meaning, KeepsRules}
use Rattle.hashed_level.specs.Slots.{filled, KeepsBlock}
use Rattle.level_checks.specs.Slots.{HasSlots}
use Rattle.level_checks.specs.Widths.{IsLeastWide, most_below}

some_none : (w : ℕ) → Some w ≡ None → ⊥
some_none w e = cc

same_word : (v w : ℕ) → Some v ≡ Some w → v ≡ w
same_word v w e = cc

-- how many coordinates there are in the fullest block
abbrev pub most_in : List ℕ → ℕ → ℕ → ℕ
most_in slots w parents = most_below (λ s. filled (slice_index slots) w (s.lo * w)) parents

module _ (size parents : ℕ) (width slots : List ℕ) where
  abbrev Made : Type 0
  Made = (l : Hashed) × HasSlots size parents width slots l

  -- what is so of the words, where there is a level
  pub record AreGood (w : ℕ) : Type 0 where
    pub width_is : width ≡ w ∷ []
    pub within : length slots ≤ greatest_position_count
    pub count : parents * w ≡ length slots
    pub blocks : (p : ℕ) → p < parents → KeepsBlock (slice_index slots) size w (p * w)
    pub least : w ≡ slot_width (most_in slots w parents)

  pub made_of : (w : ℕ) → size ≤ greatest_position_count → AreGood w → Made
  made_of w small good = (
    hashed size slots (Some w) parents,
    record {
      size_is = refl;
      has_parents = record {
        rules = record {
          size = small;
          count = sym good.count;
          within = good.within;
          power = let p = slot_width_power (most_in slots w parents) in (p.0, good.least ∙ p.1);
          wide = subst (λ n. 2 ≤ n) (sym good.least) (slot_width_wide (most_in slots w parents));
          fresh = λ none. absurd (some_none w none);
          blocks = good.blocks;
        };
        prepared = some_none w;
        count = refl;
      };
      width_is = sym good.width_is;
      slots_are = refl;
      least = λ _. ap Some good.least;
    },
  )

  good_at : (l : Hashed) → HasSlots size parents width slots l → (w : ℕ) → l.width ≡ Some w → AreGood w
  good_at l h w is =
      let same : l ≡ hashed size slots (Some w) parents = λ i. hashed (h.size_is i) (h.slots_are i) (is i) (h.has_parents.count i) in
      let rules = subst KeepsRules same h.has_parents.rules in
      let least = subst (IsLeastWide meaning parents) same h.least in
      record {
        width_is = sym h.width_is ∙ ap width_words is;
        within = rules.within;
        count = sym rules.count;
        blocks = rules.blocks;
        least = same_word w (slot_width (most_in slots w parents)) (least refl);
      }

  pub good_words : Made → (w : ℕ) × AreGood w
  good_words (l, h) = by l.width refl
    where
      by : (o : Option ℕ) → l.width ≡ o → (w : ℕ) × AreGood w
      by None is = absurd (h.has_parents.prepared is)
      by (Some w) is = (w, good_at l h w is)

-- the blocks so far
pub blocks_more : (f : ℕ → ℕ) (n w parents : ℕ) → ((p : ℕ) → p < parents → KeepsBlock f n w (p * w)) → KeepsBlock f n w (parents * w)
    → (p : ℕ) → p < parents + 1 → KeepsBlock f n w (p * w)
blocks_more f n w parents before here p h = elim (below_or_last p parents h) [
  | inl l ↦ before p l
  | inr e ↦ subst (λ q. KeepsBlock f n w (q * w)) (sym e) here
]
  where
    below_or_last : (k m : ℕ) → k < m + 1 → (k < m) ⊎ (k ≡ m)
    below_or_last k m h = grind (arith, h)

-- a list of one word
pub one_word : (xs : List ℕ) → length xs ≡ 1 → xs ≡ slice_index xs 0 ∷ []
one_word [] h = absurd (omega (arith, h))
one_word (x ∷ []) h = refl
one_word (x ∷ y ∷ xs) h = absurd (omega (arith, h))

pub first_is : (xs : List ℕ) (w : ℕ) → xs ≡ w ∷ [] → slice_index xs 0 ≡ w
first_is xs w is = ap (λ ys. slice_index ys 0) is
