-- Facts of levels that arrays hold.
use Rattle.std.specs.Prelude.{◌≡◌, ℕ, zero, suc, ◌+◌, ◌<◌, true, false, List, [], ◌∷◌, map, length, ◌++◌, All, Option, Some, None}
use Rattle.std.specs.Prelude.{option_to_list, slice_get, slice_index, refl}
use Rattle.std.proofs.Common.{◌∙◌, ap, sym, subst, arith}
use Rattle.std.proofs.lemmas.List.Elements.{All-nil, All-cons, All-head, All-tail}
use Rattle.kernel_code.specs.declared.syntax.Arr.TheVariants.{Range}
use Rattle.kernel_code.specs.Meaning.{word_at}
use Rattle.level_core.specs.GroupLaws.{CoordsBelow}
use Rattle.level_core.specs.Kinds.{properties}
use Rattle.level_core.specs.Meaning.{Arrays}
use Rattle.format_spec.specs.declared.format.FormatLevel.{FormatLevel}
use Rattle.index_notation.specs.declared.syntax.Statement.{Statement}
use Rattle.expr_terms.specs.Ranges.{mode_size}
use Rattle.tensor_storage.specs.declared.level.StorageLevel.{StorageLevel}
use Rattle.tensor_storage.specs.Levels.{meaning}
use Rattle.tensor_storage.proofs.HeldWords.{size_held, coordinates_held}
use Rattle.kernel_correctness.specs.Stores.{AreHeld}
use Rattle.lists.specs.Each.{Each}
use Rattle.lists.proofs.Each.{each_append}
use Rattle.store_facts.specs.declared.facts.StoreFact.{StoreFact}
use Rattle.store_facts.specs.declared.facts.StoreFact.TheVariants.{Size, Coordinates as OfCoordinates}
use Rattle.store_facts.specs.Facts.{IsFact, range_of}
use Rattle.statement_facts.specs.Alone.{StandsAlone}
use Rattle.statement_facts.specs.Facts.{HeldLevels, IsTrueOfLevel, AreTrueOfLevels}

there_at : (xs : List ℕ) (i : ℕ) → i < length xs → slice_get xs i ≡ Some (slice_index xs i)
there_at [] i l = absurd (omega (arith, l))
there_at (x ∷ xs) zero l = refl
there_at (x ∷ xs) (suc i) l = there_at xs i (omega (arith, l))

below_at : (n : ℕ) (xs : List ℕ) (i x : ℕ) → CoordsBelow n xs → slice_get xs i ≡ Some x → x < n
below_at n [] i x h is = absurd cc
below_at n (y ∷ ys) zero x h is = let same : y ≡ x = cc in subst (λ z. z < n) same h.0
below_at n (y ∷ ys) (suc i) x h is = below_at n ys i x h.1 is

-- one level that arrays hold, beside the ranges, is that of the kind and size that the format and the statement tell
record HeldLevel (s : Statement) (tensor number : ℕ) (level : FormatLevel) (arrays : Arrays) : Type 0 where
  of : StorageLevel
  ranges : List ℕ
  ranges_are : arrays Range ≡ Some ranges
  many : length ranges ≡ length s.vars
  letter : meaning.kind of ≡ level.letter
  size : meaning.size of ≡ mode_size s (slice_index ranges) tensor level.mode
  keeps : meaning.keeps of
  held : meaning.holds of tensor number arrays

-- the first of some levels, and the others
first_level : (s : Statement) (tensor number : ℕ) (level : FormatLevel) (format : List FormatLevel) (arrays : Arrays)
    → HeldLevels s tensor number (level ∷ format) arrays → HeldLevel s tensor number level arrays
first_level s tensor number level format arrays h = from h.levels h.letters h.sizes h.keep h.held
  where
    from : (levels : List StorageLevel) → map meaning.kind levels ≡ level.letter ∷ map (λ l. l.letter) format
        → map meaning.size levels ≡ mode_size s (slice_index h.ranges) tensor level.mode
        ∷ map (λ l. mode_size s (slice_index h.ranges) tensor l.mode) format
        → All meaning.keeps levels → AreHeld levels tensor number arrays → HeldLevel s tensor number level arrays
    from [] letters sizes keep held = absurd cc
    from (l ∷ ls) letters sizes keep held = record {
      of = l;
      ranges = h.ranges;
      ranges_are = h.ranges_are;
      many = h.many;
      letter = cc;
      size = cc;
      keeps = All-head meaning.keeps l ls keep;
      held = held.0;
    }

pub other_levels : (s : Statement) (tensor number : ℕ) (level : FormatLevel) (format : List FormatLevel) (arrays : Arrays)
    → HeldLevels s tensor number (level ∷ format) arrays → HeldLevels s tensor (suc number) format arrays
other_levels s tensor number level format arrays h = from h.levels h.letters h.sizes h.keep h.held
  where
    from : (levels : List StorageLevel) → map meaning.kind levels ≡ level.letter ∷ map (λ l. l.letter) format
        → map meaning.size levels ≡ mode_size s (slice_index h.ranges) tensor level.mode
        ∷ map (λ l. mode_size s (slice_index h.ranges) tensor l.mode) format
        → All meaning.keeps levels → AreHeld levels tensor number arrays → HeldLevels s tensor (suc number) format arrays
    from [] letters sizes keep held = absurd cc
    from (l ∷ ls) letters sizes keep held = record {
      ranges = h.ranges;
      ranges_are = h.ranges_are;
      many = h.many;
      levels = ls;
      letters = cc;
      sizes = cc;
      keep = All-tail meaning.keeps l ls keep;
      held = held.1;
    }

pub one_level : (s : Statement) (tensor number : ℕ) (level : FormatLevel) (format : List FormatLevel) (arrays : Arrays)
    → HeldLevels s tensor number (level ∷ format) arrays → HeldLevels s tensor number (level ∷ []) arrays
one_level s tensor number level format arrays h = from h.levels h.letters h.sizes h.keep h.held
  where
    from : (levels : List StorageLevel) → map meaning.kind levels ≡ level.letter ∷ map (λ l. l.letter) format
        → map meaning.size levels ≡ mode_size s (slice_index h.ranges) tensor level.mode
        ∷ map (λ l. mode_size s (slice_index h.ranges) tensor l.mode) format
        → All meaning.keeps levels → AreHeld levels tensor number arrays → HeldLevels s tensor number (level ∷ []) arrays
    from [] letters sizes keep held = absurd cc
    from (l ∷ ls) letters sizes keep held = record {
      ranges = h.ranges;
      ranges_are = h.ranges_are;
      many = h.many;
      levels = l ∷ [];
      letters = let same : meaning.kind l ≡ level.letter = cc in ap (λ x. x ∷ []) same;
      sizes = let same : meaning.size l ≡ mode_size s (slice_index h.ranges) tensor level.mode = cc in ap (λ x. x ∷ []) same;
      keep = all_one l (All-head meaning.keeps l ls keep);
      held = (held.0, tt);
    }
      where
        all_one : (l : StorageLevel) → meaning.keeps l → All meaning.keeps (l ∷ [])
        all_one l h = All-cons meaning.keeps l [] h (All-nil meaning.keeps)

-- the range of the variable that alone stands at the mode of a level that arrays hold is the level's size
range_is : (s : Statement) (tensor number : ℕ) (level : FormatLevel) (arrays : Arrays) (v : ℕ) → StandsAlone s tensor level.mode (Some v)
    → v < length s.vars → (h : HeldLevel s tensor number level arrays) → range_of arrays v ≡ Some (meaning.size h.of)
range_is s tensor number level arrays v alone within h =
    ap (λ o. word_at o (Some v)) h.ranges_are ∙ there_at h.ranges v (let l = h.many in omega (arith, l, within))
    ∙ ap Some (sym (h.size ∙ alone (slice_index h.ranges)))

pub size_fact : (s : Statement) (tensor number : ℕ) (level : FormatLevel) (arrays : Arrays) (v : ℕ)
    → StandsAlone s tensor level.mode (Some v) → v < length s.vars → (properties level.letter).full ≡ true
    → HeldLevels s tensor number (level ∷ []) arrays → IsFact arrays (Size tensor number v)
size_fact s tensor number level arrays v alone within full held words size is at =
    let h = first_level s tensor number level [] arrays held in
    let are = size_held h.of tensor number arrays words (ap (λ letter. (properties letter).full) h.letter ∙ full) h.held is in
    range_is s tensor number level arrays v alone within h ∙ sym (ap (λ ws. slice_get ws 0) are) ∙ at

pub coordinates_fact : (s : Statement) (tensor number : ℕ) (level : FormatLevel) (arrays : Arrays) (v : ℕ)
    → StandsAlone s tensor level.mode (Some v) → v < length s.vars → (properties level.letter).full ≡ false
    → (properties level.letter).ordered ≡ true → HeldLevels s tensor number (level ∷ []) arrays
    → IsFact arrays (OfCoordinates tensor number v)
coordinates_fact s tensor number level arrays v alone within stored ordered held kept words place word is at =
    let h = first_level s tensor number level [] arrays held in
    let below = coordinates_held h.of tensor number arrays words (ap (λ letter. (properties letter).full) h.letter ∙ stored)
    (ap (λ letter. (properties letter).ordered) h.letter ∙ ordered) h.keeps h.held is in
    (meaning.size h.of, range_is s tensor number level arrays v alone within h, below_at (meaning.size h.of) words place word below at)

listed_true : (s : Statement) (tensor number : ℕ) (level : FormatLevel) (arrays : Arrays) (fact : Option StoreFact)
    → IsTrueOfLevel s tensor number level fact → HeldLevels s tensor number (level ∷ []) arrays
    → Each (IsFact arrays) (option_to_list fact)
listed_true s tensor number level arrays None is held = tt
listed_true s tensor number level arrays (Some fact) is held = (is arrays held, tt)

-- what is known of the first of some levels, and of the others
pub levels_true : (s : Statement) (tensor number : ℕ) (level : FormatLevel) (others format : List FormatLevel) (fact : Option StoreFact)
    (listed rest facts : List StoreFact) → format ≡ level ∷ others → IsTrueOfLevel s tensor number level fact
    → listed ≡ option_to_list fact → AreTrueOfLevels s tensor (number + 1) others rest → facts ≡ listed ++ rest
    → AreTrueOfLevels s tensor number format facts
levels_true s tensor number level others format fact listed rest facts format_is is listed_is true_of facts_are = λ arrays held.
    let here : HeldLevels s tensor number (level ∷ others) arrays =
    subst (λ levels. HeldLevels s tensor number levels arrays) format_is held in
    let next : suc number ≡ number + 1 = omega arith in
    let behind : HeldLevels s tensor (number + 1) others arrays = subst (λ n. HeldLevels s tensor n others arrays) next
    (other_levels s tensor number level others arrays here) in
    subst (Each (IsFact arrays)) (sym (facts_are ∙ ap (λ fs. fs ++ rest) listed_is))
    (each_append (IsFact arrays) (option_to_list fact) rest
    (listed_true s tensor number level arrays fact is (one_level s tensor number level others arrays here)) (true_of arrays behind))
