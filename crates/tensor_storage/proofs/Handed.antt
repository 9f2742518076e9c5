-- The level that is made of the words that a kernel leaves is, but for its room, the one that has them.
use Rattle.std.specs.Prelude.{◌≡◌, ℕ, ◌*◌, ◌≤◌, ◌<◌, Bool, true, false, List, [], ◌∷◌, length, Option, Some, None}
use Rattle.std.specs.Prelude.{slice_index_or, refl}
use Rattle.std.proofs.Common.{◌∙◌, sym, ap, subst, arith}
use Rattle.level_core.specs.declared.arrays.LevelArray.{LevelArray}
use Rattle.level_core.specs.declared.letter.Letter.{Letter}
use Rattle.level_core.specs.declared.letter.Letter.TheVariants.{Dense, Hashed}
use Rattle.limits.specs.Limits.{greatest_position_count}
use Rattle.level_core.specs.Arrays.{array_of}
use Rattle.level_core.specs.Kinds.{properties}
use Rattle.level_core.specs.Meaning.{Arrays}
use Rattle.compressed_level.specs.Compressed as compressed
use Rattle.compressed_level.specs.Handed as compressed_words
use Rattle.compressed_level.proofs.Handed as compressed_laws
use Rattle.singleton_level.specs.Singleton as singleton
use Rattle.singleton_level.specs.Handed as singleton_words
use Rattle.singleton_level.proofs.Handed as singleton_laws
use Rattle.hashed_level.specs.Hashed as hashed
use Rattle.tensor_storage.specs.declared.level.StorageLevel.TheVariants.{Dense as OfDense, Compressed as OfCompressed}
use Rattle.tensor_storage.specs.declared.level.StorageLevel.TheVariants.{Singleton as OfSingleton, Hashed as OfHashed}
use Rattle.tensor_storage.specs.declared.level.StorageLevel.{StorageLevel}
use Rattle.tensor_storage.specs.Handed.{LevelWords, IsHandedOver, HasSlots, AreAlike}
use Rattle.tensor_storage.specs.Laws.{compressed_only, singleton_only, IsOfVariant, of_letter}
use Rattle.tensor_storage.specs.Levels.{meaning}
use Rattle.tensor_storage.proofs.EachKind.{each_gives}
use Rattle.tensor_storage.proofs.Alike.{alike_same, alike_summed, alike_single}

-- arrays that hold a level have its words
pub held_words : (l : StorageLevel) (tensor level : ℕ) (arrays : Arrays) → meaning.holds l tensor level arrays
    → (array : LevelArray) (words : List ℕ) → meaning.words l array ≡ Some words → arrays (array_of array tensor level) ≡ Some words
held_words = each_gives _ (λ L wrap gives l. gives.held_words l)

-- a prepared level has one word of width
one_word : (width : Option ℕ) → (width ≡ None → ⊥) → width ≡ Some (slice_index_or (hashed.width_words width) 0 0)
one_word None some = absurd (some refl)
one_word (Some w) some = refl

a_word : (width : Option ℕ) → (width ≡ None → ⊥) → 0 < length (hashed.width_words width)
a_word None some = absurd (some refl)
a_word (Some w) some = omega arith

first_word : (o : Option ℕ) (ws : List ℕ) (width : ℕ) → o ≡ Some (slice_index_or ws 0 0) → 0 < length ws
    → width ≡ slice_index_or ws 0 width → o ≡ Some width
first_word o [] width is some same = absurd (omega (arith, some))
first_word o (w ∷ ws) width is some same = is ∙ ap Some (sym same)

-- the hashed level of a width and slots is the one that has them
module _ (size parents : ℕ) (words : LevelWords) (l : hashed.Hashed) (h : HasSlots size parents words l) where
  pub width_there : 0 < length words.width.items
  width_there =
      let some = a_word l.width h.has_parents.prepared in
      let same = ap length h.width_is in
      omega (arith, some, same)

  pub slots_made : (width : ℕ) → width ≡ slice_index_or words.width.items 0 width
      → hashed.hashed size words.coordinates.items (Some width) parents ≡ l
  slots_made width is =
      let word = first_word l.width words.width.items width
      (one_word l.width h.has_parents.prepared ∙ ap (λ ws. Some (slice_index_or ws 0 0)) h.width_is) width_there is in
      λ i. hashed.hashed (sym h.size_is i) (sym h.slots_are i) (sym word i) (sym h.has_parents.count i)

-- a full level has each coordinate below each parent, within the limit
pub full_positions : (l : StorageLevel) (parents : ℕ) → (properties (meaning.kind l)).full ≡ true → meaning.has_parents l parents
    → (meaning.positions l parents ≡ parents * meaning.size l) × (parents * meaning.size l ≤ greatest_position_count)
full_positions = each_gives _ (λ L wrap gives l. gives.full_positions l)

summed_tells : (a b : Bool) → compressed.letter_of a ≡ compressed.letter_of b → a ≡ b
summed_tells true true h = refl
summed_tells true false h = absurd (cc)
summed_tells false true h = absurd (cc)
summed_tells false false h = refl

single_tells : (a b : Bool) → singleton.letter_of a ≡ singleton.letter_of b → a ≡ b
single_tells true true h = refl
single_tells true false h = absurd (cc)
single_tells false true h = absurd (cc)
single_tells false false h = refl

module _ (letter : Letter) (size parents : ℕ) (words : LevelWords) where
  -- the level that has the words, of the kind's own type
  abbrev pub IsSummed : Bool → compressed.CompressedLevel → Type 0
  IsSummed unique = compressed_words.HasWords size unique parents words.ends.items words.coordinates.items

  abbrev pub IsListed : Bool → singleton.SingletonLevel → Type 0
  IsListed unique = singleton_words.HasWords size unique parents words.coordinates.items

  abbrev pub IsSlots : hashed.Hashed → Type 0
  IsSlots = HasSlots size parents words

  pub summed_here : (unique : Bool) (l : StorageLevel) → letter ≡ compressed.letter_of unique → IsHandedOver letter size parents words l
      → (m : compressed.CompressedLevel) × (l ≡ OfCompressed m) × IsSummed unique m
  summed_here unique l is h = there (compressed_only unique l (h.kind ∙ is))
    where
      here : (k : compressed.CompressedLevel) → IsHandedOver letter size parents words (OfCompressed k) → IsSummed unique k
      here k h = record {
        size_is = h.size_is;
        unique_is = summed_tells k.unique unique (h.kind ∙ is);
        has_parents = h.has_parents;
        ends = h.words_are.ends (compressed.ends_of k.log.stage k.log.counts) refl;
        coords_are = h.words_are.coordinates k.log.coords refl;
      }

      there : (k : compressed.CompressedLevel) × (l ≡ OfCompressed k)
          → (m : compressed.CompressedLevel) × (l ≡ OfCompressed m) × IsSummed unique m
      there (k, same) = (k, same, here k (subst (IsHandedOver letter size parents words) same h))

  pub single_here : (unique : Bool) (l : StorageLevel) → letter ≡ singleton.letter_of unique → IsHandedOver letter size parents words l
      → (m : singleton.SingletonLevel) × (l ≡ OfSingleton m) × IsListed unique m
  single_here unique l is h = there (singleton_only unique l (h.kind ∙ is))
    where
      here : (k : singleton.SingletonLevel) → IsHandedOver letter size parents words (OfSingleton k) → IsListed unique k
      here k h = record {
        size_is = h.size_is;
        unique_is = single_tells k.unique unique (h.kind ∙ is);
        has_parents = h.has_parents;
        coords_are = h.words_are.coordinates k.coords refl;
      }

      there : (k : singleton.SingletonLevel) × (l ≡ OfSingleton k)
          → (m : singleton.SingletonLevel) × (l ≡ OfSingleton m) × IsListed unique m
      there (k, same) = (k, same, here k (subst (IsHandedOver letter size parents words) same h))

  pub hashed_here : (l : StorageLevel) → letter ≡ Hashed → IsHandedOver letter size parents words l
      → (m : hashed.Hashed) × (l ≡ OfHashed m) × IsSlots m
  hashed_here l is h = let of = of_letter l Hashed (h.kind ∙ is) in there (of.inner, of.is)
    where
      here : (k : hashed.Hashed) → IsHandedOver letter size parents words (OfHashed k) → IsSlots k
      here k h = record {
        size_is = h.size_is;
        has_parents = h.has_parents;
        width_is = h.words_are.width (hashed.width_words k.width) refl;
        slots_are = h.words_are.coordinates k.slots refl;
      }

      there : (k : hashed.Hashed) × (l ≡ OfHashed k) → (m : hashed.Hashed) × (l ≡ OfHashed m) × IsSlots m
      there (k, same) = (k, same, here k (subst (IsHandedOver letter size parents words) same h))

  -- the level that is made of them
  pub dense_alike : (made l : StorageLevel) → letter ≡ Dense → made ≡ OfDense size → IsHandedOver letter size parents words l
      → AreAlike l made
  dense_alike made l is made_is h = there (of.inner, of.is)
    where
      of : IsOfVariant Dense l
      of = of_letter l Dense (h.kind ∙ is)

      here : (n : ℕ) → IsHandedOver letter size parents words (OfDense n) → AreAlike (OfDense n) made
      here n h = subst (AreAlike (OfDense n)) (ap OfDense h.size_is ∙ sym made_is) (alike_same (OfDense n) h.has_parents.size)

      there : (n : ℕ) × (l ≡ OfDense n) → AreAlike l made
      there (n, same) = subst (λ k. AreAlike k made) (sym same) (here n (subst (IsHandedOver letter size parents words) same h))

  pub summed_alike : (unique : Bool) (made l : StorageLevel) (spare : ℕ) → letter ≡ compressed.letter_of unique
      → made ≡ OfCompressed (compressed_words.summed size unique words.ends.items words.coordinates.items spare)
      → IsHandedOver letter size parents words l → AreAlike l made
  summed_alike unique made l spare is made_is h =
      let numbers = words.ends.items in
      let coords = words.coordinates.items in
      let here = summed_here unique l is h in
      let m = here.0 in
      let has = here.2 in
      subst (AreAlike l) (sym made_is)
      (subst (λ k. AreAlike k (OfCompressed (compressed_words.summed size unique numbers coords spare))) (sym here.1)
      (alike_summed m (compressed_words.summed size unique numbers coords spare) has.has_parents.keeps
      (compressed_laws.made_keeps size unique parents numbers coords m has spare) has.size_is has.unique_is
      (sym (compressed_laws.counts_same size unique parents numbers coords m has)) has.coords_are has.has_parents.finished refl))

  pub single_alike : (unique : Bool) (made l : StorageLevel) (spare : ℕ) → letter ≡ singleton.letter_of unique
      → made ≡ OfSingleton (singleton_words.listed size unique words.coordinates.items spare)
      → IsHandedOver letter size parents words l → AreAlike l made
  single_alike unique made l spare is made_is h =
      let coords = words.coordinates.items in
      let here = single_here unique l is h in
      let m = here.0 in
      let has = here.2 in
      subst (AreAlike l) (sym made_is)
      (subst (λ k. AreAlike k (OfSingleton (singleton_words.listed size unique coords spare))) (sym here.1)
      (alike_single m (singleton_words.listed size unique coords spare) has.has_parents.keeps
      (singleton_laws.made_keeps size unique parents coords m has spare) has.size_is has.unique_is has.coords_are
      (sym (has.has_parents.keeps.given has.has_parents.finished) ∙ ap length has.coords_are) has.has_parents.finished refl))

  pub hashed_alike : (made l : StorageLevel) → letter ≡ Hashed → ((m : hashed.Hashed) → IsSlots m → made ≡ OfHashed m)
      → IsHandedOver letter size parents words l → AreAlike l made
  hashed_alike made l is made_is h =
      let here = hashed_here l is h in
      subst (AreAlike l) (here.1 ∙ sym (made_is here.0 here.2))
      (subst (λ k. AreAlike k k) (sym here.1) (alike_same (OfHashed here.0) here.2.has_parents.rules))
