-- A level of any kind that has some words, by the level of its kind that has them.
use Rattle.std.specs.Prelude.{◌≡◌, ℕ, ◌+◌, ◌*◌, ◌≤◌, if◌then◌else◌, Bool, true, false, List, length, Some, None, Decides, refl}
use Rattle.std.proofs.Common.{◌∙◌, sym, ap, subst, arith}
use Rattle.limits.specs.Limits.{greatest_position_count}
use Rattle.level_core.specs.declared.letter.Letter.{Letter}
use Rattle.level_core.specs.declared.letter.Letter.TheVariants.{Dense, Hashed}
use Rattle.level_core.specs.declared.span.Span.{Span}
use Rattle.level_core.specs.Entries.{span, one}
use Rattle.level_core.specs.Kinds.{properties}
use Rattle.dense_level.specs.Dense as dense
use Rattle.compressed_level.specs.Compressed as compressed
use Rattle.compressed_level.specs.Handed as compressed_words
use Rattle.singleton_level.specs.Singleton as singleton
use Rattle.singleton_level.specs.Handed as singleton_words
use Rattle.hashed_level.specs.Hashed as hashed
use Rattle.tensor_storage.specs.declared.level.StorageLevel.{StorageLevel}
use Rattle.tensor_storage.specs.declared.level.StorageLevel.TheVariants.{Dense as OfDense, Compressed as OfCompressed}
use Rattle.tensor_storage.specs.declared.level.StorageLevel.TheVariants.{Singleton as OfSingleton, Hashed as OfHashed}
use Rattle.tensor_storage.specs.declared.words.LevelWords.{LevelWords}
use Rattle.tensor_storage.specs.Handed.{IsHandedOver}
use Rattle.tensor_storage.specs.Laws.{laws, of_letter}
use Rattle.tensor_storage.specs.Levels.{meaning}
use Rattle.tensor_storage.proofs.Handed.{summed_here, single_here, hashed_here}
use Rattle.level_checks.specs.Fitting.{positions_by}
use Rattle.level_checks.specs.Slots as slots
use Rattle.level_checks.specs.Widths.{IsLeastWide}
use Rattle.level_checks.proofs.Loops.{Same}

same_words : (xs ys : List ℕ) → Some xs ≡ Some ys → ys ≡ xs
same_words xs ys e = cc

no_words : {P : Type 0} (xs : List ℕ) → None ≡ Some xs → P
no_words xs e = cc

-- the coordinates of these kinds are ordered
summed_ordered : {P : Type 0} (unique : Bool) → (properties (compressed.letter_of unique)).ordered ≡ false → P
summed_ordered true e = cc
summed_ordered false e = cc

single_ordered : {P : Type 0} (unique : Bool) → (properties (singleton.letter_of unique)).ordered ≡ false → P
single_ordered true e = cc
single_ordered false e = cc

dense_ordered : {P : Type 0} → (properties Dense).ordered ≡ false → P
dense_ordered e = cc

module _ (letter : Letter) (size parents : ℕ) (words : LevelWords) where
  -- a finished level of this kind and range, below so many parents, has these words, in blocks no wider than they have to be
  abbrev pub Made : Type 0
  Made = (l : StorageLevel) × IsHandedOver letter size parents words l × IsLeastWide meaning parents l

  pub dense_same : letter ≡ Dense → Same (dense.HasParents size parents) Made
  dense_same is = (
    λ h. (
      OfDense size,
      record {
        kind = sym is;
        size_is = refl;
        has_parents = h;
        words_are = record { ends = λ xs e. no_words xs e; width = λ xs e. no_words xs e; coordinates = λ xs e. no_words xs e };
      },
      λ e. dense_ordered e,
    ),
    λ (l, h, w). let of = of_letter l Dense (h.kind ∙ is) in there l of.inner of.is h,
  )
    where
      here : (n : ℕ) → IsHandedOver letter size parents words (OfDense n) → dense.HasParents size parents
      here n h = subst (λ m. dense.HasParents m parents) h.size_is h.has_parents

      there : (l : StorageLevel) (n : ℕ) → l ≡ OfDense n → IsHandedOver letter size parents words l → dense.HasParents size parents
      there l n same h = here n (subst (IsHandedOver letter size parents words) same h)

  pub compressed_same : (unique : Bool) → letter ≡ compressed.letter_of unique
      → Same ((l : compressed.CompressedLevel)
      × compressed_words.HasWords size unique parents words.ends.items words.coordinates.items l) Made
  compressed_same unique is = (
    λ (l, h). (
      OfCompressed l,
      record {
        kind = ap compressed.letter_of h.unique_is ∙ sym is;
        size_is = h.size_is;
        has_parents = h.has_parents;
        words_are = record {
          ends = λ xs e. same_words _ xs e ∙ h.ends;
          width = λ xs e. no_words xs e;
          coordinates = λ xs e. same_words _ xs e ∙ h.coords_are;
        };
      },
      λ e. summed_ordered l.unique e,
    ),
    λ (l, h, w). let of = summed_here letter size parents words unique l is h in (of.0, of.2),
  )

  pub singleton_same : (unique : Bool) → letter ≡ singleton.letter_of unique
      → Same ((l : singleton.SingletonLevel) × singleton_words.HasWords size unique parents words.coordinates.items l) Made
  singleton_same unique is = (
    λ (l, h). (
      OfSingleton l,
      record {
        kind = ap singleton.letter_of h.unique_is ∙ sym is;
        size_is = h.size_is;
        has_parents = h.has_parents;
        words_are = record {
          ends = λ xs e. no_words xs e;
          width = λ xs e. no_words xs e;
          coordinates = λ xs e. same_words _ xs e ∙ h.coords_are;
        };
      },
      λ e. single_ordered l.unique e,
    ),
    λ (l, h, w). let of = single_here letter size parents words unique l is h in (of.0, of.2),
  )

  pub hashed_same : letter ≡ Hashed
      → Same ((l : hashed.Hashed) × slots.HasSlots size parents words.width.items words.coordinates.items l) Made
  hashed_same is = (
    λ (l, h). (
      OfHashed l,
      record {
        kind = sym is;
        size_is = h.size_is;
        has_parents = h.has_parents;
        words_are = record {
          ends = λ xs e. no_words xs e;
          width = λ xs e. same_words _ xs e ∙ h.width_is;
          coordinates = λ xs e. same_words _ xs e ∙ h.slots_are;
        };
      },
      h.least,
    ),
    λ (l, h, w). let of = hashed_here letter size parents words l is h in (
      of.0,
      record {
        size_is = of.2.size_is;
        has_parents = of.2.has_parents;
        width_is = of.2.width_is;
        slots_are = of.2.slots_are;
        least = subst (IsLeastWide meaning parents) of.1 w;
      },
    ),
  )

  -- the test of the level's kind decides whether there is such a level
  pub decides : {P : Type 0} (b : Bool) → Decides b P → Same P Made → Decides b Made
  decides b d s = (λ e. s.0 (d.0 e), λ m. d.1 (s.1 m))

  pub compressed_decided : (unique : Bool) (b : Bool) (numbers coords : List ℕ) → letter ≡ compressed.letter_of unique
      → numbers ≡ words.ends.items → coords ≡ words.coordinates.items
      → Decides b ((l : compressed.CompressedLevel) × compressed_words.HasWords size unique parents numbers coords l) → Decides b Made
  compressed_decided unique b numbers coords is ends same d =
      let P : List ℕ → List ℕ → Type 0 = λ ns xs. (l : compressed.CompressedLevel)
      × compressed_words.HasWords size unique parents ns xs l in
      decides b (subst (λ ns. Decides b (P ns words.coordinates.items)) ends (subst (λ xs. Decides b (P numbers xs)) same d))
      (compressed_same unique is)

  pub singleton_decided : (unique : Bool) (b : Bool) (coords : List ℕ) → letter ≡ singleton.letter_of unique
      → coords ≡ words.coordinates.items
      → Decides b ((l : singleton.SingletonLevel) × singleton_words.HasWords size unique parents coords l) → Decides b Made
  singleton_decided unique b coords is same d =
      decides b (subst (λ xs. Decides b ((l : singleton.SingletonLevel) × singleton_words.HasWords size unique parents xs l)) same d)
      (singleton_same unique is)

  pub hashed_decided : (b : Bool) (width coords : List ℕ) → letter ≡ Hashed → width ≡ words.width.items → coords ≡ words.coordinates.items
      → Decides b ((l : hashed.Hashed) × slots.HasSlots size parents width coords l) → Decides b Made
  hashed_decided b width coords is wide same d =
      let P : List ℕ → List ℕ → Type 0 = λ ws xs. (l : hashed.Hashed) × slots.HasSlots size parents ws xs l in
      decides b (subst (λ ws. Decides b (P ws words.coordinates.items)) wide (subst (λ xs. Decides b (P width xs)) same d))
      (hashed_same is)

-- such a level has so many positions
pub positions_are : (letter : Letter) (size parents : ℕ) (words : LevelWords) (l : StorageLevel)
    → IsHandedOver letter size parents words l → meaning.positions l parents ≡ positions_by letter size parents words
positions_are letter size parents words (OfDense n) h =
    subst (λ k. parents * n ≡ positions_by k size parents words) h.kind (ap (λ m. parents * m) h.size_is)
positions_are letter size parents words (OfCompressed l) h =
    subst (λ k. length l.log.coords ≡ positions_by k size parents words) h.kind
    (by l.unique (ap length (h.words_are.coordinates l.log.coords refl)))
  where
    by : (b : Bool) → length l.log.coords ≡ length words.coordinates.items
        → length l.log.coords ≡ positions_by (compressed.letter_of b) size parents words
    by true e = e
    by false e = e
positions_are letter size parents words (OfSingleton l) h =
    subst (λ k. length l.coords ≡ positions_by k size parents words) h.kind
    (by l.unique (ap length (h.words_are.coordinates l.coords refl)))
  where
    by : (b : Bool) → length l.coords ≡ length words.coordinates.items
        → length l.coords ≡ positions_by (singleton.letter_of b) size parents words
    by true e = e
    by false e = e
positions_are letter size parents words (OfHashed l) h =
    subst (λ k. length l.slots ≡ positions_by k size parents words) h.kind (ap length (h.words_are.coordinates l.slots refl))

-- and they are within the limit
pub positions_few : (l : StorageLevel) (parents : ℕ) → meaning.has_parents l parents → meaning.positions l parents ≤ greatest_position_count
positions_few (OfDense n) parents has = has.positions
positions_few (OfCompressed l) parents has = has.keeps.few
positions_few (OfSingleton l) parents has = has.keeps.few
positions_few (OfHashed l) parents has = has.rules.within

-- one position of the level above may be asked
pub one_asked : (l : StorageLevel) (parents : ℕ) (s : Span) → meaning.has_parents l parents → s.hi ≡ s.lo + 1 → s.hi ≤ parents
    → meaning.allowed l s
one_asked l parents s has single inside =
    let is : one s.lo ≡ s = λ i. span s.lo (sym single i) in
    subst (meaning.allowed l) is (laws.parents l parents s.lo has (omega (arith, single, inside)))

-- how many positions there are, whether or not the kind is full
pub full_by : (letter : Letter) (size parents : ℕ) (words : LevelWords) (b : Bool) → (properties letter).full ≡ b
    → positions_by letter size parents words ≡ (if b then parents * size else length words.coordinates.items)
full_by letter size parents words b is = ap (λ t. if t then parents * size else length words.coordinates.items) is

pub positions_within : (letter : Letter) (size parents : ℕ) (words : LevelWords) (l : StorageLevel)
    → IsHandedOver letter size parents words l → positions_by letter size parents words ≤ greatest_position_count
positions_within letter size parents words l h =
    subst (λ n. n ≤ greatest_position_count) (positions_are letter size parents words l h) (positions_few l parents h.has_parents)

-- a parent of a level of any other kind is one position
pub others_branch : (l : StorageLevel) → ((x : singleton.SingletonLevel) → l ≡ OfSingleton x → ⊥)
    → (properties (meaning.kind l)).branchless ≡ false
others_branch (OfDense n) other = refl
others_branch (OfCompressed l) other = by l.unique
  where
    by : (b : Bool) → (properties (compressed.letter_of b)).branchless ≡ false
    by true = refl
    by false = refl
others_branch (OfSingleton l) other = absurd (other l refl)
others_branch (OfHashed l) other = refl
