-- Arrays hold the levels whose words were taken from them, where they came of those with which a run starts.
use Rattle.std.specs.Prelude.{◌≡◌, ℕ, suc, Bool, true, false, List, [], ◌∷◌, length, map, replicate, All, Option, Some}
use Rattle.std.specs.Prelude.{None, option_map, refl}
use Rattle.std.proofs.Common.{◌∙◌, sym, ap, subst, arith}
use Rattle.std.proofs.lemmas.List.Elements.{All-nil, All-cons}
use Rattle.kernel_code.specs.declared.syntax.Arr.TheVariants.{Values, Dimension, Ends, Coordinates, Width}
use Rattle.level_core.specs.declared.letter.Letter.{Letter}
use Rattle.level_core.specs.declared.arrays.LevelArray.{LevelArray}
use Rattle.level_core.specs.declared.arrays.LevelArray.TheVariants.{Dimension as OfSize, Ends as OfEnds}
use Rattle.level_core.specs.declared.arrays.LevelArray.TheVariants.{Coordinates as OfCoordinates, Width as OfWidth}
use Rattle.level_core.specs.Arrays.{array_of}
use Rattle.level_core.specs.Kinds.{properties, parents_below, zeros_at_start}
use Rattle.level_core.specs.Laws.{AreAtStart}
use Rattle.level_core.specs.Logs.{running}
use Rattle.level_core.specs.Meaning.{Arrays}
use Rattle.compressed_level.specs.Compressed as compressed
use Rattle.singleton_level.specs.Singleton as singleton
use Rattle.tensor_storage.specs.declared.level.StorageLevel.{StorageLevel}
use Rattle.tensor_storage.specs.declared.level.StorageLevel.TheVariants.{Dense as OfDense, Compressed as OfCompressed}
use Rattle.tensor_storage.specs.declared.level.StorageLevel.TheVariants.{Singleton as OfSingleton, Hashed as OfHashed}
use Rattle.tensor_storage.specs.declared.words.LevelWords.{LevelWords}
use Rattle.tensor_storage.specs.Handed.{IsHandedOver}
use Rattle.tensor_storage.specs.Laws.{laws}
use Rattle.tensor_storage.specs.Levels.{meaning}
use Rattle.storage_arrays.specs.Arrays.{positions_in}
use Rattle.storage_builder.specs.Made.{AreHandedOver}
use Rattle.kernel_correctness.specs.Results.{summed}
use Rattle.kernel_correctness.specs.Stores.{AreHeld, StartsBelow}
use Rattle.kernel_machine.specs.Kept.{Keeps}
use Rattle.kernel_machine.specs.Runs.{WordsLeft}
use Rattle.kernel_machine.proofs.Finishes.{HoldParts}

no_words : {P : Type 0} (xs : List ℕ) → None ≡ Some xs → P
no_words xs e = cc

module _ (letter : Letter) (size parents begun level : ℕ) (part : LevelWords) (given a : Arrays) (left : WordsLeft level part a)
    (at : AreAtStart letter size begun 0 level given) (kept : Keeps given a) where
  -- the coordinates that were taken
  coordinates_held : (l : StorageLevel) → IsHandedOver letter size parents part l → zeros_at_start letter OfCoordinates begun ≡ Some 0
      → (ws : List ℕ) → meaning.words l OfCoordinates ≡ Some ws → a (Coordinates 0 level) ≡ Some ws
  coordinates_held l h made ws is =
      let e = kept.there (Coordinates 0 level) (replicate 0 0) (at.zeros OfCoordinates 0 made) in
      e.1 ∙ ap Some (left.coordinates e.0 e.1 ∙ sym (h.words_are.coordinates ws is))

  compressed_made : (b : Bool) → (zeros_at_start (compressed.letter_of b) OfEnds begun ≡ Some (suc begun))
      × (zeros_at_start (compressed.letter_of b) OfCoordinates begun ≡ Some 0)
  compressed_made true = (refl, refl)
  compressed_made false = (refl, refl)

  singleton_made : (b : Bool) → zeros_at_start (singleton.letter_of b) OfCoordinates begun ≡ Some 0
  singleton_made true = refl
  singleton_made false = refl

  words_held : (l : StorageLevel) → IsHandedOver letter size parents part l → (array : LevelArray) (ws : List ℕ)
      → meaning.words l array ≡ Some ws → summed a (array_of array 0 level) ≡ Some ws
  words_held (OfDense n) h OfSize ws is =
      kept.unwritten (Dimension 0 level) refl ∙ at.size (subst (λ k. (properties k).full ≡ true) h.kind refl)
      ∙ ap (λ m. Some (m ∷ [])) (sym h.size_is) ∙ is
  words_held (OfDense n) h OfEnds ws is = no_words ws is
  words_held (OfDense n) h OfWidth ws is = no_words ws is
  words_held (OfDense n) h OfCoordinates ws is = no_words ws is
  words_held (OfCompressed l) h OfSize ws is = no_words ws is
  words_held (OfCompressed l) h OfEnds ws is =
      let e = kept.there (Ends 0 level) (replicate (suc begun) 0) (at.zeros OfEnds (suc begun)
      (subst (λ k. zeros_at_start k OfEnds begun ≡ Some (suc begun)) h.kind (compressed_made l.unique).0)) in
      ap (option_map (running 0)) e.1 ∙ ap (λ xs. Some (running 0 xs)) (left.ends e.0 e.1) ∙ ap Some (sym (h.words_are.ends ws is))
  words_held (OfCompressed l) h OfWidth ws is = no_words ws is
  words_held (OfCompressed l) h OfCoordinates ws is =
      coordinates_held (OfCompressed l) h
      (subst (λ k. zeros_at_start k OfCoordinates begun ≡ Some 0) h.kind (compressed_made l.unique).1) ws is
  words_held (OfSingleton l) h OfSize ws is = no_words ws is
  words_held (OfSingleton l) h OfEnds ws is = no_words ws is
  words_held (OfSingleton l) h OfWidth ws is = no_words ws is
  words_held (OfSingleton l) h OfCoordinates ws is =
      coordinates_held (OfSingleton l) h (subst (λ k. zeros_at_start k OfCoordinates begun ≡ Some 0) h.kind (singleton_made l.unique)) ws is
  words_held (OfHashed l) h OfSize ws is = no_words ws is
  words_held (OfHashed l) h OfEnds ws is = no_words ws is
  words_held (OfHashed l) h OfWidth ws is =
      let e = kept.there (Width 0 level) (replicate 0 0) (at.zeros OfWidth 0
      (subst (λ k. zeros_at_start k OfWidth begun ≡ Some 0) h.kind refl)) in
      e.1 ∙ ap Some (left.width e.0 e.1 ∙ sym (h.words_are.width ws is))
  words_held (OfHashed l) h OfCoordinates ws is =
      coordinates_held (OfHashed l) h (subst (λ k. zeros_at_start k OfCoordinates begun ≡ Some 0) h.kind refl) ws is

-- each level is held
pub levels_held : (letters : List Letter) (sizes : List ℕ) (parts : List LevelWords) (ls : List StorageLevel)
    (parents begun level nothing : ℕ)
    (given a : Arrays) → AreHandedOver letters sizes parts parents ls → HoldParts parts level a
    → StartsBelow nothing letters sizes begun level given → Keeps given a → AreHeld ls 0 level (summed a)
levels_held [] sizes parts [] parents begun level nothing given a h left starts kept = tt
levels_held [] sizes parts (l ∷ ls) parents begun level nothing given a h left starts kept = absurd h
levels_held (letter ∷ letters) sizes parts [] parents begun level nothing given a h left starts kept = tt
levels_held (letter ∷ letters) [] parts (l ∷ ls) parents begun level nothing given a h left starts kept = absurd h
levels_held (letter ∷ letters) (size ∷ sizes) [] (l ∷ ls) parents begun level nothing given a h left starts kept = absurd h
levels_held (letter ∷ letters) (size ∷ sizes) (part ∷ parts) (l ∷ ls) parents begun level nothing given a h left starts kept = (
  laws.words_hold l 0 level (summed a) (words_held letter size parents begun level part given a left.0 starts.0 kept l h.0),
  levels_held letters sizes parts ls (positions_in parents l) (parents_below letter size begun) (suc level) nothing given a h.1 left.1
      starts.1 kept,
)

-- the values are there
pub values_there : (letters : List Letter) (sizes : List ℕ) (begun level nothing : ℕ) (given a : Arrays)
    → StartsBelow nothing letters sizes begun level given → Keeps given a → (xs : List ℕ) × (a (Values 0) ≡ Some xs)
values_there [] [] begun level nothing given a starts kept = kept.there (Values 0) (replicate begun nothing) starts
values_there [] (size ∷ sizes) begun level nothing given a starts kept = kept.there (Values 0) (replicate begun nothing) starts
values_there (letter ∷ letters) [] begun level nothing given a starts kept = kept.there (Values 0) (replicate begun nothing) starts
values_there (letter ∷ letters) (size ∷ sizes) begun level nothing given a starts kept =
    values_there letters sizes (parents_below letter size begun) (suc level) nothing given a starts.1 kept

-- the levels keep the rules of their kinds, and have the ranges that were named
level_keeps : (l : StorageLevel) (parents : ℕ) → meaning.has_parents l parents → meaning.keeps l
level_keeps (OfDense n) parents has = has.size
level_keeps (OfCompressed l) parents has = has.keeps
level_keeps (OfSingleton l) parents has = has.keeps
level_keeps (OfHashed l) parents has = has.rules

pub handed_keep : (letters : List Letter) (sizes : List ℕ) (parts : List LevelWords) (parents : ℕ) (ls : List StorageLevel)
    → AreHandedOver letters sizes parts parents ls → All meaning.keeps ls
handed_keep [] sizes parts parents [] h = All-nil meaning.keeps
handed_keep [] sizes parts parents (l ∷ ls) h = absurd h
handed_keep (letter ∷ letters) sizes parts parents [] h = absurd h
handed_keep (letter ∷ letters) [] parts parents (l ∷ ls) h = absurd h
handed_keep (letter ∷ letters) (size ∷ sizes) [] parents (l ∷ ls) h = absurd h
handed_keep (letter ∷ letters) (size ∷ sizes) (part ∷ parts) parents (l ∷ ls) h =
    All-cons meaning.keeps l ls (level_keeps l parents h.0.has_parents) (handed_keep letters sizes parts (positions_in parents l) ls h.1)

pub handed_sizes : (letters : List Letter) (sizes : List ℕ) (parts : List LevelWords) (parents : ℕ) (ls : List StorageLevel)
    → length sizes ≡ length letters → AreHandedOver letters sizes parts parents ls → map meaning.size ls ≡ sizes
handed_sizes [] [] parts parents [] long h = refl
handed_sizes [] (size ∷ sizes) parts parents [] long h = absurd (omega (arith, long))
handed_sizes [] sizes parts parents (l ∷ ls) long h = absurd h
handed_sizes (letter ∷ letters) sizes parts parents [] long h = absurd h
handed_sizes (letter ∷ letters) [] parts parents (l ∷ ls) long h = absurd h
handed_sizes (letter ∷ letters) (size ∷ sizes) [] parents (l ∷ ls) long h = absurd h
handed_sizes (letter ∷ letters) (size ∷ sizes) (part ∷ parts) parents (l ∷ ls) long h =
    λ i. h.0.size_is i ∷ handed_sizes letters sizes parts (positions_in parents l) ls (omega (arith, long)) h.1 i
