-- Levels that differ in their room alone are alike.
use Rattle.std.specs.Prelude.{◌≡◌, ◌≢◌, ◌<◌, length, Some, refl}
use Rattle.std.proofs.Common.{◌∙◌, sym, ap, subst}
use Rattle.level_core.specs.declared.arrays.LevelArray.{LevelArray}
use Rattle.level_core.specs.declared.arrays.LevelArray.TheVariants.{Dimension as OfSize, Ends as OfEnds}
use Rattle.level_core.specs.declared.arrays.LevelArray.TheVariants.{Coordinates as OfCoordinates, Width as OfWidth}
use Rattle.level_core.specs.declared.stage.Stage.{Stage}
use Rattle.level_core.specs.declared.stage.Stage.TheVariants.{Unfinished, Finished}
use Rattle.level_core.specs.Logs.{Rises, slice, segment_in, entries_between}
use Rattle.coordinate_lists.specs.Spans.{Within}
use Rattle.compressed_level.specs.Compressed as compressed
use Rattle.singleton_level.specs.Singleton as singleton
use Rattle.tensor_storage.specs.declared.level.StorageLevel.TheVariants.{Compressed as OfCompressed, Singleton as OfSingleton}
use Rattle.tensor_storage.specs.declared.level.StorageLevel.{StorageLevel}
use Rattle.tensor_storage.specs.Handed.{AreAlike}
use Rattle.tensor_storage.specs.Levels.{meaning}

pub alike_same : (l : StorageLevel) → meaning.keeps l → AreAlike l l
alike_same l keeps = record {
  keeps = keeps;
  kind = refl;
  size = refl;
  width = refl;
  words = λ array. refl;
  has_parents = λ parents h. h;
  allowed = λ s h. h;
  back = λ s h. h;
  segments = λ s. refl;
  entries = λ s. refl;
}

-- compressed levels with the same numbers of positions and coordinates
pub alike_summed : (l m : compressed.CompressedLevel) → compressed.KeepsRules l → compressed.KeepsRules m → l.size ≡ m.size
    → l.unique ≡ m.unique → l.log.counts ≡ m.log.counts → l.log.coords ≡ m.log.coords → l.log.stage ≡ Finished → m.log.stage ≡ Finished
    → AreAlike (OfCompressed l) (OfCompressed m)
alike_summed l m keeps also size unique counts coords finished done = record {
  keeps = also;
  kind = ap compressed.letter_of (sym unique);
  size = sym size;
  width = refl;
  words = words;
  has_parents = λ parents h. record { keeps = also; finished = done; count = subst (λ ns. length ns ≡ parents) counts h.count };
  allowed = λ s h. record {
    keeps = also;
    finished = done;
    single = h.single;
    inside = subst (λ ns. s.lo < length ns) counts h.inside;
  };
  back = λ s h. record {
    keeps = keeps;
    finished = finished;
    single = h.single;
    inside = subst (λ ns. s.lo < length ns) (sym counts) h.inside;
  };
  segments = λ s. ap (λ ns. segment_in ns s) (sym counts);
  entries = λ s. ap (λ ns. entries_between m.log.coords (segment_in ns s)) (sym counts)
      ∙ ap (λ xs. entries_between xs (segment_in l.log.counts s)) (sym coords);
}
  where
    words : (array : LevelArray) → compressed.words_of m array ≡ compressed.words_of l array
    words OfSize = refl
    words OfEnds = λ i. Some (compressed.ends_of ((done ∙ sym finished) i) (sym counts i))
    words OfWidth = refl
    words OfCoordinates = ap Some (sym coords)

-- singleton levels with the same coordinates
pub alike_single : (l m : singleton.SingletonLevel) → singleton.KeepsRules l → singleton.KeepsRules m → l.size ≡ m.size
    → l.unique ≡ m.unique → l.coords ≡ m.coords → l.parents ≡ m.parents → l.stage ≡ Finished → m.stage ≡ Finished
    → AreAlike (OfSingleton l) (OfSingleton m)
alike_single l m keeps also size unique coords parents finished done = record {
  keeps = also;
  kind = ap singleton.letter_of (sym unique);
  size = sym size;
  width = refl;
  words = words;
  has_parents = λ n h. record { keeps = also; finished = done; count = sym parents ∙ h.count };
  allowed = λ s h. record {
    keeps = also;
    readable = readable m.stage done;
    within = subst (λ xs. Within xs s) coords h.within;
    rise = subst (λ b. Rises b 0 (slice m.coords s)) unique (subst (λ xs. Rises l.unique 0 (slice xs s)) coords h.rise);
  };
  back = λ s h. record {
    keeps = keeps;
    readable = readable l.stage finished;
    within = subst (λ xs. Within xs s) (sym coords) h.within;
    rise = subst (λ b. Rises b 0 (slice l.coords s)) (sym unique)
        (subst (λ xs. Rises m.unique 0 (slice xs s)) (sym coords) h.rise);
  };
  segments = λ s. refl;
  entries = λ s. ap (λ xs. entries_between xs s) (sym coords);
}
  where
    words : (array : LevelArray) → singleton.words_of m array ≡ singleton.words_of l array
    words OfSize = refl
    words OfEnds = refl
    words OfWidth = refl
    words OfCoordinates = ap Some (sym coords)

    readable : (stage : Stage) → stage ≡ Finished → stage ≢ Unfinished
    readable stage is not = never (sym is ∙ not)
      where
        never : Finished ≡ Unfinished → ⊥
        never e = cc
