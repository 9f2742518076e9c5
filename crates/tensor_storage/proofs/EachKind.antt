-- What each kind of a storage level has beside its laws: its levels as they are made, given rows and read. One instance for each kind.
use Rattle.std.specs.Prelude.{◌≡◌, ◌⊎◌, ℕ, ◌+◌, ◌*◌, ◌≤◌, ◌<◌, Bool, true, false, List, [], ◌∷◌, ◌++◌, length, slice_index}
use Rattle.std.specs.Prelude.{Some, None, refl}
use Rattle.std.proofs.Common.{◌∙◌, sym, subst, arith, inl, inr}
use Rattle.limits.specs.Limits.{greatest_position_count}
use Rattle.kernel_code.specs.Arrays.{same_arr}
use Rattle.kernel_code.specs.declared.syntax.Arr.{Arr}
use Rattle.kernel_code.specs.declared.syntax.Arr.TheVariants.{Dimension, Ends, Coordinates, Width}
use Rattle.level_core.specs.declared.arrays.LevelArray.{LevelArray}
use Rattle.level_core.specs.declared.arrays.LevelArray.TheVariants.{Dimension as OfSize, Ends as OfEnds}
use Rattle.level_core.specs.declared.arrays.LevelArray.TheVariants.{Coordinates as OfCoordinates, Width as OfWidth}
use Rattle.level_core.specs.declared.letter.Letter.{Letter}
use Rattle.level_core.specs.declared.letter.Letter.TheVariants.{Dense, Compressed, CompressedGroups, Singleton, SingletonGroups, Hashed}
use Rattle.level_core.specs.declared.stage.Stage.TheVariants.{Fresh, Finished}
use Rattle.level_core.specs.Arrays.{array_of}
use Rattle.level_core.specs.Entries.{one}
use Rattle.level_core.specs.Fragments.{IsOf}
use Rattle.level_core.specs.GroupLaws.{CoordsBelow}
use Rattle.level_core.specs.Kinds.{properties, capabilities, MayPrepare, MayInsert}
use Rattle.level_core.specs.Logs.{Log, MayReserve, MayAppend, MayAppendEdges, MayFinish, with_parents, with_coord, with_edges}
use Rattle.level_core.specs.Meaning.{Arrays, ChangesLog, Finishes}
use Rattle.dense_level.specs.Dense as dense
use Rattle.compressed_level.specs.Compressed as compressed
use Rattle.compressed_level.specs.Laws.{logged, keeps_fresh, keeps_parents, finished_level}
use Rattle.compressed_level.proofs.Handed.{held_words as compressed_words}
use Rattle.compressed_level.proofs.Laws.{keeps_coord, keeps_edges}
use Rattle.singleton_level.specs.Singleton as singleton
use Rattle.singleton_level.specs.Laws.{reserved, reserved_keeps, reserved_logs, finished_level as singles_finished}
use Rattle.singleton_level.proofs.Handed.{held_words as singleton_words}
use Rattle.singleton_level.proofs.Laws.{appended_keeps, edges_log}
use Rattle.hashed_level.specs.Hashed as hashed
use Rattle.hashed_level.specs.Slots.{Passes}
use Rattle.hashed_level.proofs.Laws.{never_passes, stops_first}
use Rattle.tensor_storage.specs.declared.level.StorageLevel.TheVariants.{Dense as OfDense, Compressed as OfCompressed}
use Rattle.tensor_storage.specs.declared.level.StorageLevel.TheVariants.{Singleton as OfSingleton, Hashed as OfHashed}
use Rattle.tensor_storage.specs.declared.level.StorageLevel.{StorageLevel}
use Rattle.tensor_storage.specs.Laws.{finishes_kind}
use Rattle.tensor_storage.specs.Levels.{meaning}
use Rattle.tensor_storage.specs.New.{IsNew}
use Rattle.tensor_storage.proofs.Searches.{Found, searched}
use Rattle.tensor_storage.proofs.Tables.{apart}

-- a level before it is given anything
abbrev pub new_level : Letter → ℕ → StorageLevel
new_level Dense n = OfDense n
new_level Compressed n = OfCompressed (compressed.fresh n true)
new_level CompressedGroups n = OfCompressed (compressed.fresh n false)
new_level Singleton n = OfSingleton (singleton.fresh n true)
new_level SingletonGroups n = OfSingleton (singleton.fresh n false)
new_level Hashed n = OfHashed (hashed.hashed n [] None 0)

pub new_is : (letter : Letter) (n : ℕ) → IsNew meaning letter n (new_level letter n)
new_is Dense n = record { kind = refl; size_is = refl; log = λ h. apart (sym h); width = λ h. refl }
new_is Compressed n = record { kind = refl; size_is = refl; log = λ h. refl; width = λ h. refl }
new_is CompressedGroups n = record { kind = refl; size_is = refl; log = λ h. refl; width = λ h. refl }
new_is Singleton n = record { kind = refl; size_is = refl; log = λ h. refl; width = λ h. refl }
new_is SingletonGroups n = record { kind = refl; size_is = refl; log = λ h. refl; width = λ h. refl }
new_is Hashed n = record { kind = refl; size_is = refl; log = λ h. apart (sym h); width = λ h. refl }

singles_fresh : (n : ℕ) (unique : Bool) → n ≤ greatest_position_count → singleton.KeepsRules (singleton.fresh n unique)
singles_fresh n unique small = record { small = small; few = omega arith; below = tt; given = λ h. absurd (never h) }
  where
    never : Fresh ≡ Finished → ⊥
    never e = cc

hashed_fresh : (n : ℕ) → n ≤ greatest_position_count → hashed.KeepsRules (hashed.hashed n [] None 0)
hashed_fresh n small = record {
  size = small;
  count = omega arith;
  within = omega arith;
  power = (1, refl);
  wide = omega arith;
  fresh = λ _. refl;
  blocks = λ p h. absurd (omega (arith, h));
}

pub new_keeps : (letter : Letter) (n : ℕ) → n ≤ greatest_position_count → meaning.keeps (new_level letter n)
new_keeps Dense n small = small
new_keeps Compressed n small = keeps_fresh n true small
new_keeps CompressedGroups n small = keeps_fresh n false small
new_keeps Singleton n small = singles_fresh n true small
new_keeps SingletonGroups n small = singles_fresh n false small
new_keeps Hashed n small = hashed_fresh n small

-- a level with this log, which keeps the rules
pub record Logged (log : Log) (old : StorageLevel) : Type 0 where
  pub level : StorageLevel
  pub changes : ChangesLog meaning log old level
  pub keeps : meaning.keeps level

-- a finished level
pub record Done (parents : ℕ) (old : StorageLevel) : Type 0 where
  pub level : StorageLevel
  pub finishes : Finishes meaning parents old level

-- a level that is prepared
pub record Ready (parents most : ℕ) (old : StorageLevel) : Type 0 where
  pub level : StorageLevel
  pub prepared : meaning.prepared old parents most level

-- a level that a coordinate is inserted into
pub record Given (parent x : ℕ) (old : StorageLevel) : Type 0 where
  pub slot : ℕ
  pub level : StorageLevel
  pub inserted : meaning.inserted old parent x slot level

-- what is asked of the kind whose levels are wrapped so
pub record Gives {L : Type 0} (wrap : L → StorageLevel) : Type 0 where
  -- an ordered level has no width
  pub width_none : (l : L) → (properties (meaning.kind (wrap l))).ordered ≡ true → meaning.width (wrap l) ≡ None
  -- arrays that hold a level have its words
  pub held_words : (l : L) (tensor level : ℕ) (arrays : Arrays) → meaning.holds (wrap l) tensor level arrays
      → (array : LevelArray) (words : List ℕ) → meaning.words (wrap l) array ≡ Some words
      → arrays (array_of array tensor level) ≡ Some words
  -- a level that isn't appended to has no segment ends: other arrays that are the same hold it
  pub held_without_ends : (l : L) (tensor level : ℕ) (a b : Arrays) → (capabilities (meaning.kind (wrap l))).append ≡ false
      → ((x : Arr) → IsOf tensor level x → same_arr (Ends tensor level) x ≡ false → b x ≡ a x)
      → meaning.holds (wrap l) tensor level a → meaning.holds (wrap l) tensor level b
  -- arrays that hold a full level have its size alone, and those of one that stores coordinates in order none above its range
  pub size_held : (l : L) (tensor level : ℕ) (arrays : Arrays) (words : List ℕ) → (properties (meaning.kind (wrap l))).full ≡ true
      → meaning.holds (wrap l) tensor level arrays → arrays (Dimension tensor level) ≡ Some words → words ≡ meaning.size (wrap l) ∷ []
  pub coordinates_held : (l : L) (tensor level : ℕ) (arrays : Arrays) (words : List ℕ)
      → (properties (meaning.kind (wrap l))).full ≡ false → (properties (meaning.kind (wrap l))).ordered ≡ true → meaning.keeps (wrap l)
      → meaning.holds (wrap l) tensor level arrays → arrays (Coordinates tensor level) ≡ Some words
      → CoordsBelow (meaning.size (wrap l)) words
  -- a full level has each coordinate below each parent, within the limit
  pub full_positions : (l : L) (parents : ℕ) → (properties (meaning.kind (wrap l))).full ≡ true → meaning.has_parents (wrap l) parents
      → (meaning.positions (wrap l) parents ≡ parents * meaning.size (wrap l))
      × (parents * meaning.size (wrap l) ≤ greatest_position_count)
  -- each call that appends leaves a level
  pub reserves : (l : L) (parents : ℕ) → meaning.keeps (wrap l) → (capabilities (meaning.kind (wrap l))).append ≡ true
      → MayReserve parents (meaning.log (wrap l)) → Logged (with_parents (meaning.kind (wrap l)) parents (meaning.log (wrap l))) (wrap l)
  pub appends_coord : (l : L) (x : ℕ) → meaning.keeps (wrap l) → (capabilities (meaning.kind (wrap l))).append ≡ true
      → MayAppend (meaning.kind (wrap l)) (meaning.size (wrap l)) x (meaning.log (wrap l))
      → length (meaning.log (wrap l)).coords < greatest_position_count → Logged (with_coord x (meaning.log (wrap l))) (wrap l)
  pub appends_edges : (l : L) (parent begin end : ℕ) → meaning.keeps (wrap l) → (capabilities (meaning.kind (wrap l))).append ≡ true
      → MayAppendEdges (meaning.kind (wrap l)) parent begin end (meaning.log (wrap l))
      → Logged (with_edges (meaning.kind (wrap l)) parent begin end (meaning.log (wrap l))) (wrap l)
  pub finish : (l : L) (parents : ℕ) → meaning.keeps (wrap l) → (capabilities (meaning.kind (wrap l))).append ≡ true
      → MayFinish parents (meaning.log (wrap l)) → Done parents (wrap l)
  -- so does each that inserts
  pub prepare : (l : L) (parents most : ℕ) → MayPrepare (meaning.kind (wrap l)) (meaning.width (wrap l)) most
      → Ready parents most (wrap l)
  pub insert : (l : L) (parent x : ℕ) → meaning.allowed (wrap l) (one parent)
      → MayInsert (meaning.kind (wrap l)) (meaning.size (wrap l)) (meaning.segment_of (wrap l) (one parent))
      (meaning.entries (wrap l) (one parent)) x → Given parent x (wrap l)

not_full : {A : Type 0} → false ≡ true → A
not_full e = apart (sym e)

held_same : (xs ys : List ℕ) → Some xs ≡ Some ys → xs ≡ ys
held_same xs ys h = cc

dense_words : (n tensor level : ℕ) (arrays : Arrays) → dense.Holds n tensor level arrays → (array : LevelArray) (words : List ℕ)
    → dense.words_of n array ≡ Some words → arrays (array_of array tensor level) ≡ Some words
dense_words n tensor level arrays held OfSize words is = held ∙ is
dense_words n tensor level arrays held OfEnds words is = absurd (cc)
dense_words n tensor level arrays held OfWidth words is = absurd (cc)
dense_words n tensor level arrays held OfCoordinates words is = absurd (cc)

dense_gives : Gives OfDense
dense_gives = record {
  width_none = λ n h. refl;
  held_words = dense_words;
  held_without_ends = λ n tensor level a b never same h. same (Dimension tensor level) (refl, refl) refl ∙ h;
  size_held = λ n tensor level arrays words full held is. held_same words (n ∷ []) (sym is ∙ held);
  coordinates_held = λ n tensor level arrays words stored ordered keeps held is. apart stored;
  full_positions = λ n parents full has. (refl, has.positions);
  reserves = λ n parents keeps able may. apart (sym able);
  appends_coord = λ n x keeps able may room. apart (sym able);
  appends_edges = λ n parent begin end keeps able may. apart (sym able);
  finish = λ n parents keeps able may. apart (sym able);
  prepare = λ n parents most may. record { level = OfDense n; prepared = refl };
  insert = λ n parent x ok may. record { slot = parent * n + x; level = OfDense n; inserted = (refl, refl) };
}

compressed_appends : (unique : Bool) → (capabilities (compressed.letter_of unique)).append ≡ true
compressed_appends true = refl
compressed_appends false = refl

compressed_insert : (unique : Bool) → (capabilities (compressed.letter_of unique)).insert ≡ false
compressed_insert true = refl
compressed_insert false = refl

compressed_full : (unique : Bool) → (properties (compressed.letter_of unique)).full ≡ false
compressed_full true = refl
compressed_full false = refl

compressed_gives : Gives OfCompressed
compressed_gives = record {
  width_none = λ l h. refl;
  held_words = compressed_words;
  held_without_ends = λ l tensor level a b never same h. apart (sym (compressed_appends l.unique) ∙ never);
  size_held = λ l tensor level arrays words full held is. not_full (sym (compressed_full l.unique) ∙ full);
  coordinates_held = λ l tensor level arrays words stored ordered keeps held is.
      subst (CoordsBelow l.size) (held_same l.log.coords words (sym held.coords ∙ is)) keeps.below;
  full_positions = λ l parents full has. not_full (sym (compressed_full l.unique) ∙ full);
  reserves = λ l parents keeps able may. record {
    level = OfCompressed (logged l (with_parents (compressed.letter_of l.unique) parents l.log));
    changes = record { kind = refl; size = refl; log = refl };
    keeps = keeps_parents l parents keeps may;
  };
  appends_coord = λ l x keeps able may room. record {
    level = OfCompressed (logged l (with_coord x l.log));
    changes = record { kind = refl; size = refl; log = refl };
    keeps = keeps_coord l x keeps may (omega (arith, room));
  };
  appends_edges = λ l parent begin end keeps able may. record {
    level = OfCompressed (logged l (with_edges (compressed.letter_of l.unique) parent begin end l.log));
    changes = record { kind = refl; size = refl; log = refl };
    keeps = keeps_edges l parent begin end keeps may;
  };
  finish = λ l parents keeps able may. record {
    level = OfCompressed _;
    finishes = finishes_kind OfCompressed l _ parents (finished_level l parents keeps may);
  };
  prepare = λ l parents most may. apart (sym may.able ∙ compressed_insert l.unique);
  insert = λ l parent x ok may. apart (sym may.able ∙ compressed_insert l.unique);
}

singleton_appends : (unique : Bool) → (capabilities (singleton.letter_of unique)).append ≡ true
singleton_appends true = refl
singleton_appends false = refl

singleton_insert : (unique : Bool) → (capabilities (singleton.letter_of unique)).insert ≡ false
singleton_insert true = refl
singleton_insert false = refl

singleton_full : (unique : Bool) → (properties (singleton.letter_of unique)).full ≡ false
singleton_full true = refl
singleton_full false = refl

singleton_gives : Gives OfSingleton
singleton_gives = record {
  width_none = λ l h. refl;
  held_words = singleton_words;
  held_without_ends = λ l tensor level a b never same h. apart (sym (singleton_appends l.unique) ∙ never);
  size_held = λ l tensor level arrays words full held is. not_full (sym (singleton_full l.unique) ∙ full);
  coordinates_held = λ l tensor level arrays words stored ordered keeps held is.
      subst (CoordsBelow l.size) (held_same l.coords words (sym held ∙ is)) keeps.below;
  full_positions = λ l parents full has. not_full (sym (singleton_full l.unique) ∙ full);
  reserves = λ l parents keeps able may. record {
    level = OfSingleton (record (reserved parents l) { spare = 0 });
    changes = record { kind = refl; size = refl; log = reserved_logs l parents };
    keeps = reserved_keeps l parents 0 keeps;
  };
  appends_coord = λ l x keeps able may room. record {
    level = OfSingleton (record l { coords = l.coords ++ x ∷ []; spare = 0 });
    changes = record { kind = refl; size = refl; log = refl };
    keeps = appended_keeps l x 0 keeps may (omega (arith, room));
  };
  appends_edges = λ l parent begin end keeps able may. record {
    level = OfSingleton l;
    changes = record { kind = refl; size = refl; log = edges_log l.unique parent begin end (singleton.log_of l) };
    keeps = keeps;
  };
  finish = λ l parents keeps able may. record {
    level = OfSingleton _;
    finishes = finishes_kind OfSingleton l _ parents (singles_finished l parents keeps may);
  };
  prepare = λ l parents most may. apart (sym may.able ∙ singleton_insert l.unique);
  insert = λ l parent x ok may. apart (sym may.able ∙ singleton_insert l.unique);
}

hashed_words : (l : hashed.Hashed) (tensor level : ℕ) (arrays : Arrays) → hashed.Holds l tensor level arrays → (array : LevelArray)
    (words : List ℕ) → hashed.words_of l array ≡ Some words → arrays (array_of array tensor level) ≡ Some words
hashed_words l tensor level arrays held OfSize words is = absurd (cc)
hashed_words l tensor level arrays held OfEnds words is = absurd (cc)
hashed_words l tensor level arrays held OfWidth words is = held.width ∙ is
hashed_words l tensor level arrays held OfCoordinates words is = held.slots ∙ is

hashed_insert : (l : hashed.Hashed) (parent x : ℕ) → meaning.allowed (OfHashed l) (one parent)
    → MayInsert Hashed (meaning.size (OfHashed l)) (meaning.segment_of (OfHashed l) (one parent))
    (meaning.entries (OfHashed l) (one parent)) x
    → Given parent x (OfHashed l)
hashed_insert l parent x ok may = by_search (searched f w base x w (omega arith))
  where
    f : ℕ → ℕ
    f = slice_index l.slots

    w : ℕ
    w = hashed.block_width l

    base : ℕ
    base = hashed.base_of l parent

    by_search : Found f w base x ⊎ Passes f w base x w → Given parent x (OfHashed l)
    by_search (inl there) = record {
      slot = there.slot;
      level = OfHashed (hashed.with_coordinate l x there.slot);
      inserted = record { first = stops_first l parent x there.slot l.slots w base refl refl refl ok may there.stops; level = refl };
    }
    by_search (inr passed) = absurd (never_passes l parent x l.slots w base refl refl refl may passed)

hashed_gives : Gives OfHashed
hashed_gives = record {
  width_none = λ l h. not_full h;
  held_words = hashed_words;
  held_without_ends = λ l tensor level a b never same h. record {
    width = same (Width tensor level) (refl, refl) refl ∙ h.width;
    slots = same (Coordinates tensor level) (refl, refl) refl ∙ h.slots;
  };
  size_held = λ l tensor level arrays words full held is. not_full full;
  coordinates_held = λ l tensor level arrays words stored ordered keeps held is. not_full ordered;
  full_positions = λ l parents full has. not_full full;
  reserves = λ l parents keeps able may. apart (sym able);
  appends_coord = λ l x keeps able may room. apart (sym able);
  appends_edges = λ l parent begin end keeps able may. apart (sym able);
  finish = λ l parents keeps able may. apart (sym able);
  prepare = λ l parents most may. record { level = OfHashed (hashed.with_blocks l parents most); prepared = refl };
  insert = hashed_insert;
}

-- what is true of the levels of each kind is true of every storage level
pub each_gives : (P : StorageLevel → Type 0) → ((L : Type 0) (wrap : L → StorageLevel) → Gives wrap → (k : L) → P (wrap k))
    → (l : StorageLevel) → P l
each_gives P of (OfDense n) = of ℕ OfDense dense_gives n
each_gives P of (OfCompressed l) = of compressed.CompressedLevel OfCompressed compressed_gives l
each_gives P of (OfSingleton l) = of singleton.SingletonLevel OfSingleton singleton_gives l
each_gives P of (OfHashed l) = of hashed.Hashed OfHashed hashed_gives l
