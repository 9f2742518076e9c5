-- A level of any kind: what is seen of it is what is seen of its kind.
use Rattle.std.specs.Prelude.{ℕ, List, Option}
use Rattle.level_core.specs.declared.letter.Letter.{Letter}
use Rattle.level_core.specs.declared.span.Span.{Span}
use Rattle.level_core.specs.declared.span.Entry.{Entry}
use Rattle.level_core.specs.declared.arrays.LevelArray.{LevelArray}
use Rattle.level_core.specs.Logs.{Log}
use Rattle.level_core.specs.Meaning.{Arrays, Meaning}
pub use Rattle.tensor_storage.specs.declared.level.StorageLevel.{StorageLevel}
use Rattle.tensor_storage.specs.declared.level.StorageLevel.TheVariants.{Dense as OfDense, Compressed as OfCompressed}
use Rattle.tensor_storage.specs.declared.level.StorageLevel.TheVariants.{Singleton as OfSingleton, Hashed as OfHashed}
use Rattle.dense_level.specs.Dense as dense
use Rattle.compressed_level.specs.Compressed as compressed
use Rattle.singleton_level.specs.Singleton as singleton
use Rattle.hashed_level.specs.Hashed as hashed

abbrev pub kind_of : StorageLevel → Letter
kind_of (OfDense n) = dense.meaning.kind n
kind_of (OfCompressed l) = compressed.meaning.kind l
kind_of (OfSingleton l) = singleton.meaning.kind l
kind_of (OfHashed l) = hashed.meaning.kind l

abbrev pub KeepsRules : StorageLevel → Type 0
KeepsRules (OfDense n) = dense.meaning.keeps n
KeepsRules (OfCompressed l) = compressed.meaning.keeps l
KeepsRules (OfSingleton l) = singleton.meaning.keeps l
KeepsRules (OfHashed l) = hashed.meaning.keeps l

abbrev pub size_of : StorageLevel → ℕ
size_of (OfDense n) = dense.meaning.size n
size_of (OfCompressed l) = compressed.meaning.size l
size_of (OfSingleton l) = singleton.meaning.size l
size_of (OfHashed l) = hashed.meaning.size l

abbrev pub width_of : StorageLevel → Option ℕ
width_of (OfDense n) = dense.meaning.width n
width_of (OfCompressed l) = compressed.meaning.width l
width_of (OfSingleton l) = singleton.meaning.width l
width_of (OfHashed l) = hashed.meaning.width l

abbrev pub Holds : StorageLevel → ℕ → ℕ → Arrays → Type 0
Holds (OfDense n) = dense.meaning.holds n
Holds (OfCompressed l) = compressed.meaning.holds l
Holds (OfSingleton l) = singleton.meaning.holds l
Holds (OfHashed l) = hashed.meaning.holds l

abbrev pub words_of : StorageLevel → LevelArray → Option (List ℕ)
words_of (OfDense n) = dense.meaning.words n
words_of (OfCompressed l) = compressed.meaning.words l
words_of (OfSingleton l) = singleton.meaning.words l
words_of (OfHashed l) = hashed.meaning.words l

abbrev pub HasParents : StorageLevel → ℕ → Type 0
HasParents (OfDense n) = dense.meaning.has_parents n
HasParents (OfCompressed l) = compressed.meaning.has_parents l
HasParents (OfSingleton l) = singleton.meaning.has_parents l
HasParents (OfHashed l) = hashed.meaning.has_parents l

abbrev pub positions_of : StorageLevel → ℕ → ℕ
positions_of (OfDense n) = dense.meaning.positions n
positions_of (OfCompressed l) = compressed.meaning.positions l
positions_of (OfSingleton l) = singleton.meaning.positions l
positions_of (OfHashed l) = hashed.meaning.positions l

abbrev pub IsAllowed : StorageLevel → Span → Type 0
IsAllowed (OfDense n) = dense.meaning.allowed n
IsAllowed (OfCompressed l) = compressed.meaning.allowed l
IsAllowed (OfSingleton l) = singleton.meaning.allowed l
IsAllowed (OfHashed l) = hashed.meaning.allowed l

abbrev pub segment_of : StorageLevel → Span → Span
segment_of (OfDense n) = dense.meaning.segment_of n
segment_of (OfCompressed l) = compressed.meaning.segment_of l
segment_of (OfSingleton l) = singleton.meaning.segment_of l
segment_of (OfHashed l) = hashed.meaning.segment_of l

abbrev pub entries_of : StorageLevel → Span → List Entry
entries_of (OfDense n) = dense.meaning.entries n
entries_of (OfCompressed l) = compressed.meaning.entries l
entries_of (OfSingleton l) = singleton.meaning.entries l
entries_of (OfHashed l) = hashed.meaning.entries l

abbrev pub log_of : StorageLevel → Log
log_of (OfDense n) = dense.meaning.log n
log_of (OfCompressed l) = compressed.meaning.log l
log_of (OfSingleton l) = singleton.meaning.log l
log_of (OfHashed l) = hashed.meaning.log l

-- how many coordinates can be appended before memory is wanted again
abbrev pub spare_of : StorageLevel → ℕ
spare_of (OfDense n) = 0
spare_of (OfCompressed l) = l.spare
spare_of (OfSingleton l) = l.spare
spare_of (OfHashed l) = 0

abbrev pub Prepared : StorageLevel → ℕ → ℕ → StorageLevel → Type 0
Prepared (OfDense n) parents most (OfDense m) = dense.meaning.prepared n parents most m
Prepared (OfHashed l) parents most (OfHashed m) = hashed.meaning.prepared l parents most m
Prepared _ parents most _ = ⊥

abbrev pub Inserted : StorageLevel → ℕ → ℕ → ℕ → StorageLevel → Type 0
Inserted (OfDense n) parent x slot (OfDense m) = dense.meaning.inserted n parent x slot m
Inserted (OfHashed l) parent x slot (OfHashed m) = hashed.meaning.inserted l parent x slot m
Inserted _ parent x slot _ = ⊥

abbrev pub meaning : Meaning StorageLevel
meaning = record {
  kind = kind_of;
  keeps = KeepsRules;
  size = size_of;
  width = width_of;
  holds = Holds;
  words = words_of;
  has_parents = HasParents;
  positions = positions_of;
  allowed = IsAllowed;
  segment_of = segment_of;
  entries = entries_of;
  log = log_of;
  prepared = Prepared;
  inserted = Inserted;
}
