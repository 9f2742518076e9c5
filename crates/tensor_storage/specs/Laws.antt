-- The laws of a level of any kind are those of its kind.
use Rattle.std.specs.Prelude.{◌≡◌, ℕ, ◌≤◌, Bool, true, false, refl}
use Rattle.std.proofs.Common.{sym, subst}
use Rattle.limits.specs.Limits.{greatest_position_count}
use Rattle.level_core.specs.declared.letter.Letter.{Letter}
use Rattle.level_core.specs.declared.letter.Letter.TheVariants.{Dense, Compressed, CompressedGroups, Singleton, SingletonGroups, Hashed}
use Rattle.level_core.specs.Entries.{one}
use Rattle.level_core.specs.Kinds.{positions_for, MayPrepare, MayInsert}
use Rattle.level_core.specs.Logs.{MayFinish}
use Rattle.level_core.specs.Meaning.{Arrays, Meaning, Prepares, Inserts, Finishes, AgreeBelow}
use Rattle.level_core.specs.Laws.{AreAtStart, SumsUp, HoldsStart, HoldsFinished, Laws}
use Rattle.dense_level.specs.Laws.{laws as dense_laws}
use Rattle.compressed_level.specs.Compressed as compressed
use Rattle.compressed_level.specs.Laws.{laws as compressed_laws}
use Rattle.singleton_level.specs.Singleton as singleton
use Rattle.singleton_level.specs.Laws.{laws as singleton_laws}
use Rattle.hashed_level.specs.Hashed as hashed
use Rattle.hashed_level.specs.Laws.{laws as hashed_laws}
use Rattle.tensor_storage.specs.declared.level.StorageLevel.{StorageLevel}
use Rattle.tensor_storage.specs.declared.level.StorageLevel.TheVariants.{Dense as OfDense, Compressed as OfCompressed}
use Rattle.tensor_storage.specs.declared.level.StorageLevel.TheVariants.{Singleton as OfSingleton, Hashed as OfHashed}
use Rattle.tensor_storage.specs.Levels.{kind_of, KeepsRules, size_of, width_of, Holds, words_of, HasParents, positions_of, IsAllowed}
use Rattle.tensor_storage.specs.Levels.{segment_of, entries_of, log_of, Prepared, Inserted, meaning}

-- the levels of a kind, seen as the storage levels that they are wrapped into
abbrev pub wrapped : {L : Type 0} → (L → StorageLevel) → Meaning L
wrapped wrap = record {
  kind = λ l. kind_of (wrap l);
  keeps = λ l. KeepsRules (wrap l);
  size = λ l. size_of (wrap l);
  width = λ l. width_of (wrap l);
  holds = λ l. Holds (wrap l);
  words = λ l. words_of (wrap l);
  has_parents = λ l. HasParents (wrap l);
  positions = λ l. positions_of (wrap l);
  allowed = λ l. IsAllowed (wrap l);
  segment_of = λ l. segment_of (wrap l);
  entries = λ l. entries_of (wrap l);
  log = λ l. log_of (wrap l);
  prepared = λ l parents most m. Prepared (wrap l) parents most (wrap m);
  inserted = λ l parent x slot m. Inserted (wrap l) parent x slot (wrap m);
}

-- a kind among those of a storage level: its levels keep the laws, and each level with a letter of the kind is one of them
pub record IsKind {L : Type 0} (wrap : L → StorageLevel) : Type 0 where
  pub laws : Laws (wrapped wrap)
  pub only : (l : L) (m : StorageLevel) → kind_of m ≡ kind_of (wrap l) → (k : L) × (m ≡ wrap k)
  pub prepared : (l : L) (m : StorageLevel) (parents most : ℕ) → Prepared (wrap l) parents most m → (k : L) × (m ≡ wrap k)
  pub inserted : (l : L) (m : StorageLevel) (parent x slot : ℕ) → Inserted (wrap l) parent x slot m → (k : L) × (m ≡ wrap k)

-- the type of the levels of a kind, and the variant that wraps them
pub record Variant : Type 1 where
  pub L : Type 0
  pub wrap : L → StorageLevel

-- the variant of a letter's levels
abbrev pub variant_of : Letter → Variant
variant_of Dense = record { L = ℕ; wrap = OfDense }
variant_of Compressed = record { L = compressed.CompressedLevel; wrap = OfCompressed }
variant_of CompressedGroups = record { L = compressed.CompressedLevel; wrap = OfCompressed }
variant_of Singleton = record { L = singleton.SingletonLevel; wrap = OfSingleton }
variant_of SingletonGroups = record { L = singleton.SingletonLevel; wrap = OfSingleton }
variant_of Hashed = record { L = hashed.Hashed; wrap = OfHashed }

-- a level of a letter's variant
pub record IsOfVariant (letter : Letter) (l : StorageLevel) : Type 0 where
  pub inner : (variant_of letter).L
  pub is : l ≡ (variant_of letter).wrap inner

compressed_of : (l : compressed.CompressedLevel) (unique : Bool) → IsOfVariant (compressed.letter_of unique) (OfCompressed l)
compressed_of l true = record { inner = l; is = refl }
compressed_of l false = record { inner = l; is = refl }

singleton_of : (l : singleton.SingletonLevel) (unique : Bool) → IsOfVariant (singleton.letter_of unique) (OfSingleton l)
singleton_of l true = record { inner = l; is = refl }
singleton_of l false = record { inner = l; is = refl }

-- each level is of the variant of its letter
of_variant : (l : StorageLevel) → IsOfVariant (kind_of l) l
of_variant (OfDense n) = record { inner = n; is = refl }
of_variant (OfCompressed l) = compressed_of l l.unique
of_variant (OfSingleton l) = singleton_of l l.unique
of_variant (OfHashed l) = record { inner = l; is = refl }

pub of_letter : (m : StorageLevel) (letter : Letter) → kind_of m ≡ letter → IsOfVariant letter m
of_letter m letter same = subst (λ k. IsOfVariant k m) same (of_variant m)

dense_prepared : (l : ℕ) (m : StorageLevel) (parents most : ℕ) → Prepared (OfDense l) parents most m → (k : ℕ) × (m ≡ OfDense k)
dense_prepared l (OfDense m) parents most is = (m, refl)
dense_prepared l (OfCompressed m) parents most is = absurd is
dense_prepared l (OfSingleton m) parents most is = absurd is
dense_prepared l (OfHashed m) parents most is = absurd is

dense_inserted : (l : ℕ) (m : StorageLevel) (parent x slot : ℕ) → Inserted (OfDense l) parent x slot m → (k : ℕ) × (m ≡ OfDense k)
dense_inserted l (OfDense m) parent x slot is = (m, refl)
dense_inserted l (OfCompressed m) parent x slot is = absurd is
dense_inserted l (OfSingleton m) parent x slot is = absurd is
dense_inserted l (OfHashed m) parent x slot is = absurd is

pub dense_kind : IsKind OfDense
dense_kind = record {
  laws = dense_laws;
  only = λ l m same. let of = of_letter m Dense same in (of.inner, of.is);
  prepared = dense_prepared;
  inserted = dense_inserted;
}

pub compressed_only : (unique : Bool) (m : StorageLevel) → kind_of m ≡ compressed.letter_of unique
    → (k : compressed.CompressedLevel) × (m ≡ OfCompressed k)
compressed_only true m same = let of = of_letter m Compressed same in (of.inner, of.is)
compressed_only false m same = let of = of_letter m CompressedGroups same in (of.inner, of.is)

pub compressed_kind : IsKind OfCompressed
compressed_kind = record {
  laws = compressed_laws;
  only = λ l m same. compressed_only l.unique m same;
  prepared = λ l m parents most is. absurd is;
  inserted = λ l m parent x slot is. absurd is;
}

pub singleton_only : (unique : Bool) (m : StorageLevel) → kind_of m ≡ singleton.letter_of unique
    → (k : singleton.SingletonLevel) × (m ≡ OfSingleton k)
singleton_only true m same = let of = of_letter m Singleton same in (of.inner, of.is)
singleton_only false m same = let of = of_letter m SingletonGroups same in (of.inner, of.is)

pub singleton_kind : IsKind OfSingleton
singleton_kind = record {
  laws = singleton_laws;
  only = λ l m same. singleton_only l.unique m same;
  prepared = λ l m parents most is. absurd is;
  inserted = λ l m parent x slot is. absurd is;
}

hashed_prepared : (l : hashed.Hashed) (m : StorageLevel) (parents most : ℕ) → Prepared (OfHashed l) parents most m
    → (k : hashed.Hashed) × (m ≡ OfHashed k)
hashed_prepared l (OfDense m) parents most is = absurd is
hashed_prepared l (OfCompressed m) parents most is = absurd is
hashed_prepared l (OfSingleton m) parents most is = absurd is
hashed_prepared l (OfHashed m) parents most is = (m, refl)

hashed_inserted : (l : hashed.Hashed) (m : StorageLevel) (parent x slot : ℕ) → Inserted (OfHashed l) parent x slot m
    → (k : hashed.Hashed) × (m ≡ OfHashed k)
hashed_inserted l (OfDense m) parent x slot is = absurd is
hashed_inserted l (OfCompressed m) parent x slot is = absurd is
hashed_inserted l (OfSingleton m) parent x slot is = absurd is
hashed_inserted l (OfHashed m) parent x slot is = (m, refl)

pub hashed_kind : IsKind OfHashed
hashed_kind = record {
  laws = hashed_laws;
  only = λ l m same. let of = of_letter m Hashed same in (of.inner, of.is);
  prepared = hashed_prepared;
  inserted = hashed_inserted;
}

-- what is true of the levels of each kind is true of every storage level
pub each_kind : (P : StorageLevel → Type 0) → ((L : Type 0) (wrap : L → StorageLevel) → IsKind wrap → (k : L) → P (wrap k))
    → (l : StorageLevel) → P l
each_kind P of (OfDense n) = of ℕ OfDense dense_kind n
each_kind P of (OfCompressed l) = of compressed.CompressedLevel OfCompressed compressed_kind l
each_kind P of (OfSingleton l) = of singleton.SingletonLevel OfSingleton singleton_kind l
each_kind P of (OfHashed l) = of hashed.Hashed OfHashed hashed_kind l

prepares_kind : (L : Type 0) (wrap : L → StorageLevel) → IsKind wrap → (l : L) (m : StorageLevel) (parents most : ℕ) → KeepsRules (wrap l)
    → MayPrepare (kind_of (wrap l)) (width_of (wrap l)) most
    → positions_for (kind_of (wrap l)) (size_of (wrap l)) parents most ≤ greatest_position_count → Prepared (wrap l) parents most m
    → Prepares meaning parents most (wrap l) m
prepares_kind L wrap kind l m parents most keeps may within is = there (kind.prepared l m parents most is)
  where
    here : (k : L) → Prepares (wrapped wrap) parents most l k → Prepares meaning parents most (wrap l) (wrap k)
    here k p = record {
      keeps = p.keeps;
      kind = p.kind;
      size = p.size;
      has_parents = p.has_parents;
      positions = p.positions;
      width = p.width;
      empty = p.empty;
      room = p.room;
    }

    there : (k : L) × (m ≡ wrap k) → Prepares meaning parents most (wrap l) m
    there (k, same) = subst (Prepares meaning parents most (wrap l)) (sym same)
        (here k (kind.laws.prepares l k parents most keeps may within (subst (λ n. Prepared (wrap l) parents most n) same is)))

inserts_kind : (L : Type 0) (wrap : L → StorageLevel) → IsKind wrap → (l : L) (m : StorageLevel) (parent x slot : ℕ)
    → IsAllowed (wrap l) (one parent)
    → MayInsert (kind_of (wrap l)) (size_of (wrap l)) (segment_of (wrap l) (one parent)) (entries_of (wrap l) (one parent)) x
    → Inserted (wrap l) parent x slot m → Inserts meaning parent x slot (wrap l) m
inserts_kind L wrap kind l m parent x slot ok may is = there (kind.inserted l m parent x slot is)
  where
    here : (k : L) → Inserts (wrapped wrap) parent x slot l k → Inserts meaning parent x slot (wrap l) (wrap k)
    here k i = record {
      keeps = i.keeps;
      kind = i.kind;
      size = i.size;
      width = i.width;
      inside = i.inside;
      gains = i.gains;
      first = i.first;
      has_parents = i.has_parents;
      allowed = i.allowed;
      segments = i.segments;
      others = i.others;
    }

    there : (k : L) × (m ≡ wrap k) → Inserts meaning parent x slot (wrap l) m
    there (k, same) = subst (Inserts meaning parent x slot (wrap l)) (sym same)
        (here k (kind.laws.inserts l k parent x slot ok may (subst (λ n. Inserted (wrap l) parent x slot n) same is)))

starts_kind : (L : Type 0) (wrap : L → StorageLevel) → IsKind wrap → (l : L) (n parents tensor level : ℕ) (arrays : Arrays)
    → n ≤ greatest_position_count → parents ≤ greatest_position_count → AreAtStart (kind_of (wrap l)) n parents tensor level arrays
    → HoldsStart meaning (kind_of (wrap l)) n parents tensor level arrays
starts_kind L wrap kind l n parents tensor level arrays small few at =
    let s = kind.laws.starts l n parents tensor level arrays small few at in
    record { start = wrap s.start; keeps = s.keeps; kind = s.kind; size = s.size; width = s.width; log = s.log; held = s.held }

-- a finished level of a kind is a finished storage level
pub finishes_kind : {L : Type 0} (wrap : L → StorageLevel) (l m : L) (parents : ℕ) → Finishes (wrapped wrap) parents l m
    → Finishes meaning parents (wrap l) (wrap m)
finishes_kind wrap l m parents f = record {
  keeps = f.keeps;
  kind = f.kind;
  size = f.size;
  log = f.log;
  has_parents = f.has_parents;
  groups = f.groups;
  segments = f.segments;
  entries = f.entries;
}

finished_kind : (L : Type 0) (wrap : L → StorageLevel) → IsKind wrap → (l : L) (parents tensor level : ℕ) (before after : Arrays)
    → KeepsRules (wrap l) → MayFinish parents (log_of (wrap l)) → Holds (wrap l) tensor level before → SumsUp tensor level before after
    → HoldsFinished meaning (wrap l) parents tensor level after
finished_kind L wrap kind l parents tensor level before after keeps may held sums =
    let f = kind.laws.finishes l parents tensor level before after keeps may held sums in
    record { done = wrap f.done; finishes = finishes_kind wrap l f.done parents f.finishes; held = f.held }

arrays_kind : (L : Type 0) (wrap : L → StorageLevel) → IsKind wrap → (l : L) (m : StorageLevel) (parents tensor level : ℕ)
    (arrays : Arrays) → HasParents (wrap l) parents → HasParents m parents → AgreeBelow meaning parents (wrap l) m
    → Holds (wrap l) tensor level arrays → Holds m tensor level arrays
arrays_kind L wrap kind l m parents tensor level arrays has also agree = there (kind.only l m agree.kind)
  where
    here : (k : L) → HasParents (wrap k) parents → AgreeBelow meaning parents (wrap l) (wrap k) → Holds (wrap l) tensor level arrays
        → Holds (wrap k) tensor level arrays
    here k h a = kind.laws.same_arrays l k parents tensor level arrays has h
        (record { kind = a.kind; size = a.size; width = a.width; segments = a.segments; entries = a.entries })

    there : (k : L) × (m ≡ wrap k) → Holds (wrap l) tensor level arrays → Holds m tensor level arrays
    there (k, same) held = subst (λ n. Holds n tensor level arrays) (sym same)
        (here k (subst (λ n. HasParents n parents) same also) (subst (AgreeBelow meaning parents (wrap l)) same agree) held)

pub laws : Laws meaning
laws = record {
  held_there = each_kind _ (λ L wrap kind l. kind.laws.held_there l);
  words_hold = each_kind _ (λ L wrap kind l. kind.laws.words_hold l);
  entries = each_kind _ (λ L wrap kind l. kind.laws.entries l);
  in_row = each_kind _ (λ L wrap kind l. kind.laws.in_row l);
  one_parent = each_kind _ (λ L wrap kind l. kind.laws.one_parent l);
  parents = each_kind _ (λ L wrap kind l. kind.laws.parents l);
  last_end = each_kind _ (λ L wrap kind l. kind.laws.last_end l);
  none_without = each_kind _ (λ L wrap kind l. kind.laws.none_without l);
  wide = each_kind _ (λ L wrap kind l. kind.laws.wide l);
  logs = each_kind _ (λ L wrap kind l. kind.laws.logs l);
  prepares = each_kind _ prepares_kind;
  inserts = each_kind _ inserts_kind;
  starts = each_kind _ starts_kind;
  finishes = each_kind _ finished_kind;
  same_arrays = each_kind _ arrays_kind;
}
