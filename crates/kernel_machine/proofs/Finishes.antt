-- The levels that a sound kernel leaves may be handed over, and make a tensor that the arrays hold.
use Rattle.std.specs.Prelude.{◌≡◌, ℕ, suc, ◌+◌, List, [], ◌∷◌, length, map, All, Some, slice_get, refl}
use Rattle.std.proofs.Common.{◌∙◌, sym, ap, subst, arith}
use Rattle.std.proofs.lemmas.List.Elements.{All-cons}
use Rattle.level_core.specs.Meaning.{Arrays}
use Rattle.format_spec.specs.Formats.{letters_of}
use Rattle.tensor_storage.specs.declared.level.StorageLevel.{StorageLevel}
use Rattle.tensor_storage.specs.declared.words.LevelWords.{LevelWords}
use Rattle.tensor_storage.specs.Levels.{meaning}
use Rattle.tensor_storage.specs.Storages.{IsStorage, storage_of}
use Rattle.storage_arrays.specs.Arrays.{AreDone, positions_in}
use Rattle.storage_builder.specs.Building.{building, MayFinish}
use Rattle.storage_builder.specs.Made.{AllAlike, AreHandedOver, values_for}
use Rattle.storage_builder.proofs.Alike.{alike_held}
use Rattle.kernel_correctness.specs.Results.{LeavesStorage, positions_below, summed}
use Rattle.kernel_correctness.specs.Stores.{Store, AreHeld, result_sizes}
use Rattle.kernel_machine.specs.Runs.{WordsLeft}
use Rattle.kernel_machine.proofs.Parts.{words_left}

-- the words are what is left of as many levels, from this number on
abbrev pub HoldParts : List LevelWords → ℕ → Arrays → Type 0
HoldParts [] level a = Unit {0}
HoldParts (part ∷ parts) level a = WordsLeft level part a × HoldParts parts (suc level) a

pub collected : (parts : List LevelWords) (level : ℕ) (a : Arrays)
    → ((i : ℕ) (part : LevelWords) → slice_get parts i ≡ Some part → WordsLeft (level + i) part a) → HoldParts parts level a
collected [] level a h = tt
collected (part ∷ parts) level a h = (
  subst (λ k. WordsLeft k part a) here (h 0 part refl),
  collected parts (suc level) a (λ i p is. subst (λ k. WordsLeft k p a) (next i) (h (suc i) p is)),
)
  where
    here : level + 0 ≡ level
    here = omega arith

    next : (i : ℕ) → level + suc i ≡ suc level + i
    next i = omega arith

-- finished levels that the arrays hold are those that are handed over
pub handed_levels : (ls : List StorageLevel) (parts : List LevelWords) (parents level : ℕ) (a : Arrays) → length parts ≡ length ls
    → AreHeld ls 0 level (summed a) → AreDone parents ls → HoldParts parts level a
    → AreHandedOver (map meaning.kind ls) (map meaning.size ls) parts parents ls
handed_levels [] parts parents level a long held done left = tt
handed_levels (l ∷ ls) [] parents level a long held done left = absurd (omega (arith, long))
handed_levels (l ∷ ls) (part ∷ parts) parents level a long held done left = (
  words_left l level parents part a held.0 done.0 left.0,
  handed_levels ls parts (positions_in parents l) (suc level) a (omega (arith, long)) held.1 done.1 left.1,
)

pub many : (ls : List StorageLevel) (parents : ℕ) → positions_below parents ls ≡ values_for parents ls
many [] parents = refl
many (l ∷ ls) parents = many ls (positions_in parents l)

-- the same, of levels of the store's format and ranges
pub handed_of : (store : Store) (ls : List StorageLevel) (parts : List LevelWords) (a : Arrays) → length parts ≡ length ls
    → map meaning.kind ls ≡ letters_of store.format → map meaning.size ls ≡ result_sizes store → AreHeld ls 0 1 (summed a)
    → AreDone 1 ls → HoldParts parts 1 a → AreHandedOver (letters_of store.format) (result_sizes store) parts 1 ls
handed_of store ls parts a long kinds sizes held done left =
    subst (λ js. AreHandedOver js (result_sizes store) parts 1 ls) kinds
    (subst (λ ns. AreHandedOver (map meaning.kind ls) ns parts 1 ls) sizes (handed_levels ls parts 1 1 a long held done left))

-- what a sound kernel leaves may be finished
pub may_finish : (nothing : ℕ) (store : Store) (a : Arrays) (parts : List LevelWords) (values : List ℕ)
    (left : LeavesStorage nothing store a) → length parts ≡ length left.levels → HoldParts parts 1 a → values ≡ left.values
    → MayFinish (building store.format (result_sizes store) parts) values
may_finish nothing store a parts values left long parts_left is = record {
  levels = left.levels;
  handed = handed_of store left.levels parts a long left.storage.letters left.sizes left.is_left.held left.done parts_left;
  many = ap length is ∙ left.many ∙ many left.levels 1;
  whole = subst (λ vs. IsStorage (storage_of store.format left.levels vs)) (sym is) left.storage;
}

-- levels that are the same but for their room are held by the same arrays
pub alike_are_held : (ls ms : List StorageLevel) (level : ℕ) (a : Arrays) → AllAlike ls ms → AreHeld ls 0 level a → AreHeld ms 0 level a
alike_are_held [] [] level a same held = tt
alike_are_held [] (m ∷ ms) level a same held = absurd same
alike_are_held (l ∷ ls) [] level a same held = absurd same
alike_are_held (l ∷ ls) (m ∷ ms) level a same held =
    (alike_held l m 0 level a same.0 held.0, alike_are_held ls ms (suc level) a same.1 held.1)

-- they keep the rules of their kinds, and have the same ranges
pub alike_keep : (ls ts : List StorageLevel) → AllAlike ls ts → All meaning.keeps ts
alike_keep [] [] same = λ k l below. absurd (omega (arith, below))
alike_keep [] (t ∷ ts) same = absurd same
alike_keep (l ∷ ls) [] same = absurd same
alike_keep (l ∷ ls) (t ∷ ts) same = All-cons meaning.keeps t ts same.0.keeps (alike_keep ls ts same.1)

pub alike_sizes : (ls ts : List StorageLevel) → AllAlike ls ts → map meaning.size ts ≡ map meaning.size ls
alike_sizes [] [] same = refl
alike_sizes [] (t ∷ ts) same = absurd same
alike_sizes (l ∷ ls) [] same = absurd same
alike_sizes (l ∷ ls) (t ∷ ts) same = λ i. same.0.size i ∷ alike_sizes ls ts same.1 i
