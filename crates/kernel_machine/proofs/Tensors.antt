-- The tensor that is made of what a sound kernel leaves.
use Rattle.std.specs.Prelude.{◌≡◌, ℕ, zero, suc, ◌+◌, ◌<◌, List, [], ◌∷◌, length, map, replicate, Result, Ok, Err, IfOk, Some, slice_get}
use Rattle.std.specs.Prelude.{refl}
use Rattle.std.proofs.Common.{◌∙◌, sym, ap, subst, arith}
use Rattle.kernel_code.specs.declared.syntax.Arr.TheVariants.{Values}
use Rattle.level_core.specs.Meaning.{Arrays}
use Rattle.format_spec.specs.declared.format.FormatLevel.{FormatLevel}
use Rattle.format_spec.specs.Formats.{letters_of}
use Rattle.tensor_storage.specs.declared.level.StorageLevel.{StorageLevel}
use Rattle.tensor_storage.specs.Handed.{no_words}
use Rattle.tensor_storage.specs.Levels.{meaning}
use Rattle.tensor_storage.specs.Storages.{Storage, IsStorage, storage_of}
use Rattle.storage_builder.specs.Building.{Building, building, MayFinish}
use Rattle.storage_builder.specs.Checked.{AreLeastWide, HasZeros, IsWhole}
use Rattle.storage_builder.specs.Made.{AllAlike, AreHandedOver}
use Rattle.storage_builder.proofs.Alike.{alike_storage}
use Rattle.storage_builder.proofs.Wholes.{alike_are_done}
use Rattle.kernel_correctness.specs.Results.{LeavesStorage, summed}
use Rattle.kernel_correctness.specs.Stores.{Store, result_sizes}
use Rattle.kernel_machine.specs.Runs.{WordsLeft, WasHanded, AreThese, IsMadeFrom}
use Rattle.kernel_machine.proofs.Finishes.{HoldParts, collected, handed_of, many, may_finish}
use Rattle.kernel_machine.proofs.Finishes.{alike_are_held, alike_keep, alike_sizes}

get_inside : {X : Type 0} (xs : List X) (i : ℕ) (x : X) → slice_get xs i ≡ Some x → i < length xs
get_inside [] i x h = absurd (cc)
get_inside (y ∷ ys) zero x h = omega arith
get_inside (y ∷ ys) (suc i) x h = let l = get_inside ys i x h in omega (arith, l)

map_long : {X Y : Type 0} (f : X → Y) (xs : List X) → length (map f xs) ≡ length xs
map_long f [] = refl
map_long f (x ∷ xs) = ap suc (map_long f xs)

copies_long : {X : Type 0} (n : ℕ) (x : X) → length (replicate n x) ≡ n
copies_long zero x = refl
copies_long (suc n) x = ap suc (copies_long n x)

letters_long : (format : List FormatLevel) → length (letters_of format) ≡ length format
letters_long format = map_long (λ (l : FormatLevel). l.letter) format

-- a builder has as many parts as its format has levels
pub parts_long : (b : Building) (format : List FormatLevel) (sizes : List ℕ)
    → b ≡ building format sizes (replicate (length format) no_words) → length b.parts ≡ length b.format
parts_long b format sizes is =
    ap (λ (c : Building). length c.parts) is ∙ copies_long (length format) no_words ∙ sym (ap (λ (c : Building). length c.format) is)

-- two facts of what is answered, and what follows of them
pub both_ok : {X E : Type 0} (r : Result X E) (P Q R : X → Type 0) → IfOk r P → IfOk r Q → ((x : X) → P x → Q x → R x) → IfOk r R
both_ok (Ok x) P Q R p q h = h x p q
both_ok (Err e) P Q R p q h = tt

-- what was handed over of a machine's arrays
module _ (store : Store) (before after : Arrays) (old new : Building)
    (is : old ≡ building store.format (result_sizes store) (replicate (length store.format) no_words))
    (handed : WasHanded old before new after) where
  pub new_format : new.format ≡ store.format
  new_format = handed.format ∙ ap (λ (b : Building). b.format) is

  pub new_sizes : new.sizes ≡ result_sizes store
  new_sizes = handed.sizes ∙ ap (λ (b : Building). b.sizes) is

  pub new_building : new ≡ building store.format (result_sizes store) new.parts
  new_building = λ i. record { format = new_format i; sizes = new_sizes i; parts = new.parts }

  one_more : (i : ℕ) → suc i ≡ 1 + i
  one_more i = omega arith

  pub new_many : length new.parts ≡ length old.format
  new_many = handed.long ∙ parts_long old store.format (result_sizes store) is

  -- it is what is left of the levels
  pub new_parts : HoldParts new.parts 1 before
  new_parts = collected new.parts 1 before (λ i part there.
      let inside : i < length old.format = subst (λ n. i < n) new_many (get_inside new.parts i part there) in
      subst (λ k. WordsLeft k part before) (one_more i) (handed.handed i part inside there))

module _ (nothing : ℕ) (store : Store) (before after : Arrays) (old new : Building) (values : List ℕ)
    (left : LeavesStorage nothing store before)
    (is : old ≡ building store.format (result_sizes store) (replicate (length store.format) no_words))
    (handed : WasHanded old before new after) (words : (xs : List ℕ) → after (Values 0) ≡ Some xs → xs ≡ values) where
  format_is : new.format ≡ store.format
  format_is = new_format store before after old new is handed

  sizes_is : new.sizes ≡ result_sizes store
  sizes_is = new_sizes store before after old new is handed

  new_is : new ≡ building store.format (result_sizes store) new.parts
  new_is = new_building store before after old new is handed

  many_parts : length new.parts ≡ length old.format
  many_parts = new_many store before after old new is handed

  handed_parts : HoldParts new.parts 1 before
  handed_parts = new_parts store before after old new is handed

  many_levels : (ls : List StorageLevel) → map meaning.kind ls ≡ letters_of store.format → length new.parts ≡ length ls
  many_levels ls kinds = many_parts ∙ ap (λ (b : Building). length b.format) is
      ∙ sym (letters_long store.format) ∙ sym (ap length kinds) ∙ map_long meaning.kind ls

  values_are : values ≡ left.values
  values_are = sym (words left.values (handed.others (Values 0) (λ k h. h) ∙ left.is_left.values_held))

  pub may : MayFinish new values
  may = subst (λ b. MayFinish b values) (sym new_is)
      (may_finish nothing store before new.parts values left (many_levels left.levels left.storage.letters) handed_parts values_are)

  -- where blocks are no wider than they have to be, what is left keeps every rule
  pub may_whole : AreLeastWide 1 left.levels → IsWhole nothing new values
  may_whole widths = subst (λ b. IsWhole nothing b values) (sym new_is) (record {
    levels = left.levels;
    handed = handed_of store left.levels new.parts before (many_levels left.levels left.storage.letters) left.storage.letters left.sizes
        left.is_left.held left.done handed_parts;
    widths = widths;
    many = ap length values_are ∙ left.many ∙ many left.levels 1;
    whole = subst (λ vs. IsStorage (storage_of store.format left.levels vs)) (sym values_are) left.storage;
    zeros = subst (HasZeros nothing left.levels) (sym values_are) left.zeros;
  })

  -- levels that are the same as all that have what was handed over
  abbrev AreAlikeAll : List StorageLevel → Type 0
  AreAlikeAll ts = (ls : List StorageLevel) → AreHandedOver (letters_of new.format) new.sizes new.parts 1 ls → AllAlike ls ts

  handed_as : (ls : List StorageLevel) → AreHandedOver (letters_of store.format) (result_sizes store) new.parts 1 ls
      → AreHandedOver (letters_of new.format) new.sizes new.parts 1 ls
  handed_as ls h =
      subst (λ ns. AreHandedOver (letters_of new.format) ns new.parts 1 ls) (sym sizes_is)
      (subst (λ (f : List FormatLevel). AreHandedOver (letters_of f) (result_sizes store) new.parts 1 ls) (sym format_is) h)

  these : (ts : List StorageLevel) → AreAlikeAll ts → AreThese (letters_of store.format) (result_sizes store) (summed before) ts
  these ts alike ls kinds sizes held done =
      alike ls (handed_as ls (handed_of store ls new.parts before (many_levels ls kinds) kinds sizes held done handed_parts))

  pub made : (t : Storage) → AreAlikeAll t.levels → t.format ≡ new.format → t.values ≡ values
      → IsMadeFrom old.format old.sizes before t
  made t alike format same =
      let own = these t.levels alike in
      let left_alike = own left.levels left.storage.letters left.sizes left.is_left.held left.done in
      record {
        format_is = format ∙ handed.format;
        held = alike_are_held left.levels t.levels 1 (summed before) left_alike left.is_left.held;
        values = left.is_left.values_held ∙ ap Some (sym values_are ∙ sym same);
        storage = subst (λ f. IsStorage (storage_of f t.levels t.values)) (sym (format ∙ format_is))
            (alike_storage store.format left.levels t.levels t.values left_alike
            (subst (λ vs. IsStorage (storage_of store.format left.levels vs)) (sym values_are ∙ sym same) left.storage));
        done = alike_are_done left.levels t.levels 1 left_alike left.done;
        keeps = alike_keep left.levels t.levels left_alike;
        sizes_are = alike_sizes left.levels t.levels left_alike ∙ left.sizes ∙ sym (ap (λ (b : Building). b.sizes) is);
        alike = subst (λ ns. AreThese (letters_of old.format) ns (summed before) t.levels) (sym (ap (λ (b : Building). b.sizes) is))
            (subst (λ (f : List FormatLevel). AreThese (letters_of f) (result_sizes store) (summed before) t.levels)
            (sym (ap (λ (b : Building). b.format) is)) own);
      }
