-- How many values dense levels have, and what ranges levels have.
use Rattle.std.specs.Prelude.{◌≡◌, ℕ, ◌+◌, ◌*◌, ◌≤◌, ◌<◌, nat_le, true, if◌then◌else◌, refl}
use Rattle.std.specs.Prelude.{List, [], ◌∷◌, ◌++◌, slice_index, take, length, All}
use Rattle.std.proofs.Common.{◌∙◌, sym, ap, subst, arith, get_or}
use Rattle.std.proofs.lemmas.Bool.Decides.{nat_tests}
use Rattle.std.proofs.lemmas.List.Elements.{All-tail}
use Rattle.std.proofs.lemmas.List.{take_more, get_or-map, length-map}
use Rattle.limits.specs.Limits.{greatest_position_count}
use Rattle.level_core.specs.declared.letter.Letter.{Letter}
use Rattle.level_core.specs.declared.letter.Letter.TheVariants.{Dense}
use Rattle.format_spec.specs.declared.format.FormatLevel.{FormatLevel}
use Rattle.format_spec.specs.Formats.{IsFormat, letters_of}
use Rattle.tensor_storage.specs.Storages.{in_level_order}
use Rattle.storage_builder.specs.Building.{AreDense, dense_room}
use Rattle.tensor_storage.specs.declared.level.StorageLevel.{StorageLevel}
use Rattle.tensor_storage.specs.declared.words.LevelWords.{LevelWords}
use Rattle.tensor_storage.specs.Handed.{IsHandedOver}
use Rattle.tensor_storage.proofs.Handed.{full_positions}
use Rattle.level_core.specs.Kinds.{properties}
use Rattle.storage_arrays.specs.Arrays.{positions_in}
use Rattle.storage_builder.specs.Made.{AreHandedOver, values_for}

within_is : (parents size : ℕ) (rest : List ℕ) → parents * size ≤ greatest_position_count
    → dense_room parents (size ∷ rest) ≡ dense_room (parents * size) rest
within_is parents size rest h =
    let yes : nat_le (parents * size) greatest_position_count ≡ true = grind (arith, nat_tests, h) in
    ap (λ b. if b then dense_room (parents * size) rest else 0) yes

dense_here : (letter : Letter) (size parents : ℕ) (part : LevelWords) (l : StorageLevel) → letter ≡ Dense
    → IsHandedOver letter size parents part l
    → (parents * size ≤ greatest_position_count) × (positions_in parents l ≡ parents * size)
dense_here letter size parents part l is h =
    let k = full_positions l parents (ap (λ k. (properties k).full) (h.kind ∙ is)) h.has_parents in (
      subst (λ n. parents * n ≤ greatest_position_count) h.size_is k.1,
      k.0 ∙ ap (λ n. parents * n) h.size_is,
    )

pub room_enough : (format : List FormatLevel) (sizes : List ℕ) (parts : List LevelWords) (parents : ℕ) (ls : List StorageLevel)
    → length sizes ≡ length format → AreDense format → AreHandedOver (letters_of format) sizes parts parents ls
    → values_for parents ls ≡ dense_room parents sizes
room_enough [] [] parts parents [] long dense r = refl
room_enough [] [] parts parents (l ∷ ls) long dense r = absurd r
room_enough [] (size ∷ sizes) parts parents ls long dense r = absurd (omega (arith, long))
room_enough (level ∷ format) sizes parts parents [] long dense r = absurd r
room_enough (level ∷ format) [] parts parents (l ∷ ls) long dense r = absurd r
room_enough (level ∷ format) (size ∷ sizes) [] parents (l ∷ ls) long dense r = absurd r
room_enough (level ∷ format) (size ∷ sizes) (part ∷ parts) parents (l ∷ ls) long dense r =
    let k = dense_here level.letter size parents part l (dense 0 level (omega arith)) r.0 in
    room_enough format sizes parts (positions_in parents l) ls (omega (arith, long))
    (All-tail (λ level. level.letter ≡ Dense) level format dense) r.1
    ∙ ap (λ n. dense_room n sizes) k.1
    ∙ sym (within_is parents size sizes k.0)

-- a level stores a mode of the tensor
pub mode_within : (format : List FormatLevel) (i : ℕ) (d : FormatLevel) → IsFormat format → i < length format
    → (get_or format i d).mode < length format
mode_within format i d is h =
    subst (λ mode. mode < length format) (get_or-map (λ level. level.mode) format i d 0 h)
    (is.order.below i 0 (subst (λ n. i < n) (sym is.order.count) h))

-- one range more
pub size_more : (format : List FormatLevel) (shape : List ℕ) (i : ℕ) (d : FormatLevel) → i < length format
    → take (i + 1) (in_level_order format shape) ≡ take i (in_level_order format shape) ++ slice_index shape (get_or format i d).mode ∷ []
size_more format shape i d h =
    take_more (in_level_order format shape) i 0 (subst (λ n. i < n) (sym (length-map format (λ level. slice_index shape level.mode))) h)
    ∙ ap (λ n. take i (in_level_order format shape) ++ n ∷ []) (get_or-map (λ level. slice_index shape level.mode) format i d 0 h)
