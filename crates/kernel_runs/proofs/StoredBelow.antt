-- The coordinates of a storage's paths are below the ranges of the modes that its levels store.
use Rattle.std.specs.Prelude.{◌≡◌, ℕ, zero, suc, ◌<◌, List, [], ◌∷◌, length, map, slice_index}
use Rattle.std.proofs.Common.{◌∙◌, sym, ap, subst, arith, get_or}
use Rattle.std.proofs.lemmas.List.{get_or-map}
use Rattle.level_core.specs.declared.letter.Letter.TheVariants.{Dense}
use Rattle.level_core.specs.declared.span.Span.{Span}
use Rattle.level_core.specs.Entries.{one}
use Rattle.level_rows.specs.Stacks.{Path}
use Rattle.level_rows.proofs.Entries.{below_at}
use Rattle.format_spec.specs.declared.format.FormatLevel.{FormatLevel}
use Rattle.format_spec.specs.Formats.{modes_of}
use Rattle.format_spec.proofs.Pigeonholes.{each_mode_stands}
use Rattle.tensor_storage.specs.declared.level.StorageLevel.{StorageLevel}
use Rattle.tensor_storage.specs.Laws.{laws}
use Rattle.tensor_storage.specs.Levels.{meaning}
use Rattle.tensor_storage.specs.Storages.{IsOpen, EndsAt, Storage, IsStorage, in_level_order}
use Rattle.tensor_storage.proofs.Arranging.{level_coord}

some_level : FormatLevel
some_level = record { letter = Dense; mode = 0 }

-- each coordinate of a path is below the size of its level
path_below : (levels : List StorageLevel) (positions : ℕ) (span : Span) (xs : List ℕ) (pos : ℕ) → IsOpen meaning levels positions span
    → Path meaning levels span xs pos → (k : ℕ) → k < length levels → slice_index xs k < slice_index (map meaning.size levels) k
path_below [] positions span xs pos opened path k h = absurd (omega (arith, h))
path_below (l ∷ levels) positions span [] pos opened path k h = absurd path
path_below (l ∷ levels) positions span (x ∷ xs) pos opened path zero h =
    subst (λ y. y < meaning.size l) path.2
    (below_at (meaning.size l) path.0.child.lo path.0 (meaning.entries l span) (laws.entries l span opened.0).below path.1)
path_below (l ∷ levels) positions span (x ∷ xs) pos opened path (suc k) h =
    path_below levels positions path.0.child xs pos (opened.1 path.0 path.1) path.3 k (omega (arith, h))

-- a coordinate list that ends at a position is below the ranges, mode by mode
pub mode_below_range : (tensor : Storage) (ranges coords : List ℕ) (pos : ℕ) → IsStorage tensor
    → map meaning.size tensor.levels ≡ in_level_order tensor.format ranges → length tensor.levels ≡ length tensor.format
    → EndsAt tensor coords pos → (mode : ℕ) → mode < length tensor.format → slice_index coords mode < slice_index ranges mode
mode_below_range tensor ranges coords pos whole sizes many path mode h =
    let k = each_mode_stands (length tensor.format) (modes_of tensor.format) mode whole.format.order h in
    let is_mode : (get_or tensor.format k.0 some_level).mode ≡ mode =
    sym (get_or-map (λ level. level.mode) tensor.format k.0 some_level 0 k.1) ∙ k.2 in
    let coord : slice_index (in_level_order tensor.format coords) k.0 ≡ slice_index coords mode =
    level_coord tensor.format coords k.0 some_level k.1 ∙ ap (slice_index coords) is_mode in
    let size : slice_index (map meaning.size tensor.levels) k.0 ≡ slice_index ranges mode =
    ap (λ ns. slice_index ns k.0) sizes ∙ level_coord tensor.format ranges k.0 some_level k.1 ∙ ap (slice_index ranges) is_mode in
    let inside = k.1 in
    let less = path_below tensor.levels (length tensor.values) (one 0) (in_level_order tensor.format coords) pos whole.opened path k.0
    (omega (arith, inside, many)) in
    omega (arith, coord, size, less)
