-- The text of entries, piece by piece.
use Rattle.std.specs.Prelude.{◌≡◌, ℕ, ◌+◌, ◌<◌, Bool, List, [], ◌∷◌, ◌++◌, length, drop, slice_index_or}
use Rattle.std.specs.Fmt.{decimal}
use Rattle.std.proofs.Common.{ap, sym, ◌∙◌, add-one}
use Rattle.std.proofs.Math.Seq.{drop-cons}
use Rattle.numbers.specs.Arithmetic.{Arithmetic}
use Rattle.tensor_map.specs.Entries.{Entry}
use Rattle.tns_io.specs.Text.{coords_text, entry_text, entries_text}

pub coords_step : (coords : List ℕ) (i : ℕ) → i < length coords
    → coords_text (drop i coords) ≡ (decimal (slice_index_or coords i 0 + 1) ++ 32 ∷ []) ++ coords_text (drop (i + 1) coords)
coords_step coords i inside =
    ap coords_text (drop-cons coords i 0 inside)
    ∙ ap (λ (k : ℕ). (decimal (slice_index_or coords i 0 + 1) ++ 32 ∷ []) ++ coords_text (drop k coords)) (sym (add-one i))

abbrev pub no_entry : Entry
no_entry = record { coords = []; value = 0 }

pub entries_step : (a : Arithmetic) (signed : Bool) (entries : List Entry) (i : ℕ) (coords : List ℕ) (value : ℕ) → i < length entries
    → coords ≡ (slice_index_or entries i no_entry).coords → value ≡ (slice_index_or entries i no_entry).value
    → entries_text a signed (drop i entries)
    ≡ entry_text a signed (record { coords = coords; value = value }) ++ entries_text a signed (drop (i + 1) entries)
entries_step a signed entries i coords value inside coords_are value_is =
    ap (entries_text a signed) (drop-cons entries i no_entry inside)
    ∙ ap (λ (k : ℕ). entry_text a signed (slice_index_or entries i no_entry) ++ entries_text a signed (drop k entries)) (sym (add-one i))
    ∙ (λ j. entry_text a signed (record { coords = sym coords_are j; value = sym value_is j })
    ++ entries_text a signed (drop (i + 1) entries))
