-- The sum of the values of entries, one by one.
use Rattle.std.specs.Prelude.{◌≡◌, ℕ, ◌+◌, ◌<◌, ◌^◌, List, [], ◌∷◌, length, map, take, slice_index_or}
use Rattle.std.proofs.Common.{◌∙◌, sym, ap}
use Rattle.std.proofs.lemmas.List.{take_more, map-append}
use Rattle.numbers.specs.Arithmetic.{Arithmetic, Laws}
use Rattle.numbers.specs.Sums.{total_of}
use Rattle.numbers.proofs.Sums.{total_append}
use Rattle.tensor_map.specs.Entries.{Entry}

abbrev pub values_of : List Entry → List ℕ
values_of entries = map (λ entry. entry.value) entries

pub total_more : (a : Arithmetic) → Laws a → (entries : List Entry) (i : ℕ) (d : Entry) → i < length entries
    → (slice_index_or entries i d).value < 2 ^ 64
    → a.plus (total_of a (values_of (take i entries))) (slice_index_or entries i d).value ≡ total_of a (values_of (take (i + 1) entries))
total_more a laws entries i d h fits =
    sym (ap (λ es. total_of a (values_of es)) (take_more entries i d h)
    ∙ ap (total_of a) (map-append (λ (entry : Entry). entry.value) (take i entries) (slice_index_or entries i d ∷ []))
    ∙ total_append a laws (values_of (take i entries)) ((slice_index_or entries i d).value ∷ [])
    ∙ ap (a.plus (total_of a (values_of (take i entries)))) (laws.plus_zero (slice_index_or entries i d).value fits))
