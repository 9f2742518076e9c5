-- What stands below the first level without order tells whether the levels below each such one can be inserted into.
use Rattle.std.specs.Prelude.{◌≡◌, ◌↔◌, ◌⊎◌, ℕ, true, false, ◌+◌, ◌-◌, ◌≤◌, ◌<◌, List, length, drop, All, slice_index_or}
use Rattle.std.proofs.Common.{◌∙◌, sym, ap, arith, inl, inr}
use Rattle.std.proofs.lemmas.Bool.{cases_lt}
use Rattle.std.proofs.lemmas.List.{get_or-map, get_or-drop, length-map, length-drop}
use Rattle.std.specs.List.{AllWithin, HoldsAt}
use Rattle.level_core.specs.Kinds.{properties, capabilities}
use Rattle.level_core.specs.declared.letter.Letter.{Letter}
use Rattle.format_spec.specs.Formats.{FormatLevel, letters_of, InsertedBelowUnordered, IsUnordered, IsOrdered, Inserts}

apart : true ≡ false → ⊥
apart h = cc

letter_at : (levels : List FormatLevel) (i : ℕ) (d : Letter) → i < length levels
    → slice_index_or (letters_of levels) i d ≡ (slice_index_or levels i (record { letter = d; mode = 0 })).letter
letter_at levels i d h = get_or-map (λ level. level.letter) levels i (record { letter = d; mode = 0 }) d h

pub all_ordered : (levels : List FormatLevel) → AllWithin IsOrdered levels 0 (length levels) → InsertedBelowUnordered (letters_of levels)
all_ordered levels other i j d before inside is =
    let count = length-map levels (λ level. level.letter) in
    let within : i < length levels = omega (arith, before, inside, count) in
    absurd (apart (sym (other i (record { letter = d; mode = 0 }) (omega arith) within)
    ∙ ap (λ letter. (properties letter).ordered) (sym (letter_at levels i d within)) ∙ is))

pub first_rules : (levels : List FormatLevel) (first : ℕ) → first < length levels → HoldsAt IsUnordered levels first
    → AllWithin IsOrdered levels 0 first → All Inserts (drop (first + 1) levels) ↔ InsertedBelowUnordered (letters_of levels)
first_rules levels first inside here others = (rules, below)
  where
    rules : All Inserts (drop (first + 1) levels) → InsertedBelowUnordered (letters_of levels)
    rules all i j d before end is =
        let default : FormatLevel = record { letter = d; mode = 0 } in
        let count = length-map levels (λ level. level.letter) in
        let left = length-drop (first + 1) levels in
        let within : j < length levels = omega (arith, end, count) in
        let i_within : i < length levels = omega (arith, before, within) in
        let from : first ≤ i = not_before i i_within (letter_at levels i d i_within) d is (cases_lt i first) in
        let k = j - (first + 1) in
        let at : first + 1 + k ≡ j = omega (arith, from, before) in
        let inserts : Inserts (slice_index_or (drop (first + 1) levels) k default) = all k default (omega (arith, left, within, at)) in
        let same = get_or-drop (first + 1) levels k default ∙ ap (λ n. slice_index_or levels n default) at in
        ap (λ letter. (capabilities letter).insert) (letter_at levels j d within ∙ ap (λ level. level.letter) (sym same)) ∙ inserts
      where
        not_before : (i : ℕ) → i < length levels
            → slice_index_or (letters_of levels) i d ≡ (slice_index_or levels i (record { letter = d; mode = 0 })).letter → (e : Letter)
            → (properties (slice_index_or (letters_of levels) i d)).ordered ≡ false → (i < first) ⊎ (first ≤ i) → first ≤ i
        not_before i within same e is (inl before) =
            absurd (apart (sym (others i (record { letter = d; mode = 0 }) (omega arith) before)
            ∙ ap (λ letter. (properties letter).ordered) (sym same) ∙ is))
        not_before i within same e is (inr from) = from

    below : InsertedBelowUnordered (letters_of levels) → All Inserts (drop (first + 1) levels)
    below rule k d h =
        let count = length-map levels (λ level. level.letter) in
        let left = length-drop (first + 1) levels in
        let within : first + 1 + k < length levels = omega (arith, h, left) in
        let unordered : (properties (slice_index_or (letters_of levels) first d.letter)).ordered ≡ false =
        ap (λ letter. (properties letter).ordered) (letter_at levels first d.letter inside)
        ∙ here (record { letter = d.letter; mode = 0 }) in
        let inserts = rule first (first + 1 + k) d.letter (omega arith) (omega (arith, within, count)) unordered in
        let same = get_or-drop (first + 1) levels k d in
        let at = get_or-map (λ level. level.letter) levels (first + 1 + k) d d.letter within in
        ap (λ level. (capabilities level.letter).insert) same ∙ ap (λ letter. (capabilities letter).insert) (sym at) ∙ inserts
