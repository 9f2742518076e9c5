-- The answer to letters and an order, of its parts.
use Rattle.std.specs.Prelude.{◌≡◌, ◌⊎◌, ℕ, false, List, length, Option, Some, None, Result, Ok, Err, MatchResult}
use Rattle.std.proofs.Common.{◌∙◌, sym, ap, subst, inl, inr}
use Rattle.std.proofs.lemmas.List.{length-map}
use Rattle.format_spec.specs.declared.fault.FormatFault.{FormatFault}
use Rattle.format_spec.specs.declared.fault.FormatFault.TheVariants.{BadChain, BelowHashed}
use Rattle.format_spec.specs.Formats.{FormatLevel, IsOrder, letters_of, modes_of, Chained, InsertedBelowUnordered}
use Rattle.format_spec.specs.Words.{HasOrder, Reads, Answers}
use Rattle.format_spec.proofs.Counting.{standing_is_order}

pub is_order : (text : Option (List ℕ)) (n : ℕ) (modes : List ℕ) → HasOrder text n modes → IsOrder n modes
is_order None n modes is = subst (IsOrder n) (sym is) (standing_is_order n)
is_order (Some text) n modes is = is.0

-- there are as many levels as modes
pub level_count : (n : ℕ) (levels : List FormatLevel) (modes : List ℕ) → modes_of levels ≡ modes → IsOrder n modes → length levels ≡ n
level_count n levels modes are order = sym (length-map levels (λ level. level.mode)) ∙ ap length are ∙ order.count

pub level_order : (n : ℕ) (levels : List FormatLevel) (modes : List ℕ) → modes_of levels ≡ modes → IsOrder n modes
    → IsOrder (length levels) (modes_of levels)
level_order n levels modes are order =
    subst (λ count. IsOrder count (modes_of levels)) (sym (level_count n levels modes are order)) (subst (IsOrder n) (sym are) order)

abbrev pub Stands : List FormatLevel → Result (List FormatLevel) FormatFault → Type 0
Stands levels r = MatchResult r
    (λ format. (format ≡ levels) × Chained false (letters_of levels) × InsertedBelowUnordered (letters_of levels))
    (λ fault. ((fault ≡ BadChain) × (Chained false (letters_of levels) → ⊥)) ⊎ ((fault ≡ BelowHashed) × Chained false (letters_of levels)
    × (InsertedBelowUnordered (letters_of levels) → ⊥)))

pub answered : (letters : List ℕ) (order : Option (List ℕ)) (n : ℕ) (levels : List FormatLevel)
    (r : Result (List FormatLevel) FormatFault) → Reads letters order n (letters_of levels) (modes_of levels) → Stands levels r
    → Answers letters order n r
answered letters order n levels (Ok format) reads stands =
    subst (λ f. Answers letters order n (Ok f)) (sym stands.0) (reads, stands.1, stands.2)
answered letters order n levels (Err fault) reads (inl chain) =
    subst (λ f. Answers letters order n (Err f)) (sym chain.0) (letters_of levels, modes_of levels, reads, chain.1)
answered letters order n levels (Err fault) reads (inr below) =
    subst (λ f. Answers letters order n (Err f)) (sym below.0) (letters_of levels, modes_of levels, reads, below.1, below.2)
