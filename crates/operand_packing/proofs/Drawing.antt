-- Where each tensor stores the entries of the operand of its own number, the operands are as they stand.
use Rattle.std.specs.Prelude.{◌≡◌, ℕ, zero, suc, ◌+◌, ◌≤◌, ◌<◌, List, [], ◌∷◌, ◌++◌, length, map, All, Some, slice_get, refl}
use Rattle.std.specs.List.{range_with_len}
use Rattle.std.proofs.Common.{◌∙◌, ap, arith}
use Rattle.std.proofs.lemmas.List.Elements.{All-nil, All-cons}
use Rattle.tensor_map.specs.Entries.{Entries}
use Rattle.operand_packing.specs.Drawn.{HaveOperands, drawn, or_no_entries}
use Rattle.operand_packing.specs.Operands.{operand_of}

mapped_range : {X : Type 0} (f : ℕ → X) (from : ℕ) (xs : List X) → ((n : ℕ) (x : X) → slice_get xs n ≡ Some x → f (from + n) ≡ x)
    → map f (range_with_len from (length xs)) ≡ xs
mapped_range f from [] each = refl
mapped_range f from (x ∷ xs) each =
    let here : from ≡ from + 0 = omega arith in
    let first : f from ≡ x = ap f here ∙ each 0 x refl in
    let rest = mapped_range f (from + 1) xs (λ n y is.
    let next : from + 1 + n ≡ from + suc n = omega arith in ap f next ∙ each (suc n) y is) in
    λ i. first i ∷ rest i

pub drawn_self : (operands : List Entries) → drawn (range_with_len 1 (length operands)) operands ≡ operands
drawn_self operands = mapped_range (λ origin. or_no_entries (operand_of operands origin)) 1 operands (λ n e is.
    let next : 1 + n ≡ suc n = omega arith in
    ap (λ k. or_no_entries (operand_of operands k)) next ∙ ap or_no_entries is)

in_range : (most from count : ℕ) → 0 < from → from + count ≤ most + 1
    → All (λ origin. (0 < origin) × (origin ≤ most)) (range_with_len from count)
in_range most from zero some within = All-nil (λ origin. (0 < origin) × (origin ≤ most))
in_range most from (suc count) some within =
    All-cons (λ origin. (0 < origin) × (origin ≤ most)) from (range_with_len (from + 1) count) (some, omega (arith, within))
    (in_range most (from + 1) count (omega arith) (omega (arith, within)))

pub own_operands : (operands : List Entries) → HaveOperands (range_with_len 1 (length operands)) operands
own_operands operands = in_range (length operands) 1 (length operands) (omega arith) (omega arith)

range_more : (from count : ℕ) → range_with_len from (suc count) ≡ range_with_len from count ++ (from + count) ∷ []
range_more from zero = let same : from ≡ from + 0 = omega arith in ap (λ n. n ∷ []) same
range_more from (suc count) =
    let same : from + 1 + count ≡ from + suc count = omega arith in
    ap (λ ns. from ∷ ns) (range_more (from + 1) count ∙ ap (λ n. range_with_len (from + 1) count ++ n ∷ []) same)

pub next_number : (count : ℕ) → range_with_len 1 (count + 1) ≡ range_with_len 1 count ++ (count + 1) ∷ []
next_number count =
    let more : count + 1 ≡ suc count = omega arith in
    let same : 1 + count ≡ count + 1 = omega arith in
    ap (range_with_len 1) more ∙ range_more 1 count ∙ ap (λ n. range_with_len 1 count ++ n ∷ []) same
