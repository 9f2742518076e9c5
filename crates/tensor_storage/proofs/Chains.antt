-- Chains of levels with groups.
use Rattle.std.specs.Prelude.{◌≡◌, ℕ, suc, ◌+◌, ◌≤◌, ◌<◌, Bool, true, false, if◌then◌else◌, List, [], ◌∷◌, length, drop}
use Rattle.std.proofs.Common.{◌∙◌, ap, arith, get_or, drop_of_length-le}
use Rattle.std.proofs.lemmas.List.{length-map}
use Rattle.level_core.specs.declared.letter.Letter.{Letter}
use Rattle.level_core.specs.Kinds.{properties}
use Rattle.format_spec.specs.declared.format.FormatLevel.{FormatLevel}
use Rattle.format_spec.specs.Formats.{letters_of}
use Rattle.tensor_storage.specs.Chains.{chain_length}
use Rattle.tensor_storage.proofs.Paths.{drop_map}

pub chain_of_unique : (letter : Letter) (letters : List Letter) → (properties letter).unique ≡ true → chain_length (letter ∷ letters) ≡ 1
chain_of_unique letter letters is = ap (λ b. if b then 1 else chain_length letters + 1) is

pub chain_of_groups : (letter : Letter) (letters : List Letter) → (properties letter).unique ≡ false
    → chain_length (letter ∷ letters) ≡ chain_length letters + 1
chain_of_groups letter letters is = ap (λ b. if b then 1 else chain_length letters + 1) is

pub chain_some : (letters : List Letter) → 0 < chain_length letters
chain_some [] = omega arith
chain_some (letter ∷ letters) = by_unique (properties letter).unique
  where
    by_unique : (b : Bool) → 0 < (if b then 1 else chain_length letters + 1)
    by_unique true = omega arith
    by_unique false = omega arith

module _ (format : List FormatLevel) (end : ℕ) (d : FormatLevel) (within : end < length format) where
  pub letter_left : drop end (letters_of format) ≡ (get_or format end d).letter ∷ drop (suc end) (letters_of format)
  letter_left = drop_map (λ level. level.letter) format end d within

  pub chain_here : (properties (get_or format end d).letter).unique ≡ true → chain_length (drop end (letters_of format)) ≡ 1
  chain_here is = ap chain_length letter_left ∙ chain_of_unique (get_or format end d).letter (drop (suc end) (letters_of format)) is

  pub chain_more : (properties (get_or format end d).letter).unique ≡ false
      → chain_length (drop end (letters_of format)) ≡ chain_length (drop (suc end) (letters_of format)) + 1
  chain_more is = ap chain_length letter_left ∙ chain_of_groups (get_or format end d).letter (drop (suc end) (letters_of format)) is

pub chain_past : (format : List FormatLevel) (end : ℕ) → length format ≤ end → chain_length (drop end (letters_of format)) ≡ 1
chain_past format end past =
    ap chain_length (drop_of_length-le (letters_of format) {i = end}
    (let long = length-map format (λ level. level.letter) in omega (arith, long, past)))
