-- The format that letters and an order stand for, and why there is none.
use Rattle.std.specs.Prelude.{◌≡◌, ◌≢◌, ℕ, ◌+◌, false, List, [], ◌∷◌}
use Rattle.std.specs.Prelude.{◌++◌, length, map, Option, Some, None, Result, Ok, Err}
use Rattle.level_core.specs.declared.letter.Letter.{Letter}
use Rattle.level_core.specs.declared.letter.Letter.TheVariants.{Dense, Compressed, CompressedGroups, Singleton, SingletonGroups, Hashed}
pub use Rattle.format_spec.specs.declared.fault.FormatFault.{FormatFault}
use Rattle.format_spec.specs.declared.fault.FormatFault.TheVariants.{BadLetter, BadLength, BadOrder, BadChain, BelowHashed}
use Rattle.format_spec.specs.Formats.{FormatLevel, letters_of, modes_of, IsOrder, Chained, InsertedBelowUnordered, standing}

-- the byte of a kind's letter: `d`, `s`, `u`, `q`, `c` or `h`
abbrev pub letter_byte : Letter → ℕ
letter_byte Dense = 100
letter_byte Compressed = 115
letter_byte CompressedGroups = 117
letter_byte Singleton = 113
letter_byte SingletonGroups = 99
letter_byte Hashed = 104

-- each of these modes behind a comma
abbrev pub more_modes : List ℕ → List ℕ
more_modes [] = []
more_modes (mode ∷ modes) = 44 ∷ (48 + mode) ∷ more_modes modes

-- modes as single digits joined by commas
abbrev pub mode_text : List ℕ → List ℕ
mode_text [] = []
mode_text (mode ∷ modes) = (48 + mode) ∷ more_modes modes

-- the text of a format: its letters, a colon, and its modes
abbrev pub format_text : List FormatLevel → List ℕ
format_text levels = map letter_byte (letters_of levels) ++ 58 ∷ mode_text (modes_of levels)

-- the letters are those of the kinds
abbrev pub AreLetters : List ℕ → List Letter → Type 0
AreLetters letters kinds = letters ≡ map letter_byte kinds

-- the modes of a tensor of order n in the order of a text, or in their own order where there is no text
abbrev pub HasOrder : Option (List ℕ) → ℕ → List ℕ → Type 0
HasOrder None n modes = modes ≡ standing n
HasOrder (Some text) n modes = IsOrder n modes × (text ≡ mode_text modes)

-- letters for n levels, and an order
pub record Reads (letters : List ℕ) (order : Option (List ℕ)) (n : ℕ) (kinds : List Letter) (modes : List ℕ) : Type 0 where
  pub letters_are : AreLetters letters kinds
  pub count : length kinds ≡ n
  pub modes_are : HasOrder order n modes

-- the answer to letters and an order for a tensor of order n: the format, or the first fault
abbrev pub Answers : List ℕ → Option (List ℕ) → ℕ → Result (List FormatLevel) FormatFault → Type 0
Answers letters order n (Ok levels) = Reads letters order n (letters_of levels) (modes_of levels) ×
    Chained false (letters_of levels) × InsertedBelowUnordered (letters_of levels)
Answers letters order n (Err BadLetter) = (kinds : List Letter) → AreLetters letters kinds → ⊥
Answers letters order n (Err BadLength) = (kinds : List Letter) × AreLetters letters kinds × (length kinds ≢ n)
Answers letters order n (Err BadOrder) = (kinds : List Letter) × AreLetters letters kinds × (length kinds ≡ n) ×
    ((modes : List ℕ) → HasOrder order n modes → ⊥)
Answers letters order n (Err BadChain) = (kinds : List Letter) × (modes : List ℕ) × Reads letters order n kinds modes ×
    (Chained false kinds → ⊥)
Answers letters order n (Err BelowHashed) = (kinds : List Letter) × (modes : List ℕ) × Reads letters order n kinds modes ×
    Chained false kinds × (InsertedBelowUnordered kinds → ⊥)
