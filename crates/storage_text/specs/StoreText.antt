-- The text of a packed tensor, line by line: its format, the arrays of each level from the top, and the values.
use Rattle.std.specs.Prelude.{ℕ, suc, Bool, codes, List, [], ◌∷◌, ◌++◌, Option, Some, None}
use Rattle.std.specs.List.{flat_map}
use Rattle.std.specs.Fmt.{decimal, signed_decimal}
use Rattle.numbers.specs.Signed.{written_of}
use Rattle.level_core.specs.declared.letter.Letter.{Letter}
use Rattle.level_core.specs.declared.arrays.LevelArray.{LevelArray}
use Rattle.level_core.specs.declared.arrays.LevelArray.TheVariants.{Dimension as OfSize, Ends as OfEnds}
use Rattle.level_core.specs.declared.arrays.LevelArray.TheVariants.{Coordinates as OfCoordinates, Width as OfWidth}
use Rattle.hashed_level.specs.Slots.{coord_of}
use Rattle.format_spec.specs.Words.{letter_byte, format_text}
use Rattle.tensor_storage.specs.declared.level.StorageLevel.{StorageLevel}
use Rattle.tensor_storage.specs.Levels.{meaning}
use Rattle.tensor_storage.specs.Storages.{Storage}

-- a number behind a blank
abbrev pub number_text : ℕ → List ℕ
number_text n = codes " " ++ decimal n

-- a coordinate behind a blank, or a minus in an empty slot
abbrev pub place_text : Option ℕ → List ℕ
place_text None = codes " -"
place_text (Some x) = number_text x

-- a value behind a blank, with its sign where values have one
abbrev pub value_text : Bool → ℕ → List ℕ
value_text signed v = codes " " ++ signed_decimal (written_of signed v)

-- what a line of the level of this number and kind begins with
abbrev pub head_text : ℕ → Letter → List ℕ
head_text number letter = codes "level " ++ (decimal number ++ (codes " " ++ letter_byte letter ∷ []))

-- the word that names an array behind a blank; the range of a level has none
abbrev pub array_text : LevelArray → List ℕ
array_text OfSize = []
array_text OfEnds = codes " pos"
array_text OfWidth = codes " width"
array_text OfCoordinates = codes " crd"

-- a word of an array behind a blank; the last word, which empty slots hold, is a minus
abbrev pub word_text : ℕ → List ℕ
word_text word = place_text (coord_of word)

-- the line of these words of an array
abbrev pub words_line : ℕ → Letter → LevelArray → List ℕ → List ℕ
words_line number letter array words = head_text number letter ++ (array_text array ++ flat_map word_text words)

-- the line of an array, where there is one
abbrev pub line_of : ℕ → Letter → LevelArray → Option (List ℕ) → List (List ℕ)
line_of number letter array None = []
line_of number letter array (Some words) = words_line number letter array words ∷ []

-- the same of an array of the level of this number
abbrev pub array_lines : ℕ → StorageLevel → LevelArray → List (List ℕ)
array_lines number l array = line_of number (meaning.kind l) array (meaning.words l array)

-- the words, if there are any
abbrev pub all_words : Option (List ℕ) → List ℕ
all_words None = []
all_words (Some words) = words

-- the lines of the level of this number: of each array that it has
abbrev pub level_lines : ℕ → StorageLevel → List (List ℕ)
level_lines number l =
    array_lines number l OfSize ++ (array_lines number l OfEnds ++ (array_lines number l OfWidth ++ array_lines number l OfCoordinates))

-- the lines of the levels from the one of this number on
abbrev pub lines_from : ℕ → List StorageLevel → List (List ℕ)
lines_from number [] = []
lines_from number (l ∷ ls) = level_lines number l ++ lines_from (suc number) ls

-- the line of a tensor's name and format
abbrev pub first_line : ℕ → List ℕ → Storage → List ℕ
first_line number name storage =
    codes "T" ++ (decimal number ++ (codes " = " ++ (name ++ (codes ":" ++ format_text storage.format))))

-- the line of the values
abbrev pub values_line : Bool → Storage → List ℕ
values_line signed storage = codes "val" ++ flat_map (value_text signed) storage.values

-- the lines of a tensor of this number and name
abbrev pub store_lines : Bool → ℕ → List ℕ → Storage → List (List ℕ)
store_lines signed number name storage = first_line number name storage ∷ (lines_from 1 storage.levels ++ values_line signed storage ∷ [])

-- lines one after another, each ended by a line feed
abbrev pub text_of : List (List ℕ) → List ℕ
text_of lines = flat_map (λ line. line ++ 10 ∷ []) lines

-- the text of a tensor, whose values have a sign or none
abbrev pub store_text : Bool → ℕ → List ℕ → Storage → List ℕ
store_text signed number name storage = text_of (store_lines signed number name storage)
