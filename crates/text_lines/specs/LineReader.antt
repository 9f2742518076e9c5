-- What contracts see of a reader of lines, and what its calls do.
use Rattle.std.specs.Prelude.{◌≡◌, ◌≤◌, ℕ, ◌∷◌, [], ◌++◌, List, length, take, true, false}
use Rattle.text_lines.specs.Lines.{lines}
use Rattle.text_lines.specs.Cutting.{begun_line, has_long_line, told_lines}
use Rattle.text_lines.specs.declared.step.Step.{Step}
use Rattle.text_lines.specs.declared.step.Step.TheVariants.{Line, NeedMore, LongLine}

pub record LineReader : Type 0 where
  -- the bytes that it has taken so far, and a line feed where `finish` ended a line
  pub text : List ℕ
  -- the line that it told last, until it takes more
  pub line : List ℕ

-- one more line has ended just now, this one, and no line is too long
pub record TellsThis (old new : LineReader) (line : List ℕ) : Type 0 where
  pub told : told_lines new.text ≡ told_lines old.text ++ line ∷ []
  pub ended : begun_line new.text ≡ []
  pub short : has_long_line new.text ≡ false

-- one more line has ended just now, which the reader lends, and no line is too long
abbrev pub TellsLine : LineReader → LineReader → Type 0
TellsLine old new = TellsThis old new new.line

-- no line has begun that hasn't ended, and none is too long
pub record IsBetweenLines (reader : LineReader) : Type 0 where
  pub begun : begun_line reader.text ≡ []
  pub short : has_long_line reader.text ≡ false

-- the first n bytes of a piece were taken, which are a line with its end
pub record TakesWhole (old new : LineReader) (piece : List ℕ) (n : ℕ) (line : List ℕ) : Type 0 where
  pub within : n ≤ length piece
  pub text : new.text ≡ old.text ++ take n piece
  pub tells : TellsThis old new line

-- no further line has ended, and no line is too long
pub record NeedsMore (old new : LineReader) : Type 0 where
  pub told : told_lines new.text ≡ told_lines old.text
  pub short : has_long_line new.text ≡ false

-- no further line is told: a line is too long
pub record IsTooLong (old new : LineReader) : Type 0 where
  pub told : told_lines new.text ≡ told_lines old.text
  pub long : has_long_line new.text ≡ true

-- what the first n bytes of a piece came to: all of it but where a line ends
abbrev pub Feeds : LineReader → LineReader → List ℕ → ℕ → Step → Type 0
Feeds old new piece n Line = TellsLine old new
Feeds old new piece n NeedMore = NeedsMore old new × (n ≡ length piece)
Feeds old new piece n LongLine = IsTooLong old new × (n ≡ length piece)

-- what the end of the text came to. All lines of the text are told then, unless one is too long
abbrev pub Finishes : LineReader → LineReader → Step → Type 0
Finishes old new Line = TellsLine old new × (new.text ≡ old.text ++ 10 ∷ []) × (told_lines new.text ≡ lines old.text)
Finishes old new NeedMore = NeedsMore old new × (new.text ≡ old.text) × (told_lines new.text ≡ lines old.text)
Finishes old new LongLine = IsTooLong old new × (new.text ≡ old.text)
