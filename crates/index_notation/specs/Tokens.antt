-- The tokens of a statement's text: its names, numbers and marks, with spaces and tabs anywhere between them.
use Rattle.std.specs.Prelude.{◌≡◌, ℕ, Bool, true, false, ◌||◌, ◌==◌, if◌then◌else◌}
use Rattle.std.specs.Prelude.{Option, Some, None, List, [], ◌∷◌, ◌++◌}
use Rattle.std.specs.Char.{is_ascii_alphabetic, is_ascii_alphanumeric, is_ascii_digit}
use Rattle.index_notation.specs.declared.token.Mark.{Mark}
use Rattle.index_notation.specs.declared.token.Mark.TheVariants.{Equals, PlusEquals, Plus, Minus, Times, Open, Close, Comma}
use Rattle.index_notation.specs.declared.token.Token.{Token}
use Rattle.index_notation.specs.declared.token.Token.TheVariants.{Name as NameToken, Number as NumberToken, Mark as MarkToken}
use Rattle.lists.specs.Blanks.{is_blank}

-- a letter, a digit or an underscore, with which a name goes on
abbrev pub goes_on : ℕ → Bool
goes_on byte = is_ascii_alphanumeric byte || (byte == 95)

-- what stands behind the blanks at a text's front
abbrev pub behind_blanks : List ℕ → List ℕ
behind_blanks [] = []
behind_blanks (byte ∷ text) = if is_blank byte then behind_blanks text else byte ∷ text

-- a text begins with a byte that passes the test
abbrev pub BeginsWith : (ℕ → Bool) → List ℕ → Type 0
BeginsWith test [] = ⊥
BeginsWith test (byte ∷ text) = test byte ≡ true

-- a text is empty, or begins with a byte that doesn't pass the test
abbrev pub StopsAt : (ℕ → Bool) → List ℕ → Type 0
StopsAt test [] = Unit {0}
StopsAt test (byte ∷ text) = test byte ≡ false

-- each byte of a text passes the test
abbrev pub EachPasses : (ℕ → Bool) → List ℕ → Type 0
EachPasses test [] = Unit {0}
EachPasses test (byte ∷ text) = (test byte ≡ true) × EachPasses test text

-- bytes that pass a test, taken as long as possible before `rest`, of which the first passes another too
pub record IsLongest (first test : ℕ → Bool) (bytes rest : List ℕ) : Type 0 where
  pub begins : BeginsWith first bytes
  pub each : EachPasses test bytes
  pub stops : StopsAt test rest

-- the bytes that are a mark: `= += + - * ( ) ,`
abbrev pub bytes_of : Mark → List ℕ
bytes_of Equals = 61 ∷ []
bytes_of PlusEquals = 43 ∷ 61 ∷ []
bytes_of Plus = 43 ∷ []
bytes_of Minus = 45 ∷ []
bytes_of Times = 42 ∷ []
bytes_of Open = 40 ∷ []
bytes_of Close = 41 ∷ []
bytes_of Comma = 44 ∷ []

abbrev pub is_equals : ℕ → Bool
is_equals byte = byte == 61

-- the mark behind whose `+` this text stands
abbrev pub plus_before : List ℕ → Mark
plus_before [] = Plus
plus_before (byte ∷ text) = if is_equals byte then PlusEquals else Plus

-- the mark that a text begins with, taken as long as possible
abbrev pub mark_at : List ℕ → Option Mark
mark_at [] = None
mark_at (b ∷ text) =
    if is_equals b then Some Equals else (if b == 43 then Some (plus_before text) else (if b == 45 then Some Minus else
    (if b == 42 then Some Times else (if b == 40 then Some Open else (if b == 41 then Some Close else
    (if b == 44 then Some Comma else None))))))

-- the bytes of a token
abbrev pub spelling : Token → List ℕ
spelling (NameToken name) = name.bytes
spelling (NumberToken digits) = digits
spelling (MarkToken mark) = bytes_of mark

-- a `+` is taken with a `=` behind it
abbrev pub IsWhole : Mark → List ℕ → Type 0
IsWhole Plus rest = StopsAt is_equals rest
IsWhole mark rest = Unit {0}

-- a name is a letter and what goes on in a name, a number is digits, and each token is taken as long as possible
abbrev pub StandsBefore : Token → List ℕ → Type 0
StandsBefore (NameToken name) rest = IsLongest is_ascii_alphabetic goes_on name.bytes rest
StandsBefore (NumberToken digits) rest = IsLongest is_ascii_digit is_ascii_digit digits rest
StandsBefore (MarkToken mark) rest = IsWhole mark rest

-- behind its blanks a text is this token, and then the rest
pub record IsNext (text : List ℕ) (token : Token) (rest : List ℕ) : Type 0 where
  pub spelled : behind_blanks text ≡ spelling token ++ rest
  pub stands : StandsBefore token rest
