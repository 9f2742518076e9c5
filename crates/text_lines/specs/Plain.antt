-- Plainly written lines: numbers of digits alone, each with a space behind it, and a value of digits with a minus or none.
use Rattle.std.specs.Prelude.{◌≡◌, ◌⊎◌, ℕ, ℤ, ◌^◌, ◌<◌, List, [], ◌∷◌, ◌++◌, length, map, take, Some, Ok}
use Rattle.std.specs.List.{All, position}
use Rattle.std.specs.Str.Lines.{strip_carriage_return}
use Rattle.text_lines.specs.Lines.{is_line_feed}
use Rattle.text_lines.specs.Numbers.{number_of, read_whole_of}
use Rattle.text_lines.specs.PrintedLaws.{IsFilled}
use Rattle.text_lines.specs.TokenLaws.{joined_tokens}
use Rattle.text_lines.specs.Tokens.{tokens}

-- the last of these tokens is this value, and those before it are these numbers, of digits alone
pub record AreNumbers (tokens : List (List ℕ)) (numbers : List ℕ) (value : ℤ) : Type 0 where
  pub words : List (List ℕ)
  pub last : List ℕ
  pub tokens_are : tokens ≡ words ++ last ∷ []
  pub numbers_are : map number_of words ≡ map Some numbers
  pub value_is : read_whole_of last ≡ Ok value

-- a token of digits alone stands for this number of 63 bits
pub record IsNumber (token : List ℕ) (number : ℕ) : Type 0 where
  pub is : number_of token ≡ Some number
  pub small : number < 2 ^ 63

-- a text begins with digits that stand for this number, and goes on with these bytes
pub record BeginsWith (text : List ℕ) (number : ℕ) (rest : List ℕ) : Type 0 where
  pub token : List ℕ
  pub text_is : text ≡ token ++ rest
  pub number_is : IsNumber token number

-- a text begins with tokens that stand for these numbers, each with a space behind it, and goes on with these bytes
pub record LeadsWith (text numbers rest : List ℕ) : Type 0 where
  pub words : List (List ℕ)
  pub text_is : text ≡ joined_tokens words ++ rest
  pub numbers_are : map number_of words ≡ map Some numbers

-- a text begins with digits and a minus or none, which stand for this value, and goes on with these bytes
pub record BeginsWithValue (text : List ℕ) (value : ℤ) (rest : List ℕ) : Type 0 where
  pub token : List ℕ
  pub text_is : text ≡ token ++ rest
  pub some : 0 < length token
  pub filled : All IsFilled token
  pub value_is : read_whole_of token ≡ Ok value

-- a line feed stands behind so many bytes, of which a carriage return may be one and no other
pub record EndsLine (text : List ℕ) (count : ℕ) : Type 0 where
  pub return : List ℕ
  pub rest : List ℕ
  pub text_is : text ≡ return ++ 10 ∷ rest
  pub long : length return ≡ count
  pub bare : (return ≡ []) ⊎ (return ≡ 13 ∷ [])

-- the line that a text begins with ends here, and its tokens are these numbers and this value
pub record IsPlainLine (text numbers : List ℕ) (end : ℕ) (value : ℤ) : Type 0 where
  pub ends : Some end ≡ position is_line_feed text
  pub numbers_are : AreNumbers (tokens (strip_carriage_return (take end text))) numbers value
