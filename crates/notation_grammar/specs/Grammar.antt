-- The grammar of statements, as the symbols of a syntax tree, each with its role.
--   statement = access ("=" | "+=") sum end
--   sum       = product { ("+" | "-") product }, grouped to the left
--   product   = factor { "*" factor }, grouped to the left
--   factor    = number | access | "(" sum ")" | "-" factor | "sum" "(" variable "," sum ")"
--   access    = name [ "(" variable { "," variable } ")" ]
-- The name `sum` is no tensor's.
use Rattle.std.specs.Prelude.{◌≡◌, ℕ, suc, Bool, true, false, bytes_eq, List, [], ◌∷◌, ◌++◌}
use Rattle.index_notation.specs.declared.syntax.Name.{Name}
use Rattle.index_notation.specs.declared.token.Mark.{Mark}
use Rattle.index_notation.specs.declared.token.Mark.TheVariants.{Equals, PlusEquals, Plus, Minus, Times, Open, Close, Comma}
use Rattle.index_notation.specs.declared.token.Token.{Token}
use Rattle.index_notation.specs.declared.token.Token.TheVariants.{Name as NameToken, Number as NumberToken, Mark as MarkToken}
use Rattle.index_notation.specs.declared.token.WrittenAccess.{WrittenAccess}
pub use Rattle.index_notation.specs.Numbering.{sum_name}
use Rattle.notation_grammar.specs.declared.symbol.Symbol.{Symbol}
use Rattle.notation_grammar.specs.declared.symbol.Symbol.TheVariants.{Lexeme, End}

-- trees keep brackets and prefix minuses
mutual
  pub data Factor : Type 0 where
    Digits : List ℕ → Factor
    Read : WrittenAccess → Factor
    Bracketed : Sum → Factor
    Negated : Factor → Factor
    Summed : Name → Sum → Factor

  pub data Product : Type 0 where
    Lone : Factor → Product
    Multiplied : Product → Factor → Product

  pub data Sum : Type 0 where
    Alone : Product → Sum
    Added : Sum → Product → Sum
    Taken : Sum → Product → Sum

abbrev pub is_sum : Name → Bool
is_sum name = bytes_eq name.bytes sum_name.bytes

-- no access has that name
abbrev mutual
  pub FactorNames : Factor → Type 0
  FactorNames (Digits digits) = Unit {0}
  FactorNames (Read access) = is_sum access.name ≡ false
  FactorNames (Bracketed sum) = SumNames sum
  FactorNames (Negated factor) = FactorNames factor
  FactorNames (Summed var sum) = SumNames sum

  pub ProductNames : Product → Type 0
  ProductNames (Lone factor) = FactorNames factor
  ProductNames (Multiplied product factor) = ProductNames product × FactorNames factor

  pub SumNames : Sum → Type 0
  SumNames (Alone product) = ProductNames product
  SumNames (Added sum product) = SumNames sum × ProductNames product
  SumNames (Taken sum product) = SumNames sum × ProductNames product

-- an access, and whether the right side is added to its old tensor
pub record LeftSide : Type 0 where
  pub access : WrittenAccess
  pub accumulate : Bool

pub record Tree : Type 0 where
  pub left : LeftSide
  pub right : Sum

pub record HasNames (tree : Tree) : Type 0 where
  pub left : is_sum tree.left.access.name ≡ false
  pub right : SumNames tree.right

-- what a symbol does in its sentence: it names an access of the left or right side, is the n-th variable of its
-- access, is the variable of a nested sum, is a number, opens the n-th level, or none of these
pub data Role : Type 0 where
  NamesLeft : Role
  NamesRight : Role
  IsVariable : ℕ → Role
  Binds : Role
  IsNumber : Role
  Opens : ℕ → Role
  Plain : Role

-- a symbol as it is written in a sentence
pub record Written : Type 0 where
  pub symbol : Symbol
  pub role : Role

abbrev pub written : Token → Role → Written
written token role = record { symbol = Lexeme token; role = role }

abbrev pub plain : Mark → Written
plain mark = written (MarkToken mark) Plain

abbrev pub the_end : Written
the_end = record { symbol = End; role = Plain }

-- the variables behind the first one, the first of them being the n-th, and the bracket that closes
abbrev pub more_variables : ℕ → List Name → List Written
more_variables n [] = plain Close ∷ []
more_variables n (var ∷ vars) = plain Comma ∷ written (NameToken var) (IsVariable n) ∷ more_variables (suc n) vars

-- variables in brackets; no variables have no brackets
abbrev pub in_brackets : List Name → List Written
in_brackets [] = []
in_brackets (var ∷ vars) = plain Open ∷ written (NameToken var) (IsVariable 1) ∷ more_variables 2 vars

abbrev pub access_of : Role → WrittenAccess → List Written
access_of role access = written (NameToken access.name) role ∷ in_brackets access.vars

-- the symbols of a factor, a product and a sum, where n levels are open before it
abbrev mutual
  pub factor_of : ℕ → Factor → List Written
  factor_of n (Digits digits) = written (NumberToken digits) IsNumber ∷ []
  factor_of n (Read access) = access_of NamesRight access
  factor_of n (Bracketed sum) = written (MarkToken Open) (Opens (suc n)) ∷ (sum_of (suc n) sum ++ (plain Close ∷ []))
  factor_of n (Negated factor) = written (MarkToken Minus) (Opens (suc n)) ∷ factor_of (suc n) factor
  factor_of n (Summed var sum) =
      written (NameToken sum_name) Plain ∷ written (MarkToken Open) (Opens (suc n)) ∷ written (NameToken var) Binds ∷ plain Comma ∷
      (sum_of (suc n) sum ++ (plain Close ∷ []))

  pub product_of : ℕ → Product → List Written
  product_of n (Lone factor) = factor_of n factor
  product_of n (Multiplied product factor) = product_of n product ++ (plain Times ∷ factor_of n factor)

  pub sum_of : ℕ → Sum → List Written
  sum_of n (Alone product) = product_of n product
  sum_of n (Added sum product) = sum_of n sum ++ (plain Plus ∷ product_of n product)
  sum_of n (Taken sum product) = sum_of n sum ++ (plain Minus ∷ product_of n product)

-- the mark behind the left side
abbrev pub assigning : Bool → Mark
assigning false = Equals
assigning true = PlusEquals

-- the left side and its mark
abbrev pub left_of : LeftSide → List Written
left_of left = access_of NamesLeft left.access ++ (plain (assigning left.accumulate) ∷ [])

abbrev pub sentence_of : Tree → List Written
sentence_of tree = (left_of tree.left ++ sum_of 0 tree.right) ++ (the_end ∷ [])

-- the symbols alone
abbrev pub symbols : List Written → List Symbol
symbols [] = []
symbols (m ∷ ms) = m.symbol ∷ symbols ms

-- some sentence begins with these symbols in these roles
pub record Begins (ms : List Written) : Type 0 where
  pub tree : Tree
  pub names : HasNames tree
  pub rest : List Written
  pub is : ms ++ rest ≡ sentence_of tree
