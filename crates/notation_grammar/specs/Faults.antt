-- The first faulty symbol of a text, and its fault. A symbol's faults are tried in this order: that no sentence begins
-- with the symbols up to it; that it opens a level too many; that it is one too many; that it is too large a number.
use Rattle.std.specs.Prelude.{◌≡◌, ℕ, ◌+◌, ◌-◌, ◌*◌, nat_lt, if◌then◌else◌}
use Rattle.std.specs.Prelude.{Option, Some, None, List, [], ◌∷◌, ◌++◌, length}
use Rattle.limits.specs.Limits.{greatest_nesting, greatest_order, greatest_variables, greatest_accesses, greatest_operands}
use Rattle.limits.specs.Limits.{greatest_literal}
use Rattle.index_notation.specs.Numbering.{distinct}
use Rattle.index_notation.specs.declared.syntax.Name.{Name}
use Rattle.index_notation.specs.declared.token.Token.TheVariants.{Name as NameToken, Number as NumberToken}
use Rattle.notation_grammar.specs.declared.symbol.PlacedSymbol.{PlacedSymbol}
use Rattle.notation_grammar.specs.declared.symbol.Symbol.{Symbol}
use Rattle.notation_grammar.specs.declared.symbol.Symbol.TheVariants.{Lexeme}
use Rattle.notation_grammar.specs.declared.fault.Counted.TheVariants.{Order, Variables, Accesses, Operands}
use Rattle.notation_grammar.specs.declared.fault.SymbolFault.{SymbolFault}
use Rattle.notation_grammar.specs.declared.fault.SymbolFault.TheVariants.{BadNotation, TooDeep, TooMany, LiteralRange}
use Rattle.notation_grammar.specs.Grammar.{Tree, Role, NamesRight, IsVariable, Binds, IsNumber, Opens, Written, sentence_of}
use Rattle.notation_grammar.specs.Grammar.{symbols, Begins, HasNames}

-- the variable that a symbol is, and how many accesses of the right side and operands
abbrev pub variable_at : Role → Symbol → List Name
variable_at (IsVariable n) (Lexeme (NameToken name)) = name ∷ []
variable_at Binds (Lexeme (NameToken name)) = name ∷ []
variable_at _ _ = []

abbrev pub access_at : Role → ℕ
access_at NamesRight = 1
access_at _ = 0

abbrev pub operand_at : Role → ℕ
operand_at NamesRight = 1
operand_at IsNumber = 1
operand_at _ = 0

abbrev pub variables_in : List Written → List Name
variables_in [] = []
variables_in (m ∷ ms) = variable_at m.role m.symbol ++ variables_in ms

abbrev pub accesses_in : List Written → ℕ
accesses_in [] = 0
accesses_in (m ∷ ms) = access_at m.role + accesses_in ms

abbrev pub operands_in : List Written → ℕ
operands_in [] = 0
operands_in (m ∷ ms) = operand_at m.role + operands_in ms

-- the number that digits write behind those of n
abbrev pub value_after : ℕ → List ℕ → ℕ
value_after n [] = n
value_after n (digit ∷ digits) = value_after (n * 10 + (digit - 48)) digits

abbrev pub number_of : Symbol → ℕ
number_of (Lexeme (NumberToken digits)) = value_after 0 digits
number_of _ = 0

-- the first of these limits that is passed: the second number of a pair is above the first
abbrev pub above : ℕ → ℕ → SymbolFault → Option SymbolFault → Option SymbolFault
above limit n fault others = if nat_lt limit n then Some fault else others

-- the limit that a symbol passes in its role, where `all` are the symbols up to it
abbrev pub limit_passed : Role → Symbol → List Written → Option SymbolFault
limit_passed (Opens n) symbol all = above greatest_nesting n TooDeep None
limit_passed (IsVariable n) symbol all =
    above greatest_order n (TooMany Order)
    (above greatest_variables (length (distinct (variables_in all))) (TooMany Variables) None)
limit_passed Binds symbol all = above greatest_variables (length (distinct (variables_in all))) (TooMany Variables) None
limit_passed NamesRight symbol all =
    above greatest_accesses (accesses_in all) (TooMany Accesses)
    (above greatest_operands (operands_in all) (TooMany Operands) None)
limit_passed IsNumber symbol all =
    above greatest_operands (operands_in all) (TooMany Operands)
    (above greatest_literal (number_of symbol) LiteralRange None)
limit_passed _ symbol all = None

-- some sentence begins with the symbols before and this one, which passes a limit in it
pub record PastLimit (earlier : List Symbol) (t : Symbol) (fault : SymbolFault) : Type 0 where
  pub front : List Written
  pub last : Written
  pub begins : Begins (front ++ (last ∷ []))
  pub symbols_are : symbols (front ++ (last ∷ [])) ≡ earlier ++ (t ∷ [])
  pub passed : limit_passed last.role last.symbol (front ++ (last ∷ [])) ≡ Some fault

-- no sentence begins with these symbols
abbrev pub BeginsNone : List Symbol → Type 0
BeginsNone ts = (ms : List Written) → Begins ms → symbols ms ≡ ts → ⊥

-- the fault of a symbol behind the earlier ones
pub data FaultAt (earlier : List Symbol) (t : Symbol) (fault : SymbolFault) : Type 0 where
  no_sentence : fault ≡ BadNotation → BeginsNone (earlier ++ (t ∷ [])) → FaultAt earlier t fault
  past_limit : PastLimit earlier t fault → FaultAt earlier t fault

abbrev pub HasNoFault : List Symbol → Symbol → Type 0
HasNoFault earlier t = (fault : SymbolFault) → FaultAt earlier t fault → ⊥

-- none of these symbols behind the earlier ones has a fault
abbrev pub HaveNoFault : List Symbol → List Symbol → Type 0
HaveNoFault earlier [] = Unit {0}
HaveNoFault earlier (t ∷ ts) = HasNoFault earlier t × HaveNoFault (earlier ++ (t ∷ [])) ts

-- symbols without their places
abbrev pub symbols_of : List PlacedSymbol → List Symbol
symbols_of [] = []
symbols_of (placed ∷ more) = placed.symbol ∷ symbols_of more

-- the symbol at this byte is the first that has a fault, and this is its fault
pub record IsFirstFault (all : List PlacedSymbol) (at : ℕ) (fault : SymbolFault) : Type 0 where
  pub earlier : List PlacedSymbol
  pub faulty : PlacedSymbol
  pub later : List PlacedSymbol
  pub all_are : all ≡ earlier ++ (faulty ∷ later)
  pub place : faulty.at ≡ at
  pub none_before : HaveNoFault [] (symbols_of earlier)
  pub is : FaultAt (symbols_of earlier) faulty.symbol fault

-- the symbols are this tree's, within the limits
pub record IsTreeOf (ts : List Symbol) (tree : Tree) : Type 0 where
  pub is : ts ≡ symbols (sentence_of tree)
  pub names : HasNames tree
  pub within : HaveNoFault [] ts
