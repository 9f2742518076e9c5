-- Which statement a text is, and the fault of every text that is none.
use Rattle.std.specs.Prelude.{◌≡◌, ℕ, ◌<◌, ◌≤◌, List, length}
use Rattle.limits.specs.Limits.{greatest_text_bytes}
use Rattle.index_notation.specs.declared.syntax.Statement.{Statement}
use Rattle.notation_grammar.specs.declared.symbol.PlacedSymbol.{PlacedSymbol}
use Rattle.notation_grammar.specs.declared.fault.SymbolFault.{SymbolFault}
use Rattle.notation_grammar.specs.declared.fault.SymbolFault.TheVariants as symbol_fault
use Rattle.notation_grammar.specs.declared.fault.NotationFault.{NotationFault}
use Rattle.notation_grammar.specs.declared.fault.NotationFault.TheVariants.{TextLength, BadNotation, TooDeep, TooMany, LiteralRange, Memory}
use Rattle.notation_grammar.specs.Grammar.{Tree}
use Rattle.notation_grammar.specs.Faults.{symbols_of, IsFirstFault, IsTreeOf}
use Rattle.notation_grammar.specs.Symbols.{AreSymbols}
use Rattle.notation_grammar.specs.TreeStatement.{statement_of_tree}

-- the text has not too many bytes, its symbols are those of a tree within the limits, and the statement is the tree's
pub record IsNotationOf (text : List ℕ) (s : Statement) : Type 0 where
  pub placed : List PlacedSymbol
  pub tree : Tree
  pub short : length text ≤ greatest_text_bytes
  pub are_symbols : AreSymbols (length text) text placed
  pub is_tree : IsTreeOf (symbols_of placed) tree
  pub is : s ≡ statement_of_tree tree

-- the fault of a symbol that begins at a byte
abbrev pub at_byte : ℕ → SymbolFault → NotationFault
at_byte at symbol_fault.BadNotation = BadNotation at
at_byte at symbol_fault.TooDeep = TooDeep at
at_byte at (symbol_fault.TooMany what) = TooMany what at
at_byte at symbol_fault.LiteralRange = LiteralRange at

-- the text has not too many bytes, and this is the fault of its first faulty symbol
pub record HasFaultySymbol (text : List ℕ) (fault : NotationFault) : Type 0 where
  pub placed : List PlacedSymbol
  pub at : ℕ
  pub symbol_fault : SymbolFault
  pub short : length text ≤ greatest_text_bytes
  pub are_symbols : AreSymbols (length text) text placed
  pub first : IsFirstFault placed at symbol_fault
  pub is : fault ≡ at_byte at symbol_fault

-- the fault of the text
abbrev pub IsFaultOf : List ℕ → NotationFault → Type 0
IsFaultOf text TextLength = greatest_text_bytes < length text
IsFaultOf text (Memory error) = ⊥
IsFaultOf text fault = HasFaultySymbol text fault

-- what a reader may refuse the text with: its fault, or want of memory
abbrev pub MayRefuseText : List ℕ → NotationFault → Type 0
MayRefuseText text (Memory error) = Unit {0}
MayRefuseText text fault = IsFaultOf text fault
