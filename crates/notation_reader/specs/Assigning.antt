-- What the mark behind the left side of a statement says.
use Rattle.std.specs.Prelude.{Bool, true, false, Option, Some, None, unwrap_or, List, [], ◌∷◌}
use Rattle.index_notation.specs.declared.token.Mark.TheVariants.{Equals, PlusEquals}
use Rattle.index_notation.specs.declared.token.Token.TheVariants.{Mark as MarkToken}
use Rattle.notation_grammar.specs.declared.symbol.Symbol.{Symbol}
use Rattle.notation_grammar.specs.declared.symbol.Symbol.TheVariants.{Lexeme}

-- whether a symbol adds to the old tensor, if it is the mark
abbrev pub assigns : Symbol → Option Bool
assigns (Lexeme (MarkToken Equals)) = Some false
assigns (Lexeme (MarkToken PlusEquals)) = Some true
assigns _ = None

-- the first mark of these symbols adds to the old tensor
abbrev pub accumulates : List Symbol → Bool
accumulates [] = false
accumulates (symbol ∷ symbols) = unwrap_or (assigns symbol) (accumulates symbols)
