-- The symbols of a text: its tokens, taken as long as possible, and then its end or the first byte that begins none.
use Rattle.std.specs.Prelude.{◌≡◌, ◌≢◌, ℕ, ◌-◌, List, [], ◌∷◌, length}
use Rattle.index_notation.specs.declared.token.Token.{Token}
use Rattle.notation_grammar.specs.declared.symbol.Symbol.{Symbol}
use Rattle.notation_grammar.specs.declared.symbol.Symbol.TheVariants.{Lexeme, End, Stray}
use Rattle.notation_grammar.specs.declared.symbol.PlacedSymbol.{PlacedSymbol}
use Rattle.index_notation.specs.Tokens.{behind_blanks, IsNext}

-- behind its blanks a text begins with no token
abbrev pub BeginsNoToken : List ℕ → Type 0
BeginsNoToken text = (token : Token) (rest : List ℕ) → IsNext text token rest → ⊥

-- the byte where what is left of a text of `size` bytes begins, behind its blanks
abbrev pub first_byte : ℕ → List ℕ → ℕ
first_byte size left = size - length (behind_blanks left)

-- what is left of a text begins with the symbol: with a token, of whose rest `GoesOn` holds, or it ends there, by `Ends`
abbrev pub StartsWith : List ℕ → (List ℕ → Type 0) → Type 0 → Symbol → Type 0
StartsWith left GoesOn Ends (Lexeme token) = (rest : List ℕ) × IsNext left token rest × GoesOn rest
StartsWith left GoesOn Ends End = (behind_blanks left ≡ []) × Ends
StartsWith left GoesOn Ends Stray = (behind_blanks left ≢ []) × BeginsNoToken left × Ends

-- what is left of a text of `size` bytes is these symbols
abbrev pub AreSymbols : ℕ → List ℕ → List PlacedSymbol → Type 0
AreSymbols size left [] = ⊥
AreSymbols size left (placed ∷ more) =
    (placed.at ≡ first_byte size left) × StartsWith left (λ rest. AreSymbols size rest more) (more ≡ []) placed.symbol
