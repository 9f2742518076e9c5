-- The text of pieces.
use Rattle.std.specs.Prelude.{ℕ, List, [], ◌∷◌, ◌++◌}
use Rattle.std.specs.Fmt.{decimal, signed_decimal}
use Rattle.text_lines.specs.declared.pieces.Piece.{Piece}
use Rattle.text_lines.specs.declared.pieces.Piece.TheVariants.{Text, Number, Wide, Signed}

-- texts one after another
abbrev pub joined : List (List ℕ) → List ℕ
joined [] = []
joined (text ∷ texts) = text ++ joined texts

abbrev pub piece_text : Piece → List ℕ
piece_text (Text bytes) = bytes.now
piece_text (Number number) = decimal number
piece_text (Wide number) = decimal number
piece_text (Signed number) = signed_decimal number
