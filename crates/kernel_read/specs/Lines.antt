-- Lines of a kernel's body.
use Rattle.std.specs.Prelude.{◌≡◌, ◌≢◌, ℕ, Bool, List, [], ◌∷◌, ◌++◌, codes, Option, MatchOption}
use Rattle.kernel_print.specs.ExprTexts.{ExprHasWords}
use Rattle.kernel_print.specs.Text.{expr_text, indentation, kind_text, statement_text}
use Rattle.kernel_read.specs.Statements.{IsSimple}
use Rattle.kernel_read.specs.declared.lines.Line.{Line}
use Rattle.kernel_read.specs.declared.lines.Line.TheVariants as a

-- a line feed stands at the end, and nowhere else
abbrev pub IsLine : List ℕ → Type 0
IsLine [] = ⊥
IsLine (byte ∷ []) = byte ≡ 10
IsLine (byte ∷ next ∷ text) = (byte ≢ 10) × IsLine (next ∷ text)

-- a whole statement, or the first line of one that has bodies, but for the indentation
abbrev pub opening_text : Line → List ℕ
opening_text (a.Whole s) = statement_text 0 s
opening_text (a.If e) = codes "if " ++ (expr_text e ++ codes " {\n")
opening_text (a.While k e) = codes "while " ++ (kind_text k ++ (codes " " ++ (expr_text e ++ codes " {\n")))
opening_text a.Else = []
opening_text a.Close = []

-- such a line, and its numbers are words
abbrev pub IsOpening : Bool → Line → Type 0
IsOpening combines (a.Whole s) = IsSimple combines s
IsOpening combines (a.If e) = ExprHasWords e
IsOpening combines (a.While k e) = ExprHasWords e
IsOpening combines a.Else = ⊥
IsOpening combines a.Close = ⊥

-- a line's numbers are words, and a sum or a product of values stands where these are read
abbrev pub LineFits : Bool → Line → Type 0
LineFits combines (a.Whole s) = IsSimple combines s
LineFits combines (a.If e) = ExprHasWords e
LineFits combines (a.While k e) = ExprHasWords e
LineFits combines a.Else = Unit {0}
LineFits combines a.Close = Unit {0}

-- a line of the innermost of the blocks that are open, or the line that ends it, but for the indentation of the latter
abbrev pub inner_text : Line → List ℕ
inner_text (a.Whole s) = codes "  " ++ opening_text (a.Whole s)
inner_text (a.If e) = codes "  " ++ opening_text (a.If e)
inner_text (a.While k e) = codes "  " ++ opening_text (a.While k e)
inner_text a.Else = codes "} else {\n"
inner_text a.Close = codes "}\n"

-- the same behind two blanks for each block that is open around it
abbrev pub line_text : ℕ → Line → List ℕ
line_text outer x = indentation outer ++ inner_text x

-- which line of a body a text is, if any
abbrev pub IsLineOf : Bool → ℕ → List ℕ → Option Line → Type 0
IsLineOf combines outer text answer =
    MatchOption answer ((x : Line) → LineFits combines x → text ≡ line_text outer x → ⊥)
    (λ x. LineFits combines x × (text ≡ line_text outer x))
