-- Blocks that are open, the outermost one first.
use Rattle.std.specs.Prelude.{◌≡◌, ℕ, suc, Bool, false, List, [], ◌∷◌, ◌++◌, codes}
use Rattle.kernel_code.specs.Semirings.{CodeIsOfWords}
use Rattle.kernel_code.specs.declared.syntax.KStmt.{KStmt, If, While}
use Rattle.kernel_print.specs.ExprTexts.{ExprHasWords}
use Rattle.kernel_print.specs.KernelTexts.{CodeHasWords}
use Rattle.kernel_print.specs.Text.{expr_text, indentation, kind_text, statements_text}
use Rattle.kernel_read.specs.declared.blocks.Block.{Block}
use Rattle.kernel_read.specs.declared.blocks.Opening.{Opening}
use Rattle.kernel_read.specs.declared.blocks.Opening.TheVariants as o

-- the first body of an `if`
abbrev pub IsThen : Opening → Type 0
IsThen (o.Loop k e) = ⊥
IsThen (o.Then e) = Unit {0}
IsThen (o.Second e first) = ⊥

-- the last body of a statement
abbrev pub IsEnded : Opening → Type 0
IsEnded (o.Loop k e) = Unit {0}
IsEnded (o.Then e) = ⊥
IsEnded (o.Second e first) = Unit {0}

-- the statement of a block that began so and has this body; where it is the first body of an `if`, the second one is empty
abbrev pub closed : Opening → List KStmt → KStmt
closed (o.Loop k e) body = While k e body
closed (o.Then e) body = If e body []
closed (o.Second e first) body = If e first body

-- the lines before a block within so many brackets, but for the indentation of the first
abbrev pub opening_lines : ℕ → Opening → List ℕ
opening_lines depth (o.Loop k e) = codes "while " ++ (kind_text k ++ (codes " " ++ (expr_text e ++ codes " {\n")))
opening_lines depth (o.Then e) = codes "if " ++ (expr_text e ++ codes " {\n")
opening_lines depth (o.Second e first) =
    codes "if " ++ (expr_text e ++ (codes " {\n" ++ (statements_text (suc depth) first ++ (indentation depth ++ codes "} else {\n"))))

-- the lines behind it, but for the indentation of the first; a second body that isn't there is empty
abbrev pub closing_lines : ℕ → Opening → List ℕ
closing_lines depth (o.Loop k e) = codes "}\n"
closing_lines depth (o.Then e) = codes "} else {\n" ++ (indentation depth ++ codes "}\n")
closing_lines depth (o.Second e first) = codes "}\n"

-- the text of blocks within so many brackets, up to the end of these statements of the innermost one
abbrev pub blocks_text : ℕ → List Block → List KStmt → List ℕ
blocks_text depth [] code = statements_text depth code
blocks_text depth (b ∷ inner) code =
    statements_text depth b.before ++ (indentation depth ++ (opening_lines depth b.opening ++ blocks_text (suc depth) inner code))

-- the statements of the outermost block, where all blocks end behind these statements of the innermost one
abbrev pub whole : List Block → List KStmt → List KStmt
whole [] code = code
whole (b ∷ inner) code = b.before ++ (closed b.opening (whole inner code) ∷ [])

-- the lines that end all blocks
abbrev pub all_closings : ℕ → List Block → List ℕ
all_closings depth [] = []
all_closings depth (b ∷ inner) = all_closings (suc depth) inner ++ (indentation depth ++ closing_lines depth b.opening)

-- numbers are words, and no sum or product of values stands where these aren't read
abbrev pub CodeFits : Bool → List KStmt → Type 0
CodeFits combines code = CodeHasWords code × (combines ≡ false → CodeIsOfWords code)

abbrev pub OpeningFits : Bool → Opening → Type 0
OpeningFits combines (o.Loop k e) = ExprHasWords e
OpeningFits combines (o.Then e) = ExprHasWords e
OpeningFits combines (o.Second e first) = ExprHasWords e × CodeFits combines first

abbrev pub BlocksFit : Bool → List Block → Type 0
BlocksFit combines [] = Unit {0}
BlocksFit combines (b ∷ inner) = CodeFits combines b.before × (OpeningFits combines b.opening × BlocksFit combines inner)
