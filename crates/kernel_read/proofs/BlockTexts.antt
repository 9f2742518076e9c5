-- The text of open blocks, and the kernel of which all of them end.
use Rattle.std.specs.Prelude.{◌≡◌, ℕ, suc, ◌+◌, Bool, true, false, List, [], ◌∷◌, ◌++◌, codes, length, refl}
use Rattle.std.proofs.Common.{◌∙◌, ap, sym, append_assoc, arith}
use Rattle.std.proofs.lemmas.List.{append-nil}
use Rattle.kernel_code.specs.declared.syntax.KStmt.{KStmt, Set, Combine, Put, AddTo, Push, Extend, Cut, Sort, SortSum, If', While'}
use Rattle.kernel_print.specs.Text.{expr_text, indentation, statement_text, statements_text}
use Rattle.kernel_print.proofs.Equations.{if_text, while_text}
use Rattle.kernel_read.specs.Blocks.{BlocksFit, CodeFits, OpeningFits, all_closings, blocks_text, closed, closing_lines}
use Rattle.kernel_read.specs.Blocks.{opening_lines, whole}
use Rattle.kernel_read.specs.Statements.{IsSimple}
use Rattle.kernel_read.specs.declared.blocks.Block.{Block}
use Rattle.kernel_read.specs.declared.blocks.Opening.{Opening}
use Rattle.kernel_read.specs.declared.blocks.Opening.TheVariants as o
use Rattle.kernel_read.proofs.Bodies.{StatementFits, if_fits, inner_depth, loop_fits}
use Rattle.kernel_read.proofs.LineForms.{indent_more}

pub text_append : (depth : ℕ) (x y : List KStmt) → statements_text depth (x ++ y) ≡ statements_text depth x ++ statements_text depth y
text_append depth [] y = refl
text_append depth (s ∷ x) y =
    ap (λ (t : List ℕ). indentation depth ++ (statement_text depth s ++ t)) (text_append depth x y)
    ∙ pieces (indentation depth) (statement_text depth s) (statements_text depth x) (statements_text depth y)
  where
    pieces : (i t r u : List ℕ) → i ++ (t ++ (r ++ u)) ≡ (i ++ (t ++ r)) ++ u
    pieces i t r u = simp append_assoc

pub text_push : (depth : ℕ) (x : List KStmt) (s : KStmt)
    → statements_text depth (x ++ (s ∷ [])) ≡ statements_text depth x ++ (indentation depth ++ statement_text depth s)
text_push depth x s =
    text_append depth x (s ∷ [])
    ∙ ap (λ (t : List ℕ). statements_text depth x ++ (indentation depth ++ t)) (append-nil (statement_text depth s))

if_pieces : (h s i c d : List ℕ) → h ++ ((s ++ (i ++ c)) ++ (i ++ d)) ≡ h ++ (s ++ (i ++ (c ++ (i ++ d))))
if_pieces h s i c d = simp append_assoc

second_pieces : (e s i c r d : List ℕ)
    → (codes "if " ++ (e ++ codes " {\n")) ++ ((s ++ (i ++ c)) ++ (r ++ (i ++ d)))
    ≡ (codes "if " ++ (e ++ (codes " {\n" ++ (s ++ (i ++ c))))) ++ (r ++ (i ++ d))
second_pieces e s i c r d = simp append_assoc

pub closed_text : (opening : Opening) (body : List KStmt) (depth : ℕ)
    → statement_text depth (closed opening body)
    ≡ opening_lines depth opening ++ (statements_text (suc depth) body ++ (indentation depth ++ closing_lines depth opening))
closed_text (o.Loop k e) body depth = while_text depth k e body
closed_text (o.Then e) body depth =
    if_text depth e body []
    ∙ if_pieces (codes "if " ++ (expr_text e ++ codes " {\n")) (statements_text (suc depth) body) (indentation depth)
    (codes "} else {\n") (codes "}\n")
closed_text (o.Second e first) body depth =
    if_text depth e first body ∙ second_pieces (expr_text e) (statements_text (suc depth) first) (indentation depth) (codes "} else {\n")
    (statements_text (suc depth) body) (codes "}\n")

whole_pieces : (s i h b c j d : List ℕ) → s ++ (i ++ (h ++ ((b ++ c) ++ (j ++ d)))) ≡ (s ++ (i ++ (h ++ b))) ++ (c ++ (j ++ d))
whole_pieces s i h b c j d = simp append_assoc

-- all blocks end
pub whole_text : (outer : List Block) (code : List KStmt) (depth : ℕ)
    → statements_text depth (whole outer code) ≡ blocks_text depth outer code ++ all_closings depth outer
whole_text [] code depth = sym (append-nil (statements_text depth code))
whole_text (b ∷ inner) code depth =
    let before = statements_text depth b.before in
    let opening = opening_lines depth b.opening in
    let closing = indentation depth ++ closing_lines depth b.opening in
    text_push depth b.before (closed b.opening (whole inner code))
    ∙ ap (λ (t : List ℕ). before ++ (indentation depth ++ t)) (closed_text b.opening (whole inner code) depth)
    ∙ ap (λ (t : List ℕ). before ++ (indentation depth ++ (opening ++ (t ++ closing)))) (whole_text inner code (suc depth))
    ∙ whole_pieces before (indentation depth) opening (blocks_text (suc depth) inner code) (all_closings (suc depth) inner)
    (indentation depth) (closing_lines depth b.opening)

-- what fits
pub push_fits : (combines : Bool) (code : List KStmt) (s : KStmt) → CodeFits combines code → StatementFits combines s
    → CodeFits combines (code ++ (s ∷ []))
push_fits combines [] s fits one = ((one.0, tt), λ ring. (one.1 ring, tt))
push_fits combines (t ∷ code) s fits one =
    let rest = push_fits combines code s (fits.0.1, λ ring. (fits.1 ring).1) one in
    ((fits.0.0, rest.0), λ ring. ((fits.1 ring).0, rest.1 ring))

pub nothing_fits : (combines : Bool) → CodeFits combines []
nothing_fits combines = (tt, λ ring. tt)

pub closed_fits : (combines : Bool) (opening : Opening) (body : List KStmt) → OpeningFits combines opening → CodeFits combines body
    → StatementFits combines (closed opening body)
closed_fits combines (o.Loop k e) body words fits = loop_fits combines k e body words fits
closed_fits combines (o.Then e) body words fits = if_fits combines e body [] words fits (nothing_fits combines)
closed_fits combines (o.Second e first) body words fits = if_fits combines e first body words.0 words.1 fits

pub whole_fits : (combines : Bool) (outer : List Block) (code : List KStmt) → BlocksFit combines outer → CodeFits combines code
    → CodeFits combines (whole outer code)
whole_fits combines [] code outer_fits fits = fits
whole_fits combines (b ∷ inner) code outer_fits fits =
    push_fits combines b.before (closed b.opening (whole inner code)) outer_fits.0
    (closed_fits combines b.opening (whole inner code) outer_fits.1.0 (whole_fits combines inner code outer_fits.1.1 fits))

true_false : true ≡ false → ⊥
true_false same = cc

pub simple_fits : (combines : Bool) (s : KStmt) → IsSimple combines s → StatementFits combines s
simple_fits combines (Set x e) fits = (fits, λ ring. tt)
simple_fits combines (Combine x op e f) fits = (fits.1, λ ring. true_false (sym fits.0 ∙ ring))
simple_fits combines (Put x i e) fits = (fits, λ ring. tt)
simple_fits combines (AddTo x i e) fits = (fits, λ ring. tt)
simple_fits combines (Push x e) fits = (fits, λ ring. tt)
simple_fits combines (Extend x n e) fits = (fits, λ ring. tt)
simple_fits combines (Cut x e) fits = (fits, λ ring. tt)
simple_fits combines (Sort g) fits = (fits, λ ring. tt)
simple_fits combines (SortSum w) fits = (fits, λ ring. tt)
simple_fits combines (If' e p first q second) fits = absurd fits
simple_fits combines (While' k e p body) fits = absurd fits

-- one block or statement more, innermost
more_pieces : (s i h a b : List ℕ) → s ++ (i ++ (h ++ (a ++ b))) ≡ (s ++ (i ++ (h ++ a))) ++ b
more_pieces s i h a b = simp append_assoc

pub blocks_more : (outer : List Block) (b : Block) (code : List KStmt) (depth : ℕ)
    → blocks_text depth (outer ++ (b ∷ [])) code
    ≡ blocks_text depth outer b.before
    ++ (indentation (inner_depth depth outer) ++ (opening_lines (inner_depth depth outer) b.opening
    ++ statements_text (suc (inner_depth depth outer)) code))
blocks_more [] b code depth = refl
blocks_more (c ∷ outer) b code depth =
    let deep = inner_depth (suc depth) outer in
    let end = indentation deep ++ (opening_lines deep b.opening ++ statements_text (suc deep) code) in
    ap (λ (t : List ℕ). statements_text depth c.before ++ (indentation depth ++ (opening_lines depth c.opening ++ t)))
    (blocks_more outer b code (suc depth))
    ∙ more_pieces (statements_text depth c.before) (indentation depth) (opening_lines depth c.opening)
    (blocks_text (suc depth) outer b.before) end

pub blocks_push : (outer : List Block) (code : List KStmt) (s : KStmt) (depth : ℕ)
    → blocks_text depth outer (code ++ (s ∷ []))
    ≡ blocks_text depth outer code ++ (indentation (inner_depth depth outer) ++ statement_text (inner_depth depth outer) s)
blocks_push [] code s depth = text_push depth code s
blocks_push (c ∷ outer) code s depth =
    let deep = inner_depth (suc depth) outer in
    ap (λ (t : List ℕ). statements_text depth c.before ++ (indentation depth ++ (opening_lines depth c.opening ++ t)))
    (blocks_push outer code s (suc depth))
    ∙ more_pieces (statements_text depth c.before) (indentation depth) (opening_lines depth c.opening)
    (blocks_text (suc depth) outer code) (indentation deep ++ statement_text deep s)

pub blocks_fit : (combines : Bool) (outer : List Block) (b : Block) → BlocksFit combines outer → CodeFits combines b.before
    → OpeningFits combines b.opening → BlocksFit combines (outer ++ (b ∷ []))
blocks_fit combines [] b outer_fits code_fits words = (code_fits, (words, tt))
blocks_fit combines (c ∷ outer) b outer_fits code_fits words =
    (outer_fits.0, (outer_fits.1.0, blocks_fit combines outer b outer_fits.1.1 code_fits words))

pub last_fits : (combines : Bool) (outer : List Block) (b : Block) → BlocksFit combines (outer ++ (b ∷ []))
    → BlocksFit combines outer × (CodeFits combines b.before × OpeningFits combines b.opening)
last_fits combines [] b fits = (tt, (fits.0, fits.1.0))
last_fits combines (c ∷ outer) b fits =
    let rest = last_fits combines outer b fits.1.1 in ((fits.0, (fits.1.0, rest.0)), rest.1)

-- how deep the innermost block is
pub depth_is : (outer : List Block) (depth : ℕ) → inner_depth depth outer ≡ depth + length outer
depth_is [] depth = omega arith
depth_is (b ∷ outer) depth = let inner = depth_is outer (suc depth) in omega (arith, inner)

pub deep_blanks : (depth : ℕ) (text : List ℕ) → indentation (suc depth) ++ text ≡ indentation depth ++ (codes "  " ++ text)
deep_blanks depth text =
    ap (λ (t : List ℕ). t ++ text) (indent_more depth) ∙ append_assoc (indentation depth) (codes "  ") text
