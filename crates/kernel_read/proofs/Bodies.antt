-- With which lines a body goes on.
use Rattle.std.specs.Prelude.{◌≡◌, ℕ, zero, suc, ◌⊎◌, Bool, true, false, List, [], ◌∷◌, ◌++◌, codes, drop, refl}
use Rattle.std.proofs.Common.{◌∙◌, ap, sym, subst, append_assoc, inl, inr}
use Rattle.std.proofs.lemmas.List.{append_cancel_left}
use Rattle.kernel_code.specs.Semirings.{CodeIsOfWords, RowIsOfWords, StatementIsOfWords}
use Rattle.kernel_code.specs.declared.syntax.KExpr.{KExpr}
use Rattle.kernel_code.specs.declared.syntax.KStmt.{KStmt, Set, Combine, Put, AddTo, Push, Extend, Cut, Sort, SortSum, If, While}
use Rattle.kernel_code.specs.declared.syntax.KStmt.{If', While', Row_of-KStmt, end_of-KStmt, more_of-KStmt, items-the_row-KStmt}
use Rattle.kernel_code.specs.declared.syntax.KStmt.{items_hidden-the_row-KStmt-0}
use Rattle.kernel_code.specs.declared.syntax.KStmt.TheBlock.{hidden-the_row-KStmt-0}
use Rattle.kernel_code.specs.declared.syntax.LoopKind.{LoopKind}
use Rattle.kernel_print.specs.ExprTexts.{ExprHasWords}
use Rattle.kernel_print.specs.KernelTexts.{CodeHasWords, RowHasWords, StatementHasWords}
use Rattle.kernel_print.specs.Text.{expr_text, indentation, kind_text, row_text, statement_text, statements_text}
use Rattle.kernel_print.proofs.Equations.{block, if_text, while_text}
use Rattle.kernel_read.specs.Blocks.{BlocksFit, CodeFits, OpeningFits, blocks_text, opening_lines}
use Rattle.kernel_read.specs.Lines.{IsOpening, LineFits, inner_text, line_text, opening_text}
use Rattle.kernel_read.specs.declared.blocks.Block.{Block}
use Rattle.kernel_read.specs.declared.blocks.Opening.{Opening}
use Rattle.kernel_read.specs.declared.blocks.Opening.TheVariants as o
use Rattle.kernel_read.specs.declared.lines.Line.{Line}
use Rattle.kernel_read.specs.declared.lines.Line.TheVariants as a
use Rattle.kernel_read.proofs.LineForms.{indent_more, opening_inner, opening_fits}
use Rattle.kernel_read.proofs.StatementRests.{cut_statement, if_begins, loop_begins}

-- what holds of the statements in a statement holds of the list, and the other way round
row_words : {m : _} (row : Row_of-KStmt m) → RowHasWords row → CodeHasWords (items-the_row-KStmt m row)
row_words end_of-KStmt words = tt
row_words (more_of-KStmt s rest) words = (words.0, row_words rest words.1)

words_row : {m : _} (row : Row_of-KStmt m) → CodeHasWords (items-the_row-KStmt m row) → RowHasWords row
words_row end_of-KStmt words = tt
words_row (more_of-KStmt s rest) words = (words.0, words_row rest words.1)

row_plain : {m : _} (row : Row_of-KStmt m) → RowIsOfWords row → CodeIsOfWords (items-the_row-KStmt m row)
row_plain end_of-KStmt plain = tt
row_plain (more_of-KStmt s rest) plain = (plain.0, row_plain rest plain.1)

plain_row : {m : _} (row : Row_of-KStmt m) → CodeIsOfWords (items-the_row-KStmt m row) → RowIsOfWords row
plain_row end_of-KStmt plain = tt
plain_row (more_of-KStmt s rest) plain = (plain.0, plain_row rest plain.1)

-- a statement's numbers are words, and it is no sum or product of values where these aren't read
abbrev pub StatementFits : Bool → KStmt → Type 0
StatementFits combines s = StatementHasWords s × (combines ≡ false → StatementIsOfWords s)

abbrev held : List KStmt → Type 0
held body = RowHasWords (hidden-the_row-KStmt-0 body)

held_fits : (combines : Bool) (body : List KStmt) → RowHasWords (hidden-the_row-KStmt-0 body)
    → (combines ≡ false → RowIsOfWords (hidden-the_row-KStmt-0 body)) → CodeFits combines body
held_fits combines body words plain =
    subst (CodeFits combines) (items_hidden-the_row-KStmt-0 body)
    (row_words (hidden-the_row-KStmt-0 body) words, λ ring. row_plain (hidden-the_row-KStmt-0 body) (plain ring))

fits_held : (combines : Bool) (body : List KStmt) → CodeFits combines body
    → RowHasWords (hidden-the_row-KStmt-0 body) × (combines ≡ false → RowIsOfWords (hidden-the_row-KStmt-0 body))
fits_held combines body fits =
    let same = subst (CodeFits combines) (sym (items_hidden-the_row-KStmt-0 body)) fits in
    (words_row (hidden-the_row-KStmt-0 body) same.0, λ ring. plain_row (hidden-the_row-KStmt-0 body) (same.1 ring))

pub loop_fits : (combines : Bool) (k : LoopKind) (e : KExpr) (body : List KStmt) → ExprHasWords e → CodeFits combines body
    → StatementFits combines (While k e body)
loop_fits combines k e body words fits =
    let inside = fits_held combines body fits in ((words, inside.0), inside.1)

pub if_fits : (combines : Bool) (e : KExpr) (first second : List KStmt) → ExprHasWords e → CodeFits combines first
    → CodeFits combines second → StatementFits combines (If e first second)
if_fits combines e first second words fits fits' =
    let inside = fits_held combines first fits in
    let inside' = fits_held combines second fits' in
    ((words, (inside.0, inside'.0)), λ ring. (inside.1 ring, inside'.1 ring))

loop_body_fits : (combines : Bool) (k : LoopKind) (e : KExpr) (body : List KStmt) → StatementFits combines (While k e body)
    → CodeFits combines body
loop_body_fits combines k e body fits = held_fits combines body fits.0.1 fits.1

first_body_fits : (combines : Bool) (e : KExpr) (first second : List KStmt) → StatementFits combines (If e first second)
    → CodeFits combines first
first_body_fits combines e first second fits = held_fits combines first fits.0.1.0 (λ ring. (fits.1 ring).0)

second_body_fits : (combines : Bool) (e : KExpr) (first second : List KStmt) → StatementFits combines (If e first second)
    → CodeFits combines second
second_body_fits combines e first second fits = held_fits combines second fits.0.1.1 (λ ring. (fits.1 ring).1)

-- a line that ends a body
abbrev pub IsEnd : Line → Type 0
IsEnd (a.Whole s) = ⊥
IsEnd (a.If e) = ⊥
IsEnd (a.While k e) = ⊥
IsEnd a.Else = Unit {0}
IsEnd a.Close = Unit {0}

-- the line that ends the block that began so
abbrev pub end_of : Opening → Line
end_of (o.Loop k e) = a.Close
end_of (o.Then e) = a.Else
end_of (o.Second e first) = a.Close

end_of_is : (opening : Opening) → IsEnd (end_of opening)
end_of_is (o.Loop k e) = tt
end_of_is (o.Then e) = tt
end_of_is (o.Second e first) = tt

-- the statements of a body, the line that ends it, and what stands behind
abbrev pub body_then : ℕ → List KStmt → Line → List ℕ → List ℕ
body_then depth body end tail = statements_text (suc depth) body ++ (indentation depth ++ (inner_text end ++ tail))

pub three : (x y z behind : List ℕ) → (x ++ (y ++ z)) ++ behind ≡ x ++ (y ++ (z ++ behind))
three x y z behind = simp append_assoc

no_brace : (text rest : List ℕ) → 125 ∷ text ≡ 32 ∷ rest → ⊥
no_brace text rest same = cc

-- no line that ends a body is as deep as the statements of it
brace_less : (depth : ℕ) (t u : List ℕ) → indentation depth ++ (125 ∷ t) ≡ indentation (suc depth) ++ u → ⊥
brace_less zero t u same = no_brace t (32 ∷ u) same
brace_less (suc depth) t u same = brace_less depth t u (ap (drop 2) same)

end_less : (depth : ℕ) (end : Line) (t u : List ℕ) → IsEnd end → indentation depth ++ (inner_text end ++ t) ≡ indentation (suc depth) ++ u
    → ⊥
end_less depth (a.Whole s) t u is same = absurd is
end_less depth (a.If e) t u is same = absurd is
end_less depth (a.While k e) t u is same = absurd is
end_less depth a.Else t u is same = brace_less depth (codes " else {\n" ++ t) u same
end_less depth a.Close t u is same = brace_less depth (codes "\n" ++ t) u same

rest_fits : (combines : Bool) (s : KStmt) (body : List KStmt) → CodeFits combines (s ∷ body) → CodeFits combines body
rest_fits combines s body fits = (fits.0.1, λ ring. (fits.1 ring).1)

-- what a statement of a body is the first of
pub cut_first : (depth : ℕ) (s : KStmt) (body : List KStmt) (end : Line) (tail rest : List ℕ)
    → body_then depth (s ∷ body) end tail ≡ indentation (suc depth) ++ rest
    → statement_text (suc depth) s ++ body_then depth body end tail ≡ rest
cut_first depth s body end tail rest same =
    append_cancel_left (indentation (suc depth)) (statement_text (suc depth) s ++ body_then depth body end tail) rest
    (sym (three (indentation (suc depth)) (statement_text (suc depth) s) (statements_text (suc depth) body)
    (indentation depth ++ (inner_text end ++ tail))) ∙ same)

-- a body that begins with statements goes on with statements
abbrev Left : Bool → ℕ → Line → List ℕ → List ℕ → Type 0
Left combines depth end tail rest = (left : List KStmt) × (CodeFits combines left × (body_then depth left end tail ≡ rest))

cut_code : (combines : Bool) (code body : List KStmt) (depth : ℕ) (end : Line) (tail rest : List ℕ) → IsEnd end → CodeHasWords code
    → CodeFits combines body → body_then depth body end tail ≡ statements_text (suc depth) code ++ rest
    → Left combines depth end tail rest
cut_code combines [] body depth end tail rest is words fits same = (body, (fits, same))
cut_code combines (s ∷ code) [] depth end tail rest is words fits same =
    absurd (end_less depth end tail (statement_text (suc depth) s ++ (statements_text (suc depth) code ++ rest)) is
    (same ∙ three (indentation (suc depth)) (statement_text (suc depth) s) (statements_text (suc depth) code) rest))
cut_code combines (s ∷ code) (t ∷ body) depth end tail rest is words fits same =
    let first = cut_first depth t body end tail (statement_text (suc depth) s ++ (statements_text (suc depth) code ++ rest))
    (same ∙ three (indentation (suc depth)) (statement_text (suc depth) s) (statements_text (suc depth) code) rest) in
    let both = cut_statement t s (suc depth) (body_then depth body end tail) (statements_text (suc depth) code ++ rest) fits.0.0 words.0
    first in
    cut_code combines code body depth end tail rest is words.1 (rest_fits combines t body fits) both.1

-- a statement that begins with the lines before a block has the block as its next body
abbrev Inside : Bool → ℕ → Line → List ℕ → Type 0
Inside combines depth end rest =
    (body : List KStmt) × ((tail : List ℕ) × (CodeFits combines body × (body_then depth body end tail ≡ rest)))

loop_pieces : (k e rest : List ℕ)
    → (codes "while " ++ (k ++ (codes " " ++ (e ++ codes " {\n")))) ++ rest
    ≡ codes "while " ++ (k ++ (codes " " ++ (e ++ (codes " {\n" ++ rest))))
loop_pieces k e rest = simp append_assoc

if_pieces : (e rest : List ℕ) → (codes "if " ++ (e ++ codes " {\n")) ++ rest ≡ codes "if " ++ (e ++ (codes " {\n" ++ rest))
if_pieces e rest = simp append_assoc

in_loop : (combines : Bool) (k : LoopKind) (e : KExpr) (body : List KStmt) (depth : ℕ) (behind rest : List ℕ)
    → StatementFits combines (While k e body)
    → statement_text depth (While k e body) ++ behind
    ≡ (codes "while " ++ (kind_text k ++ (codes " " ++ (expr_text e ++ codes " {\n")))) ++ rest
    → Inside combines depth a.Close rest
in_loop combines k e body depth behind rest fits same =
    let head : List ℕ = codes "while " ++ (kind_text k ++ (codes " " ++ (expr_text e ++ codes " {\n"))) in
    let inner = block depth body (codes "}\n") in (
      body,
      (
        behind,
        (
          loop_body_fits combines k e body fits,
          sym (three (statements_text (suc depth) body) (indentation depth) (codes "}\n") behind)
              ∙ append_cancel_left head (inner ++ behind) rest
              (sym (append_assoc head inner behind) ∙ ap (λ (t : List ℕ). t ++ behind) (sym (while_text depth k e body)) ∙ same),
        ),
      ),
    )

-- what stands behind the test of an `if`
behind_test : (e : KExpr) (first second : List KStmt) (depth : ℕ) (behind rest : List ℕ)
    → statement_text depth (If e first second) ++ behind ≡ (codes "if " ++ (expr_text e ++ codes " {\n")) ++ rest
    → body_then depth first a.Else (block depth second (codes "}\n") ++ behind) ≡ rest
behind_test e first second depth behind rest same =
    let head : List ℕ = codes "if " ++ (expr_text e ++ codes " {\n") in
    let one = block depth first (codes "} else {\n") in
    let two = block depth second (codes "}\n") in
    sym (three (statements_text (suc depth) first) (indentation depth) (codes "} else {\n") (two ++ behind))
    ∙ append_cancel_left head (one ++ (two ++ behind)) rest
    (sym (three head one two behind) ∙ ap (λ (t : List ℕ). t ++ behind) (sym (if_text depth e first second)) ∙ same)

in_then : (combines : Bool) (e : KExpr) (first second : List KStmt) (depth : ℕ) (behind rest : List ℕ)
    → StatementFits combines (If e first second)
    → statement_text depth (If e first second) ++ behind ≡ (codes "if " ++ (expr_text e ++ codes " {\n")) ++ rest
    → Inside combines depth a.Else rest
in_then combines e first second depth behind rest fits same = (
  first,
  (
    block depth second (codes "}\n") ++ behind,
    (
      first_body_fits combines e first second fits,
      behind_test e first second depth behind rest same,
    ),
  ),
)

-- nothing is left of a body where the line that ends it comes
none_left : (combines : Bool) (depth : ℕ) (end : Line) (tail rest : List ℕ) → IsEnd end
    → Left combines depth end tail (indentation depth ++ (inner_text end ++ rest)) → tail ≡ rest
none_left combines depth end tail rest is ([], (fits, same)) =
    append_cancel_left (inner_text end) tail rest
    (append_cancel_left (indentation depth) (inner_text end ++ tail) (inner_text end ++ rest) same)
none_left combines depth end tail rest is (s ∷ left, (fits, same)) =
    absurd (end_less depth end rest (statement_text (suc depth) s ++ body_then depth left end tail) is
    (sym same ∙ three (indentation (suc depth)) (statement_text (suc depth) s) (statements_text (suc depth) left)
    (indentation depth ++ (inner_text end ++ tail))))

in_second : (combines : Bool) (e : KExpr) (first0 first second : List KStmt) (depth : ℕ) (behind rest : List ℕ)
    → CodeFits combines first0 → StatementFits combines (If e first second)
    → statement_text depth (If e first second) ++ behind
    ≡ (codes "if " ++ (expr_text e ++ codes " {\n"))
    ++ (statements_text (suc depth) first0 ++ (indentation depth ++ (codes "} else {\n" ++ rest)))
    → Inside combines depth a.Close rest
in_second combines e first0 first second depth behind rest known fits same =
    let two = block depth second (codes "}\n") in
    let left = cut_code combines first0 first depth a.Else (two ++ behind) (indentation depth ++ (codes "} else {\n" ++ rest)) tt known.0
    (first_body_fits combines e first second fits)
    (behind_test e first second depth behind
    (statements_text (suc depth) first0 ++ (indentation depth ++ (codes "} else {\n" ++ rest))) same) in (
      second,
      (
        behind,
        (
          second_body_fits combines e first second fits,
          sym (three (statements_text (suc depth) second) (indentation depth) (codes "}\n") behind)
              ∙ none_left combines depth a.Else (two ++ behind) rest tt left,
        ),
      ),
    )

second_pieces : (e s i c rest : List ℕ)
    → (codes "if " ++ (e ++ (codes " {\n" ++ (s ++ (i ++ c))))) ++ rest ≡ (codes "if " ++ (e ++ codes " {\n")) ++ (s ++ (i ++ (c ++ rest)))
second_pieces e s i c rest = simp append_assoc

into : (combines : Bool) (opening : Opening) (s : KStmt) (depth : ℕ) (behind rest : List ℕ) → OpeningFits combines opening
    → StatementFits combines s → statement_text depth s ++ behind ≡ opening_lines depth opening ++ rest
    → Inside combines depth (end_of opening) rest
into combines (o.Loop k e) s depth behind rest words fits same =
    let is = loop_begins s k e depth behind rest fits.0 words (same ∙ loop_pieces (kind_text k) (expr_text e) rest) in
    in_loop combines k e is.0 depth behind rest (subst (StatementFits combines) is.1 fits)
    (ap (λ (t : KStmt). statement_text depth t ++ behind) (sym is.1) ∙ same)
into combines (o.Then e) s depth behind rest words fits same =
    let is = if_begins s e depth behind rest fits.0 words (same ∙ if_pieces (expr_text e) rest) in
    in_then combines e is.0 is.1.0 depth behind rest (subst (StatementFits combines) is.1.1 fits)
    (ap (λ (t : KStmt). statement_text depth t ++ behind) (sym is.1.1) ∙ same)
into combines (o.Second e first0) s depth behind rest words fits same =
    let inner : List ℕ = statements_text (suc depth) first0 ++ (indentation depth ++ (codes "} else {\n" ++ rest)) in
    let told = same ∙ second_pieces (expr_text e) (statements_text (suc depth) first0) (indentation depth) (codes "} else {\n") rest in
    let is = if_begins s e depth behind inner fits.0 words.0 (told ∙ if_pieces (expr_text e) inner) in
    in_second combines e first0 is.0 is.1.0 depth behind rest words.1 (subst (StatementFits combines) is.1.1 fits)
    (ap (λ (t : KStmt). statement_text depth t ++ behind) (sym is.1.1) ∙ told)

-- the line with which the innermost of some blocks ends
abbrev pub innermost : Line → List Block → Line
innermost end [] = end
innermost end (b ∷ inner) = innermost (end_of b.opening) inner

abbrev pub inner_depth : ℕ → List Block → ℕ
inner_depth depth [] = depth
inner_depth depth (b ∷ inner) = inner_depth (suc depth) inner

-- a text goes on with a line of a body: the first line of a statement, or the line that ends the innermost block
pub record Next (combines : Bool) (outer : List Block) (end : Line) (depth : ℕ) (tail rest : List ℕ) : Type 0 where
  pub line : Line
  pub more : List ℕ
  pub fits : LineFits combines line
  pub allowed : IsOpening combines line ⊎ ((line ≡ innermost end outer) × (outer ≡ [] → more ≡ tail))
  pub goes_on : rest ≡ line_text (inner_depth depth outer) line ++ more

abbrev First : Bool → List ℕ → Type 0
First combines text = (x : Line) × ((more : List ℕ) × (IsOpening combines x × (text ≡ opening_text x ++ more)))

not_ring : (b : Bool) → (b ≡ false → ⊥) → b ≡ true
not_ring true isnt = refl
not_ring false isnt = absurd (isnt refl)

first_of_statement : (combines : Bool) (s : KStmt) (depth : ℕ) (behind : List ℕ) → StatementFits combines s
    → First combines (statement_text depth s ++ behind)
first_of_statement combines (Set x e) depth behind fits = (a.Whole (Set x e), (behind, (fits.0, refl)))
first_of_statement combines (Combine x op e f) depth behind fits =
    (a.Whole (Combine x op e f), (behind, ((not_ring combines fits.1, fits.0), refl)))
first_of_statement combines (Put x i e) depth behind fits = (a.Whole (Put x i e), (behind, (fits.0, refl)))
first_of_statement combines (AddTo x i e) depth behind fits = (a.Whole (AddTo x i e), (behind, (fits.0, refl)))
first_of_statement combines (Push x e) depth behind fits = (a.Whole (Push x e), (behind, (fits.0, refl)))
first_of_statement combines (Extend x n e) depth behind fits = (a.Whole (Extend x n e), (behind, (fits.0, refl)))
first_of_statement combines (Cut x e) depth behind fits = (a.Whole (Cut x e), (behind, (fits.0, refl)))
first_of_statement combines (Sort g) depth behind fits = (a.Whole (Sort g), (behind, (fits.0, refl)))
first_of_statement combines (SortSum w) depth behind fits = (a.Whole (SortSum w), (behind, (fits.0, refl)))
first_of_statement combines (If' e p first q second) depth behind fits =
    let inner : List ℕ = row_text (suc depth) first ++ (indentation depth
    ++ (codes "} else {\n" ++ (row_text (suc depth) second ++ (indentation depth ++ codes "}\n")))) in
    (a.If e, (inner ++ behind, (fits.0.0, pieces (expr_text e) inner)))
  where
    pieces : (e inner : List ℕ)
        → (codes "if " ++ (e ++ (codes " {\n" ++ inner))) ++ behind ≡ (codes "if " ++ (e ++ codes " {\n")) ++ (inner ++ behind)
    pieces e inner = simp append_assoc
first_of_statement combines (While' k e p body) depth behind fits =
    let inner : List ℕ = row_text (suc depth) body ++ (indentation depth ++ codes "}\n") in
    (a.While k e, (inner ++ behind, (fits.0.0, pieces (kind_text k) (expr_text e) inner)))
  where
    pieces : (k e inner : List ℕ)
        → (codes "while " ++ (k ++ (codes " " ++ (e ++ (codes " {\n" ++ inner))))) ++ behind
        ≡ (codes "while " ++ (k ++ (codes " " ++ (e ++ codes " {\n")))) ++ (inner ++ behind)
    pieces k e inner = simp append_assoc

end_fits : (combines : Bool) (end : Line) → IsEnd end → LineFits combines end
end_fits combines (a.Whole s) is = absurd is
end_fits combines (a.If e) is = absurd is
end_fits combines (a.While k e) is = absurd is
end_fits combines a.Else is = tt
end_fits combines a.Close is = tt

deeper_pieces : (i x more : List ℕ) → (i ++ codes "  ") ++ (x ++ more) ≡ (i ++ (codes "  " ++ x)) ++ more
deeper_pieces i x more = simp append_assoc

next_here : (combines : Bool) (body : List KStmt) (depth : ℕ) (end : Line) (tail rest : List ℕ) → IsEnd end → CodeFits combines body
    → body_then depth body end tail ≡ rest → Next combines [] end depth tail rest
next_here combines [] depth end tail rest is fits same = record {
  line = end;
  more = tail;
  fits = end_fits combines end is;
  allowed = inr (refl, λ none. refl);
  goes_on = sym same ∙ sym (append_assoc (indentation depth) (inner_text end) tail);
}
next_here combines (s ∷ body) depth end tail rest is fits same =
    let left = body_then depth body end tail in
    let first = first_of_statement combines s (suc depth) left (fits.0.0, λ ring. (fits.1 ring).0) in record {
      line = first.0;
      more = first.1.0;
      fits = opening_fits combines first.0 first.1.1.0;
      allowed = inl first.1.1.0;
      goes_on =
          sym same ∙ three (indentation (suc depth)) (statement_text (suc depth) s) (statements_text (suc depth) body)
          (indentation depth ++ (inner_text end ++ tail))
          ∙ ap (λ (t : List ℕ). indentation (suc depth) ++ t) first.1.1.1
          ∙ ap (λ (t : List ℕ). t ++ (opening_text first.0 ++ first.1.0)) (indent_more depth)
          ∙ deeper_pieces (indentation depth) (opening_text first.0) first.1.0
          ∙ ap (λ (t : List ℕ). (indentation depth ++ t) ++ first.1.0) (sym (opening_inner combines first.0 first.1.1.0));
    }

four : (x y z w behind : List ℕ) → (x ++ (y ++ (z ++ w))) ++ behind ≡ x ++ (y ++ (z ++ (w ++ behind)))
four x y z w behind = simp append_assoc

block_some : (b : Block) (inner : List Block) → b ∷ inner ≡ [] → ⊥
block_some b inner same = cc

outer_next : (combines : Bool) (b : Block) (inner : List Block) (end : Line) (depth : ℕ) (tail tail' rest : List ℕ)
    → Next combines inner (end_of b.opening) (suc depth) tail' rest → Next combines (b ∷ inner) end depth tail rest
outer_next combines b inner end depth tail tail' rest next = record {
  line = next.line;
  more = next.more;
  fits = next.fits;
  allowed = still next.allowed;
  goes_on = next.goes_on;
}
  where
    still : IsOpening combines next.line ⊎ ((next.line ≡ innermost (end_of b.opening) inner) × (inner ≡ [] → next.more ≡ tail'))
        → IsOpening combines next.line ⊎ ((next.line ≡ innermost end (b ∷ inner)) × (b ∷ inner ≡ [] → next.more ≡ tail))
    still (inl opens) = inl opens
    still (inr ends) = inr (ends.0, λ none. absurd (block_some b inner none))

-- what goes on so within some blocks, whatever the body is
abbrev pub GoesOn : Bool → List Block → List KStmt → Type 0
GoesOn combines outer code =
    (body : List KStmt) (depth : ℕ) (end : Line) (tail rest : List ℕ) → IsEnd end → CodeFits combines body
    → body_then depth body end tail ≡ blocks_text (suc depth) outer code ++ rest → Next combines outer end depth tail rest

next_block : (combines : Bool) (b : Block) (inner : List Block) (code left : List KStmt) (depth : ℕ) (end : Line) (tail rest : List ℕ)
    → GoesOn combines inner code → IsEnd end → OpeningFits combines b.opening → CodeFits combines left
    → body_then depth left end tail
    ≡ indentation (suc depth) ++ (opening_lines (suc depth) b.opening ++ (blocks_text (suc (suc depth)) inner code ++ rest))
    → Next combines (b ∷ inner) end depth tail rest
next_block combines b inner code [] depth end tail rest again is words fits same =
    absurd (end_less depth end tail (opening_lines (suc depth) b.opening ++ (blocks_text (suc (suc depth)) inner code ++ rest)) is same)
next_block combines b inner code (s ∷ left) depth end tail rest again is words fits same =
    let blocks = blocks_text (suc (suc depth)) inner code in
    let opening = opening_lines (suc depth) b.opening in
    let inside = into combines b.opening s (suc depth) (body_then depth left end tail) (blocks ++ rest) words
    (fits.0.0, λ ring. (fits.1 ring).0)
    (cut_first depth s left end tail (opening ++ (blocks ++ rest)) same) in
    outer_next combines b inner end depth tail inside.1.0 rest
    (again inside.0 (suc depth) (end_of b.opening) inside.1.0 rest (end_of_is b.opening) inside.1.1.0 inside.1.1.1)

pub next_in : (combines : Bool) (outer : List Block) (code : List KStmt) → BlocksFit combines outer → CodeFits combines code
    → GoesOn combines outer code
next_in combines [] code outer_fits code_fits body depth end tail rest is fits same =
    let left = cut_code combines code body depth end tail rest is code_fits.0 fits same in
    next_here combines left.0 depth end tail rest is left.1.0 left.1.1
next_in combines (b ∷ inner) code outer_fits code_fits body depth end tail rest is fits same =
    let blocks = blocks_text (suc (suc depth)) inner code in
    let opening = opening_lines (suc depth) b.opening in
    let left = cut_code combines b.before body depth end tail (indentation (suc depth) ++ (opening ++ (blocks ++ rest))) is outer_fits.0.0
    fits (same ∙ four (statements_text (suc depth) b.before) (indentation (suc depth)) opening blocks rest) in
    next_block combines b inner code left.0 depth end tail rest (next_in combines inner code outer_fits.1.1 code_fits) is outer_fits.1.0
    left.1.0 left.1.1
