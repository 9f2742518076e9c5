-- Statements told by their texts: a left inverse of the text of statements.
use Rattle.std.specs.Prelude.{◌≡◌, ℕ, zero, suc, ◌+◌, ◌<◌, ◌≤◌, ◌==◌, Bool, true, false, if◌then◌else◌, List, [], ◌∷◌, ◌++◌, codes, drop}
use Rattle.std.specs.Prelude.{length, refl}
use Rattle.std.specs.Char.{is_ascii_digit}
use Rattle.std.specs.Fmt.{decimal}
use Rattle.std.specs.Str.{all_ascii_digits}
use Rattle.std.proofs.Common.{◌∙◌, ap, sym, subst, append_assoc, arith}
use Rattle.std.proofs.lemmas.Bool.Decides.{nat_tests}
use Rattle.std.proofs.lemmas.Fmt.{digits_decimal, decimal_nonempty}
use Rattle.kernel_code.specs.declared.syntax.Arr.{Arr}
use Rattle.kernel_code.specs.declared.syntax.Arr.TheVariants as array
use Rattle.kernel_code.specs.declared.syntax.LoopKind.{LoopKind}
use Rattle.kernel_code.specs.declared.syntax.LoopKind.TheVariants as kind
use Rattle.kernel_code.specs.declared.syntax.ValueOp.{ValueOp}
use Rattle.kernel_code.specs.declared.syntax.ValueOp.TheVariants as value_op
use Rattle.kernel_code.specs.declared.syntax.KExpr.{KExpr, Num, Var, Len, At', Bin', Min', Width'}
use Rattle.kernel_code.specs.declared.syntax.KStmt.{KStmt, Set, Combine, Put, AddTo, Push, Extend, Cut, Sort, SortSum, If, While}
use Rattle.kernel_code.specs.declared.syntax.KStmt.{If', While'}
use Rattle.kernel_code.specs.declared.syntax.KStmt.{Row_of-KStmt, end_of-KStmt, more_of-KStmt, items-the_row-KStmt}
use Rattle.kernel_code.specs.declared.syntax.KStmt.{items_hidden-the_row-KStmt-0}
use Rattle.kernel_code.specs.declared.syntax.KStmt.TheBlock.{hidden-the_row-KStmt-0}
use Rattle.text_lines.proofs.NumberLaws.{digits_model}
use Rattle.kernel_print.specs.ArrayNames.{IsWord, HasWords, BeginsWithoutDigit}
use Rattle.kernel_print.specs.ExprTexts.{ExprHasWords}
use Rattle.kernel_print.specs.KernelTexts.{StatementHasWords, RowHasWords, CodeHasWords}
use Rattle.kernel_print.specs.Text.{array_text, expr_text, boxed_text, indentation, kind_text, combining_text, statement_text}
use Rattle.kernel_print.specs.Text.{statements_text}
use Rattle.kernel_print.proofs.ArrayNames.{number_in, behind_digits, second_byte, told, told_name, cut_number, second_digit, all_first}
use Rattle.kernel_print.proofs.Equations.{if_text, while_text}
use Rattle.kernel_print.proofs.ExprTexts.{Read, expr_told, size, expr_is_told}

abbrev pub first_byte : List ℕ → ℕ
first_byte [] = 0
first_byte (byte ∷ text) = byte

abbrev pub ReadStatement : Type 0
ReadStatement = List ℕ → KStmt × List ℕ

abbrev pub ReadCode : Type 0
ReadCode = List ℕ → List KStmt × List ℕ

-- what each form makes of what was told of its parts
abbrev set_end : ℕ → KExpr × List ℕ → KStmt × List ℕ
set_end x e = (Set x e.0, drop 2 e.1)

abbrev combine_end : ℕ → ValueOp → KExpr → KExpr × List ℕ → KStmt × List ℕ
combine_end x o e f = (Combine x o e f.0, drop 3 f.1)

abbrev combine_first : Read → ℕ → ValueOp → KExpr × List ℕ → KStmt × List ℕ
combine_first read x o e = combine_end x o e.0 (read (drop 2 e.1))

abbrev variable_told : Read → ℕ → List ℕ → KStmt × List ℕ
variable_told read x text =
    let next : ℕ = first_byte (drop 3 text) in
    if next == 112 then combine_first read x value_op.Plus (read (drop 8 text))
    else (if next == 116 then combine_first read x value_op.Times (read (drop 9 text)) else set_end x (read (drop 3 text)))

abbrev put_end : Arr → KExpr → KExpr × List ℕ → KStmt × List ℕ
put_end a i e = (Put a i e.0, drop 2 e.1)

abbrev add_end : Arr → KExpr → KExpr × List ℕ → KStmt × List ℕ
add_end a i e = (AddTo a i e.0, drop 2 e.1)

abbrev write_second : Read → Arr → KExpr × List ℕ → KStmt × List ℕ
write_second read a i =
    if second_byte (drop 1 i.1) == 61 then put_end a i.0 (read (drop 4 i.1)) else add_end a i.0 (read (drop 5 i.1))

abbrev write_first : Read → Arr × List ℕ → KStmt × List ℕ
write_first read a = write_second read a.0 (read (drop 1 a.1))

abbrev push_end : Arr → KExpr × List ℕ → KStmt × List ℕ
push_end a e = (Push a e.0, drop 3 e.1)

abbrev push_first : Read → Arr × List ℕ → KStmt × List ℕ
push_first read a = push_end a.0 (read (drop 2 a.1))

abbrev extend_end : Arr → KExpr → KExpr × List ℕ → KStmt × List ℕ
extend_end a n e = (Extend a n e.0, drop 3 e.1)

abbrev extend_second : Read → Arr → KExpr × List ℕ → KStmt × List ℕ
extend_second read a n = extend_end a n.0 (read (drop 2 n.1))

abbrev extend_first : Read → Arr × List ℕ → KStmt × List ℕ
extend_first read a = extend_second read a.0 (read (drop 2 a.1))

abbrev cut_end : Arr → KExpr × List ℕ → KStmt × List ℕ
cut_end a e = (Cut a e.0, drop 3 e.1)

abbrev cut_first : Read → Arr × List ℕ → KStmt × List ℕ
cut_first read a = cut_end a.0 (read (drop 2 a.1))

abbrev sort_end : ℕ → List ℕ → KStmt × List ℕ
sort_end g text = (Sort g, drop 3 text)

abbrev sum_end : ℕ → List ℕ → KStmt × List ℕ
sum_end w text = (SortSum w, drop 3 text)

abbrev sort_told : List ℕ → KStmt × List ℕ
sort_told text =
    if second_byte (drop 2 text) == 40 then sort_end (number_in (drop 5 text)) (behind_digits (drop 5 text))
    else sum_end (number_in (drop 9 text)) (behind_digits (drop 9 text))

abbrev if_end : KExpr → List KStmt → List KStmt × List ℕ → KStmt × List ℕ
if_end e first second = (If e first second.0, drop 2 second.1)

abbrev if_second : ReadCode → KExpr → List KStmt × List ℕ → KStmt × List ℕ
if_second code e first = if_end e first.0 (code (drop 9 first.1))

abbrev if_first : ReadCode → KExpr × List ℕ → KStmt × List ℕ
if_first code e = if_second code e.0 (code (drop 3 e.1))

abbrev while_end : LoopKind → KExpr → List KStmt × List ℕ → KStmt × List ℕ
while_end k e body = (While k e body.0, drop 2 body.1)

abbrev while_second : ReadCode → LoopKind → KExpr × List ℕ → KStmt × List ℕ
while_second code k e = while_end k e.0 (code (drop 3 e.1))

abbrev while_first : Read → ReadCode → LoopKind × List ℕ → KStmt × List ℕ
while_first read code k = while_second code k.0 (read k.1)

abbrev kind_told : List ℕ → LoopKind × List ℕ
kind_told text =
    let byte : ℕ = first_byte text in
    if byte == 109 then (kind.Merge, drop 6 text) else (if byte == 115 then (kind.Skip, drop 5 text)
    else (if byte == 103 then (kind.Gather, drop 7 text) else (if byte == 100 then (kind.Drain, drop 6 text)
    else (kind.Probe, drop 6 text))))

-- the statement in front of a text, but for its indentation
abbrev pub statement_told : Read → ReadCode → ReadStatement
statement_told read code [] = (Sort 0, [])
statement_told read code (byte ∷ text) =
    if byte == 120 then variable_told read (number_in text) (behind_digits text)
    else (if byte == 112 then push_first read (told (drop 4 text)) else (if byte == 101 then extend_first read (told (drop 6 text))
    else (if byte == 99 then cut_first read (told (drop 3 text)) else (if byte == 115 then sort_told text
    else (if byte == 105 then if_first code (read (drop 2 text)) else (if byte == 119 then
    (if second_byte (byte ∷ text) == 104 then while_first read code (kind_told (drop 5 text)) else write_first read (told (byte ∷ text)))
    else write_first read (told (byte ∷ text))))))))

abbrev behind_indent : ℕ → List ℕ → List ℕ
behind_indent zero text = text
behind_indent (suc depth) text = behind_indent depth (drop 2 text)

abbrev code_rest : KStmt × List ℕ → ReadCode → List KStmt × List ℕ
code_rest s code = let rest = code s.1 in (s.0 ∷ rest.0, rest.1)

abbrev code_at : List ℕ → ReadStatement → ReadCode → List KStmt × List ℕ
code_at text statement code = if first_byte text == 125 then ([], text) else code_rest (statement (drop 2 text)) code

-- the statements inside a bracket which so many others are around, up to where it closes, nested so deep at most
abbrev pub code_told : ℕ → ℕ → ReadCode
code_told zero depth text = ([], text)
code_told (suc n) depth text =
    code_at (behind_indent depth text) (statement_told (expr_told n) (code_told n (suc depth))) (code_told n depth)

abbrev mutual
  pub statement_size : KStmt → ℕ
  statement_size (Set x e) = size e
  statement_size (Combine x o e f) = size e + size f
  statement_size (Put a i e) = size i + size e
  statement_size (AddTo a i e) = size i + size e
  statement_size (Push a e) = size e
  statement_size (Extend a n e) = size n + size e
  statement_size (Cut a e) = size e
  statement_size (Sort g) = 0
  statement_size (SortSum w) = 0
  statement_size (If' e p first q second) = size e + (row_size first + row_size second)
  statement_size (While' k e p body) = size e + row_size body

  pub row_size : {m : _} → Row_of-KStmt m → ℕ
  row_size end_of-KStmt = 1
  row_size (more_of-KStmt s rest) = suc (statement_size s + row_size rest)

abbrev pub code_size : List KStmt → ℕ
code_size [] = 1
code_size (s ∷ rest) = suc (statement_size s + code_size rest)

row_size_is : {m : _} (row : Row_of-KStmt m) → row_size row ≡ code_size (items-the_row-KStmt m row)
row_size_is end_of-KStmt = refl
row_size_is (more_of-KStmt s rest) = ap (λ n. suc (statement_size s + n)) (row_size_is rest)

held_size : (body : List KStmt) → row_size (hidden-the_row-KStmt-0 body) ≡ code_size body
held_size body = row_size_is (hidden-the_row-KStmt-0 body) ∙ ap code_size (items_hidden-the_row-KStmt-0 body)

row_words : {m : _} (row : Row_of-KStmt m) → RowHasWords row → CodeHasWords (items-the_row-KStmt m row)
row_words end_of-KStmt words = tt
row_words (more_of-KStmt s rest) words = (words.0, row_words rest words.1)

held_words : (body : List KStmt) → RowHasWords (hidden-the_row-KStmt-0 body) → CodeHasWords body
held_words body words = subst CodeHasWords (items_hidden-the_row-KStmt-0 body) (row_words (hidden-the_row-KStmt-0 body) words)

-- what a byte isn't that a test takes
pub byte_isnt : (test : ℕ → Bool) (b m : ℕ) → test b ≡ true → test m ≡ false → (b == m) ≡ false
byte_isnt test b m h g = by_test (b == m) refl
  where
    apart : true ≡ false → ⊥
    apart e = cc

    by_test : (t : Bool) → (b == m) ≡ t → t ≡ false
    by_test true e = let is : b ≡ m = grind (arith, nat_tests, e) in absurd (apart (sym h ∙ ap test is ∙ g))
    by_test false e = refl

pub digit_isnt : (b m : ℕ) → is_ascii_digit b ≡ true → is_ascii_digit m ≡ false → (b == m) ≡ false
digit_isnt b m h g = byte_isnt is_ascii_digit b m h g

pub first_digit : (digits behind : List ℕ) → 0 < length digits → all_ascii_digits digits ≡ true
    → is_ascii_digit (first_byte (digits ++ behind)) ≡ true
first_digit [] behind some all = absurd (omega (arith, some))
first_digit (byte ∷ digits) behind some all = (all_first byte digits all).0

-- no expression begins as a sum or product of values does
abbrev Begins : List ℕ → Type 0
Begins text = ((first_byte text == 112) ≡ false) × ((first_byte text == 116) ≡ false)

array_begins : (a : Arr) (rest behind : List ℕ) → Begins ((array_text a ++ rest) ++ behind)
array_begins array.Range rest behind = (refl, refl)
array_begins (array.Values t) rest behind = (refl, refl)
array_begins (array.Dimension t level) rest behind = (refl, refl)
array_begins (array.Ends t level) rest behind = (refl, refl)
array_begins (array.Coordinates t level) rest behind = (refl, refl)
array_begins (array.Width t level) rest behind = (refl, refl)
array_begins (array.Key w key) rest behind = (refl, refl)
array_begins (array.Sums w) rest behind = (refl, refl)
array_begins (array.ListCoordinates g) rest behind = (refl, refl)
array_begins (array.ListPositions g) rest behind = (refl, refl)

number_begins : (k : ℕ) (behind : List ℕ) → IsWord k → Begins (decimal k ++ behind)
number_begins k behind word =
    let digit = first_digit (decimal k) behind (decimal_nonempty k word) (digits_decimal digits_model k word) in
    (digit_isnt (first_byte (decimal k ++ behind)) 112 digit refl, digit_isnt (first_byte (decimal k ++ behind)) 116 digit refl)

expr_begins : (e : KExpr) (behind : List ℕ) → ExprHasWords e → Begins (expr_text e ++ behind)
expr_begins (Num k) behind words = number_begins k behind words
expr_begins (Var x) behind words = (refl, refl)
expr_begins (At' a p i) behind words = array_begins a (codes "[" ++ (boxed_text i ++ codes "]")) behind
expr_begins (Len a) behind words = (refl, refl)
expr_begins (Bin' o p a q b) behind words = (refl, refl)
expr_begins (Min' p a q b) behind words = (refl, refl)
expr_begins (Width' p e) behind words = (refl, refl)

pub numbered : {R : Type 0} (f : ℕ → List ℕ → R) (n : ℕ) (rest : List ℕ) → IsWord n → BeginsWithoutDigit rest
    → f (number_in (decimal n ++ rest)) (behind_digits (decimal n ++ rest)) ≡ f n rest
numbered f n rest word plain =
    let cut = cut_number n rest word plain in
    ap (λ (m : ℕ). f m (behind_digits (decimal n ++ rest))) cut.0 ∙ ap (f n) cut.1

-- a statement is told by its text at every depth
abbrev pub StatementTold : KStmt → Type 0
StatementTold s = (n depth : ℕ) (behind : List ℕ) → statement_size s ≤ n → StatementHasWords s
    → statement_told (expr_told n) (code_told n depth) (statement_text depth s ++ behind) ≡ (s, behind)

abbrev pub CodeTold : List KStmt → Type 0
CodeTold code = (n depth : ℕ) (behind : List ℕ) → code_size code ≤ n → CodeHasWords code
    → code_told n depth (statements_text (suc depth) code ++ (indentation depth ++ (125 ∷ behind))) ≡ (code, 125 ∷ behind)

le_left : (a b n : ℕ) → a + b ≤ n → a ≤ n
le_left a b n h = omega (arith, h)

le_right : (a b n : ℕ) → a + b ≤ n → b ≤ n
le_right a b n h = omega (arith, h)

two_pieces : (a b behind : List ℕ) → (a ++ b) ++ behind ≡ a ++ (b ++ behind)
two_pieces a b behind = append_assoc a b behind

four_pieces : (a b c d behind : List ℕ) → (a ++ (b ++ (c ++ d))) ++ behind ≡ a ++ (b ++ (c ++ (d ++ behind)))
four_pieces a b c d behind = simp append_assoc

six_pieces : (a b c d e f behind : List ℕ)
    → (a ++ (b ++ (c ++ (d ++ (e ++ f))))) ++ behind ≡ a ++ (b ++ (c ++ (d ++ (e ++ (f ++ behind)))))
six_pieces a b c d e f behind = simp append_assoc

pub set_case : (x : ℕ) (e : KExpr) → StatementTold (Set x e)
set_case x e n depth behind small words =
    let read = expr_told n in
    let rest : List ℕ = expr_text e ++ (59 ∷ 10 ∷ behind) in
    let begins = expr_begins e (59 ∷ 10 ∷ behind) words.1 in
    ap (λ (t : List ℕ). variable_told read (number_in t) (behind_digits t)) (four_pieces (decimal x) (codes " = ") (expr_text e)
    (codes ";\n") behind)
    ∙ numbered (variable_told read) x (32 ∷ 61 ∷ 32 ∷ rest) words.0 refl
    ∙ ap (λ (b : Bool). if b then combine_first read x value_op.Plus (read (drop 5 rest)) else
    (if first_byte rest == 116 then combine_first read x value_op.Times (read (drop 6 rest)) else set_end x (read rest))) begins.0
    ∙ ap (λ (b : Bool). if b then combine_first read x value_op.Times (read (drop 6 rest)) else set_end x (read rest)) begins.1
    ∙ ap (set_end x) (expr_is_told e n (59 ∷ 10 ∷ behind) small words.1 refl)

pub combine_case : (x : ℕ) (o : ValueOp) (e f : KExpr) → StatementTold (Combine x o e f)
combine_case x o e f n depth behind small words =
    let read = expr_told n in
    let last : List ℕ = expr_text f ++ (41 ∷ 59 ∷ 10 ∷ behind) in
    let rest : List ℕ = expr_text e ++ (44 ∷ 32 ∷ last) in
    ap (λ (t : List ℕ). variable_told read (number_in t) (behind_digits t)) (six_pieces (decimal x) (combining_text o) (expr_text e)
    (codes ", ") (expr_text f) (codes ");\n") behind)
    ∙ numbered (variable_told read) x (combining_text o ++ rest) words.0 (plain o rest)
    ∙ of_two o rest
    ∙ ap (combine_first read x o) (expr_is_told e n (44 ∷ 32 ∷ last) (le_left (size e) (size f) n small) words.1.0 refl)
    ∙ ap (combine_end x o e) (expr_is_told f n (41 ∷ 59 ∷ 10 ∷ behind) (le_right (size e) (size f) n small) words.1.1 refl)
  where
    plain : (o : ValueOp) (t : List ℕ) → BeginsWithoutDigit (combining_text o ++ t)
    plain value_op.Plus t = refl
    plain value_op.Times t = refl

    of_two : (o : ValueOp) (t : List ℕ)
        → variable_told (expr_told n) x (combining_text o ++ t) ≡ combine_first (expr_told n) x o (expr_told n t)
    of_two value_op.Plus t = refl
    of_two value_op.Times t = refl

-- the name of an array begins no other form
workspace_starts : (read : Read) (code : ReadCode) (w : ℕ) (tail behind : List ℕ) → IsWord w
    → statement_told read code (119 ∷ ((decimal w ++ tail) ++ behind)) ≡ write_first read (told (119 ∷ ((decimal w ++ tail) ++ behind)))
workspace_starts read code w tail behind word =
    let text : List ℕ = (decimal w ++ tail) ++ behind in
    let digit = second_digit 119 (decimal w) tail behind (decimal_nonempty w word) (digits_decimal digits_model w word) in
    ap (λ (b : Bool). if b then while_first read code (kind_told (drop 5 text)) else write_first read (told (119 ∷ text)))
    (digit_isnt (second_byte (119 ∷ text)) 104 digit refl)

array_starts : (read : Read) (code : ReadCode) (a : Arr) (rest : List ℕ) → HasWords a
    → statement_told read code (array_text a ++ rest) ≡ write_first read (told (array_text a ++ rest))
array_starts read code array.Range rest words = refl
array_starts read code (array.Values t) rest words = refl
array_starts read code (array.Dimension t level) rest words = refl
array_starts read code (array.Ends t level) rest words = refl
array_starts read code (array.Coordinates t level) rest words = refl
array_starts read code (array.Width t level) rest words = refl
array_starts read code (array.Key w key) rest words = workspace_starts read code w (codes "_key" ++ decimal key) rest words.0
array_starts read code (array.Sums w) rest words = workspace_starts read code w (codes "_val") rest words
array_starts read code (array.ListCoordinates g) rest words = refl
array_starts read code (array.ListPositions g) rest words = refl

pub put_case : (a : Arr) (i e : KExpr) → StatementTold (Put a i e)
put_case a i e n depth behind small words =
    let read = expr_told n in
    let last : List ℕ = expr_text e ++ (59 ∷ 10 ∷ behind) in
    let rest : List ℕ = expr_text i ++ (93 ∷ 32 ∷ 61 ∷ 32 ∷ last) in
    ap (statement_told read (code_told n depth)) (six_pieces (array_text a) (codes "[") (expr_text i) (codes "] = ") (expr_text e)
    (codes ";\n") behind)
    ∙ array_starts read (code_told n depth) a (91 ∷ rest) words.0
    ∙ ap (write_first read) (told_name a (91 ∷ rest) words.0 refl)
    ∙ ap (write_second read a) (expr_is_told i n (93 ∷ 32 ∷ 61 ∷ 32 ∷ last) (le_left (size i) (size e) n small) words.1.0 refl)
    ∙ ap (put_end a i) (expr_is_told e n (59 ∷ 10 ∷ behind) (le_right (size i) (size e) n small) words.1.1 refl)

pub add_case : (a : Arr) (i e : KExpr) → StatementTold (AddTo a i e)
add_case a i e n depth behind small words =
    let read = expr_told n in
    let last : List ℕ = expr_text e ++ (59 ∷ 10 ∷ behind) in
    let rest : List ℕ = expr_text i ++ (93 ∷ 32 ∷ 43 ∷ 61 ∷ 32 ∷ last) in
    ap (statement_told read (code_told n depth)) (six_pieces (array_text a) (codes "[") (expr_text i) (codes "] += ") (expr_text e)
    (codes ";\n") behind)
    ∙ array_starts read (code_told n depth) a (91 ∷ rest) words.0
    ∙ ap (write_first read) (told_name a (91 ∷ rest) words.0 refl)
    ∙ ap (write_second read a) (expr_is_told i n (93 ∷ 32 ∷ 43 ∷ 61 ∷ 32 ∷ last) (le_left (size i) (size e) n small) words.1.0 refl)
    ∙ ap (add_end a i) (expr_is_told e n (59 ∷ 10 ∷ behind) (le_right (size i) (size e) n small) words.1.1 refl)

pub push_case : (a : Arr) (e : KExpr) → StatementTold (Push a e)
push_case a e n depth behind small words =
    let read = expr_told n in
    let rest : List ℕ = expr_text e ++ (41 ∷ 59 ∷ 10 ∷ behind) in
    ap (λ (t : List ℕ). push_first read (told t)) (four_pieces (array_text a) (codes ", ") (expr_text e) (codes ");\n") behind)
    ∙ ap (push_first read) (told_name a (44 ∷ 32 ∷ rest) words.0 refl)
    ∙ ap (push_end a) (expr_is_told e n (41 ∷ 59 ∷ 10 ∷ behind) small words.1 refl)

pub extend_case : (a : Arr) (count e : KExpr) → StatementTold (Extend a count e)
extend_case a count e n depth behind small words =
    let read = expr_told n in
    let last : List ℕ = expr_text e ++ (41 ∷ 59 ∷ 10 ∷ behind) in
    let rest : List ℕ = expr_text count ++ (44 ∷ 32 ∷ last) in
    ap (λ (t : List ℕ). extend_first read (told t)) (six_pieces (array_text a) (codes ", ") (expr_text count) (codes ", ") (expr_text e)
    (codes ");\n") behind)
    ∙ ap (extend_first read) (told_name a (44 ∷ 32 ∷ rest) words.0 refl)
    ∙ ap (extend_second read a) (expr_is_told count n (44 ∷ 32 ∷ last) (le_left (size count) (size e) n small) words.1.0 refl)
    ∙ ap (extend_end a count) (expr_is_told e n (41 ∷ 59 ∷ 10 ∷ behind) (le_right (size count) (size e) n small) words.1.1 refl)

pub cut_case : (a : Arr) (e : KExpr) → StatementTold (Cut a e)
cut_case a e n depth behind small words =
    let read = expr_told n in
    let rest : List ℕ = expr_text e ++ (41 ∷ 59 ∷ 10 ∷ behind) in
    ap (λ (t : List ℕ). cut_first read (told t)) (four_pieces (array_text a) (codes ", ") (expr_text e) (codes ");\n") behind)
    ∙ ap (cut_first read) (told_name a (44 ∷ 32 ∷ rest) words.0 refl)
    ∙ ap (cut_end a) (expr_is_told e n (41 ∷ 59 ∷ 10 ∷ behind) small words.1 refl)

pub sort_case : (g : ℕ) → StatementTold (Sort g)
sort_case g n depth behind small words =
    ap (λ (t : List ℕ). sort_end (number_in t) (behind_digits t)) (two_pieces (decimal g) (codes ");\n") behind)
    ∙ numbered sort_end g (41 ∷ 59 ∷ 10 ∷ behind) words refl

pub sum_case : (w : ℕ) → StatementTold (SortSum w)
sum_case w n depth behind small words =
    ap (λ (t : List ℕ). sum_end (number_in t) (behind_digits t)) (two_pieces (decimal w) (codes ");\n") behind)
    ∙ numbered sum_end w (41 ∷ 59 ∷ 10 ∷ behind) words refl

if_pieces : (e w a i c b d behind : List ℕ)
    → ((e ++ w) ++ ((a ++ (i ++ c)) ++ (b ++ (i ++ d)))) ++ behind ≡ e ++ (w ++ (a ++ (i ++ (c ++ (b ++ (i ++ (d ++ behind)))))))
if_pieces e w a i c b d behind = simp append_assoc

pub if_case : (e : KExpr) (first second : List KStmt) → CodeTold first → CodeTold second → StatementTold (If e first second)
if_case e first second tf ts n depth behind small words =
    let read = expr_told n in
    let code = code_told n depth in
    let i = indentation depth in
    let fits : size e + (code_size first + code_size second) ≤ n =
    subst (λ m. m ≤ n) (ap (λ m. size e + (m + row_size (hidden-the_row-KStmt-0 second))) (held_size first)
    ∙ ap (λ m. size e + (code_size first + m)) (held_size second)) small in
    let bodies = le_right (size e) (code_size first + code_size second) n fits in
    let a = statements_text (suc depth) first in
    let b = statements_text (suc depth) second in
    let last : List ℕ = b ++ (i ++ (125 ∷ 10 ∷ behind)) in
    let middle : List ℕ = codes " else {\n" ++ last in
    ap (λ (t : List ℕ). statement_told read code (t ++ behind)) (if_text depth e first second)
    ∙ ap (λ (t : List ℕ). if_first code (read t)) (if_pieces (expr_text e) (codes " {\n") a i (codes "} else {\n") b (codes "}\n") behind)
    ∙ ap (if_first code) (expr_is_told e n (codes " {\n" ++ (a ++ (i ++ (125 ∷ middle))))
    (le_left (size e) (code_size first + code_size second) n fits) words.0 refl)
    ∙ ap (if_second code e) (tf n depth middle (le_left (code_size first) (code_size second) n bodies) (held_words first words.1.0))
    ∙ ap (if_end e first) (ts n depth (10 ∷ behind) (le_right (code_size first) (code_size second) n bodies) (held_words second words.1.1))

kind_is_told : (k : LoopKind) (rest : List ℕ) → kind_told (kind_text k ++ (32 ∷ rest)) ≡ (k, rest)
kind_is_told kind.Merge rest = refl
kind_is_told kind.Skip rest = refl
kind_is_told kind.Gather rest = refl
kind_is_told kind.Drain rest = refl
kind_is_told kind.Probe rest = refl

while_pieces : (k s e w a i d behind : List ℕ)
    → ((k ++ (s ++ (e ++ w))) ++ (a ++ (i ++ d))) ++ behind ≡ k ++ (s ++ (e ++ (w ++ (a ++ (i ++ (d ++ behind))))))
while_pieces k s e w a i d behind = simp append_assoc

pub while_case : (k : LoopKind) (e : KExpr) (body : List KStmt) → CodeTold body → StatementTold (While k e body)
while_case k e body tb n depth behind small words =
    let read = expr_told n in
    let code = code_told n depth in
    let i = indentation depth in
    let fits : size e + code_size body ≤ n = subst (λ m. m ≤ n) (ap (λ m. size e + m) (held_size body)) small in
    let a = statements_text (suc depth) body in
    let last : List ℕ = codes " {\n" ++ (a ++ (i ++ (125 ∷ 10 ∷ behind))) in
    ap (λ (t : List ℕ). statement_told read code (t ++ behind)) (while_text depth k e body)
    ∙ ap (λ (t : List ℕ). while_first read code (kind_told t)) (while_pieces (kind_text k) (codes " ") (expr_text e) (codes " {\n") a i
    (codes "}\n") behind)
    ∙ ap (while_first read code) (kind_is_told k (expr_text e ++ last))
    ∙ ap (while_second code k) (expr_is_told e n last (le_left (size e) (code_size body) n fits) words.0 refl)
    ∙ ap (while_end k e) (tb n depth (10 ∷ behind) (le_right (size e) (code_size body) n fits) (held_words body words.1))

behind_is : (depth : ℕ) (text : List ℕ) → behind_indent depth (indentation depth ++ text) ≡ text
behind_is zero text = refl
behind_is (suc depth) text = behind_is depth text

blanks_left : (depth : ℕ) (text : List ℕ) → behind_indent depth (indentation (suc depth) ++ text) ≡ 32 ∷ 32 ∷ text
blanks_left zero text = refl
blanks_left (suc depth) text = blanks_left depth text

pub nothing_told : CodeTold []
nothing_told zero depth behind small words = absurd (omega (arith, small))
nothing_told (suc n) depth behind small words =
    ap (λ (t : List ℕ). code_at t (statement_told (expr_told n) (code_told n (suc depth))) (code_told n depth))
    (behind_is depth (125 ∷ behind))

fits_rest : (a b n : ℕ) → suc (a + b) ≤ suc n → a + b ≤ n
fits_rest a b n small = omega (arith, small)

none_fits : (a : ℕ) → suc a ≤ 0 → ⊥
none_fits a small = omega (arith, small)

pub more_told : (s : KStmt) (rest : List KStmt) → StatementTold s → CodeTold rest → CodeTold (s ∷ rest)
more_told s rest ts tr zero depth behind small words = absurd (none_fits (statement_size s + code_size rest) small)
more_told s rest ts tr (suc n) depth behind small words =
    let fits = fits_rest (statement_size s) (code_size rest) n small in
    let end : List ℕ = indentation depth ++ (125 ∷ behind) in
    let t = statement_text (suc depth) s in
    let r = statements_text (suc depth) rest in
    let statement = statement_told (expr_told n) (code_told n (suc depth)) in
    let code = code_told n depth in
    ap (code_told (suc n) depth) (append_assoc (indentation (suc depth)) (t ++ r) end
    ∙ ap (λ (x : List ℕ). indentation (suc depth) ++ x) (append_assoc t r end))
    ∙ ap (λ (x : List ℕ). code_at x statement code) (blanks_left depth (t ++ (r ++ end)))
    ∙ ap (λ (x : KStmt × List ℕ). code_rest x code)
    (ts n (suc depth) (r ++ end) (le_left (statement_size s) (code_size rest) n fits) words.0)
    ∙ ap (λ (x : List KStmt × List ℕ). (s ∷ x.0, x.1)) (tr n depth behind (le_right (statement_size s) (code_size rest) n fits) words.1)
