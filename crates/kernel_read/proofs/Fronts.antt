-- With which lines the text of a kernel goes on behind those that were read.
use Rattle.std.specs.Prelude.{◌≡◌, ℕ, zero, suc, ◌+◌, ◌≤◌, ◌==◌, ◌⊎◌, Bool, true, false, List, [], ◌∷◌, ◌++◌, codes}
use Rattle.std.specs.Prelude.{length, drop, refl}
use Rattle.std.specs.Char.{is_ascii_digit}
use Rattle.std.specs.Fmt.{decimal}
use Rattle.std.proofs.Common.{◌∙◌, ap, sym, subst, append_assoc, arith, inl, inr}
use Rattle.std.proofs.lemmas.Bool.Decides.{Decides-eqb}
use Rattle.std.proofs.lemmas.Fmt.{digits_decimal, decimal_nonempty}
use Rattle.std.proofs.lemmas.List.{append_cancel_left}
use Rattle.kernel_code.specs.declared.syntax.Arr.{Arr}
use Rattle.kernel_code.specs.declared.syntax.Arr.TheVariants as array
use Rattle.kernel_code.specs.declared.syntax.KStmt.{KStmt, Set, Combine, Put, AddTo, Push, Extend, Cut, Sort, SortSum, If', While'}
use Rattle.text_lines.proofs.NumberLaws.{digits_model}
use Rattle.kernel_print.specs.ArrayNames.{HasWords, IsWord}
use Rattle.kernel_print.specs.KernelTexts.{AreWords, StatementHasWords}
use Rattle.kernel_print.specs.Text.{array_text, expr_text, lists_text, statement_text, statements_text, workspaces_text}
use Rattle.kernel_print.proofs.StatementTexts.{first_byte, first_digit}
use Rattle.kernel_read.specs.Blocks.{BlocksFit, CodeFits, blocks_text, opening_lines}
use Rattle.kernel_read.specs.Heads.{list_line, workspace_line}
use Rattle.kernel_read.specs.Kernels.{HaveFewKeys}
use Rattle.kernel_read.specs.declared.blocks.Block.{Block}
use Rattle.kernel_read.specs.declared.blocks.Opening.{Opening}
use Rattle.kernel_read.specs.declared.blocks.Opening.TheVariants as o
use Rattle.kernel_read.specs.declared.lines.Line.TheVariants as a
use Rattle.kernel_read.proofs.Bodies.{Next, next_in, three}
use Rattle.kernel_read.proofs.Standing.{tells_numbers}

false_true : false ≡ true → ⊥
false_true same = cc

-- two texts with other first bytes
pub apart : {x y : ℕ} {u v : List ℕ} → x ∷ u ≡ y ∷ v → (x == y) ≡ false → ⊥
apart {x} {y} {u} {v} same other =
    let is : x ≡ y = cc in false_true (sym other ∙ (Decides-eqb x y).1 is)

-- neither the line of a workspace nor that of a scratch list begins so, behind its blanks
abbrev IsOther : List ℕ → Type 0
IsOther text = ((t : List ℕ) → text ≡ 119 ∷ 111 ∷ t → ⊥) × ((t : List ℕ) → text ≡ 115 ∷ 99 ∷ t → ⊥)

workspace_other : (n : ℕ) (more behind : List ℕ) → IsWord n → IsOther (119 ∷ ((decimal n ++ more) ++ behind))
workspace_other n more behind word = (
  λ t same. false_true (sym (ap (λ (x : List ℕ). is_ascii_digit (first_byte (drop 1 x))) same) ∙ digit),
  λ t same. apart same refl,
)
  where
    digit : is_ascii_digit (first_byte ((decimal n ++ more) ++ behind)) ≡ true
    digit =
        ap (λ (x : List ℕ). is_ascii_digit (first_byte x)) (append_assoc (decimal n) more behind)
        ∙ first_digit (decimal n) (more ++ behind) (decimal_nonempty n word) (digits_decimal digits_model n word)

array_other : (x : Arr) (more behind : List ℕ) → HasWords x → IsOther ((array_text x ++ more) ++ behind)
array_other array.Range more behind words = (λ t same. apart same refl, λ t same. apart same refl)
array_other (array.Values n) more behind words = (λ t same. apart same refl, λ t same. apart same refl)
array_other (array.Dimension n level) more behind words = (λ t same. apart same refl, λ t same. apart same refl)
array_other (array.Ends n level) more behind words = (λ t same. apart same refl, λ t same. apart same refl)
array_other (array.Coordinates n level) more behind words = (λ t same. apart same refl, λ t same. apart same refl)
array_other (array.Width n level) more behind words = (λ t same. apart same refl, λ t same. apart same refl)
array_other (array.Key n key) more behind words =
    subst (λ (t : List ℕ). IsOther (119 ∷ (t ++ behind))) (sym (append_assoc (decimal n) (codes "_key" ++ decimal key) more))
    (workspace_other n ((codes "_key" ++ decimal key) ++ more) behind words.0)
array_other (array.Sums n) more behind words =
    subst (λ (t : List ℕ). IsOther (119 ∷ (t ++ behind))) (sym (append_assoc (decimal n) (codes "_val") more))
    (workspace_other n (codes "_val" ++ more) behind words)
array_other (array.ListCoordinates n) more behind words = (λ t same. apart same refl, λ t same. apart same refl)
array_other (array.ListPositions n) more behind words = (λ t same. apart same refl, λ t same. apart same refl)

statement_other : (s : KStmt) (behind : List ℕ) → StatementHasWords s → IsOther (statement_text 1 s ++ behind)
statement_other (Set x e) behind words = (λ t same. apart same refl, λ t same. apart same refl)
statement_other (Combine x op e f) behind words = (λ t same. apart same refl, λ t same. apart same refl)
statement_other (Put x i e) behind words =
    array_other x (codes "[" ++ (expr_text i ++ (codes "] = " ++ (expr_text e ++ codes ";\n")))) behind words.0
statement_other (AddTo x i e) behind words =
    array_other x (codes "[" ++ (expr_text i ++ (codes "] += " ++ (expr_text e ++ codes ";\n")))) behind words.0
statement_other (Push x e) behind words = (λ t same. apart same refl, λ t same. apart same refl)
statement_other (Extend x n e) behind words = (λ t same. apart same refl, λ t same. apart same refl)
statement_other (Cut x e) behind words = (λ t same. apart same refl, λ t same. apart same refl)
statement_other (Sort g) behind words = (λ t same. apart same refl, λ t same. apart (ap (drop 1) same) refl)
statement_other (SortSum w) behind words = (λ t same. apart same refl, λ t same. apart (ap (drop 1) same) refl)
statement_other (If' e p first q second) behind words = (λ t same. apart same refl, λ t same. apart same refl)
statement_other (While' k e p body) behind words = (λ t same. apart (ap (drop 1) same) refl, λ t same. apart same refl)

opening_other : (opening : Opening) (behind : List ℕ) → IsOther (opening_lines 1 opening ++ behind)
opening_other (o.Loop k e) behind = (λ t same. apart (ap (drop 1) same) refl, λ t same. apart same refl)
opening_other (o.Then e) behind = (λ t same. apart same refl, λ t same. apart same refl)
opening_other (o.Second e first) behind = (λ t same. apart same refl, λ t same. apart same refl)

-- nothing was read of a body
abbrev pub IsNone : List Block → List KStmt → Type 0
IsNone outer code = (outer ≡ []) × (code ≡ [])

-- what was read of a body, and what stands behind, is no line of a workspace or a scratch list
abbrev IsOtherLine : List ℕ → Type 0
IsOtherLine text = (rest : List ℕ) × ((text ≡ 32 ∷ 32 ∷ rest) × IsOther rest)

code_other : (s : KStmt) (code : List KStmt) (behind : List ℕ) → StatementHasWords s
    → IsOtherLine (statements_text 1 (s ∷ code) ++ behind)
code_other s code behind words = (
  statement_text 1 s ++ (statements_text 1 code ++ behind),
  (
    three (codes "  ") (statement_text 1 s) (statements_text 1 code) behind,
    statement_other s (statements_text 1 code ++ behind) words,
  ),
)

block_other : (combines : Bool) (before : List KStmt) (opening : Opening) (inner behind : List ℕ) → CodeFits combines before
    → IsOtherLine ((statements_text 1 before ++ (codes "  " ++ (opening_lines 1 opening ++ inner))) ++ behind)
block_other combines [] opening inner behind fits = (
  opening_lines 1 opening ++ (inner ++ behind),
  (
    three (codes "  ") (opening_lines 1 opening) inner behind,
    opening_other opening (inner ++ behind),
  ),
)
block_other combines (s ∷ before) opening inner behind fits =
    let rest : List ℕ = codes "  " ++ (opening_lines 1 opening ++ inner) in
    subst IsOtherLine (sym (append_assoc (statements_text 1 (s ∷ before)) rest behind)) (code_other s before (rest ++ behind) fits.0.0)

blocks_other : (combines : Bool) (outer : List Block) (code : List KStmt) (rest : List ℕ) → BlocksFit combines outer
    → CodeFits combines code → IsNone outer code ⊎ IsOtherLine (blocks_text 1 outer code ++ rest)
blocks_other combines [] [] rest outer_fits fits = inl (refl, refl)
blocks_other combines [] (s ∷ code) rest outer_fits fits = inr (code_other s code rest fits.0.0)
blocks_other combines (b ∷ inner) code rest outer_fits fits =
    inr (block_other combines b.before b.opening (blocks_text 2 inner code) rest outer_fits.0)

none_text : (outer : List Block) (code : List KStmt) (rest : List ℕ) → IsNone outer code → blocks_text 1 outer code ++ rest ≡ rest
none_text outer code rest none =
    ap (λ (x : List Block). blocks_text 1 x code ++ rest) none.0 ∙ ap (λ (x : List KStmt). statements_text 1 x ++ rest) none.1

not_workspace : (text rest : List ℕ) → IsOtherLine text → text ≡ codes "  workspace w" ++ rest → ⊥
not_workspace text rest other same =
    other.1.1.0 (codes "rkspace w" ++ rest) (ap (drop 2) (sym other.1.0 ∙ same))

not_list : (text rest : List ℕ) → IsOtherLine text → text ≡ codes "  scratch g" ++ rest → ⊥
not_list text rest other same = other.1.1.1 (codes "ratch g" ++ rest) (ap (drop 2) (sym other.1.0 ∙ same))

-- the text of a body and the end of the kernel begin no such line
body_not_workspace : (combines : Bool) (body : List KStmt) (rest : List ℕ) → CodeFits combines body
    → statements_text 1 body ++ codes "}\n" ≡ codes "  workspace w" ++ rest → ⊥
body_not_workspace combines [] rest fits same = apart same refl
body_not_workspace combines (s ∷ body) rest fits same =
    not_workspace (statements_text 1 (s ∷ body) ++ codes "}\n") rest (code_other s body (codes "}\n") fits.0.0) same

body_not_list : (combines : Bool) (body : List KStmt) (rest : List ℕ) → CodeFits combines body
    → statements_text 1 body ++ codes "}\n" ≡ codes "  scratch g" ++ rest → ⊥
body_not_list combines [] rest fits same = apart same refl
body_not_list combines (s ∷ body) rest fits same =
    not_list (statements_text 1 (s ∷ body) ++ codes "}\n") rest (code_other s body (codes "}\n") fits.0.0) same

-- the number of the next one behind so many
abbrev pub number_behind : ℕ → ℕ → ℕ
number_behind first zero = first
number_behind first (suc n) = number_behind (suc first) n

pub number_is : (n first : ℕ) → number_behind first n ≡ first + n
number_is zero first = omega arith
number_is (suc n) first = let rest = number_is n (suc first) in omega (arith, rest)

abbrev pub ListNext : ℕ → List Block → List KStmt → List ℕ → Type 0
ListNext number outer code rest =
    IsNone outer code × ((more : List ℕ) × (IsWord (suc number) × (rest ≡ list_line number ++ more)))

list_pieces : (n r behind : List ℕ)
    → (codes "  scratch g" ++ (n ++ (codes ";\n" ++ r))) ++ behind ≡ (codes "  scratch g" ++ (n ++ codes ";\n")) ++ (r ++ behind)
list_pieces n r behind = simp append_assoc

first_word : (first n : ℕ) → IsWord (first + suc n) → IsWord (suc first)
first_word first n word = omega (arith, word)

rest_word : (first n : ℕ) → IsWord (first + suc n) → IsWord (suc first + n)
rest_word first n word = omega (arith, word)

-- the scratch lists of a kernel with this body
pub next_lists : (combines : Bool) (outer : List Block) (code body : List KStmt) (rest : List ℕ) → BlocksFit combines outer
    → CodeFits combines code → CodeFits combines body → (n lists first : ℕ) → IsWord (first + lists)
    → lists_text first lists ++ (statements_text 1 body ++ codes "}\n") ≡ lists_text first n ++ (blocks_text 1 outer code ++ rest)
    → ListNext (number_behind first n) outer code rest ⊎ Next combines outer a.Close 0 [] rest
next_lists combines outer code body rest outer_fits fits body_fits zero zero first word same =
    inr (next_in combines outer code outer_fits fits body 0 a.Close [] rest tt body_fits same)
next_lists combines outer code body rest outer_fits fits body_fits zero (suc lists) first word same =
    by_line (blocks_other combines outer code rest outer_fits fits)
  where
    more : List ℕ
    more = lists_text (suc first) lists ++ (statements_text 1 body ++ codes "}\n")

    told : blocks_text 1 outer code ++ rest ≡ list_line first ++ more
    told = sym same ∙ list_pieces (decimal first) (lists_text (suc first) lists) (statements_text 1 body ++ codes "}\n")

    by_line : IsNone outer code ⊎ IsOtherLine (blocks_text 1 outer code ++ rest)
        → ListNext first outer code rest ⊎ Next combines outer a.Close 0 [] rest
    by_line (inl none) = inl (none, (more, (first_word first lists word, sym (none_text outer code rest none) ∙ told)))
    by_line (inr other) =
        absurd (not_list (blocks_text 1 outer code ++ rest) ((decimal first ++ codes ";\n") ++ more) other told)
next_lists combines outer code body rest outer_fits fits body_fits (suc n) zero first word same =
    absurd (body_not_list combines body ((decimal first ++ codes ";\n") ++ (lists_text (suc first) n ++ (blocks_text 1 outer code ++ rest)))
    body_fits (same ∙ list_pieces (decimal first) (lists_text (suc first) n) (blocks_text 1 outer code ++ rest)))
next_lists combines outer code body rest outer_fits fits body_fits (suc n) (suc lists) first word same =
    let end : List ℕ = statements_text 1 body ++ codes "}\n" in
    let read = blocks_text 1 outer code ++ rest in
    next_lists combines outer code body rest outer_fits fits body_fits n lists (suc first) (rest_word first lists word)
    (append_cancel_left (list_line first) (lists_text (suc first) lists ++ end) (lists_text (suc first) n ++ read)
    (sym (list_pieces (decimal first) (lists_text (suc first) lists) end) ∙ same
    ∙ list_pieces (decimal first) (lists_text (suc first) n) read))

abbrev pub WorkspaceNext : ℕ → ℕ → List Block → List KStmt → List ℕ → Type 0
WorkspaceNext number lists outer code rest =
    (lists ≡ 0) × (IsNone outer code × ((keys : ℕ) × ((more : List ℕ) × (IsWord (suc number) × (IsWord keys × ((keys ≤ 6)
    × (rest ≡ workspace_line number keys ++ more)))))))

workspace_pieces : (n k r behind : List ℕ)
    → (codes "  workspace w" ++ (n ++ (codes " " ++ (k ++ (codes ";\n" ++ r))))) ++ behind
    ≡ (codes "  workspace w" ++ (n ++ (codes " " ++ (k ++ codes ";\n")))) ++ (r ++ behind)
workspace_pieces n k r behind = simp append_assoc

keys_pieces : (n k rest : List ℕ)
    → (codes "  workspace w" ++ (n ++ (codes " " ++ (k ++ codes ";\n")))) ++ rest
    ≡ (codes "  workspace w" ++ (n ++ codes " ")) ++ (k ++ (codes ";\n" ++ rest))
keys_pieces n k rest = simp append_assoc

lists_not_workspace : (combines : Bool) (body : List KStmt) (rest : List ℕ) → CodeFits combines body → (lists first : ℕ)
    → lists_text first lists ++ (statements_text 1 body ++ codes "}\n") ≡ codes "  workspace w" ++ rest → ⊥
lists_not_workspace combines body rest fits zero first same = body_not_workspace combines body rest fits same
lists_not_workspace combines body rest fits (suc lists) first same = apart (ap (drop 2) same) refl

-- a text so far goes on with the line of a workspace
first_workspace : (combines : Bool) (outer : List Block) (code : List KStmt) (rest more : List ℕ) → BlocksFit combines outer
    → CodeFits combines code → (lists number keys : ℕ) → IsWord (suc number) → IsWord keys → keys ≤ 6
    → lists_text 0 lists ++ (blocks_text 1 outer code ++ rest) ≡ workspace_line number keys ++ more
    → WorkspaceNext number lists outer code rest
first_workspace combines outer code rest more outer_fits fits zero number keys word word' few same =
    by_line (blocks_other combines outer code rest outer_fits fits)
  where
    by_line : IsNone outer code ⊎ IsOtherLine (blocks_text 1 outer code ++ rest) → WorkspaceNext number 0 outer code rest
    by_line (inl none) = (refl, (none, (keys, (more, (word, (word', (few, sym (none_text outer code rest none) ∙ same)))))))
    by_line (inr other) =
        absurd (not_workspace (blocks_text 1 outer code ++ rest) ((decimal number ++ (codes " " ++ (decimal keys ++ codes ";\n"))) ++ more)
        other same)
first_workspace combines outer code rest more outer_fits fits (suc lists) number keys word word' few same =
    absurd (apart (ap (drop 2) same) refl)

-- and with any line, where it is that of a kernel with these workspaces, scratch lists and body
pub next_workspaces : (combines : Bool) (outer : List Block) (code body : List KStmt) (rest : List ℕ) → BlocksFit combines outer
    → CodeFits combines code → CodeFits combines body → (n lists : ℕ) → IsWord lists → (ws all : List ℕ) (first : ℕ)
    → IsWord (first + length all) → AreWords ws → AreWords all → HaveFewKeys all
    → workspaces_text first all ++ (lists_text 0 lists ++ (statements_text 1 body ++ codes "}\n"))
    ≡ workspaces_text first ws ++ (lists_text 0 n ++ (blocks_text 1 outer code ++ rest))
    → WorkspaceNext (number_behind first (length ws)) n outer code rest
    ⊎ (ListNext (number_behind 0 n) outer code rest ⊎ Next combines outer a.Close 0 [] rest)
next_workspaces combines outer code body rest outer_fits fits body_fits n lists word [] [] first word' ws_words all_words few same =
    inr (next_lists combines outer code body rest outer_fits fits body_fits n lists 0 (omega (arith, word)) same)
next_workspaces combines outer code body rest outer_fits fits body_fits n lists word [] (keys ∷ all) first word' ws_words
    all_words few same =
    let end : List ℕ = lists_text 0 lists ++ (statements_text 1 body ++ codes "}\n") in
    inl (first_workspace combines outer code rest (workspaces_text (suc first) all ++ end) outer_fits fits n first keys
    (first_word first (length all) word') all_words.0 few.0
    (sym same ∙ workspace_pieces (decimal first) (decimal keys) (workspaces_text (suc first) all) end))
next_workspaces combines outer code body rest outer_fits fits body_fits n lists word (keys ∷ ws) [] first word' ws_words
    all_words few same =
    let read : List ℕ = lists_text 0 n ++ (blocks_text 1 outer code ++ rest) in
    absurd (lists_not_workspace combines body ((decimal first ++ (codes " " ++ (decimal keys ++ codes ";\n")))
    ++ (workspaces_text (suc first) ws ++ read)) body_fits lists 0
    (same ∙ workspace_pieces (decimal first) (decimal keys) (workspaces_text (suc first) ws) read))
next_workspaces combines outer code body rest outer_fits fits body_fits n lists word (keys ∷ ws) (keys' ∷ all) first word' ws_words
    all_words few same =
    let end : List ℕ = lists_text 0 lists ++ (statements_text 1 body ++ codes "}\n") in
    let read : List ℕ = lists_text 0 n ++ (blocks_text 1 outer code ++ rest) in
    let left : List ℕ = workspaces_text (suc first) all ++ end in
    let right : List ℕ = workspaces_text (suc first) ws ++ read in
    let told = append_cancel_left (codes "  workspace w" ++ (decimal first ++ codes " ")) (decimal keys' ++ (codes ";\n" ++ left))
    (decimal keys ++ (codes ";\n" ++ right))
    (sym (keys_pieces (decimal first) (decimal keys') left)
    ∙ sym (workspace_pieces (decimal first) (decimal keys') (workspaces_text (suc first) all) end) ∙ same
    ∙ workspace_pieces (decimal first) (decimal keys) (workspaces_text (suc first) ws) read
    ∙ keys_pieces (decimal first) (decimal keys) right) in
    let both = tells_numbers keys' keys (codes ";\n" ++ left) (codes ";\n" ++ right) all_words.0 ws_words.0 refl refl told in
    next_workspaces combines outer code body rest outer_fits fits body_fits n lists word ws all (suc first)
    (rest_word first (length all) word') ws_words.1 all_words.1 few.1 (append_cancel_left (codes ";\n") left right both.1)
