-- Kernels told by their texts: a left inverse of the text of a kernel.
use Rattle.std.specs.Prelude.{◌≡◌, ℕ, zero, suc, ◌+◌, ◌≤◌, ◌==◌, Bool, true, false, if◌then◌else◌, List, [], ◌∷◌, ◌++◌, codes, drop}
use Rattle.std.specs.Prelude.{length, map, refl}
use Rattle.std.specs.Char.{is_ascii_digit, is_ascii_lowercase}
use Rattle.std.specs.Fmt.{decimal}
use Rattle.std.specs.List.{list_all}
use Rattle.std.proofs.Common.{◌∙◌, ap, sym, subst, append_assoc, arith}
use Rattle.std.proofs.lemmas.Fmt.{digits_decimal, decimal_nonempty}
use Rattle.kernel_code.specs.declared.syntax.Arr.{Arr}
use Rattle.kernel_code.specs.declared.syntax.Arr.TheVariants as array
use Rattle.kernel_code.specs.declared.syntax.Kernel.{Kernel}
use Rattle.kernel_code.specs.declared.syntax.KernelSemiring.{KernelSemiring}
use Rattle.kernel_code.specs.declared.syntax.KernelSemiring.TheVariants.{Ring, Named}
use Rattle.kernel_code.specs.declared.syntax.KStmt.{KStmt, map-KStmt, Set, Combine, Put, AddTo, Push, Extend, Cut, Sort, SortSum}
use Rattle.kernel_code.specs.declared.syntax.KStmt.{If', While'}
use Rattle.kernel_code.specs.declared.syntax.KStmt.TheVariants.{rolls-Set, rolls-Combine, rolls-Put, rolls-AddTo, rolls-Push, rolls-Extend}
use Rattle.kernel_code.specs.declared.syntax.KStmt.TheVariants.{rolls-Cut, rolls-Sort, rolls-SortSum, rolls-If, rolls-While}
use Rattle.kernel_code.specs.declared.syntax.KStmt.TheFolds.{ind-KStmt}
use Rattle.kernel_code.specs.declared.syntax.KStmt.TheViews.{roll-KStmt}
use Rattle.kernel_code.specs.declared.syntax.KStmt.TheOpen as view
use Rattle.kernel_code.specs.Semirings.{HasName}
use Rattle.text_lines.proofs.NumberLaws.{digits_model}
use Rattle.kernel_print.specs.ArrayNames.{IsWord, HasWords}
use Rattle.kernel_print.specs.KernelTexts.{StatementHasWords, CodeHasWords, AreWords, KernelHasWords, TextsTellKernels}
use Rattle.kernel_print.specs.Text.{array_text, expr_text, statement_text, statements_text, workspaces_text, lists_text}
use Rattle.kernel_print.specs.Text.{head_text, kernel_text}
use Rattle.kernel_print.proofs.ArrayNames.{first_true, number_in, behind_digits, second_byte}
use Rattle.kernel_print.proofs.StatementTexts.{first_byte, first_digit, byte_isnt, digit_isnt, numbered, code_told}
use Rattle.kernel_print.proofs.StatementTexts.{code_size, StatementTold, CodeTold}
use Rattle.kernel_print.proofs.StatementTexts.{nothing_told, more_told, set_case, combine_case, put_case, add_case, push_case, extend_case}
use Rattle.kernel_print.proofs.StatementTexts.{cut_case, sort_case, sum_case, if_case, while_case}

abbrev Pair : Type 0
Pair = (s : KStmt) × StatementTold s

pairs_told : (ps : List Pair) → CodeTold (map (λ (p : Pair). p.0) ps)
pairs_told [] = nothing_told
pairs_told (p ∷ ps) = more_told p.0 (map (λ (p : Pair). p.0) ps) p.1 (pairs_told ps)

layer_told : (y : view.KStmt-F Pair) → StatementTold (roll-KStmt (map-KStmt Pair KStmt (λ p. p.0) y))
layer_told (view.Set x e) = subst StatementTold (sym (rolls-Set x e)) (set_case x e)
layer_told (view.Combine x o e f) = subst StatementTold (sym (rolls-Combine x o e f)) (combine_case x o e f)
layer_told (view.Put a i e) = subst StatementTold (sym (rolls-Put a i e)) (put_case a i e)
layer_told (view.AddTo a i e) = subst StatementTold (sym (rolls-AddTo a i e)) (add_case a i e)
layer_told (view.Push a e) = subst StatementTold (sym (rolls-Push a e)) (push_case a e)
layer_told (view.Extend a n e) = subst StatementTold (sym (rolls-Extend a n e)) (extend_case a n e)
layer_told (view.Cut a e) = subst StatementTold (sym (rolls-Cut a e)) (cut_case a e)
layer_told (view.Sort g) = subst StatementTold (sym (rolls-Sort g)) (sort_case g)
layer_told (view.SortSum w) = subst StatementTold (sym (rolls-SortSum w)) (sum_case w)
layer_told (view.If e first second) =
    let a = map (λ (p : Pair). p.0) first in
    let b = map (λ (p : Pair). p.0) second in
    subst StatementTold (sym (rolls-If e a b)) (if_case e a b (pairs_told first) (pairs_told second))
layer_told (view.While k e body) =
    let a = map (λ (p : Pair). p.0) body in subst StatementTold (sym (rolls-While k e a)) (while_case k e a (pairs_told body))

pub statement_is_told : (s : KStmt) → StatementTold s
statement_is_told = ind-KStmt StatementTold (λ x y is. subst (λ z. StatementTold (roll-KStmt z)) is (layer_told y))

code_is_told : (code : List KStmt) → CodeTold code
code_is_told [] = nothing_told
code_is_told (s ∷ rest) = more_told s rest (statement_is_told s) (code_is_told rest)

-- what a line is of, by the bytes behind its blanks
abbrev line_begins : ℕ → ℕ → List ℕ → Bool
line_begins third fourth text = if second_byte (drop 1 text) == third then second_byte (drop 2 text) == fourth else false

abbrev is_workspace_line : List ℕ → Bool
is_workspace_line text = line_begins 119 111 text

abbrev is_list_line : List ℕ → Bool
is_list_line text = line_begins 115 99 text

-- neither the line of a workspace nor that of a scratch list
abbrev IsOther : List ℕ → Type 0
IsOther text = (is_workspace_line text ≡ false) × (is_list_line text ≡ false)

second_is_first : (byte : ℕ) (text : List ℕ) → second_byte (byte ∷ text) ≡ first_byte text
second_is_first byte [] = refl
second_is_first byte (next ∷ text) = refl

workspace_other : (w : ℕ) (a b c : List ℕ) → IsWord w → IsOther (32 ∷ 32 ∷ 119 ∷ (((decimal w ++ a) ++ b) ++ c))
workspace_other w a b c word =
    let text : List ℕ = ((decimal w ++ a) ++ b) ++ c in
    let same : text ≡ decimal w ++ (a ++ (b ++ c)) = simp append_assoc in
    let digit : is_ascii_digit (first_byte text) ≡ true =
    ap (λ (t : List ℕ). is_ascii_digit (first_byte t)) same
    ∙ first_digit (decimal w) (a ++ (b ++ c)) (decimal_nonempty w word) (digits_decimal digits_model w word) in
    (ap (λ n. n == 111) (second_is_first 119 text) ∙ digit_isnt (first_byte text) 111 digit refl, refl)

array_other : (a : Arr) (b c : List ℕ) → HasWords a → IsOther (32 ∷ 32 ∷ ((array_text a ++ b) ++ c))
array_other array.Range b c words = (refl, refl)
array_other (array.Values t) b c words = (refl, refl)
array_other (array.Dimension t level) b c words = (refl, refl)
array_other (array.Ends t level) b c words = (refl, refl)
array_other (array.Coordinates t level) b c words = (refl, refl)
array_other (array.Width t level) b c words = (refl, refl)
array_other (array.Key w key) b c words = workspace_other w (codes "_key" ++ decimal key) b c words.0
array_other (array.Sums w) b c words = workspace_other w (codes "_val") b c words
array_other (array.ListCoordinates g) b c words = (refl, refl)
array_other (array.ListPositions g) b c words = (refl, refl)

statement_other : (s : KStmt) (behind : List ℕ) → StatementHasWords s → IsOther (32 ∷ 32 ∷ (statement_text 1 s ++ behind))
statement_other (Set x e) behind words = (refl, refl)
statement_other (Combine x o e f) behind words = (refl, refl)
statement_other (Put a i e) behind words =
    array_other a (codes "[" ++ (expr_text i ++ (codes "] = " ++ (expr_text e ++ codes ";\n")))) behind words.0
statement_other (AddTo a i e) behind words =
    array_other a (codes "[" ++ (expr_text i ++ (codes "] += " ++ (expr_text e ++ codes ";\n")))) behind words.0
statement_other (Push a e) behind words = (refl, refl)
statement_other (Extend a n e) behind words = (refl, refl)
statement_other (Cut a e) behind words = (refl, refl)
statement_other (Sort g) behind words = (refl, refl)
statement_other (SortSum w) behind words = (refl, refl)
statement_other (If' e p first q second) behind words = (refl, refl)
statement_other (While' k e p body) behind words = (refl, refl)

code_other : (code : List KStmt) → CodeHasWords code → IsOther (statements_text 1 code ++ codes "}\n")
code_other [] words = (refl, refl)
code_other (s ∷ rest) words =
    subst (λ t. IsOther (32 ∷ 32 ∷ t)) (sym (append_assoc (statement_text 1 s) (statements_text 1 rest) (codes "}\n")))
    (statement_other s (statements_text 1 rest ++ codes "}\n") words.0)

-- the numbers of keys in the lines in front
abbrev keys_end : (List ℕ → List ℕ × List ℕ) → ℕ → List ℕ → List ℕ × List ℕ
keys_end read keys text = let rest = read (drop 2 text) in (keys ∷ rest.0, rest.1)

abbrev keys_first : (List ℕ → List ℕ × List ℕ) → ℕ → List ℕ → List ℕ × List ℕ
keys_first read w text = keys_end read (number_in (drop 1 text)) (behind_digits (drop 1 text))

abbrev workspaces_told : ℕ → List ℕ → List ℕ × List ℕ
workspaces_told zero text = ([], text)
workspaces_told (suc n) text =
    if is_workspace_line text then keys_first (workspaces_told n) (number_in (drop 13 text)) (behind_digits (drop 13 text)) else ([], text)

word_next : (first more : ℕ) → IsWord (first + suc more) → IsWord first
word_next first more word = omega (arith, word)

word_rest : (first more : ℕ) → IsWord (first + suc more) → IsWord (suc first + more)
word_rest first more word = omega (arith, word)

line_pieces : (n k r behind : List ℕ)
    → (n ++ (codes " " ++ (k ++ (codes ";\n" ++ r)))) ++ behind ≡ n ++ (codes " " ++ (k ++ (codes ";\n" ++ (r ++ behind))))
line_pieces n k r behind = simp append_assoc

workspaces_are_told : (ws : List ℕ) (first n : ℕ) (behind : List ℕ) → length ws ≤ n → IsWord (first + length ws) → AreWords ws
    → is_workspace_line behind ≡ false → workspaces_told n (workspaces_text first ws ++ behind) ≡ (ws, behind)
workspaces_are_told [] first zero behind small word words other = refl
workspaces_are_told [] first (suc n) behind small word words other =
    ap (λ (b : Bool). if b then keys_first (workspaces_told n) (number_in (drop 13 behind)) (behind_digits (drop 13 behind))
    else ([], behind)) other
workspaces_are_told (keys ∷ ws) first zero behind small word words other = absurd (omega (arith, small))
workspaces_are_told (keys ∷ ws) first (suc n) behind small word words other =
    let read = workspaces_told n in
    let rest : List ℕ = workspaces_text (suc first) ws ++ behind in
    ap (λ (t : List ℕ). keys_first read (number_in t) (behind_digits t)) (line_pieces (decimal first) (decimal keys)
    (workspaces_text (suc first) ws) behind)
    ∙ numbered (keys_first read) first (codes " " ++ (decimal keys ++ (codes ";\n" ++ rest))) (word_next first (length ws) word) refl
    ∙ numbered (keys_end read) keys (codes ";\n" ++ rest) words.0 refl
    ∙ ap (λ (x : List ℕ × List ℕ). (keys ∷ x.0, x.1))
    (workspaces_are_told ws (suc first) n behind (omega (arith, small)) (word_rest first (length ws) word) words.1 other)

-- the number of scratch lists in the lines in front
abbrev lists_end : (List ℕ → ℕ × List ℕ) → ℕ → List ℕ → ℕ × List ℕ
lists_end read g text = let rest = read (drop 2 text) in (suc rest.0, rest.1)

abbrev lists_told : ℕ → List ℕ → ℕ × List ℕ
lists_told zero text = (0, text)
lists_told (suc n) text =
    if is_list_line text then lists_end (lists_told n) (number_in (drop 11 text)) (behind_digits (drop 11 text)) else (0, text)

list_pieces : (n r behind : List ℕ) → (n ++ (codes ";\n" ++ r)) ++ behind ≡ n ++ (codes ";\n" ++ (r ++ behind))
list_pieces n r behind = simp append_assoc

lists_are_told : (more first n : ℕ) (behind : List ℕ) → more ≤ n → IsWord (first + more) → is_list_line behind ≡ false
    → lists_told n (lists_text first more ++ behind) ≡ (more, behind)
lists_are_told zero first zero behind small word other = refl
lists_are_told zero first (suc n) behind small word other =
    ap (λ (b : Bool). if b then lists_end (lists_told n) (number_in (drop 11 behind)) (behind_digits (drop 11 behind))
    else (0, behind)) other
lists_are_told (suc more) first zero behind small word other = absurd (omega (arith, small))
lists_are_told (suc more) first (suc n) behind small word other =
    let read = lists_told n in
    ap (λ (t : List ℕ). lists_end read (number_in t) (behind_digits t)) (list_pieces (decimal first) (lists_text (suc first) more) behind)
    ∙ numbered (lists_end read) first (codes ";\n" ++ (lists_text (suc first) more ++ behind)) (word_next first more word) refl
    ∙ ap (λ (x : ℕ × List ℕ). (suc x.0, x.1))
    (lists_are_told more (suc first) n behind (omega (arith, small)) (word_rest first more word) other)

lists_other : (more : ℕ) (behind : List ℕ) → is_workspace_line behind ≡ false → is_workspace_line (lists_text 0 more ++ behind) ≡ false
lists_other zero behind other = other
lists_other (suc more) behind other = refl

from_zero : (n : ℕ) → IsWord n → IsWord (0 + n)
from_zero n word = omega (arith, word)

-- the small letters in front, and what stands behind them
abbrev letters_in : List ℕ → List ℕ
letters_in [] = []
letters_in (byte ∷ text) = if is_ascii_lowercase byte then byte ∷ letters_in text else []

abbrev behind_letters : List ℕ → List ℕ
behind_letters [] = []
behind_letters (byte ∷ text) = if is_ascii_lowercase byte then behind_letters text else byte ∷ text

cut_letters : (name behind : List ℕ) → list_all is_ascii_lowercase name ≡ true
    → (letters_in (name ++ (32 ∷ behind)) ≡ name) × (behind_letters (name ++ (32 ∷ behind)) ≡ 32 ∷ behind)
cut_letters [] behind all = (refl, refl)
cut_letters (byte ∷ name) behind all =
    let both = first_true (is_ascii_lowercase byte) (list_all is_ascii_lowercase name) all in
    let rest = cut_letters name behind both.1 in (
      ap (λ (b : Bool). if b then byte ∷ letters_in (name ++ (32 ∷ behind)) else []) both.0 ∙ ap (λ (t : List ℕ). byte ∷ t) rest.0,
      ap (λ (b : Bool). if b then behind_letters (name ++ (32 ∷ behind)) else byte ∷ (name ++ (32 ∷ behind))) both.0 ∙ rest.1,
    )

-- what the first line tells, behind the word that all kernels begin with
abbrev named_told : List ℕ → KernelSemiring × List ℕ
named_told text = (Named (letters_in text), drop 3 (behind_letters text))

abbrev head_told : List ℕ → KernelSemiring × List ℕ
head_told text = if first_byte text == 123 then (Ring, drop 2 text) else named_told text

name_is_told : (name behind : List ℕ) → HasName (Named name) → head_told (name ++ (codes " {\n" ++ behind)) ≡ (Named name, behind)
name_is_told [] behind named = absurd (named.some refl)
name_is_told (letter ∷ name) behind named =
    let text : List ℕ = (letter ∷ name) ++ (codes " {\n" ++ behind) in
    let first = (first_true (is_ascii_lowercase letter) (list_all is_ascii_lowercase name) named.letters).0 in
    let cut = cut_letters (letter ∷ name) (codes "{\n" ++ behind) named.letters in
    ap (λ (b : Bool). if b then (Ring, drop 2 text) else named_told text) (byte_isnt is_ascii_lowercase letter 123 first refl)
    ∙ ap (λ (t : List ℕ). (Named t, drop 3 (behind_letters text))) cut.0
    ∙ ap (λ (t : List ℕ). (Named (letter ∷ name), drop 3 t)) cut.1

head_is_told : (semiring : KernelSemiring) (behind : List ℕ) → HasName semiring
    → head_told (drop 7 (head_text semiring ++ behind)) ≡ (semiring, behind)
head_is_told Ring behind named = refl
head_is_told (Named name) behind named = ap head_told (append_assoc name (codes " {\n") behind) ∙ name_is_told name behind named

-- the parts of a kernel in a text
abbrev kernel_end : KernelSemiring → List ℕ → ℕ → List KStmt × List ℕ → Kernel
kernel_end semiring workspaces lists body = record { semiring = semiring; workspaces = workspaces; lists = lists; body = body.0 }

abbrev kernel_lists : ℕ → KernelSemiring → List ℕ → ℕ × List ℕ → Kernel
kernel_lists n semiring workspaces lists = kernel_end semiring workspaces lists.0 (code_told n 0 lists.1)

abbrev kernel_workspaces : ℕ → KernelSemiring → List ℕ × List ℕ → Kernel
kernel_workspaces n semiring workspaces = kernel_lists n semiring workspaces.0 (lists_told n workspaces.1)

abbrev kernel_head : ℕ → KernelSemiring × List ℕ → Kernel
kernel_head n head = kernel_workspaces n head.0 (workspaces_told n head.1)

abbrev kernel_told : ℕ → List ℕ → Kernel
kernel_told n text = kernel_head n (head_told (drop 7 text))

-- so deep are the parts of a kernel at most
abbrev kernel_size : Kernel → ℕ
kernel_size k = length k.workspaces + (k.lists + code_size k.body)

kernel_is_told : (k : Kernel) (n : ℕ) → kernel_size k ≤ n → KernelHasWords k → kernel_told n (kernel_text k) ≡ k
kernel_is_told k n small words =
    let end : List ℕ = statements_text 1 k.body ++ codes "}\n" in
    let other = code_other k.body words.body in
    let few : length k.workspaces ≤ n = omega (arith, small) in
    let few_lists : k.lists ≤ n = omega (arith, small) in
    let few_parts : code_size k.body ≤ n = omega (arith, small) in
    ap (kernel_head n) (head_is_told k.semiring (workspaces_text 0 k.workspaces ++ (lists_text 0 k.lists ++ end)) words.semiring)
    ∙ ap (kernel_workspaces n k.semiring) (workspaces_are_told k.workspaces 0 n (lists_text 0 k.lists ++ end) few
    (from_zero (length k.workspaces) words.workspaces) words.keys
    (lists_other k.lists end other.0))
    ∙ ap (kernel_lists n k.semiring k.workspaces) (lists_are_told k.lists 0 n end few_lists (from_zero k.lists words.lists) other.1)
    ∙ ap (kernel_end k.semiring k.workspaces k.lists) (code_is_told k.body n 0 (10 ∷ []) few_parts words.body)

pub texts_tell_kernels : TextsTellKernels
texts_tell_kernels j k words words' same =
    let enough : kernel_size j ≤ kernel_size j + kernel_size k = omega arith in
    let enough' : kernel_size k ≤ kernel_size j + kernel_size k = omega arith in
    sym (kernel_is_told j (kernel_size j + kernel_size k) enough words) ∙ ap (kernel_told (kernel_size j + kernel_size k)) same
    ∙ kernel_is_told k (kernel_size j + kernel_size k) enough' words'
