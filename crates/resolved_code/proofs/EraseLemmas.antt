-- What resolved code stands for, at bodies and at the statements of a list.
use Rattle.std.specs.Prelude.{◌≡◌, ℕ, zero, suc, ◌<◌, List, [], ◌∷◌, ◌++◌, map, length, drop, slice_index_or, refl}
use Rattle.std.proofs.Common.{◌∙◌, ap, sym, subst}
use Rattle.std.proofs.Math.Seq.{drop-cons}
use Rattle.std.proofs.lemmas.List.{length-map}
use Rattle.kernel_code.specs.declared.syntax.LoopKind.{LoopKind}
use Rattle.kernel_code.specs.declared.syntax.KStmt.{KStmt}
use Rattle.kernel_code.specs.declared.syntax.KStmt as stmt
use Rattle.resolved_code.specs.declared.syntax.Value.{Value}
use Rattle.resolved_code.specs.declared.syntax.Resolved.{Resolved, If, While, Row_of-Resolved, end_of-Resolved, more_of-Resolved}
use Rattle.resolved_code.specs.declared.syntax.Resolved.{items-the_row-Resolved, items_hidden-the_row-Resolved-0}
use Rattle.resolved_code.specs.declared.syntax.Resolved.TheBlock.{hidden-the_row-Resolved-0}
use Rattle.resolved_code.specs.Erase.{erase, erase_row, erase_value}

row_erased : {m : _} (row : Row_of-Resolved m) → erase_row row ≡ map erase (items-the_row-Resolved m row)
row_erased end_of-Resolved = refl
row_erased (more_of-Resolved s rest) = ap (λ code. erase s ∷ code) (row_erased rest)

held_erased : (body : List Resolved) → erase_row (hidden-the_row-Resolved-0 body) ≡ map erase body
held_erased body = row_erased (hidden-the_row-Resolved-0 body) ∙ ap (map erase) (items_hidden-the_row-Resolved-0 body)

pub erase_if : (v : Value) (first second : List Resolved)
    → erase (If v first second) ≡ stmt.If (erase_value v) (map erase first) (map erase second)
erase_if v first second =
    ap (λ code. stmt.If (erase_value v) code (erase_row (hidden-the_row-Resolved-0 second))) (held_erased first)
    ∙ ap (stmt.If (erase_value v) (map erase first)) (held_erased second)

pub erase_while : (k : LoopKind) (v : Value) (body : List Resolved)
    → erase (While k v body) ≡ stmt.While k (erase_value v) (map erase body)
erase_while k v body = ap (stmt.While k (erase_value v)) (held_erased body)

-- the statement at a place of a list
pub item_erased : (code : List Resolved) (i : ℕ) (d : Resolved)
    → slice_index_or (map erase code) i (erase d) ≡ erase (slice_index_or code i d)
item_erased [] zero d = refl
item_erased [] (suc i) d = refl
item_erased (s ∷ rest) zero d = refl
item_erased (s ∷ rest) (suc i) d = item_erased rest i d

pub within_erased : (code : List Resolved) (i : ℕ) → i < length code → i < length (map erase code)
within_erased code i l = subst (λ n. i < n) (sym (length-map code erase)) l

-- the statements from a place on
pub next_erased : (code : List Resolved) (i : ℕ) (d : Resolved) → i < length code
    → drop i (map erase code) ≡ erase (slice_index_or code i d) ∷ drop (suc i) (map erase code)
next_erased code i d l =
    drop-cons (map erase code) i (erase d) (within_erased code i l)
    ∙ ap (λ s. s ∷ drop (suc i) (map erase code)) (item_erased code i d)

-- one statement more
pub more_erased : (code : List Resolved) (s : Resolved) → map erase (code ++ s ∷ []) ≡ map erase code ++ erase s ∷ []
more_erased [] s = refl
more_erased (r ∷ rest) s = ap (λ code. erase r ∷ code) (more_erased rest s)
