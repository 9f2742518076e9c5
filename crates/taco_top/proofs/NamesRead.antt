-- Each tensor of a text's statement but the result is read on its right side.
use Rattle.std.specs.Prelude.{◌≡◌, ℕ, zero, suc, ◌+◌, ◌<◌, false, ◌==◌, if◌then◌else◌, List, [], ◌∷◌, length}
use Rattle.std.specs.Prelude.{map, Some, slice_get, refl}
use Rattle.std.proofs.Common.{sym, ◌∙◌, ap, subst, arith}
use Rattle.lists.specs.Each.{Each}
use Rattle.lists.proofs.Each.{each_get}
use Rattle.index_notation.specs.declared.syntax.Name.{Name}
use Rattle.index_notation.specs.declared.syntax.Access.{Access}
use Rattle.index_notation.specs.declared.syntax.Statement.{Statement}
use Rattle.index_notation.specs.declared.token.WrittenAccess.{WrittenAccess}
use Rattle.notation_grammar.specs.Grammar.{Tree}
use Rattle.index_notation.specs.Numbering.{is_same, place_of, without, distinct, name_of, numbered}
use Rattle.index_notation.specs.NumberingLaws.{yes, no}
use Rattle.notation_grammar.specs.Notation.{IsNotationOf}
use Rattle.notation_grammar.specs.TreeStatement.{accesses_of_sum}
use Rattle.notation_grammar.specs.TreeStatement.{statement_of_tree}
use Rattle.index_notation.proofs.NumberingLaws.{tested, same_self, place_here, place_later, without_keeps, without_drops}
use Rattle.expr_terms.specs.Expanded.{moved_access, names_with_old, old_access, with_old, expanded}
use Rattle.expr_terms.proofs.ExpandLaws.{by_mark}
use Rattle.bindings.specs.Names.{bytes_of}
use Rattle.bindings.specs.Bindings.{order_in, order_of}
use Rattle.bindings.specs.Outcome.{first_named}
use Rattle.bindings.proofs.FirstNamed.{first_before}
use Rattle.operand_packing.specs.Operands.{IsRead}
use Rattle.operand_packing.proofs.FilesReadable.{KeepOrders}
use Rattle.operand_packing.proofs.Runnable.{EachIsRead}

-- names that differ from one, and from each other
abbrev Apart : Name → List Name → Type 0
Apart name names = Each (λ other. is_same name other ≡ false) names

abbrev AllApart : List Name → Type 0
AllApart [] = Unit {0}
AllApart (name ∷ names) = Apart name names × AllApart names

apart_without : (gone name : Name) (names : List Name) → Apart name names → Apart name (without gone names)
apart_without gone name [] h = tt
apart_without gone name (other ∷ names) h = elim (tested (is_same gone other)) [
  | yes e ↦ subst (Apart name) (sym (without_drops gone other names e)) (apart_without gone name names h.1)
  | no e ↦ subst (Apart name) (sym (without_keeps gone other names e)) (h.0, apart_without gone name names h.1)
]

apart_gone : (gone : Name) (names : List Name) → Apart gone (without gone names)
apart_gone gone [] = tt
apart_gone gone (other ∷ names) = elim (tested (is_same gone other)) [
  | yes e ↦ subst (Apart gone) (sym (without_drops gone other names e)) (apart_gone gone names)
  | no e ↦ subst (Apart gone) (sym (without_keeps gone other names e)) (e, apart_gone gone names)
]

all_apart_without : (gone : Name) (names : List Name) → AllApart names → AllApart (without gone names)
all_apart_without gone [] h = tt
all_apart_without gone (other ∷ names) h = elim (tested (is_same gone other)) [
  | yes e ↦ subst AllApart (sym (without_drops gone other names e)) (all_apart_without gone names h.1)
  | no e ↦ subst AllApart (sym (without_keeps gone other names e)) (apart_without gone other names h.0, all_apart_without gone names h.1)
]

distinct_apart : (names : List Name) → AllApart (distinct names)
distinct_apart [] = tt
distinct_apart (name ∷ names) = (apart_gone name (distinct names), all_apart_without name (distinct names) (distinct_apart names))

-- a name of such a row has the place at which it stands
place_there : (names : List Name) (n : ℕ) (name : Name) → AllApart names → slice_get names n ≡ Some name → place_of names name ≡ n
place_there [] n name h is = absurd cc
place_there (other ∷ names) zero name h is =
    let same : other ≡ name = cc in place_here name other names (ap (is_same other) (sym same) ∙ same_self other)
place_there (other ∷ names) (suc n) name h is =
    let rest : place_of names name ≡ n = place_there names n name h.1 is in
    let apart : is_same other name ≡ false = each_get (λ x. is_same other x ≡ false) names n name h.0 is in
    let later = place_later name other names apart in
    omega (arith, later, rest)

-- an element of a list
record IsIn {A : Type 0} (xs : List A) (x : A) : Type 0 where
  place : ℕ
  stands : slice_get xs place ≡ Some x

in_here : {A : Type 0} (x : A) (xs : List A) → IsIn (x ∷ xs) x
in_here x xs = record { place = 0; stands = refl }

in_later : {A : Type 0} (y x : A) (xs : List A) → IsIn xs x → IsIn (y ∷ xs) x
in_later y x xs h = record { place = suc h.place; stands = h.stands }

-- the element at a place of a list
some_at : {A : Type 0} (xs : List A) (n : ℕ) → n < length xs → (x : A) × (slice_get xs n ≡ Some x)
some_at [] n h = absurd (omega arith)
some_at (x ∷ xs) zero h = (x, refl)
some_at (x ∷ xs) (suc n) h = some_at xs n (omega arith)

-- what stands in a row without a name stands in the row
in_without : (gone : Name) (names : List Name) (n : ℕ) (name : Name) → slice_get (without gone names) n ≡ Some name → IsIn names name
in_without gone [] n name is = absurd cc
in_without gone (other ∷ names) n name is = elim (tested (is_same gone other)) [
  | yes e ↦ in_later other name names (in_without gone names n name
      (ap (λ (row : List Name). slice_get row n) (sym (without_drops gone other names e)) ∙ is))
  | no e ↦ kept (λ n is. in_without gone names n name is) n (ap (λ (row : List Name). slice_get row n)
      (sym (without_keeps gone other names e)) ∙ is)
]
  where
    kept : ((n : ℕ) → slice_get (without gone names) n ≡ Some name → IsIn names name) → (n : ℕ)
        → slice_get (other ∷ without gone names) n ≡ Some name → IsIn (other ∷ names) name
    kept more zero is = let same : other ≡ name = cc in subst (IsIn (other ∷ names)) same (in_here other names)
    kept more (suc n) is = in_later other name names (more n is)

-- what stands in the distinct names is one of the names
in_distinct : (names : List Name) (n : ℕ) (name : Name) → slice_get (distinct names) n ≡ Some name → IsIn names name
in_distinct [] n name is = absurd cc
in_distinct (first ∷ names) zero name is = let same : first ≡ name = cc in subst (IsIn (first ∷ names)) same (in_here first names)
in_distinct (first ∷ names) (suc n) name is =
    let there = in_without first (distinct names) n name is in
    in_later first name names (in_distinct names there.place name there.stands)

-- ---- tensors
-- a written access of this name
named_there : (accesses : List WrittenAccess) (n : ℕ) (name : Name) → slice_get (map name_of accesses) n ≡ Some name
    → (access : WrittenAccess) × (slice_get accesses n ≡ Some access) × (access.name ≡ name)
named_there [] n name is = absurd cc
named_there (access ∷ accesses) zero name is = (access, refl, cc)
named_there (access ∷ accesses) (suc n) name is = named_there accesses n name is

numbered_there : (tensors vars : List Name) (accesses : List WrittenAccess) (n : ℕ) (access : WrittenAccess)
    → slice_get accesses n ≡ Some access → slice_get (map (numbered tensors vars) accesses) n ≡ Some (numbered tensors vars access)
numbered_there tensors vars [] n access is = absurd cc
numbered_there tensors vars (first ∷ accesses) zero access is =
    let same : first ≡ access = cc in ap (λ (a : WrittenAccess). Some (numbered tensors vars a)) same
numbered_there tensors vars (first ∷ accesses) (suc n) access is = numbered_there tensors vars accesses n access is

tree_read : (w : Tree) (n : ℕ) → n + 1 < length (statement_of_tree w).tensors → IsRead (statement_of_tree w).accesses (n + 1)
tree_read w n h = by there.place there.stands
  where
    right : List WrittenAccess
    right = accesses_of_sum w.right

    tensors : List Name
    tensors = (statement_of_tree w).tensors

    vars : List Name
    vars = (statement_of_tree w).vars

    named : (name : Name) × (slice_get tensors (n + 1) ≡ Some name)
    named = some_at tensors (n + 1) h

    there : IsIn (map name_of (w.left.access ∷ right)) named.0
    there = in_distinct (map name_of (w.left.access ∷ right)) (n + 1) named.0 named.1

    placed : place_of tensors named.0 ≡ n + 1
    placed = place_there tensors (n + 1) named.0 (distinct_apart (map name_of (w.left.access ∷ right))) named.1

    by : (place : ℕ) → slice_get (map name_of (w.left.access ∷ right)) place ≡ Some named.0 → IsRead (statement_of_tree w).accesses (n + 1)
    by zero is =
        let same : w.left.access.name ≡ named.0 = cc in
        let first : place_of tensors w.left.access.name ≡ 0 =
        place_here w.left.access.name w.left.access.name (without w.left.access.name (distinct (map name_of right)))
        (same_self w.left.access.name) in
        let none : n + 1 ≡ 0 = sym placed ∙ ap (place_of tensors) (sym same) ∙ first in
        absurd (omega (arith, none))
    by (suc place) is =
        let access = named_there right place named.0 is in
        record {
          place = place;
          access = numbered tensors vars access.0;
          stands = numbered_there tensors vars right place access.0 access.1;
          tensor_is = ap (place_of tensors) access.2 ∙ placed;
        }

-- ---- the statement of a text
notation_read : (text : List ℕ) (s : Statement) → IsNotationOf text s → EachIsRead s
notation_read text s is = subst EachIsRead (sym is.is) (tree_read is.tree)

-- with the old tensor, which is read first
moved_there : (accesses : List Access) (n : ℕ) (access : Access) → slice_get accesses n ≡ Some access
    → slice_get (map moved_access accesses) n ≡ Some (moved_access access)
moved_there [] n access is = absurd cc
moved_there (first ∷ accesses) zero access is = let same : first ≡ access = cc in ap (λ (a : Access). Some (moved_access a)) same
moved_there (first ∷ accesses) (suc n) access is = moved_there accesses n access is

with_old_read : (s : Statement) → EachIsRead s → EachIsRead (with_old s)
with_old_read s each zero h = record { place = 0; access = old_access s.left.vars; stands = refl; tensor_is = refl }
with_old_read s each (suc n) h =
    let there = each n (names_more s.tensors n h) in
    record {
      place = suc there.place;
      access = moved_access there.access;
      stands = moved_there s.accesses there.place there.access there.stands;
      tensor_is = let is = there.tensor_is in let next : there.access.tensor + 1 ≡ suc n + 1 = omega (arith, is) in next;
    }
  where
    names_more : (names : List Name) (n : ℕ) → suc n + 1 < length (names_with_old names) → n + 1 < length names
    names_more [] n h = absurd (omega (arith, h))
    names_more (name ∷ names) n h = omega (arith, h)

-- each tensor but the result of what a text stands for is read
pub text_read : (text : List ℕ) (written s : Statement) → IsNotationOf text written → s ≡ expanded written → EachIsRead s
text_read text written s notation is =
    let each = notation_read text written notation in
    subst EachIsRead (sym is) (by_mark EachIsRead written each (with_old_read written each))

-- ---- the orders of tensors of one name
first_is : (names : List Name) → AllApart names → (tensor : ℕ) → tensor < length names → first_named names tensor ≡ tensor
first_is names apart tensor h =
    let there = some_at names tensor h in
    ap (λ o. place_of names (record { bytes = bytes_of o })) there.1 ∙ place_there names tensor there.0 apart there.1

-- behind the old tensor each name stands once
behind_old : (names : List Name) → AllApart names → (n : ℕ) → suc (suc n) < length (names_with_old names)
    → first_named (names_with_old names) (suc (suc n)) ≡ suc (suc n)
behind_old [] apart n h = absurd (omega (arith, h))
behind_old (first ∷ names) apart n h =
    let there = some_at names n (omega (arith, h)) in
    let other : is_same first there.0 ≡ false = each_get (λ x. is_same first x ≡ false) names n there.0 apart.0 there.1 in
    let place : place_of (first ∷ names) there.0 ≡ suc n = place_there (first ∷ names) (suc n) there.0 apart there.1 in
    let later = place_later there.0 first (first ∷ names) other in
    let last : place_of (first ∷ first ∷ names) there.0 ≡ suc (suc n) = omega (arith, later, place) in
    ap (λ o. place_of (first ∷ first ∷ names) (record { bytes = bytes_of o })) there.1 ∙ last

at_old : (names : List Name) → 1 < length (names_with_old names) → first_named (names_with_old names) 1 ≡ 0
at_old [] h = absurd (omega (arith, h))
at_old (first ∷ names) h = place_here first first (first ∷ names) (same_self first)

-- the old tensor has the result's order
old_order : (s : Statement) → s.left.tensor ≡ 0 → order_of (with_old s) 0 ≡ order_of (with_old s) 1
old_order s left =
    ap (λ n. if n == 0 then length s.left.vars else order_in (with_old s).accesses 0) left
    ∙ sym (ap (λ n. if n == 1 then length s.left.vars else order_in (with_old s).accesses 1) left)

with_old_keeps : (s : Statement) → AllApart s.tensors → s.left.tensor ≡ 0 → KeepOrders (with_old s)
with_old_keeps s apart left zero h =
    let before = first_before (names_with_old s.tensors) 0 h in
    let same : first_named (names_with_old s.tensors) 0 ≡ 0 = omega (arith, before) in
    ap (order_of (with_old s)) same
with_old_keeps s apart left (suc zero) h = ap (order_of (with_old s)) (at_old s.tensors h) ∙ old_order s left
with_old_keeps s apart left (suc (suc n)) h = ap (order_of (with_old s)) (behind_old s.tensors apart n h)

-- tensors of one name have one order in what a text stands for
pub text_keeps_orders : (text : List ℕ) (written s : Statement) → IsNotationOf text written → written.left.tensor ≡ 0
    → s ≡ expanded written → KeepOrders s
text_keeps_orders text written s notation left is =
    subst KeepOrders (sym is) (by_mark KeepOrders written
    (λ tensor h. ap (order_of written) (first_is written.tensors apart tensor h)) (with_old_keeps written apart left))
  where
    apart : AllApart written.tensors
    apart = subst (λ (w : Statement). AllApart w.tensors) (sym notation.is)
        (distinct_apart (map name_of (notation.tree.left.access ∷ accesses_of_sum notation.tree.right)))
