-- The statement of a text whose names have no fault is well named.
use Rattle.std.specs.Prelude.{◌≡◌, ◌≢◌, ℕ, ◌+◌, ◌<◌, false, List, [], ◌∷◌, ◌++◌, length, map, refl}
use Rattle.std.proofs.Common.{sym, ◌∙◌, ap, subst, arith, append_assoc, length-append}
use Rattle.std.proofs.lemmas.List.{length-map}
use Rattle.lists.specs.Each.{Each}
use Rattle.index_notation.specs.declared.syntax.Name.{Name}
use Rattle.index_notation.specs.declared.syntax.Access.{Access}
use Rattle.index_notation.specs.declared.syntax.Statement.{Statement}
use Rattle.notation_grammar.specs.Grammar.{Tree}
use Rattle.index_notation.specs.Numbering.{is_same, place_of, without, distinct, name_of}
use Rattle.index_notation.specs.NumberingLaws.{yes, no}
use Rattle.index_notation.specs.Statement.{HaveOneOrder, HaveOrders, IsDistinct, IsWellNamed, numbers_from}
use Rattle.notation_grammar.specs.TreeStatement.{accesses_of_sum, variables_of_sum, statement_of_tree}
use Rattle.notation_grammar.specs.Notation.{IsNotationOf}
use Rattle.index_notation.proofs.NumberingLaws.{tested, same_names, same_self, place_here, place_later, without_keeps}
use Rattle.expr_terms.specs.Names.{AreFaultless, HasNoNameFault}

-- what has no fault behind some access
unread_each : (left e : Access) (earlier xs : List Access) → AreFaultless left (e ∷ earlier) xs → Each (λ a. a.tensor ≡ left.tensor → ⊥) xs
unread_each left e earlier [] h = tt
unread_each left e earlier (a ∷ xs) h = (
  (λ same. h.0.unread ((let some : 0 < length (e ∷ earlier) = omega arith in some), same)),
  unread_each left e (earlier ++ (a ∷ [])) xs h.1,
)

once_each : (left : Access) (earlier xs : List Access) → AreFaultless left earlier xs → Each (λ a. IsDistinct a.vars) xs
once_each left earlier [] h = tt
once_each left earlier (a ∷ xs) h = (h.0.once, once_each left (earlier ++ (a ∷ [])) xs h.1)

each_at : (P : Access → Type 0) (front : List Access) (b : Access) (behind : List Access) → Each P (front ++ (b ∷ behind)) → P b
each_at P [] b behind h = h.0
each_at P (x ∷ front) b behind h = each_at P front b behind h.1

orders_behind : (left : Access) (front : List Access) (b : Access) (behind xs : List Access)
    → AreFaultless left (front ++ (b ∷ behind)) xs → Each (HaveOneOrder b) xs
orders_behind left front b behind [] h = tt
orders_behind left front b behind (a ∷ xs) h = (
  each_at (λ other. HaveOneOrder other a) front b behind h.0.order,
  orders_behind left front b (behind ++ (a ∷ [])) xs
      (subst (λ (l : List Access). AreFaultless left l xs) (append_assoc front (b ∷ behind) (a ∷ [])) h.1),
)

orders_each : (left : Access) (earlier xs : List Access) → AreFaultless left earlier xs → HaveOrders xs
orders_each left earlier [] h = tt
orders_each left earlier (a ∷ xs) h = (orders_behind left earlier a [] xs h.1, orders_each left (earlier ++ (a ∷ [])) xs h.1)

-- names that differ from one
abbrev Apart : Name → List Name → Type 0
Apart name names = Each (λ other. is_same name other ≡ false) names

abbrev AllApart : List Name → Type 0
AllApart [] = Unit {0}
AllApart (name ∷ names) = Apart name names × AllApart names

-- distinct numbers are of different names
apart_by : (D : List Name) (name : Name) (names : List Name) → Each (λ y. place_of D name ≢ y) (map (place_of D) names) → Apart name names
apart_by D name [] h = tt
apart_by D name (other ∷ names) h = elim (tested (is_same name other)) [
  | yes e ↦ absurd (h.0 (ap (place_of D) (same_names name other e)))
  | no e ↦ (e, apart_by D name names h.1)
]

all_apart : (D names : List Name) → IsDistinct (map (place_of D) names) → AllApart names
all_apart D [] h = tt
all_apart D (name ∷ names) h = (apart_by D name names h.0, all_apart D names h.1)

-- different names at the front stand there in order of first appearance
without_join : (name : Name) (names more : List Name) → Apart name names → without name (names ++ more) ≡ names ++ without name more
without_join name [] more h = refl
without_join name (other ∷ names) more h =
    without_keeps name other (names ++ more) h.0 ∙ ap (λ (ns : List Name). other ∷ ns) (without_join name names more h.1)

front_distinct : (names more : List Name) → AllApart names → (rest : List Name) × (distinct (names ++ more) ≡ names ++ rest)
front_distinct [] more h = (distinct more, refl)
front_distinct (name ∷ names) more h =
    let r = front_distinct names more h.1 in (
      without name r.0,
      ap (λ (ns : List Name). name ∷ without name ns) r.1
          ∙ ap (λ (ns : List Name). name ∷ ns) (without_join name names r.0 h.0),
    )

-- the place of a name behind others
abbrev ApartFromEach : List Name → Name → Type 0
ApartFromEach front name = Each (λ other. is_same other name ≡ false) front

place_behind : (front : List Name) (name : Name) (behind : List Name) → ApartFromEach front name
    → place_of (front ++ (name ∷ behind)) name ≡ length front
place_behind [] name behind h = place_here name name behind (same_self name)
place_behind (other ∷ front) name behind h =
    place_later name other (front ++ (name ∷ behind)) h.0
    ∙ (let r = place_behind front name behind h.1 in let e : place_of (front ++ (name ∷ behind)) name + 1 ≡ length (other ∷ front) =
    omega (arith, r) in e)

apart_more : (front : List Name) (name : Name) (names : List Name) → Each (ApartFromEach front) names → Apart name names
    → Each (ApartFromEach (front ++ (name ∷ []))) names
apart_more front name [] h k = tt
apart_more front name (other ∷ names) h k = (apart_end front h.0 k.0, apart_more front name names h.1 k.1)
  where
    apart_end : (front : List Name) → ApartFromEach front other → is_same name other ≡ false → ApartFromEach (front ++ (name ∷ [])) other
    apart_end [] h k = (k, tt)
    apart_end (x ∷ front) h k = (h.0, apart_end front h.1 k)

places_stand : (front names rest : List Name) → Each (ApartFromEach front) names → AllApart names
    → map (place_of (front ++ (names ++ rest))) names ≡ numbers_from (length front) (length names)
places_stand front [] rest h k = refl
places_stand front (name ∷ names) rest h k =
    let here : place_of (front ++ (name ∷ (names ++ rest))) name ≡ length front = place_behind front name (names ++ rest) h.0 in
    let long : length (front ++ (name ∷ [])) ≡ length front + 1 = length-append front (name ∷ []) in
    let behind = places_stand (front ++ (name ∷ [])) names rest (apart_more front name names h.1 k.0) k.1 in
    let same : map (place_of (front ++ (name ∷ (names ++ rest)))) names ≡ numbers_from (length front + 1) (length names) =
    ap (λ (l : List Name). map (place_of l) names) (sym (append_assoc front (name ∷ []) (names ++ rest))) ∙ behind
    ∙ ap (λ n. numbers_from n (length names)) long in
    λ i. here i ∷ same i

none_before : (names : List Name) → Each (ApartFromEach []) names
none_before [] = tt
none_before (name ∷ names) = (tt, none_before names)

-- the left variables are numbered in order
standing : (names more : List Name) → IsDistinct (map (place_of (distinct (names ++ more))) names)
    → map (place_of (distinct (names ++ more))) names ≡ numbers_from 0 (length (map (place_of (distinct (names ++ more))) names))
standing names more h =
    let apart = all_apart (distinct (names ++ more)) names h in
    let r = front_distinct names more apart in
    ap (λ (D : List Name). map (place_of D) names) r.1 ∙ places_stand [] names r.0 (none_before names) apart
    ∙ ap (numbers_from 0) (sym (length-map names (place_of (distinct (names ++ more)))))

unread_zero : (n : ℕ) (xs : List Access) → n ≡ 0 → Each (λ a. a.tensor ≡ n → ⊥) xs → Each (λ a. a.tensor ≢ 0) xs
unread_zero n xs e h = subst (λ (m : ℕ). Each (λ (a : Access). a.tensor ≡ m → ⊥) xs) e h

tree_well_named : (w : Tree) → HasNoNameFault (statement_of_tree w) → IsWellNamed (statement_of_tree w)
tree_well_named w h =
    let s = statement_of_tree w in
    let result : s.left.tensor ≡ 0 =
    place_here w.left.access.name w.left.access.name (without w.left.access.name (distinct (map name_of (accesses_of_sum w.right))))
    (same_self w.left.access.name) in
    record {
      result = result;
      unread = unread_zero s.left.tensor s.accesses result (unread_each s.left s.left [] s.accesses h.1);
      orders = orders_each s.left [] (s.left ∷ s.accesses) h;
      left_once = h.0.once;
      right_once = once_each s.left (s.left ∷ []) s.accesses h.1;
      standing = standing w.left.access.vars (variables_of_sum w.right) h.0.once;
    }

pub notation_well_named : (text : List ℕ) (s : Statement) → IsNotationOf text s → HasNoNameFault s → IsWellNamed s
notation_well_named text s n h = subst IsWellNamed (sym n.is) (tree_well_named n.tree (subst HasNoNameFault n.is h))
