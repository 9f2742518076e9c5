-- Lemmas about what specs/NumberingLaws.antt defines.
use Rattle.std.specs.Prelude.{◌≡◌, ℕ, ◌+◌, ◌<◌, ◌≤◌, Bool, true, false, cond, List, [], ◌∷◌, ◌++◌, length, map, refl}
use Rattle.std.proofs.Common.{sym, ◌∙◌, ap, subst, arith}
use Rattle.std.proofs.lemmas.Slice.Eq.{bytes_eq-Decides}
use Rattle.limits.specs.Limits.{greatest_order}
use Rattle.index_notation.specs.declared.syntax.Name.{Name}
use Rattle.index_notation.specs.declared.token.WrittenAccess.{WrittenAccess}
use Rattle.index_notation.specs.Statement.{IsAccess}
use Rattle.lists.specs.Each.{Each}
use Rattle.index_notation.specs.Numbering.{is_same, place_of, without, distinct, name_of, numbered}
use Rattle.index_notation.specs.NumberingLaws.{Stands, Tested, Within, yes, no}

pub tested : (b : Bool) → Tested b
tested true = yes refl
tested false = no refl

pub same_names : (a b : Name) → is_same a b ≡ true → a ≡ b
same_names a b e = ap (λ (bytes : List ℕ). record { bytes = bytes }) ((bytes_eq-Decides a.bytes b.bytes).0 e)

pub same_self : (a : Name) → is_same a a ≡ true
same_self a = (bytes_eq-Decides a.bytes a.bytes).1 refl

pub place_here : (name other : Name) (names : List Name) → is_same other name ≡ true → place_of (other ∷ names) name ≡ 0
place_here name other names e = ap (λ b. cond b 0 (place_of names name + 1)) e

pub place_later : (name other : Name) (names : List Name) → is_same other name ≡ false
    → place_of (other ∷ names) name ≡ place_of names name + 1
place_later name other names e = ap (λ b. cond b 0 (place_of names name + 1)) e

pub stands_here : (name other : Name) (names : List Name) → is_same other name ≡ true → Stands (other ∷ names) name
stands_here name other names e = let p = place_here name other names e in omega arith

pub stands_later : (name other : Name) (names : List Name) → Stands names name → Stands (other ∷ names) name
stands_later name other names h = elim (tested (is_same other name)) [
  | yes e ↦ stands_here name other names e
  | no e ↦ (let p = place_later name other names e in omega arith)
]

pub stands_behind : (name other : Name) (names : List Name) → is_same other name ≡ false → Stands (other ∷ names) name → Stands names name
stands_behind name other names e h = let p = place_later name other names e in omega arith

pub without_drops : (name other : Name) (names : List Name) → is_same name other ≡ true → without name (other ∷ names) ≡ without name names
without_drops name other names e = ap (λ b. cond b (without name names) (other ∷ without name names)) e

pub without_keeps : (name other : Name) (names : List Name) → is_same name other ≡ false
    → without name (other ∷ names) ≡ other ∷ without name names
without_keeps name other names e = ap (λ b. cond b (without name names) (other ∷ without name names)) e

pub stands_without : (gone name : Name) (names : List Name) → is_same gone name ≡ false → Stands names name
    → Stands (without gone names) name
stands_without gone name [] e h = h
stands_without gone name (other ∷ names) e h = elim (tested (is_same gone other)) [
  | yes drops ↦ (
      let apart : is_same other name ≡ false = ap (λ x. is_same x name) (sym (same_names gone other drops)) ∙ e in
      subst (λ row. Stands row name) (sym (without_drops gone other names drops))
      (stands_without gone name names e (stands_behind name other names apart h)))
  | no keeps ↦ subst (λ row. Stands row name) (sym (without_keeps gone other names keeps)) (elim (tested (is_same other name)) [
    | yes here ↦ stands_here name other (without gone names) here
    | no apart ↦ stands_later name other (without gone names) (stands_without gone name names e (stands_behind name other names apart h))
  ])
]

-- what stands in a row stands in its distinct names
pub stands_distinct : (name : Name) (names : List Name) → Stands names name → Stands (distinct names) name
stands_distinct name [] h = h
stands_distinct name (other ∷ names) h = elim (tested (is_same other name)) [
  | yes here ↦ stands_here name other (without other (distinct names)) here
  | no apart ↦ stands_later name other (without other (distinct names))
      (stands_without other name (distinct names) apart (stands_distinct name names (stands_behind name other names apart h)))
]

pub stands_front : (name : Name) (names more : List Name) → Stands names name → Stands (names ++ more) name
stands_front name [] more h = absurd (omega arith)
stands_front name (other ∷ names) more h = elim (tested (is_same other name)) [
  | yes here ↦ stands_here name other (names ++ more) here
  | no apart ↦ stands_later name other (names ++ more) (stands_front name names more (stands_behind name other names apart h))
]

pub stands_back : (name : Name) (names more : List Name) → Stands more name → Stands (names ++ more) name
stands_back name [] more h = h
stands_back name (other ∷ names) more h = stands_later name other (names ++ more) (stands_back name names more h)

each_place : (vars row : List Name) → Within vars row → Each (λ v. v < length row) (map (place_of row) vars)
each_place [] row h = tt
each_place (var ∷ vars) row h =
    (h var (stands_here var var vars (same_self var)), each_place vars row (λ name s. h name (stands_later name var vars s)))

length_places : (vars row : List Name) → length (map (place_of row) vars) ≡ length vars
length_places [] row = refl
length_places (var ∷ vars) row = let h = length_places vars row in omega arith

-- an access's names stand in the rows
pub numbered_is_access : (tensors vars : List Name) (access : WrittenAccess) → Stands tensors access.name → Within access.vars vars
    → length access.vars ≤ greatest_order → IsAccess (length tensors) (length vars) (numbered tensors vars access)
numbered_is_access tensors vars access t v o = record {
  tensor = t;
  vars_stand = each_place access.vars vars v;
  order = let h = length_places access.vars vars in omega arith;
}

pub numbered_are_accesses : (tensors vars : List Name) (accesses : List WrittenAccess) → Within (map name_of accesses) tensors
    → Each (λ access. Within access.vars vars) accesses → Each (λ access. length access.vars ≤ greatest_order) accesses
    → Each (IsAccess (length tensors) (length vars)) (map (numbered tensors vars) accesses)
numbered_are_accesses tensors vars [] t v o = tt
numbered_are_accesses tensors vars (access ∷ accesses) t v o = (
  numbered_is_access tensors vars access
      (t access.name (stands_here access.name access.name (map name_of accesses) (same_self access.name)))
      v.0 o.0,
  numbered_are_accesses tensors vars accesses (λ name s. t name (stands_later name access.name (map name_of accesses) s))
      v.1 o.1,
)
