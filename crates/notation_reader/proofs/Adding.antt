-- Names put at the end of a row where they don't stand yet are its names in order of first appearance.
use Rattle.std.specs.Prelude.{◌≡◌, ℕ, ◌<◌, ◌≤◌, ◌==◌, cond, List, [], ◌∷◌, ◌++◌, length, drop, map, refl}
use Rattle.std.proofs.Common.{sym, ◌∙◌, ap, append_assoc, arith}
use Rattle.std.proofs.lemmas.List.{append-nil, drop_all}
use Rattle.std.proofs.lemmas.Bool.Decides.{Decides-eqb}
use Rattle.index_notation.specs.declared.syntax.Name.{Name}
use Rattle.index_notation.specs.declared.token.WrittenAccess.{WrittenAccess}
use Rattle.index_notation.specs.Numbering.{is_same, place_of, without, distinct, name_of}
use Rattle.index_notation.specs.NumberingLaws.{Stands, yes, no}
use Rattle.index_notation.proofs.NumberingLaws.{tested, same_names, place_here, place_later, stands_here, stands_later, stands_behind}
use Rattle.index_notation.proofs.NumberingLaws.{without_drops, without_keeps}
use Rattle.notation_reader.specs.Added.{with_name, with_names}

-- names but for those that were found
abbrev fresh : List Name → List Name → List Name
fresh [] names = names
fresh (name ∷ found) names = fresh found (without name names)

fresh_none : (found : List Name) → fresh found [] ≡ []
fresh_none [] = refl
fresh_none (name ∷ found) = fresh_none found

without_twice : (name : Name) (names : List Name) → without name (without name names) ≡ without name names
without_twice name [] = refl
without_twice name (other ∷ names) = elim (tested (is_same name other)) [
  | yes e ↦ ap (without name) (without_drops name other names e) ∙ without_twice name names ∙ sym (without_drops name other names e)
  | no e ↦ (
      ap (without name) (without_keeps name other names e) ∙ without_keeps name other (without name names) e
      ∙ ap (λ (ns : List Name). other ∷ ns) (without_twice name names) ∙ sym (without_keeps name other names e))
]

without_swap : (a b : Name) (names : List Name) → without a (without b names) ≡ without b (without a names)
without_swap a b [] = refl
without_swap a b (other ∷ names) = elim (tested (is_same a other)) [
  | yes e ↦ (elim (tested (is_same b other)) [
    | yes f ↦ ap (without a) (without_drops b other names f) ∙ without_swap a b names ∙ ap (without b) (sym (without_drops a other names e))
    | no f ↦ (
        ap (without a) (without_keeps b other names f) ∙ without_drops a other (without b names) e
        ∙ without_swap a b names ∙ ap (without b) (sym (without_drops a other names e)))
  ])
  | no e ↦ (elim (tested (is_same b other)) [
    | yes f ↦ (
        ap (without a) (without_drops b other names f) ∙ without_swap a b names
        ∙ sym (without_drops b other (without a names) f) ∙ ap (without b) (sym (without_keeps a other names e)))
    | no f ↦ (
        ap (without a) (without_keeps b other names f) ∙ without_keeps a other (without b names) e
        ∙ ap (λ (ns : List Name). other ∷ ns) (without_swap a b names)
        ∙ sym (without_keeps b other (without a names) f) ∙ ap (without b) (sym (without_keeps a other names e)))
  ])
]

fresh_standing : (found : List Name) (name : Name) (names : List Name) → Stands found name
    → fresh found (name ∷ without name names) ≡ fresh found names
fresh_standing [] name names h = absurd (omega arith)
fresh_standing (first ∷ found) name names h = elim (tested (is_same first name)) [
  | yes e ↦ (
      let same = same_names first name e in
      ap (fresh found) (without_drops first name (without name names) e
      ∙ ap (λ n. without n (without name names)) same ∙ without_twice name names ∙ ap (λ n. without n names) (sym same)))
  | no e ↦ (
      ap (fresh found) (without_keeps first name (without name names) e
      ∙ ap (λ (ns : List Name). name ∷ ns) (without_swap first name names))
      ∙ fresh_standing found name (without first names) (stands_behind name first found e h))
]

fresh_new : (found : List Name) (name : Name) (names : List Name) → (Stands found name → ⊥)
    → fresh found (name ∷ without name names) ≡ name ∷ fresh (found ++ name ∷ []) names
fresh_new [] name names h = refl
fresh_new (first ∷ found) name names h = elim (tested (is_same first name)) [
  | yes e ↦ absurd (h (stands_here name first found e))
  | no e ↦ (
      ap (fresh found) (without_keeps first name (without name names) e
      ∙ ap (λ (ns : List Name). name ∷ ns) (without_swap first name names))
      ∙ fresh_new found name (without first names) (λ s. h (stands_later name first found s)))
]

place_within : (names : List Name) (name : Name) → place_of names name ≤ length names
place_within [] name = omega arith
place_within (other ∷ names) name = elim (tested (is_same other name)) [
  | yes e ↦ (let p = place_here name other names e in omega arith)
  | no e ↦ (let p = place_later name other names e in let h = place_within names name in omega arith)
]

added : (names found : List Name) → with_names found names ≡ found ++ fresh found (distinct names)
added [] found = sym (ap (λ (ns : List Name). found ++ ns) (fresh_none found) ∙ append-nil found)
added (name ∷ names) found = elim (tested (place_of found name == length found)) [
  | yes e ↦ (
      let end : place_of found name ≡ length found = (Decides-eqb (place_of found name) (length found)).0 e in
      ap (λ b. with_names (cond b (found ++ name ∷ []) found) names) e
      ∙ added names (found ++ name ∷ [])
      ∙ append_assoc found (name ∷ []) (fresh (found ++ name ∷ []) (distinct names))
      ∙ ap (λ (ns : List Name). found ++ ns) (sym (fresh_new found name (distinct names) (λ s. omega arith))))
  | no e ↦ (
      let within = place_within found name in
      let apart : place_of found name ≡ length found → ⊥ = λ end. let t = (Decides-eqb (place_of found name) (length found)).1 end in cc in
      let stands : place_of found name < length found = omega arith in
      ap (λ b. with_names (cond b (found ++ name ∷ []) found) names) e
      ∙ added names found
      ∙ ap (λ (ns : List Name). found ++ ns) (sym (fresh_standing found name (distinct names) stands)))
]

added_are_distinct : (names : List Name) → with_names [] names ≡ distinct names
added_are_distinct names = added names []

added_join : (found names more : List Name) → with_names found (names ++ more) ≡ with_names (with_names found names) more
added_join found [] more = refl
added_join found (name ∷ names) more = added_join (with_name found name) names more

pub distinct_more : (names : List Name) (name : Name) → distinct (names ++ name ∷ []) ≡ with_name (distinct names) name
distinct_more names name = sym (added_are_distinct (names ++ name ∷ [])) ∙ added_join [] names (name ∷ [])
    ∙ ap (λ (ns : List Name). with_name ns name) (added_are_distinct names)

-- where no access is left
pub tensors_end : (all names : List Name) (accesses : List WrittenAccess) (i : ℕ)
    → with_names [] all ≡ with_names names (map name_of (drop i accesses)) → length accesses ≤ i → names ≡ distinct all
tensors_end all names accesses i e h =
    let none : drop i accesses ≡ [] = drop_all i accesses h in
    sym (e ∙ ap (λ (row : List WrittenAccess). with_names names (map name_of row)) none) ∙ added_are_distinct all
