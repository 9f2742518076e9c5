-- What is made, term by term and group by group.
use Rattle.std.specs.Prelude.{◌≡◌, ℕ, ◌+◌, ◌<◌, List, [], ◌∷◌, ◌++◌, length, map, take, Option, None, Some, refl}
use Rattle.std.specs.List.{flat_map}
use Rattle.std.specs.List.Sorted.{IsPermutation}
use Rattle.std.proofs.Common.{◌∙◌, sym, ap, subst, append_assoc, get_or}
use Rattle.std.proofs.lemmas.List.{append-nil, take_more}
use Rattle.std.proofs.lemmas.List.Concat.{flat_map-append}
use Rattle.std.proofs.lemmas.List.Sorted.{IsPermutation-append_left, IsPermutation-to_front, IsPermutation-cons, IsPermutation-trans}
use Rattle.std.proofs.lemmas.List.Sorted.{IsPermutation-map, IsPermutation-refl}
use Rattle.lists.specs.Each.{Each}
use Rattle.index_notation.specs.declared.syntax.Statement.{Statement}
use Rattle.expr_terms.specs.Terms.{terms, own_variables}
use Rattle.expr_terms.specs.declared.term.Term.{Term}
use Rattle.expr_terms.specs.declared.group.Group.{Group}
use Rattle.expr_terms.specs.Groups.{groups}
use Rattle.expr_terms.specs.GroupLaws.{IsGroup}
use Rattle.expr_terms.proofs.OneGroup.{all_terms_gathered, each_is_group}
use Rattle.concrete_notation.specs.declared.concrete.Concrete.{Concrete}
use Rattle.concrete_notation.specs.Nests.{Nest, nests, loops_of, nest_of}
use Rattle.concrete_notation.specs.Nesting.{nest_in, nests_of_group, nests_made, workspaces_made, SharesMade, IsNest, IsPut, IsMade}
use Rattle.concrete_notation.specs.Right.{IsSome}
use Rattle.concrete_notation.proofs.LoopSums.{map_both}
use Rattle.concrete_notation.proofs.SomeTerm.{has_term}
use Rattle.concrete_notation.proofs.Somes.{some_moved, mapped_some}

module _ (loops : List ℕ) (t : Term) (c : Concrete) (before : Option Concrete) (done : List Nest) where
  pub made_first : before ≡ None → IsNest loops t c → IsMade done before → IsMade (done ++ nest_in loops t ∷ []) (Some c)
  made_first is nest made = record {
    terms = subst (IsPermutation (done ++ nest_in loops t ∷ [])) (ap (λ m. nests_made m ++ nest_in loops t ∷ []) is ∙ sym nest.terms)
        (IsPermutation-append_left (nest_in loops t ∷ []) done (nests_made before) made.terms);
    plain = nest.plain;
    shared = nest.shared;
  }

  pub made_more : (tree : Concrete) → before ≡ Some tree → IsPut loops t tree c → IsMade done before
      → IsMade (done ++ nest_in loops t ∷ []) (Some c)
  made_more tree is put made = record {
    terms = IsPermutation-trans (done ++ nest_in loops t ∷ []) (nest_in loops t ∷ done) (nests c)
        (IsPermutation-to_front done (nest_in loops t))
        (IsPermutation-trans (nest_in loops t ∷ done) (nest_in loops t ∷ nests tree) (nests c)
        (IsPermutation-cons (nest_in loops t) done (nests tree) (subst (IsPermutation done) (ap nests_made is) made.terms)) put.terms);
    plain = put.plain ∙ ap workspaces_made (sym is) ∙ made.plain;
    shared = put.shared (subst SharesMade is made.shared);
  }

pub none_made : IsMade [] None
none_made = record { terms = IsPermutation-refl []; plain = refl; shared = tt }

-- one term more of a group
pub next_term : (loops : List ℕ) (ts : List Term) (i : ℕ) (t : Term) (done : List Nest) (made : Option Concrete) → i < length ts
    → t ≡ get_or ts i t → IsMade ((done ++ map (nest_in loops) (take i ts)) ++ nest_in loops t ∷ []) made
    → IsMade (done ++ map (nest_in loops) (take (i + 1) ts)) made
next_term loops ts i t done made inside is h =
    subst (λ ns. IsMade ns made)
    (append_assoc done (map (nest_in loops) (take i ts)) (nest_in loops t ∷ [])
    ∙ ap (λ ns. done ++ ns) (ap (λ u. map (nest_in loops) (take i ts) ++ nest_in loops u ∷ []) is
    ∙ sym (map_both (nest_in loops) (take i ts) (get_or ts i t ∷ []))
    ∙ ap (map (nest_in loops)) (sym (take_more ts i t inside)))) h

-- one group more
pub next_group : (s : Statement) (order : List ℕ) (gs : List Group) (i : ℕ) (g : Group) (made : Option Concrete) → i < length gs
    → g ≡ get_or gs i g
    → IsMade (flat_map (nests_of_group s order) (take i gs) ++ nests_of_group s order g) made
    → IsMade (flat_map (nests_of_group s order) (take (i + 1) gs)) made
next_group s order gs i g made inside is h =
    subst (λ ns. IsMade ns made)
    (ap (λ ns. flat_map (nests_of_group s order) (take i gs) ++ ns)
    (sym (append-nil (nests_of_group s order g)) ∙ ap (λ k. nests_of_group s order k ++ []) is)
    ∙ sym (flat_map-append (nests_of_group s order) (take i gs) (get_or gs i g ∷ []))
    ∙ ap (flat_map (nests_of_group s order)) (sym (take_more gs i g inside))) h

module _ (s : Statement) (order : List ℕ) where
  terms_of_group : (vs : List ℕ) (ts : List Term) → Each (λ t. own_variables s t ≡ vs) ts
      → map (nest_of s order) ts ≡ map (nest_in (loops_of s order vs)) ts
  terms_of_group vs [] each = refl
  terms_of_group vs (t ∷ ts) each =
      (λ i. nest_in (loops_of s order (each.0 i)) t ∷ map (nest_of s order) ts)
      ∙ ap (λ ns. nest_in (loops_of s order vs) t ∷ ns) (terms_of_group vs ts each.1)

  nests_of_groups : (gs : List Group) → Each (IsGroup s) gs
      → map (nest_of s order) (flat_map (λ (g : Group). g.terms) gs) ≡ flat_map (nests_of_group s order) gs
  nests_of_groups [] each = refl
  nests_of_groups (g ∷ gs) each =
      map_both (nest_of s order) g.terms (flat_map (λ (h : Group). h.terms) gs)
      ∙ ap (λ ns. ns ++ map (nest_of s order) (flat_map (λ (h : Group). h.terms) gs)) (terms_of_group g.vars g.terms each.0.own)
      ∙ ap (λ ns. nests_of_group s order g ++ ns) (nests_of_groups gs each.1)

  all_nests : IsPermutation (map (nest_of s order) (terms s.expr)) (flat_map (nests_of_group s order) (groups s))
  all_nests = subst (IsPermutation (map (nest_of s order) (terms s.expr))) (nests_of_groups (groups s) (each_is_group s (terms s.expr)))
      (IsPermutation-map (nest_of s order) (terms s.expr) (flat_map (λ (g : Group). g.terms) (groups s))
      (all_terms_gathered s (terms s.expr)))

  -- all terms of the statement are in what is made of its groups
  pub all_made : (gs : List Group) (made : Option Concrete) → gs ≡ groups s → IsMade (flat_map (nests_of_group s order) gs) made
      → IsPermutation (map (nest_of s order) (terms s.expr)) (nests_made made)
  all_made gs made are h =
      IsPermutation-trans (map (nest_of s order) (terms s.expr)) (flat_map (nests_of_group s order) (groups s))
      (nests_made made) all_nests
      (subst (λ hs. IsPermutation (flat_map (nests_of_group s order) hs) (nests_made made)) are h.terms)

  -- so something is made
  pub something_made : (gs : List Group) (made : Option Concrete) → gs ≡ groups s → IsMade (flat_map (nests_of_group s order) gs) made
      → made ≡ None → ⊥
  something_made gs made are h none =
      subst (λ m. IsSome (λ (n : Nest). Unit {0}) (nests_made m)) none
      (some_moved (λ (n : Nest). Unit {0}) (map (nest_of s order) (terms s.expr)) (nests_made made) (all_made gs made are h)
      (mapped_some (λ (n : Nest). Unit {0}) (nest_of s order) (terms s.expr) (has_term s.expr)))

-- the loops and the terms that were read of a group
pub group_as : (s : Statement) (order : List ℕ) (g : Group) (loops : List ℕ) (ts : List Term) (done : List Nest) (made : Option Concrete)
    → loops ≡ loops_of s order g.vars → ts ≡ g.terms → IsMade (done ++ map (nest_in loops) ts) made
    → IsMade (done ++ nests_of_group s order g) made
group_as s order g loops ts done made is are h = subst (λ ns. IsMade (done ++ ns) made) (λ i. map (nest_in (is i)) (are i)) h
