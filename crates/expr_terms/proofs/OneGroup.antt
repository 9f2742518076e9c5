-- Each term is in one group, that of its own variables.
use Rattle.std.specs.Prelude.{◌≡◌, ◌≢◌, ℕ, ◌<◌, Bool, true, false, cond, ◌||◌, nat_eq, List, [], ◌∷◌, ◌++◌, length, map, filter, refl}
use Rattle.std.specs.List.{flat_map}
use Rattle.std.specs.List.Sorted.{IsPermutation}
use Rattle.std.specs.Cmp.Lexicographic.{pointwise}
use Rattle.std.proofs.Common.{sym, ◌∙◌, ap, subst, arith, true≢false}
use Rattle.std.proofs.lemmas.List.Sorted.{IsPermutation-refl, IsPermutation-cons, IsPermutation-sym, IsPermutation-trans}
use Rattle.std.proofs.lemmas.List.Sorted.{IsPermutation-middle, IsPermutation-append_right}
use Rattle.lists.specs.Each.{Each}
use Rattle.tensor_map.specs.Laws.{same, other}
use Rattle.tensor_map.proofs.Lemmas.{tested, at_itself}
use Rattle.index_notation.specs.declared.syntax.Statement.{Statement}
use Rattle.expr_terms.specs.Terms.{Term, own_variables}
use Rattle.expr_terms.specs.Groups.{Group, firsts, group_in, groups_in}
use Rattle.expr_terms.specs.GroupLaws.{AreApart, IsGroup}
use Rattle.expr_terms.proofs.GroupLaws.{kept, dropped, apart_from, turned}
use Rattle.expr_terms.proofs.Grouped.{among, among_firsts, Apart, firsts_apart}

-- each list is among itself and others
each_among : (ks more : List (List ℕ)) → Each (λ v. among v ks ≡ true) more → (k : List ℕ) → Each (λ v. among v (k ∷ ks) ≡ true) more
each_among ks [] each k = tt
each_among ks (v ∷ more) each k = (ap (λ b. pointwise nat_eq k v || b) each.0 ∙ or_true (pointwise nat_eq k v), each_among ks more each.1 k)
  where
    or_true : (b : Bool) → (b || true) ≡ true
    or_true true = refl
    or_true false = refl

all_among : (ks : List (List ℕ)) → Each (λ v. among v ks ≡ true) ks
all_among [] = tt
all_among (k ∷ ks) = (ap (λ b. b || among k ks) (at_itself k), each_among ks ks (all_among ks) k)

firsts_keep : (P : List ℕ → Type 0) (ks : List (List ℕ)) → Each P ks → Each P (firsts ks)
firsts_keep P [] each = tt
firsts_keep P (k ∷ ks) each = (each.0, left (firsts ks) (firsts_keep P ks each.1))
  where
    left : (us : List (List ℕ)) → Each P us → Each P (filter (apart_from k) us)
    left [] each = tt
    left (u ∷ us) each = elim (apart_from k u) as (λ b. Each P (cond b (u ∷ filter (apart_from k) us) (filter (apart_from k) us))) [
      | true ↦ (each.0, left us each.1)
      | false ↦ left us each.1
    ]

module _ (s : Statement) where
  abbrev key : Term → List ℕ
  key t = own_variables s t

  abbrev own : List ℕ → Term → Bool
  own k t = pointwise nat_eq (key t) k

  -- the terms of the groups of these keys
  abbrev gathered : List Term → List (List ℕ) → List Term
  gathered ts ks = flat_map (λ (g : Group). g.terms) (map (group_in s ts) ks)

  nothing_gathered : (ks : List (List ℕ)) → gathered [] ks ≡ []
  nothing_gathered [] = refl
  nothing_gathered (k ∷ ks) = nothing_gathered ks

  -- one term more is in no group of another key
  gathered_elsewhere : (t : Term) (ts : List Term) (k : List ℕ) → k ≡ key t → (ks : List (List ℕ))
      → Each (λ w. pointwise nat_eq w k ≡ false) ks → gathered (t ∷ ts) ks ≡ gathered ts ks
  gathered_elsewhere t ts k is [] each = refl
  gathered_elsewhere t ts k is (w ∷ ks) each =
      let elsewhere : own w t ≡ false = elim (tested (key t) w) [
        | same equal e ↦ absurd (true≢false (sym (at_itself k) ∙ ap (λ u. pointwise nat_eq u k) (is ∙ equal) ∙ each.0))
        | other apart e ↦ e
      ] in
      ap (λ us. us ++ gathered (t ∷ ts) ks) (dropped (own w) t ts elsewhere)
      ∙ ap (λ us. filter (own w) ts ++ us) (gathered_elsewhere t ts k is ks each.1)

  gathered_more : (t : Term) (ts : List Term) (ks : List (List ℕ)) → Apart ks → among (key t) ks ≡ true
      → IsPermutation (t ∷ gathered ts ks) (gathered (t ∷ ts) ks)
  gathered_more t ts [] apart here = absurd (true≢false (sym here))
  gathered_more t ts (k ∷ ks) apart here = elim (tested k (key t)) [
    | same is e ↦ (
        let mine : own k t ≡ true = ap (λ v. pointwise nat_eq v k) (sym is) ∙ at_itself k in
        let all : gathered (t ∷ ts) (k ∷ ks) ≡ t ∷ gathered ts (k ∷ ks) =
        ap (λ us. us ++ gathered (t ∷ ts) ks) (kept (own k) t ts mine)
        ∙ ap (λ us. t ∷ filter (own k) ts ++ us) (gathered_elsewhere t ts k is ks apart.0) in
        subst (IsPermutation (t ∷ gathered ts (k ∷ ks))) (sym all) (IsPermutation-refl (t ∷ gathered ts (k ∷ ks))))
    | other is e ↦ (
        let yours : own k t ≡ false = turned k (key t) is in
        let before : List Term = filter (own k) ts in
        let there : among (key t) ks ≡ true = sym (ap (λ b. b || among (key t) ks) e) ∙ here in
        let first : IsPermutation (t ∷ (before ++ gathered ts ks)) (before ++ t ∷ gathered ts ks) =
        IsPermutation-sym (before ++ t ∷ gathered ts ks) (t ∷ (before ++ gathered ts ks))
        (IsPermutation-middle before t (gathered ts ks)) in
        let second : IsPermutation (before ++ t ∷ gathered ts ks) (before ++ gathered (t ∷ ts) ks) =
        IsPermutation-append_right before (t ∷ gathered ts ks) (gathered (t ∷ ts) ks) (gathered_more t ts ks apart.1 there) in
        subst (IsPermutation (t ∷ (before ++ gathered ts ks))) (ap (λ us. us ++ gathered (t ∷ ts) ks) (sym (dropped (own k) t ts yours)))
        (IsPermutation-trans (t ∷ (before ++ gathered ts ks)) (before ++ t ∷ gathered ts ks) (before ++ gathered (t ∷ ts) ks) first second))
  ]

  gathered_all : (ts : List Term) (ks : List (List ℕ)) → Apart ks → Each (λ v. among v ks ≡ true) (map key ts)
      → IsPermutation ts (gathered ts ks)
  gathered_all [] ks apart each = subst (IsPermutation []) (sym (nothing_gathered ks)) (IsPermutation-refl [])
  gathered_all (t ∷ ts) ks apart each =
      IsPermutation-trans (t ∷ ts) (t ∷ gathered ts ks) (gathered (t ∷ ts) ks)
      (IsPermutation-cons t ts (gathered ts ks) (gathered_all ts ks apart each.1)) (gathered_more t ts ks apart each.0)

  pub all_terms_gathered : (ts : List Term) → IsPermutation ts (flat_map (λ (g : Group). g.terms) (groups_in s ts))
  all_terms_gathered ts = gathered_all ts (firsts (map key ts)) (firsts_apart (map key ts))
      (each_first (map key ts) (all_among (map key ts)))
    where
      each_first : (vs : List (List ℕ)) → Each (λ v. among v (map key ts) ≡ true) vs → Each (λ v. among v (firsts (map key ts)) ≡ true) vs
      each_first [] each = tt
      each_first (v ∷ vs) each = (among_firsts v (map key ts) ∙ each.0, each_first vs each.1)

  -- the terms that are kept have these variables
  kept_own : (k : List ℕ) (ts : List Term) → Each (λ t. key t ≡ k) (filter (own k) ts)
  kept_own k [] = tt
  kept_own k (t ∷ ts) = elim (tested (key t) k) [
    | same is e ↦ subst (Each (λ u. key u ≡ k)) (sym (kept (own k) t ts e)) (is, kept_own k ts)
    | other is e ↦ subst (Each (λ u. key u ≡ k)) (sym (dropped (own k) t ts e)) (kept_own k ts)
  ]

  kept_some : (k : List ℕ) (ts : List Term) → among k (map key ts) ≡ true → 0 < length (filter (own k) ts)
  kept_some k [] here = absurd (true≢false (sym here))
  kept_some k (t ∷ ts) here = elim (tested (key t) k) [
    | same is e ↦ subst (λ (us : List Term). 0 < length us) (sym (kept (own k) t ts e)) (omega arith)
    | other is e ↦ subst (λ (us : List Term). 0 < length us) (sym (dropped (own k) t ts e))
        (kept_some k ts (sym (ap (λ b. b || among k (map key ts)) e) ∙ here))
  ]

  are_groups : (ts : List Term) (ks : List (List ℕ)) → Each (λ k. among k (map key ts) ≡ true) ks
      → Each (IsGroup s) (map (group_in s ts) ks)
  are_groups ts [] each = tt
  are_groups ts (k ∷ ks) each = (record { some = kept_some k ts each.0; own = kept_own k ts }, are_groups ts ks each.1)

  pub each_is_group : (ts : List Term) → Each (IsGroup s) (groups_in s ts)
  each_is_group ts = are_groups ts (firsts (map key ts))
      (firsts_keep (λ k. among k (map key ts) ≡ true) (map key ts) (all_among (map key ts)))

  others_differ : (ts : List Term) (k : List ℕ) (ks : List (List ℕ)) → Each (λ w. pointwise nat_eq w k ≡ false) ks
      → Each (λ (h : Group). h.vars ≢ k) (map (group_in s ts) ks)
  others_differ ts k [] each = tt
  others_differ ts k (w ∷ ks) each =
      (λ is. absurd (true≢false (sym (at_itself w) ∙ ap (pointwise nat_eq w) is ∙ each.0)), others_differ ts k ks each.1)

  differ : (ts : List Term) (ks : List (List ℕ)) → Apart ks → AreApart (map (group_in s ts) ks)
  differ ts [] apart = tt
  differ ts (k ∷ ks) apart = (others_differ ts k ks apart.0, differ ts ks apart.1)

  pub groups_differ : (ts : List Term) → AreApart (groups_in s ts)
  groups_differ ts = differ ts (firsts (map key ts)) (firsts_apart (map key ts))
