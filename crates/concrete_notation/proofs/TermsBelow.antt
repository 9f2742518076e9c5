-- The terms of a concrete statement that is made of its parts, behind others.
use Rattle.std.specs.Prelude.{◌≡◌, ℕ, List, [], ◌∷◌, ◌++◌, map}
use Rattle.std.proofs.Common.{◌∙◌, sym, ap, append_assoc}
use Rattle.expr_terms.specs.declared.term.Term.{Term}
use Rattle.concrete_notation.specs.declared.concrete.Concrete.{Concrete, Add, Forall, Both, Where}
use Rattle.concrete_notation.specs.Nests.{Nest, inside, nests, terms_below}
use Rattle.concrete_notation.proofs.LoopSums.{map_both, map_map}
use Rattle.concrete_notation.proofs.Trees.{nests_forall, nests_both, nests_where}

module _ (old new : List Term) (whole : Concrete) where
  pub below_add : (t : Term) → whole ≡ Add t → new ≡ old ++ t ∷ [] → new ≡ old ++ terms_below whole
  below_add t is grown = grown ∙ ap (λ c. old ++ terms_below c) (sym is)

  pub below_forall : (v : ℕ) (body part : Concrete) → whole ≡ Forall v body → part ≡ body → new ≡ old ++ terms_below part
      → new ≡ old ++ terms_below whole
  below_forall v body part is read grown =
      grown ∙ ap (λ c. old ++ terms_below c) read
      ∙ ap (λ ts. old ++ ts)
      (sym (map_map (inside v) (λ (nest : Nest). nest.term) (nests body))
      ∙ ap (map (λ (nest : Nest). nest.term)) (sym (nests_forall v body)))
      ∙ ap (λ c. old ++ terms_below c) (sym is)

  pub below_where : (keys : List ℕ) (body part : Concrete) → whole ≡ Where keys body → part ≡ body → new ≡ old ++ terms_below part
      → new ≡ old ++ terms_below whole
  below_where keys body part is read grown =
      grown ∙ ap (λ c. old ++ terms_below c) read
      ∙ ap (λ ts. old ++ ts) (ap (map (λ (nest : Nest). nest.term)) (sym (nests_where keys body)))
      ∙ ap (λ c. old ++ terms_below c) (sym is)

  pub below_both : (between : List Term) (first second left right : Concrete) → whole ≡ Both first second → left ≡ first → right ≡ second
      → between ≡ old ++ terms_below left → new ≡ between ++ terms_below right → new ≡ old ++ terms_below whole
  below_both between first second left right is one two grown more =
      more ∙ ap (λ ts. ts ++ terms_below right) grown ∙ append_assoc old (terms_below left) (terms_below right)
      ∙ (λ i. old ++ (terms_below (one i) ++ terms_below (two i)))
      ∙ ap (λ ts. old ++ ts) (sym (map_both (λ (nest : Nest). nest.term) (nests first) (nests second))
      ∙ ap (map (λ (nest : Nest). nest.term)) (sym (nests_both first second)))
      ∙ ap (λ c. old ++ terms_below c) (sym is)
