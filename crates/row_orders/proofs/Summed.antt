-- A variable is summed in some term where it is one of some group's.
use Rattle.std.specs.Prelude.{◌≡◌, ℕ, nat_eq, not, Bool, true, false, ◌||◌, cond, List, [], ◌∷◌, map, filter, refl}
use Rattle.std.specs.List.{list_any}
use Rattle.std.specs.Cmp.Lexicographic.{pointwise, same_text}
use Rattle.std.proofs.Common.{◌∙◌, sym, ap}
use Rattle.index_notation.specs.declared.syntax.Statement.{Statement}
use Rattle.expr_terms.specs.declared.group.Group.{Group}
use Rattle.expr_terms.specs.Groups.{firsts, group_in, groups}
use Rattle.expr_terms.specs.Terms.{terms, contains, own_variables}
use Rattle.row_orders.specs.Takings.{is_summed}

any_mapped : {X Y : Type 0} (p : Y → Bool) (f : X → Y) (xs : List X) → list_any p (map f xs) ≡ list_any (λ x. p (f x)) xs
any_mapped p f [] = refl
any_mapped p f (x ∷ xs) = ap (λ b. p (f x) || b) (any_mapped p f xs)

-- without lists that are one that doesn't pass
any_others : (p : List ℕ → Bool) (vs : List ℕ) (lists : List (List ℕ)) → p vs ≡ false
    → list_any p (filter (λ ws. not (pointwise nat_eq ws vs)) lists) ≡ list_any p lists
any_others p vs [] none = refl
any_others p vs (ws ∷ lists) none = by (pointwise nat_eq ws vs) refl (any_others p vs lists none)
  where
    by : (b : Bool) → pointwise nat_eq ws vs ≡ b
        → list_any p (filter (λ us. not (pointwise nat_eq us vs)) lists) ≡ list_any p lists
        → list_any p (cond (not b) (ws ∷ filter (λ us. not (pointwise nat_eq us vs)) lists)
        (filter (λ us. not (pointwise nat_eq us vs)) lists)) ≡ (p ws || list_any p lists)
    by true e more = more ∙ ap (λ b. b || list_any p lists) (sym (ap p (same_text ws vs (sym e)) ∙ none))
    by false e more = ap (λ b. p ws || b) more

any_firsts : (p : List ℕ → Bool) (lists : List (List ℕ)) → list_any p (firsts lists) ≡ list_any p lists
any_firsts p [] = refl
any_firsts p (vs ∷ lists) = by (p vs) refl (any_firsts p lists)
  where
    by : (b : Bool) → p vs ≡ b → list_any p (firsts lists) ≡ list_any p lists
        → (p vs || list_any p (filter (λ ws. not (pointwise nat_eq ws vs)) (firsts lists))) ≡ (p vs || list_any p lists)
    by true e more =
        ap (λ b. b || list_any p (filter (λ ws. not (pointwise nat_eq ws vs)) (firsts lists))) e
        ∙ sym (ap (λ b. b || list_any p lists) e)
    by false e more = ap (λ b. p vs || b) (any_others p vs (firsts lists) e ∙ more)

pub summed_in_group : (s : Statement) (v : ℕ) → list_any (λ (group : Group). contains group.vars v) (groups s) ≡ is_summed s v
summed_in_group s v =
    any_mapped (λ (group : Group). contains group.vars v) (group_in s (terms s.expr)) (firsts (map (own_variables s) (terms s.expr)))
    ∙ any_firsts (λ vs. contains vs v) (map (own_variables s) (terms s.expr))
    ∙ any_mapped (λ vs. contains vs v) (own_variables s) (terms s.expr)
