-- A statement has a meaning where its expression and the insides of its sums do.
use Rattle.std.specs.Prelude.{◌≡◌, Bool, true, false, ◌||◌, List, [], ◌∷◌, refl}
use Rattle.std.specs.List.{list_any}
use Rattle.std.proofs.Common.{◌∙◌, ap}
use Rattle.lists.specs.Each.{Each}
use Rattle.index_notation.specs.declared.syntax.NestedSum.{NestedSum}
use Rattle.index_notation.specs.declared.syntax.Statement.{Statement}
use Rattle.expr_terms.specs.Minus.{HasMeaning, has_minus}
use Rattle.expr_terms.proofs.Meanings.{neither}
use Rattle.nested_sums.specs.Pieces.{HasMeaningWithSums}

none_inside : (sums : List NestedSum) → list_any (λ (sum : NestedSum). has_minus sum.inside) sums ≡ false
    → Each (λ (sum : NestedSum). HasMeaning false sum.inside) sums
none_inside [] h = tt
none_inside (sum ∷ sums) h =
    let both = neither (has_minus sum.inside) (list_any (λ (other : NestedSum). has_minus other.inside) sums) h in
    (both.0, none_inside sums both.1)

inside_none : (sums : List NestedSum) → Each (λ (sum : NestedSum). HasMeaning false sum.inside) sums
    → list_any (λ (sum : NestedSum). has_minus sum.inside) sums ≡ false
inside_none [] h = refl
inside_none (sum ∷ sums) h =
    ap (λ b. b || list_any (λ (other : NestedSum). has_minus other.inside) sums) h.0 ∙ inside_none sums h.1

all_meant : (sums : List NestedSum) → Each (λ (sum : NestedSum). HasMeaning true sum.inside) sums
all_meant [] = tt
all_meant (sum ∷ sums) = (tt, all_meant sums)

pub parts_meant : (b : Bool) (s : Statement) → HasMeaningWithSums b s
    → HasMeaning b s.expr × Each (λ (sum : NestedSum). HasMeaning b sum.inside) s.sums
parts_meant true s h = (tt, all_meant s.sums)
parts_meant false s h =
    let both = neither (has_minus s.expr) (list_any (λ (sum : NestedSum). has_minus sum.inside) s.sums) h in
    (both.0, none_inside s.sums both.1)

pub meant_by_parts : (b : Bool) (s : Statement) → HasMeaning b s.expr → Each (λ (sum : NestedSum). HasMeaning b sum.inside) s.sums
    → HasMeaningWithSums b s
meant_by_parts true s expr insides = tt
meant_by_parts false s expr insides =
    ap (λ b. b || list_any (λ (sum : NestedSum). has_minus sum.inside) s.sums) expr ∙ inside_none s.sums insides
