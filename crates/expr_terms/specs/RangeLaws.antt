-- Laws of ranges: what is greatest, how far entries reach, and what is left of the rule where ranges are only bounded.
use Rattle.std.specs.Prelude.{ℕ, Bool, List, [], ◌∷◌}
use Rattle.std.specs.List.{list_any}
use Rattle.index_notation.specs.declared.syntax.Access.{Access}
use Rattle.expr_terms.specs.Ranges.{Place}
use Rattle.expr_terms.specs.Terms.{contains}

-- whether the variable stands in one of the accesses
abbrev pub stands_at : List Access → ℕ → Bool
stands_at accesses v = list_any (λ access. contains access.vars v) accesses

-- a variable that stands in an access has a place
abbrev pub IsSomething : List Place → Type 0
IsSomething [] = ⊥
IsSomething (place ∷ places) = Unit {0}
