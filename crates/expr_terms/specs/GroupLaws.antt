-- What is so of the groups of a statement's terms.
use Rattle.std.specs.Prelude.{◌≡◌, ◌≢◌, ◌<◌, List, [], ◌∷◌, length}
use Rattle.lists.specs.Each.{Each}
use Rattle.index_notation.specs.declared.syntax.Statement.{Statement}
use Rattle.expr_terms.specs.Terms.{own_variables}
use Rattle.expr_terms.specs.Groups.{Group}

-- no two of the groups have the same variables
abbrev pub AreApart : List Group → Type 0
AreApart [] = Unit {0}
AreApart (g ∷ gs) = Each (λ (h : Group). h.vars ≢ g.vars) gs × AreApart gs

-- the group has a term, and its variables are the own ones of each of its terms
pub record IsGroup (s : Statement) (g : Group) : Type 0 where
  pub some : 0 < length g.terms
  pub own : Each (λ t. own_variables s t ≡ g.vars) g.terms
