-- What a step does to the position that is shown, by its lead.
use Rattle.std.specs.Prelude.{◌≡◌, ℕ, ◌+◌, Option, Some, None, List, [], ◌∷◌, ◌++◌}
use Rattle.notation_reader.specs.declared.position.Stand.TheVariants as stand
use Rattle.notation_reader.specs.declared.position.Lead.{Lead}
use Rattle.notation_reader.specs.declared.position.Lead.TheVariants as lead
use Rattle.notation_reader.specs.declared.position.Position.{Position}
use Rattle.notation_grammar.specs.Grammar.{Role, NamesLeft, NamesRight, IsVariable, Binds, IsNumber, Opens, Plain}
use Rattle.notation_reader.specs.Machine.{State}
use Rattle.notation_reader.specs.Shown.{on_the_left, show, finished, with_stand, in_bracket, behind_sign, out_of_bracket}

-- a step leads to a state that shows so
abbrev pub Leads : Option State → Position → Type 0
Leads o r = (next : State) × (o ≡ Some next) × (show next ≡ r)

-- no limit counts a symbol in this role
abbrev pub IsUncounted : Role → Type 0
IsUncounted NamesLeft = Unit {0}
IsUncounted Plain = Unit {0}
IsUncounted _ = ⊥

-- a step from a state that shows so, by a symbol in this role
abbrev pub Does : Option State → Position → Role → Lead → Type 0
Does o r role lead.Nowhere = o ≡ None
Does o r role (lead.To at) = Leads o (with_stand at r) × IsUncounted role
Does o r role (lead.Variable at) = Leads o (with_stand at r) × ((n : ℕ) × (role ≡ IsVariable n))
Does o r role lead.Number = Leads o (finished r) × (role ≡ IsNumber)
Does o r role lead.Name = Leads o (with_stand stand.Name r) × (role ≡ NamesRight)
Does o r role lead.Sum = Leads o (with_stand stand.SumName r) × IsUncounted role
Does o r role lead.Bound = Leads o (with_stand stand.SumVariable r) × (role ≡ Binds)
Does o r role (lead.Bracket at) = Leads o (in_bracket at r) × (role ≡ Opens (r.levels + 1))
Does o r role lead.Minus = Leads o (behind_sign r) × (role ≡ Opens (r.levels + 1))
Does o r role lead.Operator = Leads o (with_stand stand.Operator (finished r)) × IsUncounted role
Does o r role lead.Access = Leads o (finished r) × IsUncounted role
Does o r role lead.Close = (r.outer ≡ [] → o ≡ None)
    × ((front : List ℕ) (m : ℕ) → r.outer ≡ front ++ (m ∷ []) → Leads o (out_of_bracket r front m)) × IsUncounted role
Does o r role lead.End = (r.outer ≡ [] → Leads o (on_the_left stand.End))
    × ((front : List ℕ) (m : ℕ) → r.outer ≡ front ++ (m ∷ []) → o ≡ None) × IsUncounted role
