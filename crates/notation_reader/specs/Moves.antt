-- How a position moves.
use Rattle.std.specs.Prelude.{◌≡◌, ℕ, Bool, true, false, MatchBool, List, [], ◌∷◌, ◌++◌}
use Rattle.notation_reader.specs.declared.position.Stand.TheVariants as stand
use Rattle.notation_reader.specs.declared.position.Lead.{Lead}
use Rattle.notation_reader.specs.declared.position.Lead.TheVariants as lead
use Rattle.notation_reader.specs.declared.position.Position.{Position}
use Rattle.notation_reader.specs.Shown.{on_the_left, finished, with_stand, in_bracket, behind_sign, out_of_bracket}

-- the position `q` after a lead, where the lead is open (`b`)
abbrev pub Moves : Position → Lead → Bool → Position → Type 0
Moves r lead.Nowhere b q = b ≡ false
Moves r (lead.To at) b q = (b ≡ true) × (q ≡ with_stand at r)
Moves r (lead.Variable at) b q = (b ≡ true) × (q ≡ with_stand at r)
Moves r lead.Number b q = (b ≡ true) × (q ≡ finished r)
Moves r lead.Name b q = (b ≡ true) × (q ≡ with_stand stand.Name r)
Moves r lead.Sum b q = (b ≡ true) × (q ≡ with_stand stand.SumName r)
Moves r lead.Bound b q = (b ≡ true) × (q ≡ with_stand stand.SumVariable r)
Moves r (lead.Bracket at) b q = (b ≡ true) × (q ≡ in_bracket at r)
Moves r lead.Minus b q = (b ≡ true) × (q ≡ behind_sign r)
Moves r lead.Operator b q = (b ≡ true) × (q ≡ with_stand stand.Operator (finished r))
Moves r lead.Access b q = (b ≡ true) × (q ≡ finished r)
Moves r lead.Close b q =
    MatchBool b ((front : List ℕ) × (m : ℕ) × (r.outer ≡ front ++ (m ∷ [])) × (q ≡ out_of_bracket r front m)) (r.outer ≡ [])
Moves r lead.End b q =
    MatchBool b ((r.outer ≡ []) × (q ≡ on_the_left stand.End)) ((front : List ℕ) × (m : ℕ) × (r.outer ≡ front ++ (m ∷ [])))
