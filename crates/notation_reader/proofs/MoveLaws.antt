-- What a move tells of a step.
use Rattle.std.specs.Prelude.{◌≡◌, Bool, true, false, MatchBool, Option, None, refl}
use Rattle.std.proofs.Common.{sym, ◌∙◌}
use Rattle.notation_reader.specs.declared.position.Stand.TheVariants as stand
use Rattle.notation_reader.specs.declared.position.Lead.{Lead}
use Rattle.notation_reader.specs.declared.position.Lead.TheVariants as lead
use Rattle.notation_reader.specs.declared.position.Position.{Position}
use Rattle.notation_grammar.specs.Grammar.{Role}
use Rattle.notation_reader.specs.Machine.{State}
use Rattle.notation_reader.specs.Shown.{on_the_left, finished, with_stand, in_bracket, behind_sign, out_of_bracket}
use Rattle.notation_reader.specs.Moves.{Moves}
use Rattle.notation_reader.proofs.Doing.{Leads, Does}

-- what a move tells of a step
abbrev pub Tells : Bool → Option State → Position → Type 0
Tells b o q = MatchBool b (Leads o q) (o ≡ None)

goes : (o : Option State) (r q : Position) (b : Bool) → Leads o r → b ≡ true → q ≡ r → Tells b o q
goes o r q true h e k = (h.0, h.1, h.2 ∙ sym k)
goes o r q false h e k = absurd (let no = e in cc)

stays : (o : Option State) (q : Position) (b : Bool) → o ≡ None → b ≡ false → Tells b o q
stays o q false h e = h
stays o q true h e = absurd (let no = e in cc)

closes_so : (o : Option State) (role : Role) (r q : Position) (b : Bool) → Moves r lead.Close b q → Does o r role lead.Close → Tells b o q
closes_so o role r q true m d = goes o (out_of_bracket r m.0 m.1) q true (d.1 m.0 m.1 m.2) refl m.3
closes_so o role r q false m d = d.0 m

ends_so : (o : Option State) (role : Role) (r q : Position) (b : Bool) → Moves r lead.End b q → Does o r role lead.End → Tells b o q
ends_so o role r q true m d = goes o (on_the_left stand.End) q true (d.0 m.0) refl m.1
ends_so o role r q false m d = d.1 m.0 m.1 m.2

pub move_tells : (at : Lead) (o : Option State) (role : Role) (r q : Position) (b : Bool) → Moves r at b q → Does o r role at → Tells b o q
move_tells lead.Nowhere o role r q b m d = stays o q b d m
move_tells (lead.To at) o role r q b m d = goes o (with_stand at r) q b d.0 m.0 m.1
move_tells (lead.Variable at) o role r q b m d = goes o (with_stand at r) q b d.0 m.0 m.1
move_tells lead.Number o role r q b m d = goes o (finished r) q b d.0 m.0 m.1
move_tells lead.Name o role r q b m d = goes o (with_stand stand.Name r) q b d.0 m.0 m.1
move_tells lead.Sum o role r q b m d = goes o (with_stand stand.SumName r) q b d.0 m.0 m.1
move_tells lead.Bound o role r q b m d = goes o (with_stand stand.SumVariable r) q b d.0 m.0 m.1
move_tells (lead.Bracket at) o role r q b m d = goes o (in_bracket at r) q b d.0 m.0 m.1
move_tells lead.Minus o role r q b m d = goes o (behind_sign r) q b d.0 m.0 m.1
move_tells lead.Operator o role r q b m d = goes o (with_stand stand.Operator (finished r)) q b d.0 m.0 m.1
move_tells lead.Access o role r q b m d = goes o (finished r) q b d.0 m.0 m.1
move_tells lead.Close o role r q b m d = closes_so o role r q b m d
move_tells lead.End o role r q b m d = ends_so o role r q b m d
