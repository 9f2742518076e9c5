use Rattle.std.proofs.Common.{ap, sym, ◌≡◌, ◌∙◌, codes, option_map, List, ℕ, Option, Some, None}
use Rattle.std.specs.Borrow.{Bor}
use Rattle.clap.specs.Words.{found_of, rows_of, first_of}
use Rattle.clap.proofs.WalkLemmas.{first_value-rows}
use Rattle.command_line.specs.Clap.{named_or_ring}
use Rattle.command_line.proofs.over_of.Goals as goal

abbrev text_in : Option (Bor (List ℕ)) → Option (List ℕ)
text_in = option_map (λ s. s.now)

pub returns-in-Some : goal.returns-in-Some
returns-in-Some c =
    let rows = c.get_str.ensures ∙ first_value-rows (found_of c.args.matches.now) (codes "over") in
    let some : Some c.in-Some.name.now ≡ first_of (codes "over") (rows_of (found_of c.args.matches.now)) =
    sym (ap text_in c.in-Some.is) ∙ rows in
    c.semiring_named.ensures ∙ ap named_or_ring some

pub returns-in-None : goal.returns-in-None
returns-in-None c =
    let rows = c.get_str.ensures ∙ first_value-rows (found_of c.args.matches.now) (codes "over") in
    let none : None ≡ first_of (codes "over") (rows_of (found_of c.args.matches.now)) = sym (ap text_in c.in-None.is) ∙ rows in
    ap named_or_ring none
