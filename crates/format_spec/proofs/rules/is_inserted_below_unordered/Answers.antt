use Rattle.std.specs.Prelude.{◌↔◌, All, refl}
use Rattle.std.proofs.Common.{sym, subst}
use Rattle.format_spec.specs.Formats.{letters_of, InsertedBelowUnordered, Inserts}
use Rattle.format_spec.proofs.Below.{all_ordered, first_rules}
use Rattle.format_spec.proofs.rules.is_inserted_below_unordered.Goals as goal

pub returns-in-None : goal.returns-in-None
returns-in-None c = (λ _. all_ordered c.args.levels.now c.in-None.ensures, λ _. refl)

pub returns-in-Some : goal.returns-in-Some
returns-in-Some c =
    let e = c.in-Some.ensures in
    let rules = subst (λ levels. All Inserts levels ↔ InsertedBelowUnordered (letters_of c.args.levels.now)) (sym c.split_at.ensures.back)
    (first_rules c.args.levels.now c.in-Some.first e.0 e.1 e.2) in
    (λ yes. rules.0 (c.are_inserted.ensures.0 yes), λ rule. c.are_inserted.ensures.1 (rules.1 rule))
