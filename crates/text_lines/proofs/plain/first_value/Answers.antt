use Rattle.std.proofs.Common.{◌≡◌, ℕ, ℤ, List, ◌∷◌, true, false, ap, sym, subst, ◌∙◌, rules, w64}
use Rattle.std.proofs.lemmas.Int.{to_z-of_z}
use mir.Val.{SFits, to_z, of_z}
use Rattle.text_lines.specs.Numbers.{with_sign}
use Rattle.text_lines.specs.Plain.{BeginsWithValue}
use Rattle.text_lines.proofs.PlainLaws.{minus_begins, plain_begins}
use Rattle.text_lines.proofs.plain.first_value.Goals as goal

pub returns-in_ok-number : goal.returns-in_ok-number
returns-in_ok-number c =
    let behind : List ℕ = c.in_ok-first.behind.now in
    let text_is : c.args.text.now ≡ 45 ∷ behind =
    c.in_ok-first.ensures.cases.0 ∙ ap (λ (byte : ℕ). byte ∷ behind) c.if-first-eq45.true in
    let fits : SFits w64 c.signed.result = search rules in
    let is : to_z w64 (of_z w64 c.signed.result) ≡ with_sign true c.in_ok-number.number =
    to_z-of_z w64 c.signed.result fits ∙ c.signed.ensures in
    subst (λ (z : ℤ). BeginsWithValue c.args.text.now z c.in_ok-number.rest.now) (sym is)
    (minus_begins c.args.text.now behind c.in_ok-number.rest.now c.in_ok-number.number text_is c.in_ok-number.ensures)

pub returns-in_ok-number-2 : goal.returns-in_ok-number-2
returns-in_ok-number-2 c =
    let fits : SFits w64 c.signed-else-first-eq45.result = search rules in
    let is : to_z w64 (of_z w64 c.signed-else-first-eq45.result) ≡ with_sign false c.in_ok-number-2.number =
    to_z-of_z w64 c.signed-else-first-eq45.result fits ∙ c.signed-else-first-eq45.ensures in
    subst (λ (z : ℤ). BeginsWithValue c.args.text.now z c.in_ok-number-2.rest.now) (sym is)
    (plain_begins c.args.text.now c.in_ok-number-2.rest.now c.in_ok-number-2.number c.in_ok-number-2.ensures)
