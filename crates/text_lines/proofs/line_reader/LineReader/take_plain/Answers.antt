use Rattle.std.proofs.Common.{ℤ, List, ℕ, sym, subst, rules, w64}
use Rattle.std.proofs.lemmas.Int.{to_z-of_z}
use mir.Val.{SFits}
use Rattle.text_lines.specs.Plain.{AreNumbers}
use Rattle.text_lines.specs.Tokens.{tokens}
use Rattle.text_lines.proofs.line_reader.LineReader.take_plain.Goals as goal

pub returns-clause-numbers : goal.returns-clause-numbers
returns-clause-numbers c =
    let fits : SFits w64 c.in_ok-end.value = search rules in
    let numbers : List ℕ = c.read_plain_line.new.numbers in
    subst (λ (z : ℤ). AreNumbers (tokens c.in_ok-taken.line.now) numbers z) (sym (to_z-of_z w64 c.in_ok-end.value fits))
    (subst (λ (line : List ℕ). AreNumbers (tokens line) numbers c.in_ok-end.value) (sym c.in_ok-taken.ensures.line)
    c.in_ok-end.ensures.numbers_are)
