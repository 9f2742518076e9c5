use Rattle.std.specs.Prelude.{◌≡◌, true, false}
use Rattle.std.proofs.Common.{◌∙◌, sym, ap}
use Rattle.appended_results.proofs.starts.begin_one.Goals as goal

apart : {A : Type 0} → true ≡ false → A
apart e = absurd (never e)
  where
    never : true ≡ false → ⊥
    never e = cc

pub returns : goal.returns
returns c =
    let sparse = sym (ap (λ p. p.full) c.props_of.ensures) ∙ c.if-props_of.false in
    record { full = λ is. apart (sym is ∙ sparse); sparse = λ _. c.in_ok-code.ensures }

pub returns-then-props_of : goal.returns-then-props_of
returns-then-props_of c =
    let full = sym (ap (λ p. p.full) c.props_of.ensures) ∙ c.if-props_of.true in
    record { full = λ _. c.new.ensures; sparse = λ none. apart (sym full ∙ none) }
