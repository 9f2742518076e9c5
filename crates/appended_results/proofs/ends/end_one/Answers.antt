use Rattle.std.specs.Prelude.{◌≡◌, true, false}
use Rattle.std.proofs.Common.{◌∙◌, sym, ap, subst}
use Rattle.level_appends.specs.Codes.{EndsLevel}
use Rattle.tensor_storage.specs.Levels.{meaning}
use Rattle.appended_results.proofs.ends.end_one.Goals as goal

apart : {A : Type 0} → true ≡ false → A
apart e = absurd (never e)
  where
    never : true ≡ false → ⊥
    never e = cc

pub returns : goal.returns
returns c =
    let sparse = sym (ap (λ p. p.full) c.props_of.ensures) ∙ c.if-props_of.false in
    record {
      full = λ is. apart (sym is ∙ sparse);
      sparse = λ _. subst (λ k. EndsLevel meaning k c.args.at.level c.args.at.base c.args.free c.in_ok-code.code) c.in_ok-level.ensures
          c.in_ok-code.ensures;
    }

pub returns-then-props_of : goal.returns-then-props_of
returns-then-props_of c =
    let full = sym (ap (λ p. p.full) c.props_of.ensures) ∙ c.if-props_of.true in
    record { full = λ _. c.new.ensures; sparse = λ no. apart (sym full ∙ no) }
