use Rattle.std.proofs.Common.{◌≡◌, ◌≢◌, ℕ, zero, suc, ◌-◌, IfOk, arith, ◌∙◌, ap, subst, refl}
use Rattle.index_notation.specs.declared.syntax.Expr.{Expr, Neg}
use Rattle.notation_reader.specs.Building.{negated}
use Rattle.notation_reader.proofs.builder.+negated.Goals as goal

one_less : (n : ℕ) (e : Expr) → n ≢ 0 → negated (n - 1) (Neg e) ≡ negated n e
one_less zero e h = absurd (h refl)
one_less (suc n) e h = ap (λ k. negated k (Neg e)) (let k : suc n - 1 ≡ n = omega arith in k)

pub returns-in_ok-inner : goal.returns-in_ok-inner
returns-in_ok-inner t c =
    let step = one_less c.args.minuses c.args.expr c.if-minuses-eq0.false in
    let inner = ap (λ (x : Expr). negated (c.args.minuses - 1) (Neg x)) c.in_ok-inner.ensures in
    subst (λ (x : Expr). IfOk c.negated.result (λ e. e ≡ x)) (inner ∙ step) c.negated.ensures
