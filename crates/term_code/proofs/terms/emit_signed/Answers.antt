use Rattle.std.specs.Prelude.{◌≡◌, true, false}
use Rattle.std.proofs.Common.{sym, subst, arith}
use Rattle.term_code.specs.Options.{LeavesOption}
use Rattle.loop_code.specs.Loops.{term_value}
use Rattle.term_code.proofs.TermLaws.{plain_leaves, signed_leaves}
use Rattle.term_code.proofs.terms.emit_signed.Goals as goal

pub returns-then-not-term : goal.returns-then-not-term
returns-then-not-term g c = λ these each.
    let t = c.args.term.now in
    let plain : t.negated ≡ false = grind (arith, c.if-not-term.true) in
    plain_leaves g.S.Semiring.arithmetic c.args.places.now these c.args.free t c.in_ok-value.value (c.in_ok-value.ensures these each) plain

pub returns : goal.returns
returns g c = λ these each.
    let a = g.S.Semiring.arithmetic in
    let t = c.args.term.now in
    let minus : t.negated ≡ true = grind (arith, c.if-not-term.false) in
    subst (LeavesOption a c.args.places.now these (λ stored env. term_value a stored env t) c.args.free) (sym c.in_ok-code.ensures)
    (signed_leaves a c.args.places.now these c.args.free t c.in_ok-value.value (c.in_ok-value.ensures these each) minus)
