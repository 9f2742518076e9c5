use Rattle.std.proofs.Common.{◌∙◌, sym, ap, subst}
use Rattle.concrete_notation.specs.Nesting.{IsPut}
use Rattle.concrete_notation.specs.declared.concrete.Concrete.{Forall}
use Rattle.concrete_notation.proofs.Trees.{put_first, put_second, put_inside, whole_is}
use Rattle.concrete_notation.proofs.nesting.+put_term.Goals as goal

pub returns-in_ok-all-in-Both : goal.returns-in_ok-all-in-Both
returns-in_ok-all-in-Both t c =
    put_first c.args.loops.now c.args.term c.into_inner-first.result c.into_inner-second.result c.in_ok-first-in-Both.first c.args.tree
    c.in_ok-all-in-Both.all
    (whole_is c.args.tree c.in-Both.first c.in-Both.second c.into_inner-first.result c.into_inner-second.result c.in-Both.is
    c.into_inner-first.ensures c.into_inner-second.ensures)
    c.in_ok-all-in-Both.ensures (sym c.shares_loop.ensures ∙ c.if-shares_loop.true) c.in_ok-first-in-Both.ensures

pub returns-in_ok-all-in-Both-2 : goal.returns-in_ok-all-in-Both-2
returns-in_ok-all-in-Both-2 t c =
    put_second c.args.loops.now c.args.term c.into_inner-first.result c.into_inner-second.result c.in_ok-second-in-Both.second c.args.tree
    c.in_ok-all-in-Both-2.all
    (whole_is c.args.tree c.in-Both.first c.in-Both.second c.into_inner-first.result c.into_inner-second.result c.in-Both.is
    c.into_inner-first.ensures c.into_inner-second.ensures)
    c.in_ok-all-in-Both-2.ensures (sym c.shares_loop.ensures ∙ c.if-shares_loop.false) c.in_ok-second-in-Both.ensures

pub returns-in_ok-body-in-Some-2 : goal.returns-in_ok-body-in-Some-2
returns-in_ok-body-in-Some-2 t c =
    subst (λ b. IsPut c.args.loops.now c.args.term c.args.tree (Forall c.in-Forall.var b)) (sym c.in_ok-body-in-Some-2.ensures)
    (put_inside c.args.loops.now c.args.term c.in-Forall.var c.in-Some.first.now c.in-Some.inner.now c.into_inner.result
    c.in_ok-body-in-Some.body c.args.tree
    (c.in-Forall.is ∙ ap (Forall c.in-Forall.var)
    (sym c.into_inner.ensures)) c.in-Some.ensures.cases.0 c.if-first-var.true c.in_ok-body-in-Some.ensures)
