use Rattle.std.specs.Prelude.{◌≢◌}
use Rattle.std.proofs.Common.{◌∙◌, sym, ap, subst, arith}
use Rattle.level_core.specs.declared.stage.Stage.TheVariants.{Unfinished, Finished}
use Rattle.level_core.specs.Logs.{Rises, slice}
use Rattle.singleton_level.specs.Singleton.{IsAllowed}
use Rattle.level_checks.specs.Orders.{least_behind}
use Rattle.level_checks.proofs.Loops.{never, same_self, yes, no}
use Rattle.level_checks.proofs.SingletonWords.{got, got_none, letter_unique, none_between, slice_rises}
use Rattle.level_checks.proofs.singleton.may_ask_singleton.Goals as goal

not_both : Finished ≢ Unfinished
not_both e = cc

pub loop-at-init : goal.loop-at-init
loop-at-init c = same_self

pub returns-in_default : goal.returns-in_default
returns-in_default c =
    let past = got_none c.args.level.now.coords c.loop-at.at (sym c.array_word.ensures ∙ c.in_default.is) in
    let given = c.requires.parents.keeps.given c.requires.parents.finished in
    let within = c.requires.within in
    let less = c.loop-at-test.true in
    absurd (omega (arith, past, given, within, less))

pub returns-then-not-may_follow : goal.returns-then-not-may_follow
returns-then-not-may_follow c =
    let l = c.loop-at in
    let coords = c.args.level.now.coords in
    let u = c.props-unique.result.unique in
    let here = got coords l.at c.in-Some.x (sym c.array_word.ensures ∙ c.in-Some.is) in
    let next = slice_rises u (least_behind u l.last) coords l.at c.args.span.hi c.in-Some.x c.loop-at-test.true here.0 here.1 in
    no (λ (a : IsAllowed c.args.level.now c.args.span).
    let all = subst (λ b. Rises b 0 (slice coords c.args.span)) (sym (ap (λ p. p.unique) c.props-unique.ensures
    ∙ letter_unique c.args.level.now.unique)) a.rise in
    never (sym c.if-not-may_follow.true ∙ c.may_follow.ensures.1 (next.0 (l.invariant.1 all)).0))

pub loop-at-preserved : goal.loop-at-preserved
loop-at-preserved c =
    let l = c.loop-at in
    let coords = c.args.level.now.coords in
    let u = c.props-unique.result.unique in
    let here = got coords l.at c.in-Some.x (sym c.array_word.ensures ∙ c.in-Some.is) in
    let next = slice_rises u (least_behind u l.last) coords l.at c.args.span.hi c.in-Some.x c.loop-at-test.true here.0 here.1 in (
      λ rest. l.invariant.0 (next.1 (c.may_follow.ensures.0 c.if-not-may_follow.false, rest)),
      λ all. (next.0 (l.invariant.1 all)).1,
    )

pub returns : goal.returns
returns c =
    let l = c.loop-at in
    let coords = c.args.level.now.coords in
    let u = c.props-unique.result.unique in
    let given = c.requires.parents.keeps.given c.requires.parents.finished in
    let within = c.requires.within in
    let rises = l.invariant.0 (none_between u (least_behind u l.last) coords l.at c.args.span.hi c.loop-at-test.false) in
    yes (record {
      keeps = c.requires.parents.keeps;
      readable = λ e. not_both (sym c.requires.parents.finished ∙ e);
      within = record { order = c.requires.order; inside = omega (arith, given, within) };
      rise = subst (λ b. Rises b 0 (slice coords c.args.span)) (ap (λ p. p.unique) c.props-unique.ensures
          ∙ letter_unique c.args.level.now.unique) rises;
    })
