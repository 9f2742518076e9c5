use Rattle.std.specs.Prelude.{Decides, refl}
use Rattle.std.proofs.Common.{sym, subst, arith}
use Rattle.std.proofs.lemmas.Bool.Decides.{nat_tests}
use Rattle.tensor_storage.specs.Laws.{laws}
use Rattle.tensor_storage.specs.Levels.{meaning}
use Rattle.level_checks.proofs.EachKind.{one_asked, others_branch}
use Rattle.level_checks.proofs.words.may_ask.Goals as goal

pub may_ask_singleton-requires-clause-parents : goal.may_ask_singleton-requires-clause-parents
may_ask_singleton-requires-clause-parents c =
    let has = subst (λ l. meaning.has_parents l c.args.parents) c.in-Singleton.is c.requires.parents in
    record { keeps = has.keeps; finished = has.finished; count = refl }

pub may_ask_singleton-requires-clause-within : goal.may_ask_singleton-requires-clause-within
may_ask_singleton-requires-clause-within c =
    let has = subst (λ l. meaning.has_parents l c.args.parents) c.in-Singleton.is c.requires.parents in
    let count = has.count in
    let within = c.requires.within in
    omega (arith, count, within)

pub returns-in-Singleton : goal.returns-in-Singleton
returns-in-Singleton c =
    subst (λ l. Decides c.may_ask_singleton.result (meaning.allowed l c.args.span)) (sym c.in-Singleton.is) c.may_ask_singleton.ensures

pub returns-in_default : goal.returns-in_default
returns-in_default c =
    let l = c.args.level.now in
    let s = c.args.span in (
      λ e. one_asked l c.args.parents s c.requires.parents (grind (arith, nat_tests, e)) c.requires.within,
      λ a. let single = laws.one_parent l s a (others_branch l c.in_default.not-Singleton) in grind (arith, nat_tests, single),
    )
