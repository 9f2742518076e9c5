use Rattle.std.proofs.Common.{sym, subst}
use Rattle.level_core.specs.declared.stage.Stage.TheVariants.{Finished}
use Rattle.level_core.specs.Logs.{MayFinish}
use Rattle.level_core.specs.Meaning.{Finishes}
use Rattle.singleton_level.specs.Singleton.{stored, log_of, meaning}
use Rattle.singleton_level.specs.Laws.{finished_keeps, finished_level}
use Rattle.singleton_level.proofs.appending.SingletonLevelAppend.finish.Goals as goal

pub invariant_of-self : goal.invariant_of-self
invariant_of-self c = (
  finished_keeps (stored c.self.inside.size c.self.inside.unique c.self.inside.stage c.self.inside.parents c.self.inside.coords.items
      c.self.inside.coords.spare) c.args._parents c.self.invariant.0
      (subst (λ l. MayFinish c.args._parents (log_of l)) (sym c.self.view_is) c.requires),
  c.self.invariant.1,
)

pub returns : goal.returns
returns c = subst (λ l. Finishes meaning c.args._parents l
    (record (stored c.self.inside.size c.self.inside.unique c.self.inside.stage c.self.inside.parents c.self.inside.coords.items
    c.self.inside.coords.spare) { stage = Finished })) c.self.view_is
    (finished_level (stored c.self.inside.size c.self.inside.unique c.self.inside.stage c.self.inside.parents c.self.inside.coords.items
    c.self.inside.coords.spare) c.args._parents c.self.invariant.0
    (subst (λ l. MayFinish c.args._parents (log_of l)) (sym c.self.view_is) c.requires))
