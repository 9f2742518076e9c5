use Rattle.std.proofs.Common.{◌∙◌, sym, ap, subst}
use Rattle.result_assembly.specs.Drained.{IsCounted}
use Rattle.level_core.proofs.KindLaws.{inserted_else}
use Rattle.result_assembly.proofs.levels.drain_level.Goals as goal

pub drain_counted-requires-clause-counted : goal.drain_counted-requires-clause-counted
drain_counted-requires-clause-counted c =
    subst IsCounted (sym c.in_ok-level.ensures) (record {
      inserted = inserted_else c.args.letter (sym (ap (λ k. k.append) c.caps_of.ensures) ∙ c.if-caps_of.false);
      stored = sym (ap (λ k. k.full) c.props_of.ensures) ∙ c.if-props_of.false;
    })
