use Rattle.std.proofs.Common.{subst}
use Rattle.notation_reader.specs.Accesses.{Mentions}
use Rattle.notation_reader.specs.Building.{Builds}
use Rattle.notation_reader.proofs.ReadingSteps.{taken_by}
use Rattle.notation_reader.proofs.reader.Reader.take.Goals as goal

pub returns-in-Some-clause-taken : goal.returns-in-Some-clause-taken
returns-in-Some-clause-taken c = λ s h. (rw c.in-Some.is at c.in_ok-fault.ensures.judged) s h.position h.counted

pub returns-clause-taken : goal.returns-clause-taken
returns-clause-taken c = λ s h.
    taken_by s c.args.symbol.now c.args.self
    (record {
      position = c.judge.new.position;
      counts = c.judge.new.counts;
      accesses = c.mention.new.accesses;
      builder =
          c.in_ok-builder.builder;
    }) h
    ((rw c.in_default.is at c.in_ok-fault.ensures.judged) s h.position h.counted)
    (subst (λ l. Mentions c.args.symbol.now l c.args.self.accesses c.mention.new.accesses) c.lead_at-lead.ensures c.in_ok-mention.ensures)
    (subst (λ l. Builds c.args.self.builder c.args.self.position.stand c.args.symbol.now l c.in_ok-builder.builder) c.lead_at-lead.ensures
    c.in_ok-builder.ensures.builds)
