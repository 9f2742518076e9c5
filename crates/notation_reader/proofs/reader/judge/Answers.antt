use Rattle.std.proofs.Common.{true, false, Some, None, subst}
use Rattle.notation_reader.proofs.JudgingLaws.{counted_refused, moved}
use Rattle.notation_reader.proofs.ReadingSteps.{counted_small}
use Rattle.notation_reader.specs.Leads.{lead_of}
use Rattle.notation_reader.specs.Moves.{Moves}
use Rattle.notation_reader.specs.Counting.{CountsSymbol}
use Rattle.notation_reader.proofs.reader.judge.Goals as goal

pub returns-in-Some-clause-judged : goal.returns-in-Some-clause-judged
returns-in-Some-clause-judged c = λ s e h.
    counted_refused s c.args.position.now c.args.symbol.now c.args.counts.now c.count.new.self c.in-Some.fault e h
    (subst (λ l. CountsSymbol c.args.counts.now c.args.position.now.levels c.args.symbol.now l (Some c.in-Some.fault) c.count.new.self)
    c.lead_at-lead.ensures (rw c.in-Some.is at c.in_ok-fault.ensures))

pub returns-then-branch-clause-judged : goal.returns-then-branch-clause-judged
returns-then-branch-clause-judged c = λ s e h.
    moved s c.args.position.now c.args.symbol.now c.args.counts.now c.count.new.self c.move_on.new.self true e h
    (subst (λ l. CountsSymbol c.args.counts.now c.args.position.now.levels c.args.symbol.now l None c.count.new.self)
    c.lead_at-lead.ensures (rw c.in_default.is at c.in_ok-fault.ensures))
    (subst (λ l. Moves c.args.position.now l true c.move_on.new.self) c.lead_at-lead.ensures
    (rw c.if-branch.true at c.in_ok-move_on.ensures.moves))

pub returns-else-branch-clause-judged : goal.returns-else-branch-clause-judged
returns-else-branch-clause-judged c = λ s e h.
    moved s c.args.position.now c.args.symbol.now c.args.counts.now c.count.new.self c.move_on.new.self false e h
    (subst (λ l. CountsSymbol c.args.counts.now c.args.position.now.levels c.args.symbol.now l None c.count.new.self)
    c.lead_at-lead.ensures (rw c.in_default.is at c.in_ok-fault.ensures))
    (subst (λ l. Moves c.args.position.now l false c.move_on.new.self) c.lead_at-lead.ensures
    (rw c.if-branch.false at c.in_ok-move_on.ensures.moves))

pub returns-then-branch-clause-number : goal.returns-then-branch-clause-number
returns-then-branch-clause-number c = λ none is.
    counted_small c.args.counts.now c.count.new.self c.args.position.now.levels c.args.symbol.now
    (lead_of c.args.position.now.stand c.args.symbol.now)
    (subst (λ l. CountsSymbol c.args.counts.now c.args.position.now.levels c.args.symbol.now l None c.count.new.self)
    c.lead_at-lead.ensures (rw c.in_default.is at c.in_ok-fault.ensures)) is
