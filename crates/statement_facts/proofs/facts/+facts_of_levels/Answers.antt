use Rattle.statement_facts.proofs.Held.{levels_true}
use Rattle.statement_facts.proofs.facts.+facts_of_levels.Goals as goal

pub returns : goal.returns
returns t c =
    levels_true c.args.statement.now c.args.tensor c.args.number c.in-Some.first.now c.in-Some.others.now c.args.levels.now
    c.fact_of-fact.result
    c.in_ok-facts.facts c.in_ok-rest.rest c.append.new.self c.in-Some.ensures.cases.0 c.fact_of-fact.ensures c.in_ok-facts.ensures
    c.in_ok-rest.ensures c.in_ok-append.ensures.ok
