use Rattle.iteration_graph.proofs.OrderLaws.{cycle_edges, cycle_closes, no_order}
use Rattle.iteration_graph.proofs.OneCycle.{one_cycle}
use Rattle.iteration_graph.proofs.laws.edges_lead_round_a_cycle.Goals as goal

pub returns-clause-next : goal.returns-clause-next
returns-clause-next c = cycle_edges

pub returns-clause-closes : goal.returns-clause-closes
returns-clause-closes c = cycle_closes

pub returns-clause-no_order : goal.returns-clause-no_order
returns-clause-no_order c = no_order

pub returns-clause-one : goal.returns-clause-one
returns-clause-one c = one_cycle
