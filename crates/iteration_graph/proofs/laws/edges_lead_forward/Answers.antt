use Rattle.iteration_graph.proofs.OrderLaws.{each_below, each_once, each_forward, one_order}
use Rattle.iteration_graph.proofs.laws.edges_lead_forward.Goals as goal

pub returns-clause-below : goal.returns-clause-below
returns-clause-below c = each_below

pub returns-clause-once : goal.returns-clause-once
returns-clause-once c = each_once

pub returns-clause-forward : goal.returns-clause-forward
returns-clause-forward c = each_forward

pub returns-clause-one : goal.returns-clause-one
returns-clause-one c = one_order
