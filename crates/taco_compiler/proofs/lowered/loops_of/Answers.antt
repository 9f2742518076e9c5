use Rattle.std.specs.Prelude.{length}
use Rattle.iteration_graph.specs.Edges.{statement_edges}
use Rattle.concrete_notation.proofs.Orders.{is_order_of}
use Rattle.kernel_correctness.proofs.FlatStores.{flat_sums}
use Rattle.taco_compiler.proofs.NoLevels.{no_levels_dense}
use Rattle.taco_compiler.proofs.lowered.loops_of.Goals as goal

pub concretize-requires-clause-order : goal.concretize-requires-clause-order
concretize-requires-clause-order c =
    is_order_of (length c.args.statement.now.vars) (statement_edges c.args.statement.now c.args.formats.now) c.args.order.now
    c.requires.is_order

pub lower-requires-clause-formed : goal.lower-requires-clause-formed
lower-requires-clause-formed c = c.requires.formed.1

pub lower-requires-clause-sums : goal.lower-requires-clause-sums
lower-requires-clause-sums c = flat_sums c.args.statement.now c.args.formats.now c.requires.flat

pub lower-requires-clause-order : goal.lower-requires-clause-order
lower-requires-clause-order c = record {
  order = c.args.order.now;
  is_order = c.requires.is_order;
  terms = c.in_ok-concrete.ensures.terms;
  inner = c.requires.inner;
}

pub returns : goal.returns
returns c = record {
  concrete = c.in_ok-concrete.concrete;
  suits = c.requires.right;
  formed = c.requires.formed.1;
  is_order = c.requires.is_order;
  inner = c.requires.inner;
  terms = c.in_ok-concrete.ensures.terms;
  shares = c.in_ok-concrete.ensures.shared;
  none = c.in_ok-concrete.ensures.workspaces.none
      (no_levels_dense c.all_dense.result c.args.statement.now.left.tensor c.requires.named.result c.all_dense.ensures.letters);
  rows = c.in_ok-loops.ensures.rows;
  shape = c.in_ok-loops.ensures.shape;
  placed = c.in_ok-loops.ensures.placed;
  found = c.in_ok-loops.ensures.found;
  starts = c.in_ok-loops.ensures.starts;
  in_place = c.in_ok-loops.ensures.in_place;
  needed = c.in_ok-loops.ensures.needed;
  words = c.in_ok-loops.ensures.words;
}
