use Rattle.std.proofs.Common.{◌∙◌, sym, ap}
use Rattle.expr_terms.specs.Terms.{contains}
use Rattle.expr_terms.proofs.Made.{either_first, either_second}
use Rattle.concrete_notation.specs.Nests.{next_loops}
use Rattle.concrete_notation.proofs.Points.{contains_both}
use Rattle.concrete_notation.proofs.Trees.{next_both, whole_is}
use Rattle.concrete_notation.proofs.nesting.+has_loop.Goals as goal

pub returns-then-left : goal.returns-then-left
returns-then-left t c =
    either_first c.has_loop-left.result (contains (next_loops c.get.result.now) c.args.var)
    (contains (next_loops c.get-in-Both.result.now) c.args.var)
    c.has_loop-left.ensures c.if-left.true
    ∙ sym (contains_both (next_loops c.get.result.now) (next_loops c.get-in-Both.result.now) c.args.var)
    ∙ ap (λ vs. contains vs c.args.var) (sym (next_both c.get.result.now c.get-in-Both.result.now))
    ∙ ap (λ e. contains (next_loops e) c.args.var)
    (sym (whole_is c.args.tree.now c.in-Both.first c.in-Both.second c.get.result.now c.get-in-Both.result.now c.in-Both.is
    c.get.ensures c.get-in-Both.ensures))

pub returns-else-left : goal.returns-else-left
returns-else-left t c =
    either_second c.has_loop-left.result c.has_loop-right.result (contains (next_loops c.get.result.now) c.args.var)
    (contains (next_loops c.get-in-Both.result.now) c.args.var)
    c.has_loop-left.ensures c.if-left.false c.has_loop-right.ensures
    ∙ sym (contains_both (next_loops c.get.result.now) (next_loops c.get-in-Both.result.now) c.args.var)
    ∙ ap (λ vs. contains vs c.args.var) (sym (next_both c.get.result.now c.get-in-Both.result.now))
    ∙ ap (λ e. contains (next_loops e) c.args.var)
    (sym (whole_is c.args.tree.now c.in-Both.first c.in-Both.second c.get.result.now c.get-in-Both.result.now c.in-Both.is
    c.get.ensures c.get-in-Both.ensures))
