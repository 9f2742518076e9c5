-- What the code of a workspace of one key does, as that of any that is drained.
use Rattle.std.specs.Prelude.{◌≡◌, ℕ, List, [], ◌∷◌}
use Rattle.std.proofs.Common.{sym, subst}
use Rattle.kernel_code.specs.declared.syntax.KExpr.{KExpr}
use Rattle.kernel_code.specs.declared.syntax.KStmt.{KStmt, SortSum}
use Rattle.kernel_code.specs.Does.{Never}
use Rattle.kernel_code.proofs.Does.{does_weaker}
use Rattle.concrete_notation.specs.Contributions.{sums_of}
use Rattle.concrete_notation.proofs.SumsOf.{are_sums}
use Rattle.result_targets.specs.Sinks.{VarsAre}
use Rattle.drained_workspaces.specs.Draining as drained
use Rattle.drained_workspaces.proofs.Sums.{one_row_of_words}
use Rattle.touched_workspaces.specs.Drained.{touched_draining}
use Rattle.touched_workspaces.specs.Drains.{IsDraining, TakesRow, TellsWaiting, EmptiesTouched}
use Rattle.touched_workspaces.specs.Sinks.{TouchedSink, HoldsTouched, touched_sink}
use Rattle.touched_workspaces.proofs.SortLaws.{one_is, below_long, rows_words, sorting_touched}

pub sorts_as : (k : TouchedSink) → drained.Sorts touched_sink touched_draining k (SortSum k.list ∷ [])
sorts_as k c laws suits ranges rows sums are words s holds top =
    let size = holds.size in
    does_weaker c (SortSum k.list ∷ []) s _ _ Never Never
    (sorting_touched k c laws suits size rows s (subst (λ ns. HoldsTouched k c.arithmetic ns rows s) holds.ranges_are holds) top)
    (λ t h.
    let is : sums_of c.arithmetic rows ≡ sums = one_row_of_words c.arithmetic laws rows (sums_of c.arithmetic rows) sums
    (rows_words size (sums_of c.arithmetic rows) h.1.each) words (are_sums c.arithmetic laws rows) are in (
      h.0,
      record {
        size = size;
        ranges_are = holds.ranges_are;
        draining = subst (λ es. IsDraining k c.arithmetic size [] es t) is h.1;
      },
    )) (λ t b count none. none)

pub tells_as : (k : TouchedSink) (at : ℕ) (test : KExpr) → TellsWaiting k at test → drained.TellsWaiting touched_draining k at test
tells_as k at test h = record {
  none = λ a ranges taken s d place. h.none a d.size taken s d.draining place;
  some = λ a ranges taken row waiting s d place. h.some a d.size taken row waiting s d.draining place;
}

pub takes_as : (k : TouchedSink) (at free : ℕ) (code : List KStmt) → TakesRow k at free code
    → drained.TakesRow touched_sink touched_draining k at free code
takes_as k at free code h c laws ranges taken row waiting s d place =
    does_weaker c code s _ _ Never Never (h c laws d.size taken row waiting s d.draining place)
    (λ t g. record {
      coordinates = subst (λ cs. VarsAre (free ∷ []) cs t)
          (sym (one_is row.coords (below_long d.size row.coords d.draining.each.0.below))) (g.coordinate, tt);
      value_is = g.value_is;
      draining = record { size = d.size; ranges_are = d.ranges_are; draining = g.draining };
      leaves = g.leaves;
    }) (λ t b count none. none)

pub empties_as : (k : TouchedSink) (code : List KStmt) → EmptiesTouched k code → drained.Empties touched_sink touched_draining k code
empties_as k code h c ranges taken s d top =
    does_weaker c code s _ _ Never Never (h c d.size taken s d.draining top)
    (λ t g. (g.0, subst (λ ns. HoldsTouched k c.arithmetic ns [] t) (sym d.ranges_are) g.1)) (λ t b count none. none)
